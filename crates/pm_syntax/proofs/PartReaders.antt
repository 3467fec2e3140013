-- The readers of parts and conditions read their productions.
use Rattle.std.proofs.Common.{◌≡◌, ◌⊎◌, ℕ, zero, suc, Bool, true, false, List, [], ◌∷◌, Ok, Err, refl, sym, ◌∙◌, inl, inr, if◌then◌else◌, ◌||◌}
use Rattle.pm_lexer.specs.declared.token.Token.{Token}
use Rattle.pm_lexer.specs.declared.symbol.Symbol.{Symbol}
use Rattle.pm_lexer.specs.declared.symbol.Symbol.TheVariants as symbol
use Rattle.pm_lexer.specs.Symbol.{same_symbol, is}
use Rattle.pm_grammar.specs.Language.{Gate, Is, IsMore, IsFurther, IsList}
use Rattle.pm_grammar.specs.Reading.{Stop, expected, too_deep, Read, ◌>>=◌, place_of, sees, token_at}
use Rattle.pm_grammar.proofs.Phrases.{Phrase, Next, Avoids, Reader, Law, NotOther, Able, Began, Fault, GoesOn, deeper}
use Rattle.pm_grammar.proofs.Readers.{Then, Or, Same, Under, pure_reader, then_reader, then_began, same_reader, same_began, same_law, first_law, map_reader, first_began, second_began, under_reader, under_began, first_fault, not_seen}
use Rattle.pm_grammar.proofs.Lists.{Peek}
use Rattle.pm_grammar.proofs.Firsts.{BeginsWith, bars}
use Rattle.pm_grammar.proofs.Furthers.{after_reader, list_reader}
use Rattle.pm_syntax.specs.declared.tree.Test.{Test}
use Rattle.pm_syntax.specs.declared.tree.Test.TheVariants as test
use Rattle.pm_syntax.specs.Terminals.{begins_test, opens}
use Rattle.pm_syntax.specs.Grammar.{all_of, any_of, IsPartAnd, IsCond, IsPart}
use Rattle.pm_syntax.specs.Reading.{test_at, ands_at, cond_at, part_peek, part_at, condition_at}
use Rattle.pm_grammar.proofs.Symbols.{sample, sample_is, symbol_reader}
use Rattle.pm_grammar.proofs.Sets.{AnyOf, widened, apart, within}
use Rattle.pm_syntax.proofs.Parts.{no_not, no_open}
use Rattle.pm_grammar.proofs.Helpers.{token_began, then_peek}
use Rattle.pm_syntax.proofs.ExprReaders.{expr_ends, operand_firsts, first_test, test_first}
use Rattle.pm_grammar.proofs.Productions.{Production}
use Rattle.pm_syntax.proofs.TestReaders.{Tests, tests, test_begins, test_began}

-- what may not follow an operand, and what begins one
abbrev OperandEnds : Token → Type 0
OperandEnds = AnyOf expr_ends

abbrev OperandFirst : Token → Type 0
OperandFirst = AnyOf operand_firsts

abbrev pub Part : Bool → Phrase Test
Part grouped d g = IsPart grouped d g

abbrev NotPart : Bool → Phrase Test
NotPart grouped d g next = IsPart grouped d g (λ part. next (test.Not part))

abbrev pub Conds : Bool → Phrase Test
Conds grouped d g = IsCond g (IsPart grouped d g)

abbrev Inner : Bool → Phrase Test
Inner grouped d g next = IsCond g (IsPart grouped d g) (λ cond. Is (is symbol.Close) (λ _. next cond))

abbrev ParenOr : Bool → Phrase Test
ParenOr grouped = Or (Tests grouped) (Then (λ _ _. Is (is symbol.Open)) (λ _. Under (Inner grouped)))

abbrev PartOr : Bool → Phrase Test
PartOr grouped = Or (ParenOr grouped) (Then (λ _ _. Is (is symbol.Not)) (λ _. Under (NotPart grouped)))

part_to : (grouped : Bool) (d : ℕ) (g : Gate) (next : Next Test) (ts : List Token) → PartOr grouped d g next ts → IsPart grouped d g next ts
unfolding IsPart
part_to grouped zero g next [] h = elim h [ inl o ↦ elim o [ inl t ↦ t | inr p ↦ absurd p ] | inr n ↦ absurd n ]
part_to grouped zero g next (t ∷ ts) h = elim h [ inl o ↦ elim o [ inl t ↦ t | inr p ↦ absurd p.1 ] | inr n ↦ absurd n.1 ]
part_to grouped (suc d) g next ts h = elim h [ inl o ↦ elim o [ inl t ↦ inr (inr t) | inr p ↦ inr (inl p) ] | inr n ↦ inl n ]

part_from : (grouped : Bool) (d : ℕ) (g : Gate) (next : Next Test) (ts : List Token) → IsPart grouped d g next ts → PartOr grouped d g next ts
unfolding IsPart
part_from grouped zero g next ts h = inl (inl h)
part_from grouped (suc d) g next ts h = elim h [ inl n ↦ inr n | inr o ↦ elim o [ inl p ↦ inl (inr p) | inr t ↦ inl (inl t) ] ]

part_same : (grouped : Bool) → Same (PartOr grouped) (Part grouped)
part_same grouped = record { to = part_to grouped; from = part_from grouped }

tests_in_part : (grouped : Bool) {d : ℕ} {front tail : List Token} → Began (Tests grouped) d front tail → Began (Part grouped) d front tail
tests_in_part grouped b =
    same_began (PartOr grouped) (Part grouped) (part_same grouped)
    (first_began (ParenOr grouped) (Then (λ _ _. Is (is symbol.Not)) (λ _. Under (NotPart grouped))) (first_began (Tests grouped) (Then (λ _ _. Is (is symbol.Open)) (λ _. Under (Inner grouped))) b))

part_able : (grouped : Bool) (d : ℕ) → Able (Part grouped) d
part_able grouped d = tests_in_part grouped (tests grouped d).reads.able

conds_able : (grouped : Bool) (d : ℕ) → Able (Conds grouped) d
unfolding IsMore
conds_able grouped d = let p = part_able grouped d in record { more = p.more; value = p.value; ends = λ d' g next v le o h. p.ends d' g _ v le o (0, (0, h)) }

inner_able : (grouped : Bool) (d : ℕ) → Able (Inner grouped) d
unfolding same_symbol
inner_able grouped d = then_began {Q = λ cond _ _ next. Is (is symbol.Close) (λ _. next cond)} (λ cond. record { more = sample symbol.Close ∷ []; value = cond; ends = λ d' g next v le o h. (sample_is symbol.Close refl, h) }) (conds_able grouped d)

not_able : (grouped : Bool) (d : ℕ) → Able (NotPart grouped) d
not_able grouped d = then_began {Q = λ part _ _ next. next (test.Not part)} (λ part. record { more = []; value = test.Not part; ends = λ d' g next v le o h. h }) (part_able grouped d)

-- what begins a part
abbrev pub PartFirst : Token → Type 0
PartFirst = AnyOf (symbol.Not ∷ symbol.Open ∷ symbol.Name ∷ symbol.Minus ∷ symbol.Text ∷ symbol.Null ∷ symbol.Number ∷ [])

operand_in_part : (t : Token) → OperandFirst t → PartFirst t
operand_in_part t h = inr (inr h)

part_begins : (grouped : Bool) → BeginsWith (Part grouped) PartFirst
unfolding IsPart
part_begins grouped zero g next w h = widened OperandFirst PartFirst operand_in_part w (test_begins grouped zero g next w h)
part_begins grouped (suc d) g next [] h = elim h [ inl n ↦ n | inr o ↦ elim o [ inl p ↦ p | inr t ↦ test_begins grouped (suc d) g next [] t ] ]
part_begins grouped (suc d) g next (t ∷ ts) h = elim h [ inl n ↦ inl n.0 | inr o ↦ elim o [ inl p ↦ inr (inl p.0) | inr q ↦ operand_in_part t (test_begins grouped (suc d) g next (t ∷ ts) q) ] ]

either : (a b : Bool) → (a || b) ≡ true → (a ≡ true) ⊎ (b ≡ true)
either true b e = inl refl
either false b e = inr e

or_true : (a : Bool) → (a || true) ≡ true
or_true true = refl
or_true false = refl

-- an opening token begins a deeper part
opens_began : (grouped : Bool) (d : ℕ) (t : Token) → opens t ≡ true → Began (Part grouped) (suc d) [] (t ∷ [])
opens_began grouped d t o =
    same_began (PartOr grouped) (Part grouped) (part_same grouped) (elim (either (is symbol.Not t) (is symbol.Open t) o) [
      | inl n ↦ second_began (ParenOr grouped) (Then (λ _ _. Is (is symbol.Not)) (λ _. Under (NotPart grouped))) (token_began {Q = λ _. Under (NotPart grouped)} (is symbol.Not) t n (suc d) (under_began (NotPart grouped) (not_able grouped d)))
      | inr p ↦ first_began (ParenOr grouped) (Then (λ _ _. Is (is symbol.Not)) (λ _. Under (NotPart grouped)))
          (second_began (Tests grouped) (Then (λ _ _. Is (is symbol.Open)) (λ _. Under (Inner grouped))) (token_began {Q = λ _. Under (Inner grouped)} (is symbol.Open) t p (suc d) (under_began (Inner grouped) (inner_able grouped d))))
    ])

no_operand : (t : Token) → opens t ≡ true → OperandFirst t → ⊥
unfolding same_symbol
no_operand t o h = elim (either (is symbol.Not t) (is symbol.Open t) o) [
  | inl n ↦ apart symbol.Not (symbol.Name ∷ symbol.Minus ∷ symbol.Text ∷ symbol.Null ∷ symbol.Number ∷ []) refl t n h
  | inr p ↦ apart symbol.Open (symbol.Name ∷ symbol.Minus ∷ symbol.Text ∷ symbol.Null ∷ symbol.Number ∷ []) refl t p h
]

no_test : (S : Token → Type 0) (grouped : Bool) (ts : List Token) → sees opens ts ≡ true → NotOther S (Tests grouped) ts
no_test S grouped ts e = bars S (Tests grouped) OperandFirst opens (test_begins grouped) no_operand ts e

-- the 33rd open parenthesis or NOT
deep_fault : (S : Token → Type 0) (grouped : Bool) (ts : List Token) → sees opens ts ≡ true → Fault S (Part grouped) 0 [] ts (too_deep (place_of ts))
unfolding IsPart
deep_fault S grouped [] e = absurd (let bad : false ≡ true = e in cc)
deep_fault S grouped (t ∷ ts) e = record {
  cause = deeper;
  place = refl;
  dead = λ d' g next w where' avoids heads h. let here : IsPart grouped 0 g next w = rw where' at h in no_test S grouped (t ∷ ts) e 0 g next w avoids heads here;
  viable = part_able grouped 0;
  goes = (1, record { token = t; others = ts; is = refl; began = opens_began grouped 0 t e });
}

-- no part begins like these tokens
part_none : (S : Token → Type 0) (grouped : Bool) (ts : List Token) → sees opens ts ≡ false → sees begins_test ts ≡ false → NotOther S (Part grouped) ts
part_none S grouped [] o b d g next [] avoids heads h = part_begins grouped d g next [] h
part_none S grouped [] o b d g next (u ∷ us) avoids heads h = absurd (let bad : u ∷ us ≡ [] = heads in cc)
part_none S grouped (t ∷ ts) o b d g next [] avoids heads h = heads
part_none S grouped (t ∷ ts) o b d g next (u ∷ us) avoids heads h =
    let no_open : opens u ≡ false = rw (sym heads) at o in
    let no_begin : begins_test u ≡ false = rw (sym heads) at b in
    elim (part_begins grouped d g next (u ∷ us) h) [
      | inl n ↦ let yes' : opens u ≡ true = rw n refl in cc
      | inr r ↦ elim r [ inl p ↦ let yes' : opens u ≡ true = rw (p, or_true (is symbol.Not u)) refl in cc | inr q ↦ let yes' : begins_test u ≡ true = first_test u q in cc ]
    ]

token_err : (test : Token → Bool) (ts : List Token) (e : Stop) → token_at test ts ≡ Err e → (sees test ts ≡ false) × (expected (place_of ts) ≡ e)
token_err test [] e is = (refl, err_same is)
  where
    err_same : {a b : Stop} → (let r : Read Token = Err a in r) ≡ Err b → a ≡ b
    err_same i = cc i
token_err test (t ∷ ts) e is = elim (test t) as (λ b. (let r : Read Token = if b then Ok (t, ts) else Err (expected t.at) in r) ≡ Err e → (b ≡ false) × (expected t.at ≡ e)) [
  | true ↦ λ i. absurd (let bad : Ok (t, ts) ≡ Err e = i in cc)
  | false ↦ λ i. (refl, cc i)
] is

token_ok : (test : Token → Bool) (ts : List Token) (x : Token × List Token) → token_at test ts ≡ Ok x → (t : Token) × (others : List Token) × (ts ≡ t ∷ others) × (test t ≡ true)
token_ok test [] x is = absurd (let bad : Err (expected 0) ≡ Ok x = is in cc)
token_ok test (t ∷ ts) x is = elim (test t) as (λ b. test t ≡ b → (let r : Read Token = if b then Ok (t, ts) else Err (expected t.at) in r) ≡ Ok x → (u : Token) × (others : List Token) × (t ∷ ts ≡ u ∷ others) × (test u ≡ true)) [
  | true ↦ λ e i. (t, ts, refl, e)
  | false ↦ λ e i. absurd (let bad : Err (expected t.at) ≡ Ok x = i in cc)
] refl is

opens_ok : (ts : List Token) → sees opens ts ≡ true → (e : Stop) → token_at opens ts ≡ Err e → ⊥
opens_ok ts o e is = let f = token_err opens ts e is in let bad : true ≡ false = sym o ∙ f.0 in cc

peek_stops : (S : Token → Type 0) (grouped : Bool) (d : ℕ) (ts : List Token) (e : Stop) → part_peek d ts ≡ Err e → Fault S (Part grouped) d [] ts e
unfolding part_peek
peek_stops S grouped zero ts e is = elim (sees opens ts) as (λ b. sees opens ts ≡ b → (let r : Read Token = if b then Err (too_deep (place_of ts)) else token_at begins_test ts in r) ≡ Err e → Fault S (Part grouped) zero [] ts e) [
  | true ↦ λ o i. let same : too_deep (place_of ts) ≡ e = cc i in rw (← same) (deep_fault S grouped ts o)
  | false ↦ λ o i. let (b, same) = token_err begins_test ts e i in rw (← same) (first_fault S (Part grouped) zero ts (part_none S grouped ts o b) (part_able grouped zero))
] refl is
peek_stops S grouped (suc d) ts e is = elim (sees opens ts) as (λ b. sees opens ts ≡ b → (let r : Read Token = if b then token_at opens ts else token_at begins_test ts in r) ≡ Err e → Fault S (Part grouped) (suc d) [] ts e) [
  | true ↦ λ o i. absurd (opens_ok ts o e i)
  | false ↦ λ o i. let (b, same) = token_err begins_test ts e i in rw (← same) (first_fault S (Part grouped) (suc d) ts (part_none S grouped ts o b) (part_able grouped (suc d)))
] refl is

test_goes : (grouped : Bool) (d : ℕ) (ts : List Token) (x : Token × List Token) → token_at begins_test ts ≡ Ok x → GoesOn (Part grouped) [] ts d
test_goes grouped d ts x is =
    let (t, others, parts, e) = token_ok begins_test ts x is in
    record { token = t; others = others; is = parts; began = tests_in_part grouped (test_began grouped t (test_first t e) d) }

peek_goes : (grouped : Bool) (d : ℕ) (ts : List Token) (x : Token × List Token) → part_peek d ts ≡ Ok x → GoesOn (Part grouped) [] ts d
unfolding part_peek
peek_goes grouped zero ts x is = elim (sees opens ts) as (λ b. (let r : Read Token = if b then Err (too_deep (place_of ts)) else token_at begins_test ts in r) ≡ Ok x → GoesOn (Part grouped) [] ts zero) [
  | true ↦ λ i. absurd (let bad : Err (too_deep (place_of ts)) ≡ Ok x = i in cc)
  | false ↦ λ i. test_goes grouped zero ts x i
] is
peek_goes grouped (suc d) ts x is = elim (sees opens ts) as (λ b. (let r : Read Token = if b then token_at opens ts else token_at begins_test ts in r) ≡ Ok x → GoesOn (Part grouped) [] ts (suc d)) [
  | true ↦ λ i. let (t, others, parts, e) = token_ok opens ts x i in record { token = t; others = others; is = parts; began = opens_began grouped d t e }
  | false ↦ λ i. test_goes grouped (suc d) ts x i
] is

part_look : (S : Token → Type 0) (grouped : Bool) (d : ℕ) → Peek S (Part grouped) d (part_peek d)
part_look S grouped d = record { stops = peek_stops S grouped d; goes = peek_goes grouped d }

-- part-and = part { AND part }
abbrev pub AndEnds : Token → Type 0
AndEnds = AnyOf (symbol.Point ∷ symbol.Open ∷ symbol.And ∷ [])

abbrev pub CondEnds : Token → Type 0
CondEnds = AnyOf (symbol.Point ∷ symbol.Open ∷ symbol.And ∷ symbol.Or ∷ [])

abbrev Ands : Bool → Phrase Test
Ands grouped d g = IsPartAnd g (IsPart grouped d g)

ands_reader : (grouped : Bool) (d : ℕ) → Reader OperandEnds (Part grouped) d (part_at grouped d) → Reader AndEnds (Ands grouped) d (ands_at (part_peek d) (part_at grouped d))
unfolding ands_at same_symbol
ands_reader grouped d r =
    map_reader AndEnds (λ d g. IsList g 256 (IsPart grouped d g) (is symbol.And)) all_of d _
    (list_reader AndEnds OperandEnds (Part grouped) (is symbol.And) (sample symbol.And) (sample_is symbol.And refl) (part_peek d) 256 d (part_at grouped d) r (part_look OperandEnds grouped d)
    (λ t e. inr (inr (inl e))) (λ t s e. apart symbol.And (symbol.Point ∷ symbol.Open ∷ []) refl t e s) (λ t s. within (symbol.Point ∷ symbol.Open ∷ []) (symbol.Point ∷ symbol.Open ∷ symbol.And ∷ []) refl t s))

-- further parts of an AND list
abbrev MoreParts : Bool → Test → Phrase Test
MoreParts grouped a d g next = IsFurther g 256 (Is (is symbol.And)) (λ _. IsPart grouped d g) (a ∷ []) (λ members. next (all_of members))

more_parts_able : (grouped : Bool) (a : Test) (d : ℕ) → Able (MoreParts grouped a) d
unfolding IsMore
more_parts_able grouped a d = record { more = []; value = a; ends = λ d' g next v le o h. (0, h) }

more_parts_clear : (grouped : Bool) (a : Test) (d : ℕ) (g : Gate) (next : Next Test) → Avoids AndEnds next → (t : Token) (ts : List Token) → OperandEnds t → (n : ℕ)
    → IsMore g 256 (Is (is symbol.And)) (λ _. IsPart grouped d g) n (a ∷ []) (λ members. next (all_of members)) (t ∷ ts) → ⊥
unfolding IsMore same_symbol
more_parts_clear grouped a d g next avoids t ts s zero h = avoids a t ts (within (symbol.Point ∷ symbol.Open ∷ []) (symbol.Point ∷ symbol.Open ∷ symbol.And ∷ []) refl t s) h
more_parts_clear grouped a d g next avoids t ts s (suc n) h = apart symbol.And (symbol.Point ∷ symbol.Open ∷ []) refl t h.0 s

ands_look : (grouped : Bool) (d : ℕ) → Peek AndEnds (Ands grouped) d (part_peek d)
ands_look grouped d =
    then_peek AndEnds OperandEnds (Part grouped) (MoreParts grouped) d (part_peek d) (part_look OperandEnds grouped d) (λ a. more_parts_able grouped a d)
    (λ a d' g next avoids t ts s h. more_parts_clear grouped a d' g next avoids t ts s h.0 h.1)

-- cond = part-and { OR part-and }
conds_reader : (grouped : Bool) (d : ℕ) → Reader OperandEnds (Part grouped) d (part_at grouped d) → Reader CondEnds (Conds grouped) d (cond_at (part_peek d) (part_at grouped d))
unfolding cond_at same_symbol
conds_reader grouped d r =
    map_reader CondEnds (λ d g. IsList g 256 (IsPartAnd g (IsPart grouped d g)) (is symbol.Or)) any_of d _
    (list_reader CondEnds AndEnds (Ands grouped) (is symbol.Or) (sample symbol.Or) (sample_is symbol.Or refl) (part_peek d) 256 d (ands_at (part_peek d) (part_at grouped d)) (ands_reader grouped d r) (ands_look grouped d)
    (λ t e. inr (inr (inr (inl e)))) (λ t s e. apart symbol.Or (symbol.Point ∷ symbol.Open ∷ symbol.And ∷ []) refl t e s)
    (λ t s. within (symbol.Point ∷ symbol.Open ∷ symbol.And ∷ []) (symbol.Point ∷ symbol.Open ∷ symbol.And ∷ symbol.Or ∷ []) refl t s))

-- part = NOT part | "(" cond ")" | test
paren_or_begins : (grouped : Bool) → BeginsWith (ParenOr grouped) (AnyOf (symbol.Open ∷ symbol.Name ∷ symbol.Minus ∷ symbol.Text ∷ symbol.Null ∷ symbol.Number ∷ []))
paren_or_begins grouped d g next [] h = elim h [ inl t ↦ test_begins grouped d g next [] t | inr p ↦ p ]
paren_or_begins grouped d g next (t ∷ ts) h = elim h [ inl q ↦ inr (test_begins grouped d g next (t ∷ ts) q) | inr p ↦ inl p.0 ]

inner_reader : (grouped : Bool) (d : ℕ) → Reader OperandEnds (Part grouped) d (part_at grouped d)
    → Reader OperandEnds (Inner grouped) d (λ ts. cond_at (part_peek d) (part_at grouped d) ts >>= λ cond. token_at (is symbol.Close) cond.1 >>= λ close. Ok (cond.0, close.1))
unfolding same_symbol
inner_reader grouped d r =
    then_reader OperandEnds CondEnds (Conds grouped) (λ cond _ _ next. Is (is symbol.Close) (λ _. next cond)) d (cond_at (part_peek d) (part_at grouped d)) _ (conds_reader grouped d r)
    (λ cond. symbol_reader OperandEnds symbol.Close refl _ d _ (λ _. pure_reader OperandEnds d cond))
    (λ a d' g next avoids t ts s h. apart symbol.Close (symbol.Point ∷ symbol.Open ∷ symbol.And ∷ symbol.Or ∷ []) refl t h.0 s)

pub part_reader : (grouped : Bool) (d : ℕ) → Reader OperandEnds (Part grouped) d (part_at grouped d)
unfolding part_at same_symbol
part_reader grouped zero = record {
  law = λ ts. elim (sees opens ts) as (λ b. sees opens ts ≡ b → Law OperandEnds (Part grouped) zero ts (if b then Err (too_deep (place_of ts)) else test_at grouped ts)) [
    | true ↦ λ e. record { front = []; rest = ts; is = refl; fault = deep_fault OperandEnds grouped ts e }
    | false ↦ λ e. same_law OperandEnds (PartOr grouped) (Part grouped) zero ts (test_at grouped ts) (part_same grouped)
        (first_law OperandEnds (ParenOr grouped) (Then (λ _ _. Is (is symbol.Not)) (λ _. Under (NotPart grouped))) zero ts (test_at grouped ts) (λ d' g next w avoids heads h. not_seen (is symbol.Not) ts w _ (no_not ts e) heads h)
        (first_law OperandEnds (Tests grouped) (Then (λ _ _. Is (is symbol.Open)) (λ _. Under (Inner grouped))) zero ts (test_at grouped ts) (λ d' g next w avoids heads h. not_seen (is symbol.Open) ts w _ (no_open ts e) heads h)
        ((tests grouped zero).reads.law ts)))
  ] refl;
  able = part_able grouped zero;
}
part_reader grouped (suc d) =
    let r = part_reader grouped d in
    same_reader OperandEnds (PartOr grouped) (Part grouped) (suc d) _ (part_same grouped)
    (after_reader OperandEnds (is symbol.Not) (sample symbol.Not) (sample_is symbol.Not refl) (Under (NotPart grouped)) (ParenOr grouped) (suc d) _ _
    (under_reader OperandEnds (NotPart grouped) d _ (map_reader OperandEnds (Part grouped) (λ part. test.Not part) d (part_at grouped d) r))
    (after_reader OperandEnds (is symbol.Open) (sample symbol.Open) (sample_is symbol.Open refl) (Under (Inner grouped)) (Tests grouped) (suc d) _ (test_at grouped)
    (under_reader OperandEnds (Inner grouped) d _ (inner_reader grouped d r)) (tests grouped (suc d)).reads
    (bars OperandEnds (Tests grouped) OperandFirst (is symbol.Open) (test_begins grouped) (λ t e h. apart symbol.Open (symbol.Name ∷ symbol.Minus ∷ symbol.Text ∷ symbol.Null ∷ symbol.Number ∷ []) refl t e h)))
    (bars OperandEnds (ParenOr grouped) (AnyOf (symbol.Open ∷ symbol.Name ∷ symbol.Minus ∷ symbol.Text ∷ symbol.Null ∷ symbol.Number ∷ [])) (is symbol.Not) (paren_or_begins grouped)
    (λ t e h. apart symbol.Not (symbol.Open ∷ symbol.Name ∷ symbol.Minus ∷ symbol.Text ∷ symbol.Null ∷ symbol.Number ∷ []) refl t e h)))

abbrev pub part_firsts : List Symbol
part_firsts = symbol.Not ∷ symbol.Open ∷ operand_firsts

abbrev pub cond_ends : List Symbol
cond_ends = symbol.Point ∷ symbol.Open ∷ symbol.And ∷ symbol.Or ∷ []

-- a condition
pub conditions : (grouped : Bool) (d : ℕ) → Production false part_firsts cond_ends (Conds grouped) d (condition_at grouped d)
unfolding condition_at
conditions grouped d = record { reads = conds_reader grouped d (part_reader grouped d); leads = λ d g next w h. inl (part_begins grouped d g _ w h) }
