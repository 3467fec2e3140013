-- The words and the signs of canonical text.
use Rattle.std.proofs.Common.{◌≡◌, ◌<◌, ◌≤◌, ℕ, Bool, true, false, List, [], ◌∷◌, ◌++◌, length, Ok, ◌==◌, nat_le, codes, refl, ◌∙◌, arith}
use Rattle.std.specs.Option.{is_some}
use Rattle.std.specs.Char.{is_ascii_digit}
use Rattle.std.proofs.lemmas.Bool.{and_right, and_left, ne_eqb, le-leb, leb-true, eqb-true}
use Rattle.std.proofs.lemmas.Bool.Decides.{nat_tests}
use Rattle.pm_lexer.specs.declared.token.TokenKind.TheVariants as kind
use Rattle.pm_lexer.specs.declared.head.Head.TheVariants as head
use Rattle.pm_lexer.specs.declared.symbol.Symbol.{Symbol}
use Rattle.pm_lexer.specs.declared.symbol.Symbol.TheVariants as symbol
use Rattle.pm_lexer.specs.Symbol.{spelling, reserved_word, canonical_sign, sign_of}
use Rattle.pm_lexer.specs.Head.{sign_at, head_of}
use Rattle.pm_canonical.proofs.Shapes.{word, sign}
use Rattle.pm_canonical.proofs.Runs.{Follows}
use Rattle.pm_canonical.proofs.Spelling.{Spells, any, ends, stops, spells_gap, spells_piece, spells_weaker, spells_at, spells_after}
use Rattle.pm_canonical.proofs.Heads.{is_wordy, word_opens}

-- a reserved word, and a name
pub reserved_spells : (s : Symbol) → is_wordy (spelling s) ≡ true → is_some (reserved_word (spelling s)) ≡ true → nat_le (length (spelling s)) 64 ≡ true → 0 < length (spelling s) → Spells stops (spelling s) (word s ∷ [])
reserved_spells s wordy reserved short some =
    spells_piece kind.Reserved (spelling s) some (λ rest after. rw reserved at (word_opens (spelling s) wordy (leb-true (length (spelling s)) 64 short) rest after))

pub name_spells : (w : List ℕ) → is_wordy w ≡ true → is_some (reserved_word w) ≡ false → length w ≤ 64 → 0 < length w → Spells stops w (record { kind = kind.Name; slice = w } ∷ [])
name_spells w wordy free short some =
    spells_piece kind.Name w some (λ rest after. rw free at (word_opens w wordy short rest after))

-- a word before, between and after blanks
pub word_before : (s : Symbol) → Spells stops (spelling s) (word s ∷ []) → Spells any (spelling s ++ 32 ∷ []) (word s ∷ [])
word_before s w = spells_at w spells_gap refl

pub word_after : (s : Symbol) → Spells stops (spelling s) (word s ∷ []) → Spells stops (32 ∷ spelling s) (word s ∷ [])
word_after s w = spells_after spells_gap w

pub word_between : (s : Symbol) → Spells stops (spelling s) (word s ∷ []) → Spells any (32 ∷ (spelling s ++ 32 ∷ [])) (word s ∷ [])
word_between s w = spells_after spells_gap (word_before s w)

pub ends_stops : (b : ℕ) → ends b ≡ true → stops b ≡ true
ends_stops b e = rw e refl

pub spells_select : Spells any (codes "SELECT ") (word symbol.Select ∷ [])
unfolding reserved_word
spells_select = word_before symbol.Select (reserved_spells symbol.Select refl refl refl (omega arith))

pub spells_distinct : Spells any (codes "DISTINCT ") (word symbol.Distinct ∷ [])
unfolding reserved_word
spells_distinct = word_before symbol.Distinct (reserved_spells symbol.Distinct refl refl refl (omega arith))

pub spells_from : Spells any (codes " FROM ") (word symbol.From ∷ [])
unfolding reserved_word
spells_from = word_between symbol.From (reserved_spells symbol.From refl refl refl (omega arith))

pub spells_join : Spells any (codes " JOIN ") (word symbol.Join ∷ [])
unfolding reserved_word
spells_join = word_between symbol.Join (reserved_spells symbol.Join refl refl refl (omega arith))

spells_plain_join : Spells any (codes "JOIN ") (word symbol.Join ∷ [])
unfolding reserved_word
spells_plain_join = word_before symbol.Join (reserved_spells symbol.Join refl refl refl (omega arith))

pub spells_left_join : Spells any (codes " LEFT JOIN ") (word symbol.Left ∷ (word symbol.Join ∷ []))
unfolding reserved_word
spells_left_join = spells_after (word_between symbol.Left (reserved_spells symbol.Left refl refl refl (omega arith))) spells_plain_join

pub spells_on : Spells any (codes " ON ") (word symbol.On ∷ [])
unfolding reserved_word
spells_on = word_between symbol.On (reserved_spells symbol.On refl refl refl (omega arith))

pub spells_where : Spells any (codes " WHERE ") (word symbol.Where ∷ [])
unfolding reserved_word
spells_where = word_between symbol.Where (reserved_spells symbol.Where refl refl refl (omega arith))

pub spells_having : Spells any (codes " HAVING ") (word symbol.Having ∷ [])
unfolding reserved_word
spells_having = word_between symbol.Having (reserved_spells symbol.Having refl refl refl (omega arith))

spells_by : Spells any (codes "BY ") (word symbol.By ∷ [])
unfolding reserved_word
spells_by = word_before symbol.By (reserved_spells symbol.By refl refl refl (omega arith))

pub spells_group : Spells any (codes " GROUP BY ") (word symbol.Group ∷ (word symbol.By ∷ []))
unfolding reserved_word
spells_group = spells_after (word_between symbol.Group (reserved_spells symbol.Group refl refl refl (omega arith))) spells_by

pub spells_order : Spells any (codes " ORDER BY ") (word symbol.Order ∷ (word symbol.By ∷ []))
unfolding reserved_word
spells_order = spells_after (word_between symbol.Order (reserved_spells symbol.Order refl refl refl (omega arith))) spells_by

pub spells_desc : Spells ends (codes " DESC") (word symbol.Desc ∷ [])
unfolding reserved_word
spells_desc = spells_weaker ends_stops (word_after symbol.Desc (reserved_spells symbol.Desc refl refl refl (omega arith)))

pub spells_and : Spells any (codes " AND ") (word symbol.And ∷ [])
unfolding reserved_word
spells_and = word_between symbol.And (reserved_spells symbol.And refl refl refl (omega arith))

pub spells_or : Spells any (codes " OR ") (word symbol.Or ∷ [])
unfolding reserved_word
spells_or = word_between symbol.Or (reserved_spells symbol.Or refl refl refl (omega arith))

pub spells_not : Spells any (codes "NOT ") (word symbol.Not ∷ [])
unfolding reserved_word
spells_not = word_before symbol.Not (reserved_spells symbol.Not refl refl refl (omega arith))

pub spells_is : Spells any (codes " IS ") (word symbol.Is ∷ [])
unfolding reserved_word
spells_is = word_between symbol.Is (reserved_spells symbol.Is refl refl refl (omega arith))

pub spells_null : Spells ends (codes "NULL") (word symbol.Null ∷ [])
unfolding reserved_word
spells_null = spells_weaker ends_stops (reserved_spells symbol.Null refl refl refl (omega arith))

pub spells_between : Spells any (codes "BETWEEN ") (word symbol.Between ∷ [])
unfolding reserved_word
spells_between = word_before symbol.Between (reserved_spells symbol.Between refl refl refl (omega arith))

pub spells_as : Spells any (codes " AS ") (word symbol.As ∷ [])
unfolding reserved_word
spells_as = word_between symbol.As (reserved_spells symbol.As refl refl refl (omega arith))

-- a sign of one byte, before what makes no longer sign of it
sign_one : (at b : ℕ) (p : ℕ → Bool) (rest : List ℕ) → ((c : ℕ) → p c ≡ true → is_some (sign_of (b ∷ (c ∷ []))) ≡ false) → is_some (sign_of (b ∷ [])) ≡ true → Follows p rest → sign_at at (b ∷ rest) ≡ Ok (head.Piece kind.Sign 1)
unfolding sign_at
sign_one at b p [] longer is after = rw is refl
sign_one at b p (c ∷ rest) longer is after = rw (and_right (nat_le 2 (length (b ∷ (c ∷ rest)))) (is_some (sign_of (b ∷ (c ∷ [])))) (longer c after), is) refl

one_spells : {p : ℕ → Bool} (b : ℕ) → ((at : ℕ) (rest : List ℕ) → Follows p rest → head_of at (b ∷ rest) ≡ sign_at at (b ∷ rest)) → ((c : ℕ) → p c ≡ true → is_some (sign_of (b ∷ (c ∷ []))) ≡ false) → is_some (sign_of (b ∷ [])) ≡ true
    → Spells p (b ∷ []) (record { kind = kind.Sign; slice = b ∷ [] } ∷ [])
one_spells {p} b opens longer is = spells_piece kind.Sign (b ∷ []) (omega arith) (λ rest after at. opens at rest after ∙ sign_one at b p rest longer is after)

-- and one of two bytes
sign_two : (at b c : ℕ) (rest : List ℕ) → is_some (sign_of (b ∷ (c ∷ []))) ≡ true → sign_at at (b ∷ (c ∷ rest)) ≡ Ok (head.Piece kind.Sign 2)
unfolding sign_at
sign_two at b c rest is = rw (le-leb 2 (length (b ∷ (c ∷ rest))) (omega arith), is) refl

two_spells : (b c : ℕ) → ((at : ℕ) (rest : List ℕ) → head_of at (b ∷ (c ∷ rest)) ≡ sign_at at (b ∷ (c ∷ rest))) → is_some (sign_of (b ∷ (c ∷ []))) ≡ true → Spells any (b ∷ (c ∷ [])) (record { kind = kind.Sign; slice = b ∷ (c ∷ []) } ∷ [])
two_spells b c opens is = spells_piece kind.Sign (b ∷ (c ∷ [])) (omega arith) (λ rest after at. opens at rest ∙ sign_two at b c rest is)

pub spells_open : Spells any (codes "(") (sign symbol.Open ∷ [])
unfolding head_of canonical_sign
spells_open = one_spells 40 (λ at rest after. refl) (λ c e. refl) refl

pub spells_close : Spells any (codes ")") (sign symbol.Close ∷ [])
unfolding head_of canonical_sign
spells_close = one_spells 41 (λ at rest after. refl) (λ c e. refl) refl

pub spells_star : Spells any (codes "*") (sign symbol.Star ∷ [])
unfolding head_of canonical_sign
spells_star = one_spells 42 (λ at rest after. refl) (λ c e. refl) refl

pub spells_point : Spells any (codes ".") (sign symbol.Point ∷ [])
unfolding head_of canonical_sign
spells_point = one_spells 46 (λ at rest after. refl) (λ c e. refl) refl

spells_lone_comma : Spells any (codes ",") (sign symbol.Comma ∷ [])
unfolding head_of canonical_sign
spells_lone_comma = one_spells 44 (λ at rest after. refl) (λ c e. refl) refl

pub spells_comma : Spells any (codes ", ") (sign symbol.Comma ∷ [])
spells_comma = spells_after spells_lone_comma spells_gap

-- a minus before a digit
minus_head : (at : ℕ) (rest : List ℕ) → Follows is_ascii_digit rest → head_of at (45 ∷ rest) ≡ sign_at at (45 ∷ rest)
unfolding head_of
minus_head at [] after = refl
minus_head at (c ∷ rest) after = rw (and_left (45 == c) true (ne_eqb 45 c (λ h. grind (arith, nat_tests)))) refl

pub spells_minus : Spells is_ascii_digit (codes "-") (sign symbol.Minus ∷ [])
unfolding canonical_sign
spells_minus = one_spells 45 minus_head (λ c e. refl) refl

-- a comparison between blanks
abbrev blank : ℕ → Bool
blank b = b == 32

no_longer : (b c : ℕ) → is_some (sign_of (b ∷ (32 ∷ []))) ≡ false → blank c ≡ true → is_some (sign_of (b ∷ (c ∷ []))) ≡ false
no_longer b c e is = let same : c ≡ 32 = eqb-true c 32 is in rw same e

one_between : (b : ℕ) → Spells blank (b ∷ []) (record { kind = kind.Sign; slice = b ∷ [] } ∷ []) → Spells any (32 ∷ (b ∷ (32 ∷ []))) (record { kind = kind.Sign; slice = b ∷ [] } ∷ [])
one_between b s = spells_after spells_gap (spells_at s spells_gap refl)

two_between : (b c : ℕ) → Spells any (b ∷ (c ∷ [])) (record { kind = kind.Sign; slice = b ∷ (c ∷ []) } ∷ []) → Spells any (32 ∷ (b ∷ (c ∷ (32 ∷ [])))) (record { kind = kind.Sign; slice = b ∷ (c ∷ []) } ∷ [])
two_between b c s = spells_after spells_gap (spells_after s spells_gap)

pub spells_equal : Spells any (codes " = ") (sign symbol.Equal ∷ [])
unfolding head_of canonical_sign
spells_equal = one_between 61 (one_spells 61 (λ at rest after. refl) (λ c e. no_longer 61 c refl e) refl)

pub spells_less : Spells any (codes " < ") (sign symbol.Less ∷ [])
unfolding head_of canonical_sign
spells_less = one_between 60 (one_spells 60 (λ at rest after. refl) (λ c e. no_longer 60 c refl e) refl)

pub spells_greater : Spells any (codes " > ") (sign symbol.Greater ∷ [])
unfolding head_of canonical_sign
spells_greater = one_between 62 (one_spells 62 (λ at rest after. refl) (λ c e. no_longer 62 c refl e) refl)

pub spells_unequal : Spells any (codes " <> ") (sign symbol.Unequal ∷ [])
unfolding head_of canonical_sign
spells_unequal = two_between 60 62 (two_spells 60 62 (λ at rest. refl) refl)

pub spells_at_most : Spells any (codes " <= ") (sign symbol.AtMost ∷ [])
unfolding head_of canonical_sign
spells_at_most = two_between 60 61 (two_spells 60 61 (λ at rest. refl) refl)

pub spells_at_least : Spells any (codes " >= ") (sign symbol.AtLeast ∷ [])
unfolding head_of canonical_sign
spells_at_least = two_between 62 61 (two_spells 62 61 (λ at rest. refl) refl)
