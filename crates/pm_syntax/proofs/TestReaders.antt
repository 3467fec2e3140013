-- The productions of tests.
use Rattle.std.proofs.Common.{◌≡◌, ◌⊎◌, ℕ, Bool, true, false, List, [], ◌∷◌, Ok, Option, refl, inl, inr, is_some, unwrap_or}
use Rattle.pm_lexer.specs.declared.token.Token.{Token}
use Rattle.pm_lexer.specs.declared.symbol.Symbol.{Symbol}
use Rattle.pm_lexer.specs.declared.symbol.Symbol.TheVariants as symbol
use Rattle.pm_lexer.specs.Symbol.{symbol_of, same_symbol, is}
use Rattle.pm_grammar.specs.Language.{Is, IsList, IsOptional}
use Rattle.pm_grammar.specs.Reading.{◌>>=◌, token_at}
use Rattle.pm_grammar.proofs.Phrases.{Phrase, Began}
use Rattle.pm_grammar.proofs.Readers.{Or, then_began}
use Rattle.pm_grammar.proofs.Firsts.{BeginsWith}
use Rattle.pm_grammar.proofs.Symbols.{is_symbol, sample, sample_is}
use Rattle.pm_grammar.proofs.Sets.{AnyOf}
use Rattle.pm_values.specs.declared.condition.Comparison.TheVariants as comparison
use Rattle.pm_syntax.specs.declared.tree.Atom.{Atom}
use Rattle.pm_syntax.specs.declared.tree.Test.{Test}
use Rattle.pm_syntax.specs.declared.tree.Test.TheVariants as test
use Rattle.pm_syntax.specs.Terminals.{comparison_of, comparison_of_symbol, compares, begins_literal}
use Rattle.pm_syntax.specs.Grammar.{IsLiteral, IsOperand, IsCompare, IsNullTest, IsIn, IsBetween, IsTest}
use Rattle.pm_syntax.specs.Reading.{literals_at, compare_after, null_after, in_after, between_after, range_after, test_after, test_at}
use Rattle.pm_grammar.proofs.Productions.{Production, begins_of, done, token, symbol_then, mapped, followed, maybe_followed, may, either, choose, after, list, peeks}
use Rattle.pm_syntax.proofs.ExprReaders.{expr_ends, literal_firsts, literals, literal_began, literal_first, first_literal, operand_firsts, operands, operand_began}

-- the signs of comparisons
abbrev signs : List Symbol
signs = symbol.Equal ∷ symbol.Unequal ∷ symbol.Less ∷ symbol.AtMost ∷ symbol.Greater ∷ symbol.AtLeast ∷ []

sign_first : (t : Token) → compares t ≡ true → AnyOf signs t
unfolding same_symbol
sign_first t c = of (symbol_of t) c
  where
    of : (s : Symbol) → is_some (comparison_of_symbol s) ≡ true
        → (same_symbol s symbol.Equal ≡ true) ⊎ ((same_symbol s symbol.Unequal ≡ true) ⊎ ((same_symbol s symbol.Less ≡ true) ⊎ ((same_symbol s symbol.AtMost ≡ true) ⊎ ((same_symbol s symbol.Greater ≡ true) ⊎ ((same_symbol s symbol.AtLeast ≡ true) ⊎ ⊥)))))
    of symbol.Equal c = inl refl
    of symbol.Unequal c = inr (inl refl)
    of symbol.Less c = inr (inr (inl refl))
    of symbol.AtMost c = inr (inr (inr (inl refl)))
    of symbol.Greater c = inr (inr (inr (inr (inl refl))))
    of symbol.AtLeast c = inr (inr (inr (inr (inr (inl refl)))))
    of s c = absurd (cc c)

first_sign : (t : Token) → AnyOf signs t → compares t ≡ true
first_sign t h = elim h [
  | inl e ↦ rw (is_symbol symbol.Equal t e) refl
  | inr a ↦ elim a [
    | inl e ↦ rw (is_symbol symbol.Unequal t e) refl
    | inr b ↦ elim b [
      | inl e ↦ rw (is_symbol symbol.Less t e) refl
      | inr c ↦ elim c [ inl e ↦ rw (is_symbol symbol.AtMost t e) refl | inr d ↦ elim d [ inl e ↦ rw (is_symbol symbol.Greater t e) refl | inr f ↦ elim f [ inl e ↦ rw (is_symbol symbol.AtLeast t e) refl | inr none ↦ absurd none ] ] ]
    ]
  ]
]

equal_compares : compares (sample symbol.Equal) ≡ true
unfolding same_symbol
equal_compares = first_sign (sample symbol.Equal) (inl (sample_is symbol.Equal refl))

-- compare operand
abbrev Compares : Bool → Atom → Phrase Test
Compares grouped of _ _ = IsCompare grouped of

comparisons : (grouped : Bool) (left : Atom) (d : ℕ) → Production false signs expr_ends (Compares grouped left) d (compare_after grouped left)
unfolding compare_after
comparisons grouped left d =
    token compares signs (sample symbol.Equal) equal_compares sign_first
    (λ sign. mapped {P = λ _ _. IsOperand grouped} (λ right. test.Compare (unwrap_or (comparison_of sign) comparison.Equal) left right sign.at) (operands grouped d))

-- [ NOT ] NULL, after IS
abbrev NullAfter : Atom → Phrase Test
NullAfter of _ _ next = IsOptional (is symbol.Not) (λ negation. Is (is symbol.Null) (λ _. next (test.IsNull of (is_some negation))))

null_tests : {ends : List Symbol} (of : Atom) (d : ℕ) → Production false (symbol.Not ∷ symbol.Null ∷ []) ends (NullAfter of) d (null_after of)
unfolding null_after same_symbol
null_tests of d =
    maybe_followed {P = λ _ _. IsOptional (is symbol.Not)} {Q = λ negation _ _ next. Is (is symbol.Null) (λ _. next (test.IsNull of (is_some negation)))} (λ negation. token_at (is symbol.Null) negation.1 >>= λ null. Ok (test.IsNull of (is_some negation.0), null.1))
    (may symbol.Not refl) (λ negation. symbol_then symbol.Null refl (λ _. done (test.IsNull of (is_some negation)))) refl refl

-- IN and BETWEEN, after an operand and its NOT
literal_lists : (d : ℕ) → Production false literal_firsts (symbol.Comma ∷ []) (λ _ g. IsList g 256 IsLiteral (is symbol.Comma)) d literals_at
unfolding literals_at same_symbol
literal_lists d = list {ends = []} {P = λ _ _. IsLiteral} symbol.Comma refl 256 (literals d) (peeks {ends = []} begins_literal literal_first first_literal (literals d) (λ t h. literal_began t h d)) refl

abbrev Ins : Atom → Option Token → Phrase Test
Ins of negation _ g = IsIn g of negation

abbrev Betweens : Bool → Atom → Option Token → Phrase Test
Betweens grouped of negation _ _ = IsBetween grouped of negation

in_tests : {ends : List Symbol} (of : Atom) (negation : Option Token) (d : ℕ) → Production false (symbol.In ∷ []) ends (Ins of negation) d (λ ts. token_at (is symbol.In) ts >>= λ word. in_after of negation word.0 word.1)
unfolding in_after same_symbol
in_tests of negation d =
    symbol_then symbol.In refl (λ word. symbol_then symbol.Open refl (λ _.
    followed {P = λ _ g. IsList g 256 IsLiteral (is symbol.Comma)} {Q = λ list _ _ next. Is (is symbol.Close) (λ _. next (test.OneOf of list (is_some negation) (unwrap_or negation word).at))} _ (literal_lists d)
    (λ list. symbol_then symbol.Close refl (λ _. done (test.OneOf of list (is_some negation) (unwrap_or negation word).at))) refl refl))

between_tests : (grouped : Bool) (of : Atom) (negation : Option Token) (d : ℕ)
    → Production false (symbol.Between ∷ []) expr_ends (Betweens grouped of negation) d (λ ts. token_at (is symbol.Between) ts >>= λ word. between_after grouped of negation word.0 word.1)
unfolding between_after same_symbol
between_tests grouped of negation d =
    symbol_then symbol.Between refl (λ word.
    followed {P = λ _ _. IsOperand grouped} {Q = λ low _ _ next. Is (is symbol.And) (λ _. IsOperand grouped (λ high. next (test.Between of low high (is_some negation) (unwrap_or negation word).at)))} _ (operands grouped d)
    (λ low. symbol_then symbol.And refl (λ _. mapped {P = λ _ _. IsOperand grouped} (λ high. test.Between of low high (is_some negation) (unwrap_or negation word).at) (operands grouped d))) refl refl)

range_tests : (grouped : Bool) (of : Atom) (negation : Option Token) (d : ℕ) → Production false (symbol.In ∷ symbol.Between ∷ []) expr_ends (Or (Ins of negation) (Betweens grouped of negation)) d (range_after grouped of negation)
unfolding range_after same_symbol
range_tests grouped of negation d = choose symbol.In (in_tests of negation d) (between_tests grouped of negation d) refl refl

-- what stands after the first operand of a test
abbrev TestAfter : Bool → Atom → Phrase Test
TestAfter grouped of d g next ts = IsCompare grouped of next ts ⊎ IsNullTest of next ts ⊎ IsOptional (is symbol.Not) (λ negation ts. IsIn g of negation next ts ⊎ IsBetween grouped of negation next ts) ts

tests_after : (grouped : Bool) (of : Atom) (d : ℕ)
    → Production false (symbol.Equal ∷ symbol.Unequal ∷ symbol.Less ∷ symbol.AtMost ∷ symbol.Greater ∷ symbol.AtLeast ∷ symbol.Is ∷ symbol.Not ∷ symbol.In ∷ symbol.Between ∷ []) expr_ends (TestAfter grouped of) d (test_after grouped of)
unfolding test_after same_symbol
tests_after grouped of d =
    either compares sign_first first_sign (comparisons grouped of d)
    (after symbol.Is refl (null_tests of d)
    (maybe_followed {P = λ _ _. IsOptional (is symbol.Not)} {Q = λ negation. Or (Ins of negation) (Betweens grouped of negation)} (λ negation. range_after grouped of negation.0 negation.1) (may symbol.Not refl) (λ negation. range_tests grouped of negation d) refl refl)
    refl refl) refl refl

abbrev pub Tests : Bool → Phrase Test
Tests grouped _ g = IsTest grouped g

pub tests : (grouped : Bool) (d : ℕ) → Production false operand_firsts expr_ends (Tests grouped) d (test_at grouped)
unfolding test_at same_symbol
tests grouped d = followed {P = λ _ _. IsOperand grouped} {Q = TestAfter grouped} _ (operands grouped d) (λ of. tests_after grouped of d) refl refl

pub test_begins : (grouped : Bool) → BeginsWith (Tests grouped) (AnyOf operand_firsts)
test_begins grouped = begins_of operand_firsts (tests grouped 0).leads

-- a test may begin with each first token of an operand
pub test_began : (grouped : Bool) (t : Token) → AnyOf operand_firsts t → (d : ℕ) → Began (Tests grouped) d [] (t ∷ [])
test_began grouped t h d = then_began (λ of. (tests_after grouped of d).reads.able) (operand_began grouped t h d)
