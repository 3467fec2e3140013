-- Positions from 0 on, one more at the end.
use Rattle.std.proofs.Common.{◌≡◌, ◌+◌, ℕ, zero, suc, [], ◌∷◌, ◌++◌, map, refl, ap, ◌∙◌, arith, add-zero, add-one, zero-add}
use Rattle.std.specs.List.{range_with_len}
use Rattle.std.proofs.lemmas.List.{map-append}
use Rattle.pm_names.specs.declared.terms.PlacedTerm.{PlacedTerm}
use Rattle.pm_names.specs.declared.terms.Term.TheVariants as term
use Rattle.pm_binder.specs.Grouping.{all_terms}

range_more : (a n : ℕ) → range_with_len a (suc n) ≡ range_with_len a n ++ (a + n) ∷ []
range_more a zero = rw add-zero refl
range_more a (suc n) =
    let moved : a + 1 + n ≡ a + suc n = omega arith in
    ap (λ r. a ∷ r) (range_more (a + 1) n ∙ ap (λ last. range_with_len (a + 1) n ++ last ∷ []) moved)

abbrev at_place : ℕ → ℕ → PlacedTerm
at_place at column = record { term = term.Column column; at = at }

pub all_more : (n at : ℕ) → all_terms (n + 1) at ≡ all_terms n at ++ record { term = term.Column n; at = at } ∷ []
all_more n at =
    ap (λ m. map (at_place at) (range_with_len 0 m)) (add-one n) ∙ ap (map (at_place at)) (range_more 0 n) ∙ map-append (at_place at) (range_with_len 0 n) ((0 + n) ∷ [])
    ∙ ap (λ m. map (at_place at) (range_with_len 0 n) ++ at_place at m ∷ []) (zero-add n)
