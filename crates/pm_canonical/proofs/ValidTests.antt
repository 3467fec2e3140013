-- Conditions that reading gives fit.
use Rattle.std.proofs.Common.{ℕ, suc, zero, Bool, List, [], ◌∷◌, arith}
use Rattle.pm_lexer.specs.declared.symbol.Symbol.TheVariants as symbol
use Rattle.pm_lexer.specs.Symbol.{is}
use Rattle.pm_grammar.specs.Language.{Is, IsList, never}
use Rattle.pm_syntax.specs.declared.tree.Test.{Test}
use Rattle.pm_syntax.specs.declared.tree.Test.TheVariants as test
use Rattle.pm_syntax.specs.Grammar.{IsTest, IsPart, IsPartAnd, IsCondition, all_of, any_of}
use Rattle.pm_canonical.proofs.Valid.{Every, ValidList, ValidLeaf, Role, whole, in_or, in_and, Fits, leaf, negated, any_list, any_in_or, any_in_and, all_list, all_in_or, all_in_and, FitsEach, no_members, member}
use Rattle.pm_canonical.proofs.Sound.{Sound, sound, sound_bind, sound_map, sound_better, sound_after, sound_or, sound_list}
use Rattle.pm_canonical.proofs.ValidReads.{sound_test}

-- what fits within a depth fits within one more
mutual
  deeper : (grouped : Bool) (role : Role) (d : ℕ) (t : Test) → Fits grouped role d t → Fits grouped role (suc d) t
  deeper grouped _ _ _ (leaf role d t valid) = leaf role (suc d) t valid
  deeper grouped _ _ _ (negated role d t part) = negated role (suc d) t (deeper grouped in_and d t part)
  deeper grouped _ _ _ (any_list d members two most each) = any_list (suc d) members two most (each_deeper grouped in_or d members each)
  deeper grouped _ _ _ (any_in_or d members two most each) = any_in_or (suc d) members two most (each_deeper grouped in_or d members each)
  deeper grouped _ _ _ (any_in_and d members two most each) = any_in_and (suc d) members two most (each_deeper grouped in_or d members each)
  deeper grouped _ _ _ (all_list d members two most each) = all_list (suc d) members two most (each_deeper grouped in_and d members each)
  deeper grouped _ _ _ (all_in_or d members two most each) = all_in_or (suc d) members two most (each_deeper grouped in_and d members each)
  deeper grouped _ _ _ (all_in_and d members two most each) = all_in_and (suc d) members two most (each_deeper grouped in_and d members each)

  each_deeper : (grouped : Bool) (role : Role) (d : ℕ) (members : List Test) → FitsEach grouped role d members → FitsEach grouped role (suc d) members
  each_deeper grouped _ _ _ (no_members role d) = no_members role (suc d)
  each_deeper grouped _ _ _ (member role d t ts first rest) = member role (suc d) t ts (deeper grouped role d t first) (each_deeper grouped role d ts rest)

-- from one role to another
or_from_and : (grouped : Bool) (d : ℕ) (t : Test) → Fits grouped in_and d t → Fits grouped in_or d t
or_from_and grouped _ _ (leaf role d t valid) = leaf in_or d t valid
or_from_and grouped _ _ (negated role d t part) = negated in_or d t part
or_from_and grouped _ _ (any_in_and d members two most each) = any_in_or d members two most each
or_from_and grouped _ _ (all_in_and d members two most each) = all_in_or (suc d) members two most (each_deeper grouped in_and d members each)

whole_from_or : (grouped : Bool) (d : ℕ) (t : Test) → Fits grouped in_or d t → Fits grouped whole d t
whole_from_or grouped _ _ (leaf role d t valid) = leaf whole d t valid
whole_from_or grouped _ _ (negated role d t part) = negated whole d t part
whole_from_or grouped _ _ (any_in_or d members two most each) = any_list (suc d) members two most (each_deeper grouped in_or d members each)
whole_from_or grouped _ _ (all_in_or d members two most each) = all_list d members two most each

and_from_whole : (grouped : Bool) (d : ℕ) (t : Test) → Fits grouped whole d t → Fits grouped in_and (suc d) t
and_from_whole grouped _ _ (leaf role d t valid) = leaf in_and (suc d) t valid
and_from_whole grouped _ _ (negated role d t part) = negated in_and (suc d) t (deeper grouped in_and d t part)
and_from_whole grouped _ _ (any_list d members two most each) = any_in_and d members two most each
and_from_whole grouped _ _ (all_list d members two most each) = all_in_and d members two most each

-- lists
each_fits : (grouped : Bool) (role : Role) (d : ℕ) (members : List Test) → Every (Fits grouped role d) members → FitsEach grouped role d members
each_fits grouped role d [] all = no_members role d
each_fits grouped role d (t ∷ ts) all = member role d t ts all.0 (each_fits grouped role d ts all.1)

all_fits : (grouped : Bool) (d : ℕ) (members : List Test) → ValidList 256 (Fits grouped in_and d) members → Fits grouped in_or d (all_of members)
all_fits grouped d [] valid = let some = valid.some in absurd (omega arith)
all_fits grouped d (t ∷ []) valid = or_from_and grouped d t valid.each.0
all_fits grouped d (t ∷ u ∷ ts) valid = all_in_or d (t ∷ u ∷ ts) (omega arith) valid.within (each_fits grouped in_and d (t ∷ u ∷ ts) valid.each)

any_fits : (grouped : Bool) (d : ℕ) (members : List Test) → ValidList 256 (Fits grouped in_or d) members → Fits grouped whole d (any_of members)
any_fits grouped d [] valid = let some = valid.some in absurd (omega arith)
any_fits grouped d (t ∷ []) valid = whole_from_or grouped d t valid.each.0
any_fits grouped d (t ∷ u ∷ ts) valid = any_list d (t ∷ u ∷ ts) (omega arith) valid.within (each_fits grouped in_or d (t ∷ u ∷ ts) valid.each)

sound_cond : (grouped : Bool) (d : ℕ) → Sound (IsPart grouped d never) (Fits grouped in_and d) → Sound (IsCondition grouped d never) (Fits grouped whole d)
sound_cond grouped d part =
    sound_map (IsList never 256 (IsPartAnd never (IsPart grouped d never)) (is symbol.Or)) any_of (ValidList 256 (Fits grouped in_or d)) (Fits grouped whole d)
    (sound_list 256 (IsPartAnd never (IsPart grouped d never)) (is symbol.Or) (Fits grouped in_or d) (omega arith)
    (sound_map (IsList never 256 (IsPart grouped d never) (is symbol.And)) all_of (ValidList 256 (Fits grouped in_and d)) (Fits grouped in_or d)
    (sound_list 256 (IsPart grouped d never) (is symbol.And) (Fits grouped in_and d) (omega arith) part) (all_fits grouped d)))
    (any_fits grouped d)

sound_part : (grouped : Bool) (d : ℕ) → Sound (IsPart grouped d never) (Fits grouped in_and d)
unfolding IsPart
sound_part grouped zero = sound_better (IsTest grouped never) (ValidLeaf grouped) (Fits grouped in_and zero) (λ t valid. leaf in_and zero t valid) (sound_test grouped)
sound_part grouped (suc d) =
    let part = sound_part grouped d in
    sound_or (λ next. Is (is symbol.Not) (λ _. IsPart grouped d never (λ part. next (test.Not part)))) _ (Fits grouped in_and (suc d))
    (sound_after (is symbol.Not) (λ _ next. IsPart grouped d never (λ part. next (test.Not part))) (Fits grouped in_and (suc d))
    (λ _ _ _. sound_map (IsPart grouped d never) (λ t. test.Not t) (Fits grouped in_and d) (Fits grouped in_and (suc d)) part (λ t fits. negated in_and d t fits)))
    (sound_or (λ next. Is (is symbol.Open) (λ _. IsCondition grouped d never (λ cond. Is (is symbol.Close) (λ _. next cond)))) (IsTest grouped never) (Fits grouped in_and (suc d))
    (sound_after (is symbol.Open) (λ _ next. IsCondition grouped d never (λ cond. Is (is symbol.Close) (λ _. next cond))) (Fits grouped in_and (suc d))
    (λ _ _ _. sound_bind (IsCondition grouped d never) (λ cond next. Is (is symbol.Close) (λ _. next cond)) (Fits grouped whole d) (Fits grouped in_and (suc d)) (sound_cond grouped d part)
    (λ cond fits. sound_after (is symbol.Close) (λ _ next. next cond) (Fits grouped in_and (suc d)) (λ _ _ _. sound (Fits grouped in_and (suc d)) cond (and_from_whole grouped d cond fits)))))
    (sound_better (IsTest grouped never) (ValidLeaf grouped) (Fits grouped in_and (suc d)) (λ t valid. leaf in_and (suc d) t valid) (sound_test grouped)))

pub sound_condition : (grouped : Bool) (d : ℕ) → Sound (IsCondition grouped d never) (Fits grouped whole d)
sound_condition grouped d = sound_cond grouped d (sound_part grouped d)
