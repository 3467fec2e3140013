-- What three groups of rules come to, one after the other.
use Rattle.std.proofs.Common.{◌≡◌, List, [], ◌∷◌, ◌++◌, Result, Ok, Err, refl, sym, ◌∙◌}
use Rattle.pm_names.specs.declared.fault.BindBad.{BindBad}
use Rattle.pm_names.specs.Breaches.{verdict, outcome}
use Rattle.pm_names.proofs.Along.{none_from_ok, verdict_left}

outcome_err : {A : Type 0} (e : BindBad) (xs : List BindBad) (value : A) → verdict xs ≡ Err e → outcome xs value ≡ Err e
outcome_err e [] value h = cc
outcome_err e (x ∷ xs) value h = let same : x ≡ e = cc h in rw same refl

pub second_told : {A : Type 0} (e : BindBad) (xs ys zs : List BindBad) (value : A) (r : Result A BindBad)
    → Ok tt ≡ verdict xs → Err e ≡ verdict ys → r ≡ Err e → r ≡ outcome ((xs ++ ys) ++ zs) value
second_told e xs ys zs value r none h told =
    let here : verdict ((xs ++ ys) ++ zs) ≡ Err e = rw (none_from_ok xs (sym none)) (verdict_left e ys zs (sym h)) in
    told ∙ sym (outcome_err e ((xs ++ ys) ++ zs) value here)

pub third_told : {A : Type 0} (e : BindBad) (xs ys zs : List BindBad) (value : A) (r : Result A BindBad)
    → Ok tt ≡ verdict xs → Ok tt ≡ verdict ys → Err e ≡ verdict zs → r ≡ Err e → r ≡ outcome ((xs ++ ys) ++ zs) value
third_told e xs ys zs value r none off h told =
    let here : verdict ((xs ++ ys) ++ zs) ≡ Err e = rw (none_from_ok xs (sym none), none_from_ok ys (sym off)) (sym h) in
    told ∙ sym (outcome_err e ((xs ++ ys) ++ zs) value here)

pub none_told : {A : Type 0} (xs ys zs : List BindBad) (value : A) → Ok tt ≡ verdict xs → Ok tt ≡ verdict ys → Ok tt ≡ verdict zs → outcome ((xs ++ ys) ++ zs) value ≡ Ok value
none_told xs ys zs value none off gone = rw (none_from_ok xs (sym none), none_from_ok ys (sym off), none_from_ok zs (sym gone)) refl

pub outcome_after : {A : Type 0} (xs ys : List BindBad) (value : A) → Ok tt ≡ verdict xs → outcome (xs ++ ys) value ≡ outcome ys value
outcome_after xs ys value none = rw (none_from_ok xs (sym none)) refl
