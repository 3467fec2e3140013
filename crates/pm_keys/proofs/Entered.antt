-- keys that are entered one after the other are the different keys, by first appearance
use Rattle.std.proofs.Common.{◌≡◌, ◌∙◌, ◌<◌, ℕ, List, [], ◌∷◌, ◌++◌, length, get_or, Option, None, Some, refl, sym, ap, append-nil, append_assoc}
use Rattle.std.specs.Prelude.{fold, Contains}
use Rattle.std.proofs.lemmas.List.{get_or_default}
use Rattle.std.proofs.lemmas.List.Quantifiers.{position-Some}
use Rattle.pm_values.specs.Row.{Row}
use Rattle.pm_values.specs.Equality.{same_values}
use Rattle.pm_values.specs.Keys.{different_keys}
use Rattle.pm_values.proofs.ValueOrder.{same_values_equal}
use Rattle.pm_values.proofs.KeysAppended.{different_keys-append_seen, different_keys-append_new}
use Rattle.pm_values.proofs.KeyCounts.{different_keys_are_its_keys, different_keys_differ}
use Rattle.pm_keys.specs.Numbers.{number_of, entered, all_entered}
use Rattle.pm_keys.proofs.Found.{absent_nowhere, number_of-found}
use Rattle.pm_keys.proofs.Chained.{entered-new, entered-old}

pub Contains-numbered : (key : Row) (keys : List Row) (n : ℕ) → number_of key keys ≡ Some n → Contains keys key
Contains-numbered key keys n found =
    let at = position-Some (same_values key) keys n key found in
    (n, at.0, sym ((same_values_equal key (get_or keys n key)).0 at.1))

pub absent-unnumbered : (key : Row) (keys : List Row) → number_of key keys ≡ None → ¬ (Contains keys key)
absent-unnumbered key keys none held = absent_nowhere key keys none held.0 held.1 (get_or_default keys held.0 [] key held.1 ∙ held.2)

by_number : (o : Option ℕ) (key : Row) (keys : List Row) → number_of key (different_keys keys) ≡ o → entered key (different_keys keys) ≡ different_keys (keys ++ key ∷ [])
by_number None key keys none =
    entered-new key (different_keys keys) none
    ∙ sym (different_keys-append_new keys key (λ held. absent-unnumbered key (different_keys keys) none ((different_keys_are_its_keys key keys).1 held)))
by_number (Some n) key keys found =
    entered-old key (different_keys keys) n found
    ∙ sym (different_keys-append_seen keys key ((different_keys_are_its_keys key keys).0 (Contains-numbered key (different_keys keys) n found)))

-- one key more
pub entered-different : (key : Row) (keys : List Row) → entered key (different_keys keys) ≡ different_keys (keys ++ key ∷ [])
entered-different key keys = by_number (number_of key (different_keys keys)) key keys refl

entered_behind : (done rest : List Row) → fold (λ known key. entered key known) (different_keys done) rest ≡ different_keys (done ++ rest)
entered_behind done [] = ap different_keys (sym (append-nil done))
entered_behind done (key ∷ rest) =
    ap (λ known. fold (λ more k. entered k more) known rest) (entered-different key done)
    ∙ entered_behind (done ++ key ∷ []) rest ∙ ap different_keys (append_assoc done (key ∷ []) rest)

pub all_entered-different : (keys : List Row) → all_entered keys ≡ different_keys keys
all_entered-different keys = entered_behind [] keys

pub number_of-different : (keys : List Row) (n : ℕ) → n < length (different_keys keys) → number_of (get_or (different_keys keys) n []) (different_keys keys) ≡ Some n
number_of-different keys n within =
    let key : Row = get_or (different_keys keys) n [] in
    number_of-found key (different_keys keys) n (different_keys_differ keys) within ((same_values_equal key key).1 refl)
