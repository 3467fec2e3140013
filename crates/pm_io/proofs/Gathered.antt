-- bytes that are gathered for a writer, and passed on in parts
use Rattle.std.proofs.Common.{◌≡◌, ℕ, List, [], ◌++◌, ◌+◌, ◌-◌, length, take, drop, Option, sym, ap, ◌∙◌, subst}
use Rattle.std.proofs.lemmas.List.{append-nil, drop-drop, take-append-drop, take_rest}
use Rattle.std.proofs.KnownBytes.{append_known-moved, append_known-passed}
use Rattle.std.specs.Io.KnownBytes.{Keeps, Appends, append_known}

-- the writer took `n` more of the gathered bytes, of which it had `passed`
pub passes_more : (old new : Option (List ℕ)) (gathered : List ℕ) (passed n : ℕ) →
    Appends old new (take n (take (length gathered - passed) (drop passed gathered))) →
    Keeps (append_known old (drop passed gathered)) (append_known new (drop (passed + n) gathered))
passes_more old new gathered passed n took =
    let left = drop passed gathered in
    let front : Appends old new (take n left) = subst (λ l. Appends old new (take n l)) (take_rest gathered passed) took in
    let split : left ≡ take n left ++ drop (passed + n) gathered =
    sym (take-append-drop n left) ∙ ap (λ l. take n left ++ l) (drop-drop n passed gathered)
    in
    append_known-moved old new (take n left) _ left front split

-- nothing was left gathered, and the writer then took these bytes
pub passes_through : (all old new : Option (List ℕ)) (left bytes : List ℕ) → left ≡ [] →
    Keeps all (append_known old left) → Appends old new bytes → Appends all (append_known new left) bytes
passes_through all old new left bytes none kept took =
    subst (Appends all (append_known new left)) (append-nil bytes)
    (append_known-passed all old new left left bytes [] kept none took (sym (append-nil left)))
