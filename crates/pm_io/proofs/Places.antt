use Rattle.std.proofs.Common.{◌≡◌, ℕ, suc, ◌<◌, true, List, ◌∷◌, length, get_or, drop, Some, slice_get, sym, ap, ◌∙◌, refl}
use Rattle.std.proofs.Math.Seq.{drop-cons}
use Rattle.std.proofs.lemmas.Option.{slice_get-get_or}
use Rattle.std.specs.Str.{bytes_eq}
use Rattle.pm_io.specs.declared.mem_file.MemFile.{MemFile}
use Rattle.pm_io.specs.MemState.{held_of, bytes_at}

-- a file whose name fits, where none before it does, is the file of the name
pub held_of-found : (files : List MemFile) (name : List ℕ) (place : ℕ) (file : MemFile) → place < length files →
    file ≡ get_or files place file → bytes_eq file.name name ≡ true →
    held_of (drop place files) name ≡ held_of files name → held_of files name ≡ Some (bytes_at files place)
held_of-found files name place file within here same before =
    let found : slice_get files place ≡ Some file = slice_get-get_or files place file within ∙ ap Some (sym here) in
    let next : drop place files ≡ file ∷ drop (suc place) files =
    drop-cons files place file within ∙ ap (λ (f : MemFile). f ∷ drop (suc place) files) (sym here) in
    let first : held_of (file ∷ drop (suc place) files) name ≡ Some file.bytes = rw same refl in
    let at : Some (bytes_at files place) ≡ Some file.bytes = rw found refl in
    sym before ∙ ap (λ fs. held_of fs name) next ∙ first ∙ sym at
