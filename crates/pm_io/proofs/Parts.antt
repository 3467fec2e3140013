-- a text that is written in parts, and what stands where one of them fails
use Rattle.std.proofs.Common.{◌≡◌, ℕ, List, [], ◌++◌, Option, Some, None, refl, sym, ap, ◌∙◌, append_assoc}
use Rattle.std.proofs.lemmas.List.{append-nil}
use Rattle.std.specs.Prelude.{Result, Ok, Err, OnErr}
use Rattle.pm_io.specs.Sink.{gained, GainsPart}
use Rattle.pm_io.proofs.Outside.{gained-gained}

-- what holds anyway holds after an error
pub on_err : {T E P : Type 0} (r : Result T E) → P → OnErr r P
on_err (Ok x) p = tt
on_err (Err e) p = p

pub gained-nothing : (old : Option (List ℕ)) → gained old [] ≡ old
gained-nothing (Some written) = ap Some (append-nil written)
gained-nothing None = refl

-- nothing was written yet
pub part_nothing : (old : Option (List ℕ)) (piece : List ℕ) → GainsPart old old piece
part_nothing old piece = ([], piece, refl, sym (gained-nothing old))

-- all of the first piece was written, and nothing of the second
pub part_whole : (old new : Option (List ℕ)) (xs ys : List ℕ) → new ≡ gained old xs → GainsPart old new (xs ++ ys)
part_whole old new xs ys e = (xs, ys, refl, e)

-- a first part of the first piece was written
pub part_first : (old new : Option (List ℕ)) (xs ys : List ℕ) → GainsPart old new xs → GainsPart old new (xs ++ ys)
part_first old new xs ys (front, back, split, e) =
    (front, back ++ ys, ap (λ s. s ++ ys) split ∙ append_assoc front back ys, e)

-- the first piece was written, and then a first part of the second
pub part_later : (old mid new : Option (List ℕ)) (xs ys : List ℕ) → mid ≡ gained old xs → GainsPart mid new ys
    → GainsPart old new (xs ++ ys)
part_later old mid new xs ys e (front, back, split, f) = (
  xs ++ front,
  back,
  ap (λ s. xs ++ s) split ∙ sym (append_assoc xs front back),
  f ∙ ap (λ m. gained m front) e ∙ gained-gained old xs front,
)
