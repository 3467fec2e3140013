use Rattle.std.proofs.Common.{◌≡◌, ℕ, List, ◌++◌, ◌+◌, ◌-◌, length, take, drop, Option, Some, None, refl, sym, ap, append_assoc}
use Rattle.std.proofs.Math.Seq.{take-add}
use Rattle.std.proofs.lemmas.List.{take-append-drop, take_rest}
use Rattle.pm_io.specs.Files.{Takes}
use Rattle.pm_io.specs.Sink.{gained, GainsPart}

-- two reads in turn take the bytes of both
pub Takes-append : (old mid new : Option (List ℕ)) (xs ys : List ℕ) → Takes old mid xs → Takes mid new ys →
    Takes old new (xs ++ ys)
Takes-append (Some a) (Some b) (Some c) xs ys p q = cc (append_assoc xs ys c)
Takes-append (Some a) (Some b) None xs ys p q = q
Takes-append (Some a) None new xs ys p q = absurd p
Takes-append None (Some b) new xs ys p q = cc
Takes-append None None new xs ys p q = q

-- two pieces in turn are written as one
pub gained-gained : (old : Option (List ℕ)) (xs ys : List ℕ) → gained (gained old xs) ys ≡ gained old (xs ++ ys)
gained-gained (Some a) xs ys = ap Some (append_assoc a xs ys)
gained-gained None xs ys = refl

-- a write from place `at` on, of a piece whose bytes before that place were written
pub gained-next : (old mid new : Option (List ℕ)) (piece : List ℕ) (at n : ℕ) → mid ≡ gained old (take at piece) →
    new ≡ gained mid (take n (take (length piece - at) (drop at piece))) → new ≡ gained old (take (at + n) piece)
gained-next old mid new piece at n before now =
    rw (take-add, ← gained-gained, ← before, ← take_rest piece at) now

-- what stands before a place of the piece is a first part of it
pub GainsPart-take : (old new : Option (List ℕ)) (piece : List ℕ) (at : ℕ) → new ≡ gained old (take at piece) →
    GainsPart old new piece
GainsPart-take old new piece at gain = (take at piece, drop at piece, sym (take-append-drop at piece), gain)
