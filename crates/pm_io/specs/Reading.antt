use Rattle.std.specs.Prelude.{◌≡◌, ℕ, ◌<◌, List, length, Option, None, Result, Ok, Err, IsSomeAnd}
use Rattle.pm_io.specs.declared.read.ReadOut.{ReadOut}
use Rattle.pm_io.specs.declared.read.ReadOut.TheVariants as out
use Rattle.pm_io.specs.declared.stand.Stand.{Stand}
use Rattle.pm_io.specs.declared.stand.Stand.TheVariants as stand

-- how a whole read leaves the files, by its answer
abbrev pub stand_left : {T : Type 0} → Result T ReadOut → Stand
stand_left (Ok bytes) = stand.Open
stand_left (Err out.Absent) = stand.Absent
stand_left (Err out.Failed) = stand.Broken
stand_left (Err out.TooLong) = stand.Open
stand_left (Err out.Memory) = stand.Open

-- what the file of a name, or its absence, has to do with an answer other than its bytes
abbrev pub IsCause : Option (List ℕ) → ℕ → ReadOut → Type 0
IsCause file limit out.Absent = file ≡ None
IsCause file limit out.TooLong = IsSomeAnd file (λ bytes. limit < length bytes)
IsCause file limit out.Failed = Unit {0}
IsCause file limit out.Memory = Unit {0}
