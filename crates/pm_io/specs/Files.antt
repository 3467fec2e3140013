use Rattle.std.specs.Prelude.{◌≡◌, ℕ, Bool, true, false, List, [], ◌++◌, Option, Some, None, Result, Ok, Err, IfSome}
use Rattle.pm_io.specs.declared.fault.IoFault.{IoFault}
use Rattle.pm_io.specs.declared.stand.Stand.{Stand}
use Rattle.pm_io.specs.declared.stand.Stand.TheVariants.{Open, Absent, Broken}

-- the bytes of each file, by its name
abbrev pub Held : Type 0
Held = List ℕ → Option (List ℕ)

-- how a begin leaves the files, by its answer
abbrev pub stand_of : Result Bool IoFault → Stand
stand_of (Ok true) = Open
stand_of (Ok false) = Absent
stand_of (Err fault) = Broken

-- the bytes left after a begin: those of the file that was found, and none after another answer
abbrev pub LeftAtBegin : Option Held → List ℕ → Result Bool IoFault → Option (List ℕ) → Type 0
LeftAtBegin told name (Ok true) left = IfSome told (λ held. left ≡ held name)
LeftAtBegin told name (Ok false) left = IfSome left (λ bytes. bytes ≡ [])
LeftAtBegin told name (Err fault) left = IfSome left (λ bytes. bytes ≡ [])

-- a read took these bytes from the front of those that were left, where they are told
abbrev pub Takes : Option (List ℕ) → Option (List ℕ) → List ℕ → Type 0
Takes (Some old) (Some new) bytes = old ≡ bytes ++ new
Takes (Some old) None bytes = ⊥
Takes None new bytes = new ≡ None
