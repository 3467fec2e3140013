-- files in memory as contracts see them, and what each call answers
use Rattle.std.specs.Prelude.{◌==◌, ℕ, ◌-◌, ◌^◌, ◌<◌, ◌≤◌, Bool, List, [], ◌∷◌, length, drop, min, slice_get, Option, Some, None, Result, Ok, Err, is_some, unwrap_or, if◌then◌else◌}
use Rattle.std.specs.List.{list_any}
use Rattle.std.specs.Option.{option_map}
use Rattle.std.specs.Str.{bytes_eq}
use Rattle.pm_io.specs.declared.fault.IoFault.{IoFault}
use Rattle.pm_io.specs.declared.fault.IoFault.TheVariants.{Failed}
use Rattle.pm_io.specs.declared.log.ReadLog.{ReadLog}
use Rattle.pm_io.specs.declared.mem_file.MemFile.{MemFile}
use Rattle.pm_io.specs.Counts.{counted}
use Rattle.pm_io.specs.Log.{fresh, after_begin, after_read}

pub record MemState : Type 0 where
  -- the newest first
  pub files : List MemFile
  -- the numbers of the begins and reads that fail
  pub fails : List ℕ
  -- the most bytes that a read gives
  pub most : ℕ
  -- how many begins and reads there were
  pub calls : ℕ
  -- the bytes left of the file that was begun
  pub left : List ℕ
  pub log : ReadLog

-- no files, and no call that fails
abbrev pub no_files : MemState
no_files = record { files = []; fails = []; most = 2 ^ 64 - 1; calls = 0; left = []; log = fresh }

-- the state with a file of this name and these bytes
abbrev pub with_file : MemState → List ℕ → List ℕ → MemState
with_file s name bytes = record s { files = record { name = name; bytes = bytes } ∷ s.files }

-- the bytes of the newest file of this name
abbrev pub held_of : List MemFile → List ℕ → Option (List ℕ)
held_of [] name = None
held_of (file ∷ files) name = (if bytes_eq file.name name then Some file.bytes else held_of files name)

-- the number is among those named
abbrev pub is_named : List ℕ → ℕ → Bool
is_named numbers n = list_any (λ number. number == n) numbers

-- a begin fails where its number was named, and else says whether there is such a file
abbrev pub begin_answer : MemState → List ℕ → Result Bool IoFault
begin_answer s name =
    (if is_named s.fails (counted s.calls) then Err Failed else Ok (is_some (held_of s.files name)))

-- a read fails where its number was named, and else gives as many bytes as there are left, but no more than fit or
-- may be given at once
abbrev pub read_answer : MemState → ℕ → Result ℕ IoFault
read_answer s room =
    (if is_named s.fails (counted s.calls) then Err Failed else Ok (min room (min s.most (length s.left))))

-- the bytes left after a begin of this name with this answer
abbrev pub left_begun : List MemFile → List ℕ → Result Bool IoFault → List ℕ
left_begun files name (Ok there) = unwrap_or (held_of files name) []
left_begun files name (Err fault) = []

-- how many bytes an answer took
abbrev pub amount_of : Result ℕ IoFault → ℕ
amount_of (Ok n) = n
amount_of (Err fault) = 0

-- after a begin of this name with this answer
abbrev pub files_after_begin : MemState → List ℕ → Result Bool IoFault → MemState
files_after_begin s name result =
    record s {
      calls = counted s.calls;
      left = left_begun s.files name result;
      log = after_begin s.log name result;
    }

-- after a read with this answer
abbrev pub files_after_read : MemState → Result ℕ IoFault → MemState
files_after_read s result =
    record s {
      calls = counted s.calls;
      left = drop (amount_of result) s.left;
      log = after_read s.log result;
    }

-- the bytes of the file at this place
abbrev pub bytes_at : List MemFile → ℕ → List ℕ
bytes_at files place = unwrap_or (option_map (λ file. file.bytes) (slice_get files place)) []

-- the bytes of the begun file from `at` on
abbrev pub left_of : List MemFile → Option ℕ → ℕ → List ℕ
left_of files None at = []
left_of files (Some place) at = drop at (bytes_at files place)

-- there is a file at the place, and `at` is not beyond its end
abbrev pub IsPlace : List MemFile → Option ℕ → ℕ → Type 0
IsPlace files None at = Unit {0}
IsPlace files (Some place) at = (place < length files) × (at ≤ length (bytes_at files place))
