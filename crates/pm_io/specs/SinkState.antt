-- a sink in memory as contracts see it, and what each call answers
use Rattle.std.specs.Prelude.{◌==◌, ℕ, ◌-◌, ◌^◌, Bool, true, false, ◌||◌, List, [], ◌++◌, length, take, min, Result, Ok, Err, if◌then◌else◌}
use Rattle.pm_io.specs.declared.fault.IoFault.{IoFault}
use Rattle.pm_io.specs.declared.fault.IoFault.TheVariants.{Failed}
use Rattle.pm_io.specs.Counts.{counted}
use Rattle.pm_io.specs.MemState.{is_named}

pub record SinkState : Type 0 where
  pub written : List ℕ
  -- the most bytes that may be written in all
  pub room : ℕ
  -- the numbers of the writes that fail
  pub fails : List ℕ
  pub finish_fails : Bool
  -- the most bytes that a write takes
  pub most : ℕ
  -- how many writes there were
  pub writes : ℕ
  pub finished : Bool
  pub faults : ℕ

-- a sink with this room, to which nothing was written
abbrev pub empty_sink : ℕ → SinkState
empty_sink room =
    record {
      written = [];
      room = room;
      fails = [];
      finish_fails = false;
      most = 2 ^ 64 - 1;
      writes = 0;
      finished = false;
      faults = 0;
    }

-- a write fails where its number was named or the room is used up, and else takes as many bytes as there are, but no
-- more than there is room for or may be taken at once
abbrev pub write_answer : SinkState → ℕ → Result ℕ IoFault
write_answer s len =
    let left = s.room - length s.written in
    (if left == 0 || is_named s.fails (counted s.writes) then Err Failed else Ok (min len (min s.most left)))

-- after a write of this piece with this answer
abbrev pub after_write : SinkState → List ℕ → Result ℕ IoFault → SinkState
after_write s piece (Ok n) =
    record s { writes = counted s.writes; written = s.written ++ take n piece; finished = false }
after_write s piece (Err fault) = record s { writes = counted s.writes; faults = counted s.faults }

-- a finish fails where it was told to
abbrev pub finish_answer : SinkState → Result (Unit {0}) IoFault
finish_answer s = (if s.finish_fails then Err Failed else Ok tt)

-- after a finish with this answer
abbrev pub after_finish : SinkState → Result (Unit {0}) IoFault → SinkState
after_finish s (Ok done) = record s { finished = true }
after_finish s (Err fault) = record s { faults = counted s.faults }
