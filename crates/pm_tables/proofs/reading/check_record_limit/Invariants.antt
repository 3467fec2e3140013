use Rattle.std.proofs.Common.{◌≡◌, ◌++◌, ℕ, List, length}
use Rattle.pm_tables.specs.HasRead.{HasRead, ReadsText}
use Rattle.pm_tables.proofs.reading.check_record_limit.Given as goal

abbrev pub invariant-loop : goal.invariant-loop
invariant-loop l = record {
  text : ReadsText l.reader;
  read : (text : List ℕ) (rows : List (List (List ℕ))) → HasRead text rows l.fn.reader
      → (more : List (List (List ℕ))) × HasRead text (rows ++ more) l.reader × (length more ≡ l.counter);
}
