use Rattle.std.proofs.Common.{◌≡◌, ◌∷◌, ℕ, List, [], length}
use Rattle.csv.specs.Records.{Rising, fields_of, last_end}
use Rattle.pm_tables.specs.HasRead.{HasRead, ReadsText}
use Rattle.pm_tables.specs.Records.{cut}
use Rattle.pm_tables.proofs.reading.collect_records.Given as goal

abbrev pub invariant-loop : goal.invariant-loop
invariant-loop l = record {
  rising : Rising 0 l.ends.items (length (fields_of l.fields));
  whole : last_end 0 l.ends.items ≡ length (fields_of l.fields);
  count : length l.ends.items ≡ l.counter;
  text : ReadsText l.reader;
  read : (text : List ℕ) (header : List (List ℕ)) → HasRead text (header ∷ []) l.fn.reader
      → HasRead text (header ∷ cut 0 l.ends.items (fields_of l.fields)) l.reader;
}
