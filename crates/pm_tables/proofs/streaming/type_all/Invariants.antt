use Rattle.std.proofs.Common.{◌≡◌, ◌∷◌, ℕ, List, [], length}
use Rattle.pm_tables.specs.HasRead.{HasRead, ReadsText}
use Rattle.pm_tables.specs.Typing.{WritesRows}
use Rattle.pm_tables.proofs.streaming.type_all.Given as goal

abbrev pub invariant-loop-at : goal.invariant-loop-at
invariant-loop-at l = record {
  text : ReadsText l.reader;
  read : (text : List ℕ) (header : List (List ℕ)) → HasRead text (header ∷ []) l.fn.reader
      → (list : List (List (List ℕ))) × HasRead text (header ∷ list) l.reader × (length list ≡ l.at) × WritesRows l.columns list l.rows;
}
