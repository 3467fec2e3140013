-- header and row lines: the fields as a CSV record (RFC 4180, with LF at its end)
use Rattle.std.specs.Prelude.{ℕ, List, ◌++◌, codes}
use Rattle.csv.specs.Writing.{default_writer, row_text}

abbrev pub head_line : List (List ℕ) → List ℕ
head_line names = codes "H " ++ row_text default_writer names

abbrev pub row_line : List (List ℕ) → List ℕ
row_line fields = codes "R " ++ row_text default_writer fields
