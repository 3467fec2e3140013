-- The columns of the first sources are the first columns.
use Rattle.std.proofs.Common.{◌≡◌, ◌≤◌, ℕ, List, ◌++◌, length, take, drop, ap, sym, ◌∙◌, length-append, arith}
use Rattle.std.proofs.lemmas.List.{take-append-drop}
use Rattle.std.proofs.lemmas.Grind.{flat_map-append}
use Rattle.std.proofs.Math.Seq.{take-append_seam}
use Rattle.std.specs.List.{flat_map}
use Rattle.pm_syntax.specs.declared.tree.Source.{Source}
use Rattle.pm_values.specs.Table.{Declaration}
use Rattle.pm_names.specs.Sources.{source_columns, known_columns}

flat_map-split : {A B : Type 0} (f : A → List B) (xs : List A) (i : ℕ) → flat_map f xs ≡ flat_map f (take i xs) ++ flat_map f (drop i xs)
flat_map-split f xs i = ap (flat_map f) (sym (take-append-drop i xs)) ∙ flat_map-append f (take i xs) (drop i xs)

pub known_prefix : (schema : List Declaration) (sources : List Source) (i : ℕ) → take (length (known_columns schema (take i sources))) (known_columns schema sources) ≡ known_columns schema (take i sources)
known_prefix schema sources i =
    rw (flat_map-split (source_columns schema) sources i) (take-append_seam (known_columns schema (take i sources)) (known_columns schema (drop i sources)))

pub known_within : (schema : List Declaration) (sources : List Source) (i : ℕ) → length (known_columns schema (take i sources)) ≤ length (known_columns schema sources)
known_within schema sources i = rw (flat_map-split (source_columns schema) sources i, length-append) (omega arith)
