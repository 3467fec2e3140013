-- when the declarations say that each left row of a join has a match: the join goes along a reference to the right side's table
use Rattle.std.specs.Prelude.{ℕ, ◌+◌, ◌-◌, Bool, false, not, ◌&&◌, ◌||◌, nat_eq, nat_le, if◌then◌else◌, List, [], ◌∷◌, ◌++◌, map, slice_get, Option, None, Some}
use Rattle.std.specs.List.{list_any, list_all}
use Rattle.std.specs.Str.{bytes_eq}
use Rattle.pm_values.specs.declared.table.ColumnDecl.{ColumnDecl}
use Rattle.pm_values.specs.declared.table.Reference.{Reference}
use Rattle.pm_values.specs.Table.{Declaration}
use Rattle.pm_plan.specs.declared.plan.Pair.{Pair}
use Rattle.pm_plan.specs.Kinds.{columns_of, width}
use Rattle.pm_plan.specs.Tree.{Tree, Scan, Over, Join, Index, keeps_columns, pads}

-- an entry of FROM in the rows of a tree: its table, its first column, and whether a left join may give NULLs for it
pub record Entry : Type 0 where
  pub table : ℕ
  pub from : ℕ
  pub padded : Bool

abbrev pub padded_if : Bool → List Entry → List Entry
padded_if pad [] = []
padded_if pad (entry ∷ entries) = record entry { padded = pad || entry.padded } ∷ padded_if pad entries

-- the entries of a tree in the order of their columns, the first of which has this number; none over other columns than the child's
abbrev pub entries : List Declaration → Tree → ℕ → List Entry
entries decls (Scan table label) from = record { table = table; from = from; padded = false } ∷ []
entries decls (Over op child) from = if keeps_columns op then entries decls child from else []
entries decls (Join method on left right) from =
    entries decls left from ++ padded_if (pads method) (entries decls right (from + width decls left))
entries decls (Index left seek cond) from =
    entries decls left from ++ record { table = seek.table; from = from + width decls left; padded = false } ∷ []

abbrev pub references_or_none : Option Declaration → List Reference
references_or_none None = []
references_or_none (Some decl) = decl.references

abbrev pub is_named : Option Declaration → List ℕ → Bool
is_named None name = false
is_named (Some decl) name = bytes_eq decl.name name

-- the columns of a reference, each with its key
abbrev pub paired : List ℕ → List ℕ → List Pair
paired [] keys = []
paired (column ∷ columns) [] = []
paired (column ∷ columns) (key ∷ keys) = record { left = column; right = key } ∷ paired columns keys

abbrev pub same_pair : Pair → Pair → Bool
same_pair p q = nat_eq p.left q.left && nat_eq p.right q.right

-- each of these pairs is one of those
abbrev pub pairs_within : List Pair → List Pair → Bool
pairs_within pairs all = list_all (λ p. list_any (same_pair p) all) pairs

-- there is a column, and it is NOT NULL
abbrev pub is_required : Option ColumnDecl → Bool
is_required None = false
is_required (Some column) = not column.nullable

-- the left column of a pair is a column of the entry that is NOT NULL
abbrev pub reads_required : List Declaration → Entry → Pair → Bool
reads_required decls entry pair =
    nat_le entry.from pair.left && is_required (slice_get (columns_of decls entry.table) (pair.left - entry.from))

-- a pair with its left column counted within the entry
abbrev pub within_entry : Entry → Pair → Pair
within_entry entry pair = record { left = pair.left - entry.from; right = pair.right }

-- the reference is one to that table, and its columns and keys are these pairs
abbrev pub refers_by : List Declaration → ℕ → List Pair → Reference → Bool
refers_by decls target pairs reference =
    is_named (slice_get decls target) reference.target
    && (pairs_within pairs (paired reference.columns reference.keys) && pairs_within (paired reference.columns reference.keys) pairs)

-- the pairs are, as a set, those of one reference of the entry to that table, and none of the entry's columns can be NULL there
abbrev pub refers_to : List Declaration → ℕ → List Pair → Entry → Bool
refers_to decls target pairs entry =
    not entry.padded
    && (list_all (reads_required decls entry) pairs
    && list_any (refers_by decls target (map (within_entry entry) pairs)) (references_or_none (slice_get decls entry.table)))

-- the pairs of a left side with a whole table go along a reference of one entry of the left side
abbrev pub refers : List Declaration → Tree → ℕ → List Pair → Bool
refers decls left target pairs = list_any (refers_to decls target pairs) (entries decls left 0)
