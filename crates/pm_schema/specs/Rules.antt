-- The rules of names in a table, in KEY and in ORDER, and where they are broken.
use Rattle.std.specs.Prelude.{ℕ, Bool, true, false, ◌==◌, ◌&&◌, ◌||◌, not, nat_lt, List, [], ◌∷◌, ◌++◌, Option, Some, None, if◌then◌else◌, take, fold, ◌+◌}
use Rattle.std.specs.List.{list_any, find}
use Rattle.std.specs.Str.{bytes_eq}
use Rattle.pm_grammar.specs.declared.names.PlacedName.{PlacedName}
use Rattle.pm_schema.specs.declared.tree.ColumnText.{ColumnText}
use Rattle.pm_schema.specs.declared.tree.TableText.{TableText}
use Rattle.pm_schema.specs.declared.rules.Rule.{Rule}
use Rattle.pm_schema.specs.declared.rules.Rule.TheVariants as rule
use Rattle.pm_schema.specs.declared.rules.Fault.{Fault}
use Rattle.pm_schema.specs.declared.rules.Fault.TheVariants as fault
use Rattle.pm_schema.specs.declared.rules.Breach.{Breach}

abbrev pub name_of_table : TableText → PlacedName
name_of_table table = table.name

abbrev pub name_of_column : ColumnText → PlacedName
name_of_column column = column.name

abbrev pub itself : PlacedName → PlacedName
itself name = name

-- whether one of these has the name
abbrev pub has : {A : Type 0} → (A → PlacedName) → List A → List ℕ → Bool
has name_of items text = list_any (λ x. bytes_eq (name_of x).text text) items

-- the first column of this name
abbrev pub column_named : List ColumnText → List ℕ → Option ColumnText
column_named columns text = find (λ column. bytes_eq column.name.text text) columns

abbrev pub may_be_null : Option ColumnText → Bool
may_be_null None = false
may_be_null (Some column) = column.nullable

-- what is wrong with a name that stands after these: one of them has it, it is no column or one of them has it, or its column is nullable
abbrev pub is_faulty : {A : Type 0} → (A → PlacedName) → Fault → List ColumnText → List A → PlacedName → Bool
is_faulty name_of fault.Repeated columns before name = has name_of before name.text
is_faulty name_of fault.NoNewColumn columns before name = not (has name_of_column columns name.text) || has name_of before name.text
is_faulty name_of fault.Nullable columns before name = may_be_null (column_named columns name.text)

abbrev pub breach_at : Bool → ℕ → Rule → List Breach
breach_at true at rule = record { at = at; rule = rule } ∷ []
breach_at false at rule = []

-- where the names from the i-th on have this fault, which breaks the rule
unfoldable pub breaches_from : {A : Type 0} → (A → PlacedName) → Rule → Fault → List ColumnText → List A → ℕ → List A → List Breach
breaches_from name_of rule fault columns items i [] = []
breaches_from name_of rule fault columns items i (x ∷ rest) =
    breach_at (is_faulty name_of fault columns (take i items) (name_of x)) (name_of x).at rule ++ breaches_from name_of rule fault columns items (i + 1) rest

abbrev pub breaches : {A : Type 0} → (A → PlacedName) → Rule → Fault → List ColumnText → List A → List Breach
breaches name_of rule fault columns items = breaches_from name_of rule fault columns items 0 items

abbrev pub key_breaches : List ColumnText → Option (List PlacedName) → List Breach
key_breaches columns None = []
key_breaches columns (Some names) = breaches itself rule.KeyColumn fault.NoNewColumn columns names ++ breaches itself rule.NullKey fault.Nullable columns names

abbrev pub order_breaches : List ColumnText → Option (List PlacedName) → List Breach
order_breaches columns None = []
order_breaches columns (Some names) = breaches itself rule.KeyColumn fault.NoNewColumn columns names

-- the order of the rules at one place
abbrev pub rank : Rule → ℕ
rank rule.DoubleTable = 0
rank rule.DoubleColumn = 1
rank rule.KeyColumn = 2
rank rule.NullKey = 3
rank rule.RefTable = 4
rank rule.RefColumn = 5
rank rule.RefShape = 6

-- the lesser place comes first, and at one place the earlier rule
abbrev pub is_before : Breach → Breach → Bool
is_before a b = nat_lt a.at b.at || a.at == b.at && nat_lt (rank a.rule) (rank b.rule)

abbrev pub earlier : Option Breach → Breach → Option Breach
earlier None b = Some b
earlier (Some a) b = if is_before b a then Some b else Some a

-- the first of these breaches
abbrev pub first_of : List Breach → Option Breach
first_of breaches = fold earlier None breaches
