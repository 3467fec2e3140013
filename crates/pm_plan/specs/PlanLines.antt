-- the line of each operator of a plan: its number, its kind, its children or its table, with names in their canonical form, and the
-- flags of a join
use Rattle.std.specs.Prelude.{ℕ, ◌+◌, Bool, true, false, List, [], ◌∷◌, ◌++◌, codes, decimal}
use Rattle.pm_lexer.specs.Quoting.{canon_name}
use Rattle.pm_plan.specs.declared.plan.Label.{Label}
use Rattle.pm_plan.specs.declared.plan.Unique.{Unique}
use Rattle.pm_plan.specs.declared.plan.Node.{Node}
use Rattle.pm_plan.specs.declared.plan.Node.TheVariants as node

abbrev pub names_text : Label → List ℕ
names_text label = canon_name label.table ++ codes " " ++ canon_name label.alias

abbrev pub sides_word : Bool → Bool → List ℕ
sides_word false false = codes "none"
sides_word true false = codes "left"
sides_word false true = codes "right"
sides_word true true = codes "both"

abbrev pub total_word : Bool → List ℕ
total_word false = []
total_word true = codes " total"

abbrev pub flags_text : Unique → List ℕ
flags_text unique = codes " unique=" ++ sides_word unique.left unique.right ++ total_word unique.total

abbrev pub hash_word : Bool → List ℕ
hash_word false = codes "hash "
hash_word true = codes "lefthash "

-- two numbers
abbrev pub two_text : ℕ → ℕ → List ℕ
two_text left right = decimal left ++ codes " " ++ decimal right

abbrev pub operator_text : Node → List ℕ
operator_text (node.Scan table label) = codes "scan " ++ names_text label
operator_text (node.Filter child cond) = codes "filter " ++ decimal child
operator_text (node.Project child columns) = codes "project " ++ decimal child
operator_text (node.Sort child keys) = codes "sort " ++ decimal child
operator_text (node.Group child keys items) = codes "group " ++ decimal child
operator_text (node.Hash left right pairs unique pad) = hash_word pad ++ two_text left right ++ flags_text unique
operator_text (node.Merge left right pairs unique) = codes "merge " ++ two_text left right ++ flags_text unique
operator_text (node.Seek left table pairs label unique) = codes "seek " ++ names_text label ++ flags_text unique
operator_text (node.Index left seek cond) = codes "index " ++ two_text left seek

abbrev pub node_line : ℕ → Node → List ℕ
node_line n node = codes "N " ++ decimal n ++ codes " " ++ operator_text node ++ codes "\n"

-- the lines of these operators, the first being number n
abbrev pub plan_lines : ℕ → List Node → List ℕ
plan_lines n [] = []
plan_lines n (node ∷ nodes) = node_line n node ++ plan_lines (n + 1) nodes
