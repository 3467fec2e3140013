-- plans over customers and their orders, for worked examples
use Rattle.std.specs.Prelude.{ℕ, zero, suc, Bool, true, false, List, [], ◌∷◌, None, codes}
use Rattle.pm_values.specs.declared.value.Value.TheVariants.{Text}
use Rattle.pm_values.specs.declared.value.Kind.{Kind}
use Rattle.pm_values.specs.declared.value.Kind.TheVariants as kind
use Rattle.pm_values.specs.declared.condition.Comparison.TheVariants as comparison
use Rattle.pm_values.specs.declared.condition.Operand.TheVariants as operand
use Rattle.pm_values.specs.declared.condition.Cond.{Cond}
use Rattle.pm_values.specs.declared.condition.Cond.TheVariants as cond
use Rattle.pm_values.specs.Table.{Declaration}
use Rattle.pm_plan.specs.declared.plan.Aggregate.{Aggregate}
use Rattle.pm_plan.specs.declared.plan.Pair.{Pair}
use Rattle.pm_plan.specs.declared.plan.Plan.{Plan}
use Rattle.pm_plan.specs.declared.plan.Unique.{Unique}
use Rattle.pm_plan.specs.Tree.{Filter, Project, Group, Method, Hash, Merge, Seek, Tree, Scan, Over, Join, Index}
use Rattle.pm_plan.specs.Preorder.{nodes_of}
use Rattle.pm_plan.specs.Worked.{label, pair, flags, on, customer_decl, order_decl, ordered_customer_decl, ordered_order_decl, referring_order_decl, integer_column}

-- orders, then customers
abbrev pub plain : List Declaration
plain = order_decl ∷ customer_decl ∷ []

abbrev pub ordered : List Declaration
ordered = ordered_order_decl ∷ ordered_customer_decl ∷ []

abbrev pub referring : List Declaration
referring = referring_order_decl ∷ customer_decl ∷ []

-- the orders refer to the customers, and may have none
abbrev pub nullable_referring : List Declaration
nullable_referring =
    record referring_order_decl {
      columns = integer_column (codes "id") ∷ record { name = codes "cust"; kind = kind.Int; nullable = true } ∷ integer_column (codes "amt") ∷ [];
    }
    ∷ customer_decl ∷ []

abbrev pub orders : Tree
orders = Scan 0 (label (codes "ord") (codes "o"))

abbrev pub customers : Tree
customers = Scan 1 (label (codes "cust") (codes "c"))

-- c.name = 'Ann', the column having so many decimals
abbrev pub is_ann : ℕ → Cond
is_ann scale = cond.Compare comparison.Equal (operand.Column 1 scale) (operand.Literal (Text (codes "Ann")) 0)

abbrev pub anns : Tree
anns = Over (Filter (is_ann 0)) customers

-- these rows' name and amount of customers joined with orders
abbrev pub names_and_amounts : Tree → Plan
names_and_amounts rows =
    record { nodes = nodes_of (Over (Project (1 ∷ 4 ∷ [])) rows) 1; heads = codes "name" ∷ codes "amt" ∷ []; kinds = kind.Text ∷ kind.Int ∷ [] }

-- customers with their orders, the left side being unique
abbrev pub joined : Tree
joined = Join (Hash false) (on (pair 0 1) (flags true false)) anns orders

abbrev pub ann_with_orders : Plan
ann_with_orders = names_and_amounts joined

abbrev pub customers_left_join : Plan
customers_left_join = names_and_amounts (Join (Hash true) (on (pair 0 1) (flags true false)) customers orders)

abbrev pub merged : Plan
merged = names_and_amounts (Join Merge (on (pair 0 1) (flags true false)) customers orders)

abbrev pub sought_orders : Seek
sought_orders = record { table = 0; label = label (codes "ord") (codes "o"); on = on (pair 0 1) (flags true false) }

abbrev pub looked_up : Plan
looked_up = names_and_amounts (Index customers sought_orders None)

-- orders, each with its customer, and whether the join is said to be total
abbrev pub orders_with_customer : Bool → Plan
orders_with_customer total =
    record {
      nodes = nodes_of (Over (Project (4 ∷ 2 ∷ [])) (Join (Hash false) (on (pair 1 0) (record { left = false; right = true; total = total })) orders customers)) 1;
      heads = codes "name" ∷ codes "amt" ∷ [];
      kinds = kind.Text ∷ kind.Int ∷ [];
    }

-- the different amounts, grouped as one
abbrev pub different_amounts : List Aggregate → List (List ℕ) → List Kind → Plan
different_amounts items heads kinds = record { nodes = nodes_of (Over (Group [] items) (Over (Group (2 ∷ []) []) orders)) 1; heads = heads; kinds = kinds }

-- so many customers joined by their ids, one by one
abbrev pub same_customers : ℕ → Tree
same_customers zero = customers
same_customers (suc n) = Join (Hash false) (on (pair 0 0) (flags true true)) (same_customers n) customers

-- the same plans with another way of joining, other pairs or flags, or another side
abbrev pub joined_otherwise : Method → List Pair → Unique → Tree → Tree → Plan
joined_otherwise method pairs unique left right = names_and_amounts (Join method (on pairs unique) left right)
