-- what `build` answers, and what is promised of the plan
use Rattle.std.specs.Prelude.{◌≡◌, ℕ, Option, None, Some, Result, Ok, Err}
use Rattle.pm_plan.specs.declared.plan.Plan.{Plan}
use Rattle.pm_plan.specs.Rows.{Db}
use Rattle.pm_plan.specs.Outputs.{output}
use Rattle.pm_plan.specs.Preorder.{tree_of}
use Rattle.pm_work.specs.First.{Sizes, too_wide}
use Rattle.pm_work.specs.Fits.{sizes_of, Fits}
use Rattle.pm_query.specs.declared.query.Query.{Query}
use Rattle.pm_query.specs.declared.query.Choice.{Choice}
use Rattle.pm_query.specs.Answer.{answer}
use Rattle.pm_query.specs.Build.{tree_for, plan_for}
use Rattle.pm_answers.specs.Databases.{IsDatabaseOf, MeetsDeclarations}
use Rattle.pm_build.specs.declared.building.BuildBad.{BuildBad}
use Rattle.pm_build.specs.declared.building.BuildBad.TheVariants as bad

-- the plan, or the bound for which it is too wide
abbrev pub plan_unless : Option ℕ → Plan → Result Plan BuildBad
plan_unless None plan = Ok plan
plan_unless (Some bound) plan = Err (bad.TooWide bound)

abbrev pub built : Query → Sizes → Choice → Result Plan BuildBad
built query sizes choice = plan_unless (too_wide sizes (tree_for query sizes choice)) (plan_for query sizes choice)

-- its rows are those that the query asks for, in their order, on each database of the query's tables
abbrev pub HasRowsOf : Query → Plan → Type 0
HasRowsOf query plan = (db : Db) → IsDatabaseOf query db → output db (tree_of plan.nodes) ≡ answer query db

-- it fits each database that has tables of these sizes and meets their declarations
abbrev pub FitsDatabases : Query → Sizes → Plan → Type 0
FitsDatabases query sizes plan = (db : Db) → MeetsDeclarations query db → sizes_of db ≡ sizes → Fits plan db
