-- what is promised of the numbers and of the rows of what is prepared
use Rattle.std.specs.Prelude.{◌≡◌, All}
use Rattle.pm_values.specs.Table.{IsRelation}
use Rattle.pm_plan.specs.Preorder.{tree_of}
use Rattle.pm_plan.specs.Outputs.{output}
use Rattle.pm_work.specs.Fits.{Fits}
use Rattle.pm_work.specs.Events.{events, rows_at}
use Rattle.pm_query.specs.Answer.{answer}
use Rattle.pm_estim.specs.Certified.{AreCertified}
use Rattle.pm_commands.specs.declared.preparing.Prepared.{Prepared}
use Rattle.pm_commands.specs.Commands.{CanWrite}

-- the numbers at every event are certified, and the rows of the root's events, of which the row lines are made, are those that the query
-- asks for, in their order
pub record IsCertified (p : Prepared) : Type 0 where
  pub numbers : AreCertified p.request.db (tree_of p.plan.nodes)
  pub rows : rows_at 1 (events p.request.db (tree_of p.plan.nodes) 1) ≡ answer p.request.query p.request.db

-- it can be written: the plan fits its tables, which are as they are declared
pub record IsReady (p : Prepared) : Type 0 where
  pub fits : Fits p.plan p.request.db
  pub tables : All IsRelation p.request.db
  pub rows : output p.request.db (tree_of p.plan.nodes) ≡ answer p.request.query p.request.db
  pub output : CanWrite p.output
