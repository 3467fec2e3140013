-- the plan of the tests
use Rattle.std.specs.Prelude.{◌≡◌, length}
use Rattle.pm_plan.specs.declared.plan.Plan.{Plan}
use Rattle.pm_plan.specs.Rows.{decls_of}
use Rattle.pm_plan.specs.Preorder.{nodes_of}
use Rattle.pm_plan.specs.Kinds.{kinds_of}
use Rattle.pm_plan.specs.Worked.{keyless}
use Rattle.pm_work.specs.Worked.{looked_up_keyless}

pub record IsExample (plan : Plan) : Type 0 where
  pub nodes : plan.nodes ≡ nodes_of looked_up_keyless 1
  pub kinds : plan.kinds ≡ kinds_of (decls_of keyless) looked_up_keyless
  pub heads : length plan.heads ≡ length (kinds_of (decls_of keyless) looked_up_keyless)
