-- the numbers of what is ready are certified, and its rows are those that the query asks for
use Rattle.std.proofs.Common.{◌∙◌}
use Rattle.pm_plan.specs.Preorder.{tree_of}
use Rattle.pm_plan.specs.Rows.{Db}
use Rattle.pm_plan.specs.Tree.{Tree}
use Rattle.pm_work.specs.Fits.{IsSound, sizes_of}
use Rattle.pm_work.proofs.EventLaws.{rows_at-events}
use Rattle.pm_work.proofs.Narrow.{narrow}
use Rattle.pm_estim.proofs.Certain.{certified as numbers_certified}
use Rattle.pm_commands.specs.declared.preparing.Prepared.{Prepared}
use Rattle.pm_commands.specs.Certified.{IsReady, IsCertified}

pub certified : (p : Prepared) → IsReady p → IsCertified p
certified p ready =
    let tree : Tree = tree_of p.plan.nodes in
    let db : Db = p.request.db in
    let sound : IsSound db tree = record { tables = ready.tables; operators = ready.fits.valid.operators; references = ready.fits.references } in
    record {
      numbers = numbers_certified db tree sound (narrow (sizes_of db) tree ready.fits.narrow).bound;
      rows = rows_at-events db tree 1 ∙ ready.rows;
    }
