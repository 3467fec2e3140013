-- the moments of the tests' plan
use Rattle.std.proofs.Common.{◌≡◌, ℕ, zero, suc, ◌+◌, ◌<◌, List, length, get_or, sym, ap, subst, ◌∙◌, add-one, arith, rules}
use Rattle.std.specs.Prelude.{All}
use Rattle.pm_values.specs.Table.{IsRelation}
use Rattle.pm_plan.specs.declared.gauge.Gauge.{Gauge}
use Rattle.pm_plan.specs.declared.plan.Plan.{Plan}
use Rattle.pm_plan.specs.Rows.{Db}
use Rattle.pm_plan.specs.Tree.{Tree}
use Rattle.pm_plan.specs.Preorder.{tree_of}
use Rattle.pm_plan.specs.Worked.{keyless}
use Rattle.pm_plan.proofs.Preorders.{tree_of-nodes_of}
use Rattle.pm_work.specs.Events.{trace}
use Rattle.pm_work.specs.Fits.{Fits, IsSound}
use Rattle.pm_work.specs.Moments.{counts_at, gauges_at, gauge_in, HasGauges}
use Rattle.pm_work.specs.Orderly.{Orderly}
use Rattle.pm_work.specs.Work.{whole_work}
use Rattle.pm_work.specs.Worked.{looked_up_keyless}
use Rattle.pm_work.proofs.Examples.{looked_up_fits}
use Rattle.pm_bounds.specs.Moment.{AreGaugesOf, AreGauges}
use Rattle.pm_bounds.proofs.Moments.{moment_gauges, moment_orderly, next_moment}
use Rattle.pm_refine.specs.Refined.{Refined}
use Rattle.pm_refine.specs.Refining.{StandsFor, IsOneEvent, IsBefore}
use Rattle.pm_refine.specs.Example.{IsExample}

keyless_tables : All IsRelation keyless
keyless_tables zero d within = search rules
keyless_tables (suc zero) d within = search rules
keyless_tables (suc (suc k)) d within = absurd (omega (arith, within))

-- an event of a run over any database
event_at : (db : Db) (tree : Tree) (plan : Plan) → ((t : ℕ) → AreGaugesOf db (counts_at db tree t) plan (gauges_at db tree t)) → (t : ℕ) → t < whole_work db tree
    → IsOneEvent plan (get_or (trace db tree) t 0) (gauges_at db tree t) (gauges_at db tree (t + 1))
event_at db tree plan are t left =
    record {
      db = db;
      counts = counts_at db tree t;
      later = counts_at db tree (suc t);
      earlier_gauges = are t;
      later_gauges = subst (λ (m : ℕ). AreGaugesOf db (counts_at db tree (suc t)) plan (gauges_at db tree m)) (sym (add-one t)) (are (suc t));
      next = next_moment db tree t left;
    }

module _ (plan : Plan) (is : IsExample plan) where
  fits : Fits plan keyless
  fits = looked_up_fits plan (record { nodes = is.nodes; kinds = is.kinds; heads = is.heads })

  same : looked_up_keyless ≡ tree_of plan.nodes
  same = sym (ap tree_of is.nodes ∙ tree_of-nodes_of looked_up_keyless)

  sound : IsSound keyless looked_up_keyless
  sound = subst (IsSound keyless) (sym same) (record { tables = keyless_tables; operators = fits.valid.operators; references = fits.references })

  gauges_are : (t : ℕ) → AreGaugesOf keyless (counts_at keyless looked_up_keyless t) plan (gauges_at keyless looked_up_keyless t)
  gauges_are t =
      record {
        tables = keyless_tables;
        fits = fits;
        orderly = subst (λ u. Orderly keyless u 1 (counts_at keyless looked_up_keyless t)) same (moment_orderly keyless looked_up_keyless sound t);
        has_gauges =
            subst (λ u. HasGauges keyless u 1 (counts_at keyless looked_up_keyless t) (gauge_in (gauges_at keyless looked_up_keyless t))) same
            (moment_gauges keyless looked_up_keyless t);
        each_node = sym (ap length is.nodes);
      }

  pub are_gauges : (t : ℕ) → AreGauges plan (gauges_at keyless looked_up_keyless t)
  are_gauges t = record { db = keyless; counts = counts_at keyless looked_up_keyless t; are = gauges_are t }

pub is_before : (r : Refined) (t node : ℕ) (gauges : List Gauge) → IsExample r.plan → StandsFor r (gauges_at keyless looked_up_keyless t) → t < 11
    → node ≡ get_or (trace keyless looked_up_keyless) t 0 → gauges ≡ gauges_at keyless looked_up_keyless (t + 1) → IsBefore r node gauges
is_before r t node gauges is stands left at made =
    record {
      before = gauges_at keyless looked_up_keyless t;
      stands = stands;
      event =
          subst (λ (n : ℕ). IsOneEvent r.plan n (gauges_at keyless looked_up_keyless t) gauges) (sym at)
          (subst (IsOneEvent r.plan (get_or (trace keyless looked_up_keyless) t 0) (gauges_at keyless looked_up_keyless t)) (sym made)
          (event_at keyless looked_up_keyless r.plan (gauges_are r.plan is) t left));
    }
