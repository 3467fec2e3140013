use Rattle.std.proofs.Common.{◌≡◌, ◌+◌, ◌++◌, ◌∷◌, [], length, get_or, unwrap_or, None, ap, ◌∙◌, subst, arith, rules, below_more}
use Rattle.std.proofs.lemmas.List.{get_or_append_left, get_or_push, get_or_read, length_push}
use Rattle.pm_values.specs.Row.{cell}
use Rattle.pm_values.specs.declared.value.Value.TheVariants as value
use Rattle.pm_blocks.specs.Accumulators.{item_at, with_row}
use Rattle.pm_blocks.proofs.accumulators.find_changes.Goals as goal

pub loop-at-preserved : goal.loop-at-preserved
loop-at-preserved g c =
    let before = c.loop-at.changes.items in
    let at = c.loop-at.at in
    let accumulators = c.args.accumulators.now in
    let start = c.args.start in
    let put : c.push.new.self.items ≡ before ++ c.in_ok-change.change ∷ [] = search rules in
    record {
      one_each = ap length put ∙ length_push before c.in_ok-change.change ∙ ap (λ n. n + 1) c.loop-at.invariant.one_each;
      each = below_more _ _
          (λ k h. ap (λ changes. unwrap_or (get_or changes k None) (cell accumulators (start + k))) put
          ∙ ap (λ change. unwrap_or change (cell accumulators (start + k))) (get_or_append_left before (c.in_ok-change.change ∷ []) None k (omega (arith, c.loop-at.invariant.one_each)))
          ∙ c.loop-at.invariant.each k h)
          (ap (λ changes. unwrap_or (get_or changes at None) (cell accumulators (start + at))) put
          ∙ ap (λ change. unwrap_or change (cell accumulators (start + at))) (get_or_push before c.in_ok-change.change None at c.loop-at.invariant.one_each)
          ∙ subst (λ t. unwrap_or c.in_ok-change.change t ≡ with_row (g.C.Cells.cells c.args.row.now) (item_at c.args.items.now at) t)
          (get_or_read accumulators (start + at) c.index-accumulators-start.result (omega (arith, c.requires.there)) c.index-accumulators-start.is value.Null) c.in_ok-change.ensures);
    }
