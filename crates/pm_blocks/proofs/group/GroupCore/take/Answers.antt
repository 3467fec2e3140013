use Rattle.std.proofs.Common.{◌≡◌, ◌+◌, ◌*◌, ◌<◌, ℕ, List, ◌∷◌, ◌++◌, [], length, map, Some, None, Result, Ok, Err, OnOk, OnErr, ap, sym, subst, arith, rules, ◌-◌, ◌^◌}
use Rattle.std.specs.Prelude.{All}
use Rattle.std.proofs.lemmas.Grind.{common_steps}
use Rattle.std.proofs.lemmas.List.{length-map}
use Rattle.std.proofs.lemmas.Result.{on_ok_weaker}
use Rattle.pm_values.specs.Row.{Row, cell, pick}
use Rattle.pm_keys.specs.Numbers.{HasWidth, number_of}
use Rattle.pm_plan.specs.Grouping.{aggregate_of}
use Rattle.pm_blocks.specs.GroupState.{GroupState, IsOf}
use Rattle.pm_blocks.specs.Limits.{AreFew}
use Rattle.pm_blocks.specs.Accumulators.{HasRoom, IsAdded, item_at, with_row}
use Rattle.pm_blocks.proofs.Groups.{AreGroups-from, AreGroups-old, AreGroups-started, IsKept-started, HasRoom-group, number_within, state_of-more, group_before}
use Rattle.pm_blocks.proofs.group.GroupCore.take.Goals as goal

-- a fact that holds after both outcomes
after_both : {T E P Q R S G : Type 0} (r : Result T E) → OnOk r P → OnOk r Q → OnErr r R → OnErr r S → (P → Q → G) → (R → S → G) → G
after_both (Ok x) p q r s good bad = good p q
after_both (Err e) p q r s good bad = bad r s

on_ok_both : {T E P Q G : Type 0} (r : Result T E) → OnOk r P → OnOk r Q → (P → Q → G) → OnOk r G
on_ok_both (Ok x) p q good = good p q
on_ok_both (Err e) p q good = tt

pub add_row-requires-clause-room : goal.add_row-requires-clause-room
add_row-requires-clause-room g c =
    let inside = c.self.inside in
    let row = g.C.Cells.cells c.args.row.now in
    let found = inside.table.keys in
    let given = subst (λ (s : GroupState). (rows : List Row) × IsOf s rows × AreFew s.items (rows ++ row ∷ [])) (sym c.self.view_is) c.requires.few in
    let wide = subst (λ w. All (HasWidth w) found) c.self.invariant.width c.len-full.ensures.listed.wide in
    let at : number_of (pick inside.keys row) found ≡ Some c.in-Some.group = search rules in
    let groups = AreGroups-from inside.keys inside.items given.0 found inside.accumulators.items wide c.self.invariant.whole given.1 in
    subst (λ w. (k : ℕ) → k < length inside.items → HasRoom row (item_at inside.items k) (cell inside.accumulators.items (c.in-Some.group * w + k))) (sym c.len.ensures)
    (HasRoom-group inside.keys inside.items given.0 found inside.accumulators.items row c.in-Some.group groups (number_within (pick inside.keys row) found c.in-Some.group at) given.2)

pub add_row-requires-clause-there : goal.add_row-requires-clause-there
add_row-requires-clause-there g c =
    let inside = c.self.inside in
    let found = inside.table.keys in
    let at : number_of (pick inside.keys (g.C.Cells.cells c.args.row.now)) found ≡ Some c.in-Some.group = search rules in
    let there = number_within (pick inside.keys (g.C.Cells.cells c.args.row.now)) found c.in-Some.group at in
    omega (arith, ap (λ w. c.in-Some.group * w) c.len.ensures, c.self.invariant.whole, group_before (length inside.items) c.in-Some.group (length found) there)

pub returns-in-Some-clause-ok : goal.returns-in-Some-clause-ok
returns-in-Some-clause-ok g c =
    let inside = c.self.inside in
    let row = g.C.Cells.cells c.args.row.now in
    let found = inside.table.keys in
    let group = c.in-Some.group in
    let wide = subst (λ w. All (HasWidth w) found) c.self.invariant.width c.len-full.ensures.listed.wide in
    let at : number_of (pick inside.keys row) found ≡ Some group = search rules in
    on_ok_weaker c.add_row.result
    (λ added. state_of-more inside.keys inside.items found found inside.accumulators.items c.add_row.new.accumulators.items inside.closed inside.handed row c.args.self.now c.self.view_is wide c.self.invariant.whole
    (λ rows groups. AreGroups-old inside.keys inside.items rows found inside.accumulators.items c.add_row.new.accumulators.items row group groups c.len-full.ensures.listed.different at
    (subst (λ w. IsAdded row inside.items (group * w) inside.accumulators.items c.add_row.new.accumulators.items) c.len.ensures added)))
    c.add_row.ensures.ok

pub invariant_of-self-in-None : goal.invariant_of-self-in-None
invariant_of-self-in-None g c =
    let inside = c.self.inside in
    let row = g.C.Cells.cells c.args.row.now in
    let at : number_of (pick inside.keys row) inside.table.keys ≡ None = search rules in
    let room : length inside.table.keys < 2 ^ 32 - 1 = grind (arith, common_steps) in
    after_both c.start_group.result c.start_group.ensures.keys c.start_group.ensures.accumulators c.start_group.ensures.err c.start_group.ensures.kept
    (λ put longer. IsKept-started inside.keys inside.items inside.table c.start_group.new.table inside.accumulators.items c.start_group.new.accumulators.items inside.handed (pick inside.keys row)
    (map (λ item. with_row row item (aggregate_of [] item)) inside.items) c.self.invariant room at c.start_group.ensures.width put longer (length-map inside.items (λ item. with_row row item (aggregate_of [] item))))
    (λ same kept. rw (same, kept) c.self.invariant)

pub returns-else-full-clause-ok : goal.returns-else-full-clause-ok
returns-else-full-clause-ok g c =
    let inside = c.self.inside in
    let row = g.C.Cells.cells c.args.row.now in
    let found = inside.table.keys in
    let wide = subst (λ w. All (HasWidth w) found) c.self.invariant.width c.len-full.ensures.listed.wide in
    let at : number_of (pick inside.keys row) found ≡ None = search rules in
    on_ok_both c.start_group.result c.start_group.ensures.keys c.start_group.ensures.accumulators
    (λ put longer. state_of-more inside.keys inside.items found c.start_group.new.table.keys inside.accumulators.items c.start_group.new.accumulators.items inside.closed inside.handed row c.args.self.now c.self.view_is wide
    c.self.invariant.whole
    (λ rows groups. AreGroups-started inside.keys inside.items rows found c.start_group.new.table.keys inside.accumulators.items c.start_group.new.accumulators.items row at put longer groups))
