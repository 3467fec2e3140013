use Rattle.std.proofs.Common.{◌≡◌, ℕ, ◌++◌, length, ap, sym, subst, ◌∙◌}
use Rattle.std.proofs.lemmas.Result.{on_ok_weaker}
use Rattle.pm_flows.specs.BuildFlow.{right_row}
use Rattle.pm_flows.specs.Held.{PutsRow, held_beside}
use Rattle.pm_flows.proofs.Kept.{IsWide, in_row, puts_beside, puts_picked, right_kept, right_wide}
use Rattle.pm_operators.proofs.+parts.Goals as goal

pub hash::Hash::push_parts-returns-clause-ok : goal.hash::Hash::push_parts-returns-clause-ok
hash::Hash::push_parts-returns-clause-ok t c =
    let a = c.self.inside in
    let wide : ℕ = length a.build.right.hand in
    let is : IsWide wide c.of.result = subst (IsWide wide) (sym c.of.ensures) (right_wide wide a.right_row c.self.invariant.right_row) in
    let row : in_row wide c.of.result ≡ right_row wide a.right_row = ap (in_row wide) c.of.ensures ∙ right_kept wide a.right_row c.self.invariant.right_row in
    rw (← c.self.view_is)
    (on_ok_weaker c.push_parts.result (λ (more : PutsRow a.left.held a.left.hand c.put.new.parts.items c.push_parts.new.parts.items).
    subst (λ r. PutsRow (held_beside wide a.left.held) (a.left.hand ++ r) c.args.parts.now.items c.push_parts.new.parts.items) row
    (puts_beside wide a.left.held a.left.hand c.of.result c.args.parts.now.items c.put.new.parts.items c.push_parts.new.parts.items is c.in_ok-put.ensures.ok more)) c.push_parts.ensures.ok)

pub project::Project::push_parts-returns-clause-ok : goal.project::Project::push_parts-returns-clause-ok
project::Project::push_parts-returns-clause-ok t c =
    let a = c.self.inside in
    rw (← c.self.view_is)
    (on_ok_weaker c.push_parts.result (puts_picked a.columns.now a.child.held a.child.hand c.args.parts.now.items c.push_parts.new.parts.items c.self.invariant.within) c.push_parts.ensures.ok)

pub index::IndexJoin::push_parts-returns-clause-ok : goal.index::IndexJoin::push_parts-returns-clause-ok
index::IndexJoin::push_parts-returns-clause-ok t c =
    let a = c.self.inside in
    let wide : ℕ = a.lookup.wide in
    let is : IsWide wide c.of.result = subst (IsWide wide) (sym c.of.ensures) (right_wide wide a.right_row c.self.invariant.right_row) in
    let row : in_row wide c.of.result ≡ right_row wide a.right_row = ap (in_row wide) c.of.ensures ∙ right_kept wide a.right_row c.self.invariant.right_row in
    rw (← c.self.view_is)
    (on_ok_weaker c.push_parts.result (λ (more : PutsRow a.left.held a.left.hand c.put.new.parts.items c.push_parts.new.parts.items).
    subst (λ r. PutsRow (held_beside wide a.left.held) (a.left.hand ++ r) c.args.parts.now.items c.push_parts.new.parts.items) row
    (puts_beside wide a.left.held a.left.hand c.of.result c.args.parts.now.items c.put.new.parts.items c.push_parts.new.parts.items is c.in_ok-put.ensures.ok more)) c.push_parts.ensures.ok)

pub merge::Merge::push_parts-returns-clause-ok : goal.merge::Merge::push_parts-returns-clause-ok
merge::Merge::push_parts-returns-clause-ok t c =
    let a = c.self.inside in
    let wide : ℕ = length a.side.right.hand in
    let is : IsWide wide c.of.result = subst (IsWide wide) (sym c.of.ensures) (right_wide wide a.right_row c.self.invariant.right_row) in
    let row : in_row wide c.of.result ≡ right_row wide a.right_row = ap (in_row wide) c.of.ensures ∙ right_kept wide a.right_row c.self.invariant.right_row in
    rw (← c.self.view_is)
    (on_ok_weaker c.push_parts.result (λ (more : PutsRow a.left.held a.left.hand c.put.new.parts.items c.push_parts.new.parts.items).
    subst (λ r. PutsRow (held_beside wide a.left.held) (a.left.hand ++ r) c.args.parts.now.items c.push_parts.new.parts.items) row
    (puts_beside wide a.left.held a.left.hand c.of.result c.args.parts.now.items c.put.new.parts.items c.push_parts.new.parts.items is c.in_ok-put.ensures.ok more)) c.push_parts.ensures.ok)
