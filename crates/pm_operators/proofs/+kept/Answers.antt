use Rattle.std.proofs.Common.{ℕ, ◌-◌, ◌≤◌, length, get_or, ap, sym, subst, ◌∙◌, arith}
use Rattle.pm_flows.specs.declared.part.Part.TheVariants as part
use Rattle.pm_flows.specs.Held.{HasColumn, HasValue, held_beside, value_in_row}
use Rattle.pm_flows.proofs.Kept.{last-in}
use Rattle.pm_operators.proofs.+kept.Goals as goal

pub hash::Hash::kept_cell-cell-requires-clause-has : goal.hash::Hash::kept_cell-cell-requires-clause-has
hash::Hash::kept_cell-cell-requires-clause-has t c =
    let a = c.self.inside in
    let wide : ℕ = length a.build.right.hand in
    let has : HasValue (held_beside wide a.left.held) c.args.parts.now c.args.at = subst (λ f. HasValue f.held c.args.parts.now c.args.at) (sym c.self.view_is) c.requires in
    let past : length a.left.held.places ≤ c.args.at = omega (arith, c.self.invariant.laid) in
    let i = last-in wide a.left.held c.args.parts.now c.args.at has past in
    subst (λ w. HasColumn c.first_of.result (c.args.at - w)) c.self.invariant.laid (subst (λ p. HasColumn p (c.args.at - length a.left.held.places)) (sym c.first_of.ensures) i.has)

pub hash::Hash::kept_cell-returns : goal.hash::Hash::kept_cell-returns
hash::Hash::kept_cell-returns t c =
    let a = c.self.inside in
    let wide : ℕ = length a.build.right.hand in
    let has : HasValue (held_beside wide a.left.held) c.args.parts.now c.args.at = subst (λ f. HasValue f.held c.args.parts.now c.args.at) (sym c.self.view_is) c.requires in
    let past : length a.left.held.places ≤ c.args.at = omega (arith, c.self.invariant.laid) in
    let i = last-in wide a.left.held c.args.parts.now c.args.at has past in
    rw (← c.self.view_is)
    (c.cell.ensures ∙ ap (λ p. value_in_row p (c.args.at - a.left_width)) c.first_of.ensures
    ∙ ap (λ w. value_in_row (get_or c.args.parts.now 0 part.Nulls) (c.args.at - w)) (sym c.self.invariant.laid) ∙ sym i.value)

pub index::IndexJoin::kept_cell-cell-requires-clause-has : goal.index::IndexJoin::kept_cell-cell-requires-clause-has
index::IndexJoin::kept_cell-cell-requires-clause-has t c =
    let a = c.self.inside in
    let wide : ℕ = a.lookup.wide in
    let has : HasValue (held_beside wide a.left.held) c.args.parts.now c.args.at = subst (λ f. HasValue f.held c.args.parts.now c.args.at) (sym c.self.view_is) c.requires in
    let past : length a.left.held.places ≤ c.args.at = omega (arith, c.self.invariant.laid) in
    let i = last-in wide a.left.held c.args.parts.now c.args.at has past in
    subst (λ w. HasColumn c.first_of.result (c.args.at - w)) c.self.invariant.laid (subst (λ p. HasColumn p (c.args.at - length a.left.held.places)) (sym c.first_of.ensures) i.has)

pub index::IndexJoin::kept_cell-returns : goal.index::IndexJoin::kept_cell-returns
index::IndexJoin::kept_cell-returns t c =
    let a = c.self.inside in
    let wide : ℕ = a.lookup.wide in
    let has : HasValue (held_beside wide a.left.held) c.args.parts.now c.args.at = subst (λ f. HasValue f.held c.args.parts.now c.args.at) (sym c.self.view_is) c.requires in
    let past : length a.left.held.places ≤ c.args.at = omega (arith, c.self.invariant.laid) in
    let i = last-in wide a.left.held c.args.parts.now c.args.at has past in
    rw (← c.self.view_is)
    (c.cell.ensures ∙ ap (λ p. value_in_row p (c.args.at - a.left_width)) c.first_of.ensures
    ∙ ap (λ w. value_in_row (get_or c.args.parts.now 0 part.Nulls) (c.args.at - w)) (sym c.self.invariant.laid) ∙ sym i.value)

pub merge::Merge::kept_cell-cell-requires-clause-has : goal.merge::Merge::kept_cell-cell-requires-clause-has
merge::Merge::kept_cell-cell-requires-clause-has t c =
    let a = c.self.inside in
    let wide : ℕ = length a.side.right.hand in
    let has : HasValue (held_beside wide a.left.held) c.args.parts.now c.args.at = subst (λ f. HasValue f.held c.args.parts.now c.args.at) (sym c.self.view_is) c.requires in
    let past : length a.left.held.places ≤ c.args.at = omega (arith, c.self.invariant.laid) in
    let i = last-in wide a.left.held c.args.parts.now c.args.at has past in
    subst (λ w. HasColumn c.first_of.result (c.args.at - w)) c.self.invariant.laid (subst (λ p. HasColumn p (c.args.at - length a.left.held.places)) (sym c.first_of.ensures) i.has)

pub merge::Merge::kept_cell-returns : goal.merge::Merge::kept_cell-returns
merge::Merge::kept_cell-returns t c =
    let a = c.self.inside in
    let wide : ℕ = length a.side.right.hand in
    let has : HasValue (held_beside wide a.left.held) c.args.parts.now c.args.at = subst (λ f. HasValue f.held c.args.parts.now c.args.at) (sym c.self.view_is) c.requires in
    let past : length a.left.held.places ≤ c.args.at = omega (arith, c.self.invariant.laid) in
    let i = last-in wide a.left.held c.args.parts.now c.args.at has past in
    rw (← c.self.view_is)
    (c.cell.ensures ∙ ap (λ p. value_in_row p (c.args.at - a.left_width)) c.first_of.ensures
    ∙ ap (λ w. value_in_row (get_or c.args.parts.now 0 part.Nulls) (c.args.at - w)) (sym c.self.invariant.laid) ∙ sym i.value)
