use Rattle.std.proofs.Common.{◌∙◌, ◌<◌, ◌+◌, ◌*◌, [], length, get_or, sym, ap, subst, arith}
use Rattle.std.proofs.lemmas.Nat.{mul-add-lt}
use Rattle.std.proofs.lemmas.List.{get_or_read}
use Rattle.pm_values.specs.declared.value.Value.TheVariants as value
use Rattle.pm_values.specs.Row.{cell}
use Rattle.pm_keys.proofs.Cuts.{cut-cell, length-cut}
use Rattle.pm_keys.proofs.own.OwnKeysKeys.cell.Goals as goal

pub index-requires : goal.index-requires
index-requires c =
    let w = c.self.inside.width in
    let n = c.self.inside.count in
    let number : c.args.number < n = subst (λ m. c.args.number < m) (ap (λ k. length k.keys) (sym c.self.view_is) ∙ length-cut w n c.self.inside.values.items) c.requires.number in
    let at : c.args.at < w = subst (λ k. c.args.at < k.width) (sym c.self.view_is) c.requires.within in
    omega (arith, mul-add-lt c.args.number w c.args.at n number at, c.self.invariant, c.self.inside.values.ok.0)

pub returns : goal.returns
returns c =
    let w = c.self.inside.width in
    let n = c.self.inside.count in
    let values = c.self.inside.values.items in
    let number : c.args.number < n = subst (λ m. c.args.number < m) (ap (λ k. length k.keys) (sym c.self.view_is) ∙ length-cut w n values) c.requires.number in
    let at : c.args.at < w = subst (λ k. c.args.at < k.width) (sym c.self.view_is) c.requires.within in
    let within : c.args.number * w + c.args.at < length values = omega (arith, mul-add-lt c.args.number w c.args.at n number at, c.self.invariant) in
    get_or_read values (c.args.number * w + c.args.at) c.index.result.now within c.index.ensures value.Null
    ∙ sym (cut-cell w n values c.args.number c.args.at number at)
    ∙ ap (λ k. cell (get_or k.keys c.args.number []) c.args.at) c.self.view_is
