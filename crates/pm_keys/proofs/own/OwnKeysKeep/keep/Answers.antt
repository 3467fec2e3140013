use Rattle.std.proofs.Common.{◌≡◌, ◌∙◌, ◌<◌, ◌-◌, ◌^◌, ◌++◌, ◌∷◌, [], suc, length, sym, ap, subst, arith, add-one}
use Rattle.pm_keys.specs.Numbers.{KeyList}
use Rattle.pm_keys.specs.Cuts.{cut}
use Rattle.pm_keys.proofs.Cuts.{cut-append, length-cut}
use Rattle.pm_keys.proofs.own.OwnKeysKeep.keep.Goals as goal

pub overflow_add-self : goal.overflow_add-self
overflow_add-self g c =
    let few : length (cut c.self.inside.width c.self.inside.count c.self.inside.values.items) < 2 ^ 32 - 1 = subst (λ k. length k.keys < 2 ^ 32 - 1) (sym c.self.view_is) c.requires.1 in
    omega (arith, few, length-cut c.self.inside.width c.self.inside.count c.self.inside.values.items)

pub returns-in-Ok-clause-ok : goal.returns-in-Ok-clause-ok
returns-in-Ok-clause-ok g c =
    let w = c.self.inside.width in
    let n = c.self.inside.count in
    let values = c.self.inside.values.items in
    let key = g.C.Cells.cells c.args.key.now in
    let wide : length key ≡ w = c.requires.0 ∙ ap (λ k. k.width) (sym c.self.view_is) in
    let more : c.append_copies.new.values.items ≡ values ++ key = c.in-Ok.ensures.ok in
    ap (λ keys. record { width = w; keys = keys })
    (ap (λ m. cut w m c.append_copies.new.values.items) (add-one n) ∙ ap (cut w (suc n)) more ∙ cut-append w n values key c.self.invariant wide)
    ∙ ap with_last c.self.view_is
  where
    with_last : KeyList → KeyList
    with_last k = record { width = k.width; keys = k.keys ++ g.C.Cells.cells c.args.key.now ∷ [] }
