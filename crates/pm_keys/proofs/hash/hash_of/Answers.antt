use Rattle.std.proofs.Common.{◌≡◌, ◌∙◌, take, ap, arith}
use Rattle.std.specs.Prelude.{fold}
use Rattle.std.specs.Hash.FoldHasher.{initial}
use Rattle.std.proofs.lemmas.List.{take_all}
use Rattle.pm_keys.specs.Hash.{after_value, hash_of}
use Rattle.pm_keys.proofs.hash.hash_of.Goals as goal

pub returns : goal.returns
unfolding hash_of
returns g c =
    let key = g.C.Cells.cells c.args.key.now in
    let all : take c.loop-at.at key ≡ key = take_all c.loop-at.at key (omega arith) in
    c.finish.ensures ∙ ap (λ h. h.state) c.loop-at.invariant ∙ ap (λ values. (fold after_value initial values).state) all
