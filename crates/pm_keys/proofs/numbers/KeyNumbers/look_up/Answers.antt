use Rattle.std.proofs.Common.{◌≡◌, ◌∙◌, ◌<◌, true, false, [], length, get_or, nat_eq, Some, sym, ap, subst}
use Rattle.std.specs.Prelude.{◌≢◌}
use Rattle.std.proofs.lemmas.List.{get_or_read}
use Rattle.indexmap.specs.IndexMap.{get}
use Rattle.pm_values.specs.Equality.{same_values}
use Rattle.pm_values.proofs.ValueOrder.{same_values_equal}
use Rattle.pm_keys.specs.Chains.{IsChained, IsLast, hash_at, link_number}
use Rattle.pm_keys.proofs.Found.{IsAhead, number_of-found, number_of-absent, ahead_first, ahead_next}
use Rattle.pm_keys.proofs.numbers.KeyNumbers.look_up.Goals as goal

pub loop-next-init : goal.loop-next-init
loop-next-init g c =
    let key = g.C.Cells.cells c.args.key.now in
    let keys = g.L.Keys.keys c.args.self.now in
    let chained : IsChained keys (get nat_eq c.self.inside.last) c.self.inside.links.items =
    subst (λ k. IsChained (g.L.Keys.keys k) (get nat_eq c.self.inside.last) c.self.inside.links.items) c.self.view_is c.self.invariant in
    let at : c.copied-next.result ≡ get nat_eq c.self.inside.last c.args.hash = c.copied-next.ensures ∙ c.get.ensures.value in
    ahead_first key keys c.copied-next.result
    (subst (λ h. IsLast keys (length keys) h c.copied-next.result) c.requires.hash
    (subst (IsLast keys (length keys) c.args.hash) (sym at) (chained.lasts c.args.hash)))

pub returns-then-same_values : goal.returns-then-same_values
returns-then-same_values g c =
    let key = g.C.Cells.cells c.args.key.now in
    let keys = g.L.Keys.keys c.args.self.now in
    let ahead : IsAhead key keys (Some c.in-Some.number) = subst (IsAhead key keys) c.in-Some.is c.loop-next.invariant in
    let chained : IsChained keys (get nat_eq c.self.inside.last) c.self.inside.links.items =
    subst (λ k. IsChained (g.L.Keys.keys k) (get nat_eq c.self.inside.last) c.self.inside.links.items) c.self.view_is c.self.invariant in
    let lent : c.new.result ≡ get_or keys c.in-Some.number [] = c.new.ensures ∙ ap (λ k. get_or (g.L.Keys.keys k) c.in-Some.number []) c.self.view_is in
    let same : same_values key (get_or keys c.in-Some.number []) ≡ true = ap (same_values key) (sym lent) ∙ sym c.same_values.ensures ∙ c.if-same_values.true in
    sym (number_of-found key keys c.in-Some.number chained.different ahead.0 same)

pub loop-next-preserved : goal.loop-next-preserved
loop-next-preserved g c =
    let key = g.C.Cells.cells c.args.key.now in
    let keys = g.L.Keys.keys c.args.self.now in
    let n = c.in-Some.number in
    let links = c.self.inside.links.items in
    let ahead : IsAhead key keys (Some n) = subst (IsAhead key keys) c.in-Some.is c.loop-next.invariant in
    let chained : IsChained keys (get nat_eq c.self.inside.last) links =
    subst (λ k. IsChained (g.L.Keys.keys k) (get nat_eq c.self.inside.last) links) c.self.view_is c.self.invariant in
    let within : n < length links = subst (λ m. n < m) (sym chained.linked) ahead.0 in
    let link : c.number_in-next.result ≡ link_number (get_or links n 0) = c.number_in-next.ensures ∙ ap link_number (get_or_read links n c.index.result.now within c.index.ensures 0) in
    let lent : c.new.result ≡ get_or keys n [] = c.new.ensures ∙ ap (λ k. get_or (g.L.Keys.keys k) n []) c.self.view_is in
    let unlike : same_values key (get_or keys n []) ≡ false = ap (same_values key) (sym lent) ∙ sym c.same_values.ensures ∙ c.if-same_values.false in
    let differ : get_or keys n [] ≢ key = λ same. cc (sym unlike ∙ (same_values_equal key (get_or keys n [])).1 (sym same)) in
    ahead_next key keys n c.number_in-next.result ahead differ (subst (IsLast keys n (hash_at keys n)) (sym link) (chained.befores n ahead.0))

pub returns : goal.returns
returns g c =
    let key = g.C.Cells.cells c.args.key.now in
    let keys = g.L.Keys.keys c.args.self.now in
    sym (number_of-absent key keys (subst (IsAhead key keys) c.in_default.is c.loop-next.invariant))
