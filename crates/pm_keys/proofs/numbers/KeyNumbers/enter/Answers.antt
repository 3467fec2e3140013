use Rattle.std.proofs.Common.{◌≡◌, ◌∙◌, ◌++◌, ◌∷◌, ◌-◌, ◌<◌, ◌^◌, ℕ, [], length, cond, is_ok, nat_eq, None, Some, sym, ap, subst, if◌then◌else◌}
use Rattle.std.specs.Prelude.{IfOk, OnOk}
use Rattle.std.specs.Option.{unwrap_or}
use Rattle.std.specs.Map.{lookup}
use Rattle.indexmap.specs.IndexMap.{get, Updates}
use Rattle.pm_keys.specs.Numbers.{number_of}
use Rattle.pm_keys.specs.Hash.{hash_of}
use Rattle.pm_keys.specs.Chains.{IsChained}
use Rattle.pm_keys.proofs.Chained.{IsChained-push, number_of-push}
use Rattle.pm_keys.proofs.numbers.KeyNumbers.enter.Goals as goal

pub invariant_of-self-2 : goal.invariant_of-self-2
invariant_of-self-2 g c =
    let key = g.C.Cells.cells c.args.key.now in
    let keys = g.L.Keys.keys c.self.inside.keys in
    let last = get nat_eq c.self.inside.last in
    let links = c.self.inside.links.items in
    let hash : c.hash_of-hash.result ≡ hash_of key = c.hash_of-hash.ensures in
    let new : number_of key keys ≡ None = ap (λ l. number_of key (g.L.Keys.keys l)) c.self.view_is ∙ sym c.look_up.ensures ∙ c.in_default.is in
    let number : c.len-number.result ≡ length keys = c.len-number.ensures ∙ c.reserve-2.new.self.ok.0 ∙ ap length c.reserve-2.ensures.items ∙ c.self.invariant.linked in
    let few : length keys < 2 ^ 32 - 1 = subst (λ l. length (g.L.Keys.keys l) < 2 ^ 32 - 1) (sym c.self.view_is) c.requires.few in
    let same : (h : ℕ) → get nat_eq c.reserve.new.self h ≡ last h = (λ h. ap (lookup (nat_eq h)) c.reserve.ensures.entries) in
    let inserted = subst (λ r. OnOk r (Updates nat_eq c.reserve.new.self c.insert.new.self c.hash_of-hash.result (Some c.len-number.result))) c.unwrap-before.ensures c.insert.ensures.updates in
    let updated : (h : ℕ) → get nat_eq c.insert.new.self h ≡ cond (nat_eq (hash_of key) h) (Some (length keys)) (last h) =
    (λ h. inserted.0 h ∙ (λ i. cond (nat_eq (hash i) h) (Some (number i)) (same h i))) in
    let before : c.unwrap-before.result ≡ last (hash_of key) =
    subst (λ r. IfOk r (λ old. old ≡ get nat_eq c.reserve.new.self c.hash_of-hash.result)) c.unwrap-before.ensures c.insert.ensures.old ∙ same c.hash_of-hash.result ∙ ap last hash in
    let link : c.unwrap_or.result ≡ unwrap_or (last (hash_of key)) 4294967295 = c.unwrap_or.ensures ∙ ap (λ o. unwrap_or o 4294967295) before in
    let can : g.L.Keep.can_keep c.self.inside.keys c.args.key.now = subst (λ l. g.L.Keep.can_keep l c.args.key.now) (sym c.self.view_is) c.requires.kept in
    let kept : g.L.Keys.keys c.keep.new.self ≡ keys ++ key ∷ [] = ap g.L.Keys.keys c.in_ok-keep.ensures.ok ∙ g.met.L.Keep.comes_last c.self.inside.keys c.args.key.now can in
    let linked : c.push.new.self.items ≡ links ++ unwrap_or (last (hash_of key)) 4294967295 ∷ [] =
    c.push.ensures.items ∙ ap (λ r. if is_ok r then c.reserve-2.new.self.items ++ c.unwrap_or.result ∷ [] else c.reserve-2.new.self.items) c.unwrap.ensures
    ∙ (λ i. c.reserve-2.ensures.items i ++ link i ∷ []) in
    subst (λ l. IsChained (g.L.Keys.keys c.keep.new.self) (get nat_eq c.insert.new.self) l) (sym linked)
    (subst (λ k. IsChained k (get nat_eq c.insert.new.self) (links ++ unwrap_or (last (hash_of key)) 4294967295 ∷ [])) (sym kept)
    (IsChained-push key keys last links c.self.invariant new few (get nat_eq c.insert.new.self) updated))

pub returns-clause-number : goal.returns-clause-number
returns-clause-number g c =
    let key = g.C.Cells.cells c.args.key.now in
    let keys = g.L.Keys.keys c.self.inside.keys in
    let new : number_of key keys ≡ None = ap (λ l. number_of key (g.L.Keys.keys l)) c.self.view_is ∙ sym c.look_up.ensures ∙ c.in_default.is in
    let number : c.len-number.result ≡ length keys = c.len-number.ensures ∙ c.reserve-2.new.self.ok.0 ∙ ap length c.reserve-2.ensures.items ∙ c.self.invariant.linked in
    let can : g.L.Keep.can_keep c.self.inside.keys c.args.key.now = subst (λ l. g.L.Keep.can_keep l c.args.key.now) (sym c.self.view_is) c.requires.kept in
    let kept : g.L.Keys.keys c.keep.new.self ≡ keys ++ key ∷ [] = ap g.L.Keys.keys c.in_ok-keep.ensures.ok ∙ g.met.L.Keep.comes_last c.self.inside.keys c.args.key.now can in
    ap (number_of key) kept ∙ number_of-push key keys new c.self.invariant.different ∙ ap Some (sym number)
