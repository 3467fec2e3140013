-- a list of gauges changed in two places
use Rattle.std.proofs.Common.{◌≡◌, ℕ, zero, suc, ◌+◌, ◌-◌, ◌<◌, ◌≤◌, ◌^◌, Bool, true, false, eqb, List, [], ◌∷◌, ◌++◌, length, take, drop, get_or, max, refl, ap, sym, subst, ◌∙◌, inl, inr, arith}
use Rattle.std.specs.Prelude.{if◌then◌else◌, All, slice_set}
use Rattle.std.proofs.lemmas.Bool.{eq-eqb}
use Rattle.std.proofs.lemmas.Bool.Decides.{eqb_tells}
use Rattle.std.proofs.lemmas.List.{take-append-le, take_all}
use Rattle.std.proofs.lemmas.List.Elements.{All-get_or}
use Rattle.pm_plan.specs.declared.gauge.Gauge.{Gauge}
use Rattle.pm_flows.specs.declared.taken.Taken.{Taken}
use Rattle.pm_exec.specs.Noted.{gauge_with, gauges_with}
use Rattle.pm_exec.specs.Gauged.{IsAmong, IsCounted}
use Rattle.pm_flows.proofs.Streams.{neq-eqb}

abbrev pub zeros : Gauge
zeros = record { handed = 0; settled = 0; worst = 0; size = 0 }

abbrev pub one_more : Gauge → Gauge
one_more g = record { handed = g.handed + 1; settled = g.settled; worst = g.worst; size = g.size }

abbrev pub read_by : Taken → Gauge → Gauge
read_by t g = record { handed = g.handed; settled = g.settled + t.settled; worst = max g.worst t.worst; size = g.size }

abbrev pub changed_at : (Gauge → Gauge) → ℕ → List Gauge → List Gauge
changed_at f a gs = slice_set gs a (f (get_or gs a zeros))

length-changed : (f : Gauge → Gauge) (gs : List Gauge) (a : ℕ) (x : Gauge) → length (slice_set gs a x) ≡ length gs
length-changed f [] a x = refl
length-changed f (g ∷ gs) zero x = refl
length-changed f (g ∷ gs) (suc a) x = ap suc (length-changed f gs a x)

suc-eqb : (a b : ℕ) → eqb (suc a) (suc b) ≡ eqb a b
suc-eqb a b =
    elim (eqb_tells a b) [
      | inl is ↦ eq-eqb (suc a) (suc b) (ap suc is.1) ∙ sym is.0
      | inr other ↦ neq-eqb (suc a) (suc b) (λ z. other.1 (omega (arith, z))) ∙ sym other.0
    ]

changed-at : (f : Gauge → Gauge) (gs : List Gauge) (a k : ℕ) → a < length gs → get_or (changed_at f a gs) k zeros ≡ (if eqb a k then f (get_or gs k zeros) else get_or gs k zeros)
changed-at f [] a k l = absurd (omega arith)
changed-at f (g ∷ gs) zero zero l = refl
changed-at f (g ∷ gs) zero (suc k) l = rw (neq-eqb zero (suc k) (λ z. omega (arith, z))) refl
changed-at f (g ∷ gs) (suc a) zero l = rw (neq-eqb (suc a) zero (λ z. omega (arith, z))) refl
changed-at f (g ∷ gs) (suc a) (suc k) l = rw (suc-eqb a k) (changed-at f gs a k (omega arith))

with-at : (m : ℕ) (t : Taken) (gs : List Gauge) (k : ℕ) → k < length gs → get_or (gauges_with m t gs) k zeros ≡ gauge_with (m + k) t (get_or gs k zeros)
with-at m t [] k l = absurd (omega arith)
with-at m t (g ∷ gs) zero l = ap (λ j. gauge_with j t g) (omega arith)
with-at m t (g ∷ gs) (suc k) l = with-at (m + 1) t gs k (omega arith) ∙ ap (λ j. gauge_with j t (get_or gs k zeros)) (omega arith)

pub length-with : (m : ℕ) (t : Taken) (gs : List Gauge) → length (gauges_with m t gs) ≡ length gs
length-with m t [] = refl
length-with m t (g ∷ gs) = ap suc (length-with (m + 1) t gs)

by_index : (gs hs : List Gauge) → length gs ≡ length hs → ((k : ℕ) → k < length hs → get_or gs k zeros ≡ get_or hs k zeros) → gs ≡ hs
by_index [] [] e at = refl
by_index [] (h ∷ hs) e at = absurd (omega (arith, e))
by_index (g ∷ gs) [] e at = absurd (omega (arith, e))
by_index (g ∷ gs) (h ∷ hs) e at =
    let head : g ≡ h = at zero (omega arith) in
    let tail : gs ≡ hs = by_index gs hs (omega (arith, e)) (λ k l. at (suc k) (omega (arith, l))) in
    cc

same-eqb : (a b : ℕ) → 1 ≤ a → eqb (a - 1) b ≡ eqb a (1 + b)
same-eqb a b l =
    elim (eqb_tells a (1 + b)) [
      | inl is ↦ eq-eqb (a - 1) b (omega (arith, is.1, l)) ∙ sym is.0
      | inr other ↦ neq-eqb (a - 1) b (λ z. other.1 (omega (arith, z, l))) ∙ sym other.0
    ]

plus_zero : (k : ℕ) → k + 0 ≡ k
plus_zero k = omega arith

module _ (t : Taken) (gs : List Gauge) (among : IsAmong (length gs) t) where
  abbrev own : List Gauge
  own = changed_at one_more (t.node - 1) gs

  own-at : (k : ℕ) → get_or own k zeros ≡ (if eqb t.node (1 + k) then one_more (get_or gs k zeros) else get_or gs k zeros)
  own-at k =
      changed-at one_more gs (t.node - 1) k (omega (arith, among.some, among.node))
      ∙ ap (λ b. if b then one_more (get_or gs k zeros) else get_or gs k zeros) (same-eqb t.node k among.some)

  length-own : length own ≡ length gs
  length-own = length-changed one_more gs (t.node - 1) (one_more (get_or gs (t.node - 1) zeros))

  alone : (b : Bool) (g : Gauge) → (if b then one_more g else g) ≡ record { handed = g.handed + (if b then 1 else 0); settled = g.settled + 0; worst = g.worst; size = g.size }
  alone true g = ap (λ s. record { handed = g.handed + 1; settled = s; worst = g.worst; size = g.size }) (sym (plus_zero g.settled))
  alone false g =
      ap (λ h. record { handed = h; settled = g.settled; worst = g.worst; size = g.size }) (sym (plus_zero g.handed))
      ∙ ap (λ s. record { handed = g.handed + 0; settled = s; worst = g.worst; size = g.size }) (sym (plus_zero g.settled))

  -- no node reads the row
  pub noted_alone : t.reader ≡ 0 → own ≡ gauges_with 1 t gs
  noted_alone none =
      by_index own (gauges_with 1 t gs) (length-own ∙ sym (length-with 1 t gs)) (λ k l.
      let unread : eqb t.reader (1 + k) ≡ false = neq-eqb t.reader (1 + k) (λ z. omega (arith, z, none)) in
      own-at k ∙ alone (eqb t.node (1 + k)) (get_or gs k zeros) ∙ (rw unread refl)
      ∙ sym (with-at 1 t gs k (omega (arith, l, length-with 1 t gs))))

  both : (b r : Bool) (g : Gauge) → (if r then read_by t (if b then one_more g else g) else (if b then one_more g else g))
      ≡ record { handed = g.handed + (if b then 1 else 0); settled = g.settled + (if r then t.settled else 0); worst = (if r then max g.worst t.worst else g.worst); size = g.size }
  both true true g = refl
  both false true g = ap (λ h. record { handed = h; settled = g.settled + t.settled; worst = max g.worst t.worst; size = g.size }) (sym (plus_zero g.handed))
  both b false g = alone b g

  -- one does
  pub noted_both : 1 ≤ t.reader → changed_at (read_by t) (t.reader - 1) own ≡ gauges_with 1 t gs
  noted_both some =
      by_index (changed_at (read_by t) (t.reader - 1) own) (gauges_with 1 t gs)
      (length-changed (read_by t) own (t.reader - 1) (read_by t (get_or own (t.reader - 1) zeros)) ∙ length-own ∙ sym (length-with 1 t gs)) (λ k l.
      changed-at (read_by t) own (t.reader - 1) k (omega (arith, some, among.reader, length-own))
      ∙ ap (λ b. if b then read_by t (get_or own k zeros) else get_or own k zeros) (same-eqb t.reader k some)
      ∙ ap (λ g. if eqb t.reader (1 + k) then read_by t g else g) (own-at k)
      ∙ both (eqb t.node (1 + k)) (eqb t.reader (1 + k)) (get_or gs k zeros)
      ∙ sym (with-at 1 t gs k (omega (arith, l, length-with 1 t gs))))

  module _ (counted : All IsCounted (gauges_with 1 t gs)) where
    counted-at : (a : ℕ) → 1 ≤ a → a ≤ length gs → IsCounted (gauge_with a t (get_or gs (a - 1) zeros))
    counted-at a l h =
        let within : a - 1 < length gs = omega arith in
        subst IsCounted (with-at 1 t gs (a - 1) within ∙ ap (λ j. gauge_with j t (get_or gs (a - 1) zeros)) (omega (arith, l)))
        (All-get_or IsCounted (gauges_with 1 t gs) (a - 1) zeros (omega (arith, within, length-with 1 t gs)) counted)

    pub handed_fits : (get_or gs (t.node - 1) zeros).handed + 1 < 2 ^ 128
    handed_fits =
        let is : eqb t.node t.node ≡ true = eq-eqb t.node t.node refl in
        subst (λ b. (get_or gs (t.node - 1) zeros).handed + (if b then 1 else 0) < 2 ^ 128) is (counted-at t.node among.some among.node).handed

    pub settled_fits : 1 ≤ t.reader → (get_or own (t.reader - 1) zeros).settled + t.settled < 2 ^ 128
    settled_fits some =
        let is : eqb t.reader t.reader ≡ true = eq-eqb t.reader t.reader refl in
        let g : Gauge = get_or gs (t.reader - 1) zeros in
        let same : (get_or own (t.reader - 1) zeros).settled ≡ g.settled = ap (λ x. x.settled) (own-at (t.reader - 1)) ∙ kept (eqb t.node (1 + (t.reader - 1))) g in
        let fits : g.settled + t.settled < 2 ^ 128 = subst (λ b. g.settled + (if b then t.settled else 0) < 2 ^ 128) is (counted-at t.reader some among.reader).settled in
        omega (arith, same, fits)
      where
        kept : (b : Bool) (g : Gauge) → (if b then one_more g else g).settled ≡ g.settled
        kept true g = refl
        kept false g = refl

-- a list that was written over by one as long
pub written_over : (n : ℕ) (new old : List Gauge) → length new ≡ length old → n ≡ length old → take n (new ++ drop (length new) old) ≡ new
written_over n new old same is =
    take-append-le n new (drop (length new) old) (omega (arith, same, is)) ∙ take_all n new (omega (arith, same, is))
