-- the next event of an iterator over another
use Rattle.std.proofs.Common.{◌≡◌, ℕ, ◌+◌, Bool, true, false, eqb, arith, inl, inr, List, [], ◌∷◌, ◌++◌, length, refl, ap, sym, ◌∙◌}
use Rattle.std.specs.Prelude.{slice_get, Some, if◌then◌else◌}
use Rattle.std.proofs.lemmas.Option.{get_or_from_slice_get, slice_get_within}
use Rattle.std.proofs.lemmas.List.{get_or-map}
use Rattle.std.proofs.lemmas.Bool.{eq-eqb}
use Rattle.std.proofs.lemmas.Bool.Decides.{eqb_tells}
use Rattle.pm_values.specs.declared.value.Value.TheVariants.{Null}
use Rattle.pm_values.specs.Row.{Row, cell, pick}
use Rattle.pm_flows.specs.declared.taken.Taken.{Taken}
use Rattle.pm_flows.specs.Coming.{Coming, taken_by, taken_read, read, after}
use Rattle.pm_flows.specs.Flow.{Flow, is_free_by, TakesOne}

pub neq-eqb : (a b : ℕ) → (a ≡ b → ⊥) → eqb a b ≡ false
neq-eqb a b not = elim (eqb_tells a b) [ inl is ↦ absurd (not is.1) | inr other ↦ other.0 ]

-- the row that was called for is handed out
pub own_row : (n : ℕ) (free : Bool) (row : Row) (f g : Flow) → f.node ≡ n → f.rest ≡ record { taken = taken_by n; row = row; free = free } ∷ g.rest → g.hand ≡ row
    → TakesOne f (taken_by n) g
own_row n free row f g number next hand = record { row = row; free = free; next = next; below = omega (arith, number); hand = λ own. hand }

module _ (n reader : ℕ) (settles : Row → ℕ) (called : Row → List Coming) (taken : Taken) (old new : Flow) (h : TakesOne old taken new) (number : old.node ≡ n + 1)
    (f g : Flow) (f_number : f.node ≡ n) (f_rest : f.rest ≡ after (n + 1) (read reader settles) called old.rest) where
  -- the child has handed out a row
  pub over_own : (next : List Coming) (k : ℕ) → g.rest ≡ next ++ after (n + 1) (read reader settles) called new.rest → taken.node ≡ n + 1
      → next ≡ called new.hand → k ≡ settles new.hand → TakesOne f (taken_read reader k 0 taken) g
  over_own next k g_rest is rows count = record {
    row = h.row;
    free = h.free;
    next = rw (f_rest, g_rest, rows, count, h.hand (is ∙ sym number), h.next, eq-eqb taken.node (n + 1) is) refl;
    below = omega (arith, is, f_number);
    hand = λ own. absurd (omega (arith, is, own, f_number));
  }

  -- a deeper node has
  pub over_deep : g.rest ≡ after (n + 1) (read reader settles) called new.rest → (taken.node ≡ n + 1 → ⊥) → TakesOne f taken g
  over_deep g_rest not = record {
    row = h.row;
    free = h.free;
    next = rw (f_rest, g_rest, h.next, neq-eqb taken.node (n + 1) not) refl;
    below = omega (arith, number, h.below, f_number);
    hand = λ own. absurd (omega (arith, number, h.below, own, f_number));
  }

-- the step takes memory only where that of the child may
pub after_free : (c reader : ℕ) (settles : Row → ℕ) (called : Row → List Coming) (below : List Coming) (end : Bool)
    → is_free_by (after c (read reader settles) called below) end ≡ is_free_by below end
after_free c reader settles called [] end = refl
after_free c reader settles called (e ∷ es) end =
    elim (eqb e.taken.node c) as (λ b. (if b then read reader settles e else e).free ≡ e.free) [ true ↦ refl | false ↦ refl ]

-- one row or none
pub length-if : (b : Bool) (row : Row) → (if b then 1 else 0) ≡ length (if b then row ∷ [] else [])
length-if true row = refl
length-if false row = refl

pub cell-pick : (columns : List ℕ) (row : Row) (at column : ℕ) → slice_get columns at ≡ Some column → cell row column ≡ cell (pick columns row) at
cell-pick columns row at column is =
    sym (get_or-map (cell row) columns at 0 Null (slice_get_within columns at column is)
    ∙ ap (cell row) (get_or_from_slice_get columns at column 0 is))
