-- parts of the records, one after the other
use Rattle.std.proofs.Common.{◌≡◌, ◌∙◌, ◌≤◌, ◌<◌, ◌+◌, ◌-◌, ◌*◌, ◌/◌, ◌++◌, ℕ, List, [], ◌∷◌, Result, Ok, Err, take, drop, ap, sym, subst, arith, slice_range, inl, inr}
use Rattle.std.proofs.Math.Nat.{div-le_self, div-mul-le_self, mul-le-mul_right, mul-div_cancel_left}
use Rattle.std.proofs.Math.Seq.{take-add}
use Rattle.std.proofs.lemmas.Nat.{le-div}
use Rattle.std.proofs.lemmas.List.{drop-drop}
use Rattle.pm_values.specs.declared.value.Value.{Value}
use Rattle.pm_values.specs.declared.table.ColumnDecl.{ColumnDecl}
use Rattle.pm_tables.specs.declared.fault.DataBad.{DataBad}
use Rattle.pm_tables.specs.Typing.{FaultsFirst, WritesRows}
use Rattle.pm_load.specs.Parts.{Types, Joins, cut}

-- two lists of records
rows_both : (columns : List ColumnDecl) (front back : List (List (List ℕ))) (xs ys : List (List Value)) → WritesRows columns front xs → WritesRows columns back ys
    → WritesRows columns (front ++ back) (xs ++ ys)
rows_both columns [] back [] ys a b = b
rows_both columns [] back (x ∷ xs) ys a b = absurd a
rows_both columns (r ∷ front) back [] ys a b = absurd a
rows_both columns (r ∷ front) back (x ∷ xs) ys a b = (a.0, rows_both columns front back xs ys a.1 b)

-- two ranges that meet
range_both : (records : List (List (List ℕ))) (a b c : ℕ) → a ≤ b → b ≤ c → slice_range records a c ≡ slice_range records a b ++ slice_range records b c
range_both records a b c low mid =
    let count : c - a ≡ (b - a) + (c - b) = omega arith in
    let position : a + (b - a) ≡ b = omega arith in
    rw count (take-add (b - a) (c - b) (drop a records)
    ∙ ap (λ l. take (b - a) (drop a records) ++ take (c - b) l) (drop-drop (b - a) a records ∙ ap (λ k. drop k records) position))

pub cut_ordered : (n w i j : ℕ) → 0 < w → i ≤ j → cut n w i ≤ cut n w j
cut_ordered n w i j some order = le-div (i * n / w) (j * n) w some (let a = div-mul-le_self (i * n) w in let b = mul-le-mul_right n order in omega arith)

pub cut_none : (n w : ℕ) → cut n w 0 ≡ 0
cut_none n w = let h = div-le_self (0 * n) w in omega arith

pub cut_all : (n w : ℕ) → 0 < w → cut n w w ≡ n
cut_all n w some = mul-div_cancel_left n some

-- the answers of two parts that meet, put together
pub parts_joined : (columns : List ColumnDecl) (records : List (List (List ℕ))) (a b c : ℕ) (front back joined : Result (List (List Value)) DataBad) → a ≤ b → b ≤ c
    → Types columns records a b front → Types columns records b c back → Joins front back joined → Types columns records a c joined
parts_joined columns records a b c (Ok xs) (Ok ys) (Ok rows) low mid x y j =
    rw (j, range_both records a b c low mid) (rows_both columns (slice_range records a b) (slice_range records b c) xs ys x y)
parts_joined columns records a b c (Ok xs) (Ok ys) (Err e) low mid x y j = inl j
parts_joined columns records a b c (Ok xs) (Err e) joined low mid x y j = subst (Types columns records a c) (sym j) (later y)
  where
    later : FaultsFirst columns records b c e → FaultsFirst columns records a c e
    later (inl memory) = inl memory
    later (inr h) = inr (
      h.0,
      omega (arith, h.1),
      h.2,
      (xs ++ h.3.0, rw (range_both records a b h.0 low h.1) (rows_both columns (slice_range records a b) (slice_range records b h.0) xs h.3.0 x h.3.1)),
      h.4,
    )
parts_joined columns records a b c (Err e) back joined low mid x y j = subst (Types columns records a c) (sym j) (earlier x)
  where
    earlier : FaultsFirst columns records a b e → FaultsFirst columns records a c e
    earlier (inl memory) = inl memory
    earlier (inr h) = inr (h.0, h.1, omega (arith, h.2), h.3, h.4)
