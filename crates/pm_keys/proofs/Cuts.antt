-- keys of one width that stand in one list of values: their number, their widths, their values, and one key more
use Rattle.std.proofs.Common.{◌≡◌, ◌∙◌, ◌<◌, ◌≤◌, ◌+◌, ◌*◌, ℕ, zero, suc, List, [], ◌∷◌, ◌++◌, length, get_or, take, drop, refl, ap, arith, length-drop}
use Rattle.std.specs.Prelude.{All}
use Rattle.std.proofs.lemmas.List.{get_or-take, get_or-drop, length-take-le, take-append-le, drop-append-le, take_all, nil_from_length}
use Rattle.std.proofs.lemmas.List.Elements.{All-nil, All-cons}
use Rattle.pm_values.specs.declared.value.Value.{Value}
use Rattle.pm_values.specs.declared.value.Value.TheVariants as value
use Rattle.pm_values.specs.Row.{Row, cell}
use Rattle.pm_keys.specs.Numbers.{HasWidth}
use Rattle.pm_keys.specs.Cuts.{cut}

pub length-cut : (width count : ℕ) (values : List Value) → length (cut width count values) ≡ count
length-cut width zero values = refl
length-cut width (suc count) values = ap suc (length-cut width count (drop width values))

more_than_one : (width count : ℕ) → suc count * width ≡ width + count * width
more_than_one width count = grind arith

pub cut-wide : (width count : ℕ) (values : List Value) → length values ≡ count * width → All (HasWidth width) (cut width count values)
cut-wide width zero values full = All-nil (HasWidth width)
cut-wide width (suc count) values full =
    All-cons (HasWidth width) (take width values) (cut width count (drop width values))
    (length-take-le width values (omega (arith, more_than_one width count)))
    (cut-wide width count (drop width values) (omega (arith, length-drop width values, more_than_one width count)))

pub cut-cell : (width count : ℕ) (values : List Value) (n at : ℕ) → n < count → at < width → cell (get_or (cut width count values) n []) at ≡ get_or values (n * width + at) value.Null
cut-cell width zero values n at within inside = absurd (omega arith)
cut-cell width (suc count) values zero at within inside = get_or-take width values at value.Null inside ∙ ap (λ i. get_or values i value.Null) (omega arith)
cut-cell width (suc count) values (suc n) at within inside =
    cut-cell width count (drop width values) n at (omega arith) inside
    ∙ get_or-drop width values (n * width + at) value.Null
    ∙ ap (λ i. get_or values i value.Null) (omega (arith, more_than_one width n))

pub cut-append : (width count : ℕ) (values : List Value) (key : Row) → length values ≡ count * width → length key ≡ width → cut width (suc count) (values ++ key) ≡ cut width count values ++ key ∷ []
cut-append width zero values key full wide =
    let none : values ≡ [] = nil_from_length values (omega arith) in
    ap (λ vs. take width (vs ++ key) ∷ []) none ∙ ap (λ k. k ∷ []) (take_all width key (omega arith))
cut-append width (suc count) values key full wide =
    let room : width ≤ length values = omega (arith, more_than_one width count) in
    let rest : length (drop width values) ≡ count * width = omega (arith, length-drop width values, more_than_one width count) in
    let first : take width (values ++ key) ≡ take width values = take-append-le width values key room in
    let others : drop width (values ++ key) ≡ drop width values ++ key = drop-append-le width values key room in
    (λ i. first i ∷ cut width (suc count) (others i)) ∙ ap (λ ks. take width values ∷ ks) (cut-append width count (drop width values) key rest wide)
