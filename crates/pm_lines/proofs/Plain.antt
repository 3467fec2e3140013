-- records without quotes
use Rattle.std.proofs.Common.{◌≡◌, ◌<◌, ◌≤◌, ◌==◌, ℕ, suc, ◌+◌, List, [], ◌∷◌, ◌++◌, length, drop, if◌then◌else◌, false, get_or, All, refl, sym, ap, ◌∙◌, append_assoc, arith}
use Rattle.std.proofs.Math.Seq.{drop-cons}
use Rattle.std.proofs.lemmas.Bool.{ne_eqb}
use Rattle.std.proofs.lemmas.List.{append-nil, at_drop_all}
use Rattle.std.proofs.lemmas.List.Elements.{All-get_or}
use Rattle.csv.specs.Writing.{default_writer, field_text, fields_text, quoted, row_text, is_blank}
use Rattle.pm_lines.specs.Plain.{IsBare, IsPlain}

bare_text : (field : List ℕ) → IsBare field → field_text default_writer field ≡ field
bare_text field bare = ap (λ b. if b then quoted default_writer field else field) bare

-- the text of the fields from a position on begins with a comma and the field there
next_field : (fields : List (List ℕ)) (i : ℕ) (field : List ℕ) → i < length fields → field ≡ get_or fields i field → All IsBare fields →
    fields_text default_writer (drop i fields) ≡ 44 ∷ (field ++ fields_text default_writer (drop (i + 1) fields))
unfolding fields_text
next_field fields i field within at bare =
    let next : suc i ≡ i + 1 = omega arith in
    ap (fields_text default_writer) (drop-cons fields i field within)
    ∙ ap (λ t. 44 ∷ (t ++ fields_text default_writer (drop (suc i) fields))) (bare_text _ (All-get_or IsBare fields i field within bare) ∙ sym at)
    ∙ ap (λ n. 44 ∷ (field ++ fields_text default_writer (drop n fields))) next

regroup : (line field rest : List ℕ) → ((line ++ 44 ∷ []) ++ field) ++ rest ≡ line ++ (44 ∷ (field ++ rest))
regroup line field rest = simp append_assoc

-- after a comma and the next field, what is to come is shorter by them
pub with_next : (line parted grown field : List ℕ) (fields : List (List ℕ)) (i : ℕ) → parted ≡ line ++ 44 ∷ [] → grown ≡ parted ++ field →
    i < length fields → field ≡ get_or fields i field → All IsBare fields →
    grown ++ fields_text default_writer (drop (i + 1) fields) ≡ line ++ fields_text default_writer (drop i fields)
with_next line parted grown field fields i comma more within at bare =
    ap (λ t. t ++ fields_text default_writer (drop (i + 1) fields)) (more ∙ ap (λ t. t ++ field) comma)
    ∙ regroup line field (fields_text default_writer (drop (i + 1) fields))
    ∙ ap (λ t. line ++ t) (sym (next_field fields i field within at bare))

shows_something : (first : List ℕ) (rest : List (List ℕ)) → IsPlain first rest → is_blank default_writer (first ∷ rest) ≡ false
unfolding is_blank
shows_something first [] plain = ap (λ t. length t == 0) (bare_text first plain.first_bare) ∙ ne_eqb (length first) 0 (λ e. omega (arith, e, plain.shows))
shows_something first (next ∷ rest) plain = refl

plain_row : (first : List ℕ) (rest : List (List ℕ)) → IsPlain first rest →
    row_text default_writer (first ∷ rest) ≡ (first ++ fields_text default_writer rest) ++ 10 ∷ []
plain_row first rest plain =
    ap (λ t. (t ++ fields_text default_writer rest) ++ ((if is_blank default_writer (first ∷ rest) then 34 ∷ 34 ∷ [] else []) ++ 10 ∷ [])) (bare_text first plain.first_bare)
    ∙ ap (λ b. (first ++ fields_text default_writer rest) ++ ((if b then 34 ∷ 34 ∷ [] else []) ++ 10 ∷ [])) (shows_something first rest plain)

nothing_left : (fields : List (List ℕ)) (i : ℕ) → length fields ≤ i → fields_text default_writer (drop i fields) ≡ []
unfolding fields_text
nothing_left fields i h = at_drop_all (fields_text default_writer) fields i h

-- a line that has all fields is ended by a line feed
pub with_end : (before line ended first : List ℕ) (rest : List (List ℕ)) (i : ℕ) → ended ≡ line ++ 10 ∷ [] → length rest ≤ i →
    line ++ fields_text default_writer (drop i rest) ≡ before ++ (first ++ fields_text default_writer rest) → IsPlain first rest →
    ended ≡ before ++ row_text default_writer (first ∷ rest)
with_end before line ended first rest i end past all plain =
    let whole : line ≡ before ++ (first ++ fields_text default_writer rest)
    = sym (append-nil line) ∙ ap (λ t. line ++ t) (sym (nothing_left rest i past)) ∙ all in
    end ∙ ap (λ t. t ++ 10 ∷ []) whole ∙ append_assoc before (first ++ fields_text default_writer rest) (10 ∷ [])
    ∙ ap (λ t. before ++ t) (sym (plain_row first rest plain))
