-- records in one list of fields
use Rattle.std.proofs.Common.{◌≡◌, ◌∙◌, ◌≤◌, ◌<◌, ◌+◌, ◌-◌, ◌++◌, ℕ, zero, suc, Some, List, [], ◌∷◌, length, get_or, take, drop, refl, ap, arith, slice_range}
use Rattle.std.proofs.lemmas.List.{drop-append-le, length-append, get_or-drop, get_or-take, length-drop, length-take-le, take-append-le, take_all}
use Rattle.std.proofs.Math.Seq.{drop-append_seam}
use Rattle.csv.specs.Records.{Rising, field_at, last_end, prev}
use Rattle.csv.proofs.RecordFacts.{rising-end, rising-first, rising-last, rising-shrink}
use Rattle.pm_tables.specs.Records.{cut}

-- one record for each position
pub cut-length : (start : ℕ) (ends : List ℕ) (fields : List (List ℕ)) → length (cut start ends fields) ≡ length ends
unfolding cut
cut-length start [] fields = refl
cut-length start (end ∷ ends) fields = ap suc (cut-length end ends fields)

-- the record at a position is the fields between its start and its end
pub cut-at : (start : ℕ) (ends : List ℕ) (fields : List (List ℕ)) (i : ℕ) → i < length ends
    → get_or (cut start ends fields) i [] ≡ take (get_or ends i 0 - prev start ends i) (drop (prev start ends i) fields)
unfolding cut prev
cut-at start [] fields i lt = absurd (omega arith)
cut-at start (end ∷ ends) fields zero lt = refl
cut-at start (end ∷ ends) fields (suc i) lt = cut-at end ends fields i (omega arith)

-- some fields of a list in a row
pub range_length : (fields : List (List ℕ)) (start end : ℕ) → end ≤ length fields → length (slice_range fields start end) ≡ end - start
range_length fields start end high = length-take-le (end - start) (drop start fields) (omega (arith, length-drop start fields, high))

pub range_at : (fields : List (List ℕ)) (start end k : ℕ) → k < end - start → get_or (slice_range fields start end) k [] ≡ get_or fields (start + k) []
range_at fields start end k few = get_or-take (end - start) (drop start fields) k [] few ∙ get_or-drop start fields k []

-- further fields change no record
pub cut-more : (start : ℕ) (ends : List ℕ) (fields more : List (List ℕ)) → Rising start ends (length fields) → cut start ends (fields ++ more) ≡ cut start ends fields
unfolding cut Rising
cut-more start [] fields more h = refl
cut-more start (end ∷ ends) fields more h =
    let up = rising-first end ends (length fields) h.1 in
    let low = h.0 in
    let at : start ≤ length fields = omega arith in
    let size = length-drop start fields in
    let fits : end - start ≤ length (drop start fields) = omega arith in
    let head : take (end - start) (drop start (fields ++ more)) ≡ take (end - start) (drop start fields) =
    rw (drop-append-le start fields more at) (take-append-le (end - start) (drop start fields) more fits) in
    rw (head, cut-more end ends fields more h.1) refl

-- a record that ends at the end of the fields
pub cut-end : (start : ℕ) (ends : List ℕ) (fields : List (List ℕ)) → Rising start ends (length fields)
    → cut start (ends ++ (length fields ∷ [])) fields ≡ cut start ends fields ++ (drop (last_end start ends) fields ∷ [])
unfolding cut Rising last_end
cut-end start [] fields h =
    let size = length-drop start fields in
    let all : length (drop start fields) ≤ length fields - start = omega arith in
    rw (take_all (length fields - start) (drop start fields) all) refl
cut-end start (end ∷ ends) fields h = rw (cut-end end ends fields h.1) refl

pub field_there : (fields : List (List ℕ)) (i : ℕ) → i < length fields → field_at fields i ≡ Some (get_or fields i [])
unfolding field_at
field_there [] i lt = absurd (omega arith)
field_there (f ∷ fs) zero lt = refl
field_there (f ∷ fs) (suc i) lt = field_there fs i (omega arith)

rising_more : (ends : List ℕ) (size more : ℕ) → Rising 0 ends size → size ≤ more → Rising 0 ends more
rising_more ends size more h le = rising-shrink 0 ends size more h (omega (arith, rising-last 0 ends size h, le))

-- one more record at the end
pub rising_push : (ends : List ℕ) (fields more : List (List ℕ)) → Rising 0 ends (length fields)
    → Rising 0 (ends ++ length (fields ++ more) ∷ []) (length (fields ++ more))
rising_push ends fields more h = rising-end 0 ends (length (fields ++ more)) (rising_more ends _ _ h (omega (arith, length-append fields more)))

pub cut_push : (ends : List ℕ) (fields more : List (List ℕ)) → Rising 0 ends (length fields) → last_end 0 ends ≡ length fields
    → cut 0 (ends ++ length (fields ++ more) ∷ []) (fields ++ more) ≡ cut 0 ends fields ++ more ∷ []
cut_push ends fields more h whole =
    let wide = rising_more ends (length fields) (length (fields ++ more)) h (omega (arith, length-append fields more)) in
    let tail : drop (last_end 0 ends) (fields ++ more) ≡ more = rw whole (drop-append_seam fields more) in
    cut-end 0 ends (fields ++ more) wide ∙ ap (λ l. l ++ drop (last_end 0 ends) (fields ++ more) ∷ []) (cut-more 0 ends fields more h)
    ∙ ap (λ t. cut 0 ends fields ++ t ∷ []) tail
