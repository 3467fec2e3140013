-- a header and the names of columns, field by field
use Rattle.std.proofs.Common.{◌≡◌, ◌≢◌, ◌∙◌, ◌<◌, ◌+◌, ◌++◌, ℕ, zero, suc, Some, List, [], ◌∷◌, length, get_or, take, refl, sym, ap, arith, add-one, slice_get}
use Rattle.std.proofs.Math.Seq.{take-length}
use Rattle.csv.specs.Records.{field_at}
use Rattle.pm_values.specs.declared.table.ColumnDecl.{ColumnDecl}
use Rattle.pm_tables.specs.Reading.{names_of}

pub field_is_get : (fields : List (List ℕ)) (i : ℕ) → field_at fields i ≡ slice_get fields i
unfolding field_at
field_is_get [] i = refl
field_is_get (f ∷ fs) zero = refl
field_is_get (f ∷ fs) (suc i) = field_is_get fs i

take_suc : (xs : List (List ℕ)) (i : ℕ) (x : List ℕ) → slice_get xs i ≡ Some x → take (suc i) xs ≡ take i xs ++ x ∷ []
take_suc [] i x e = cc e
take_suc (y ∷ xs) zero x e = let same : y ≡ x = cc e in ap (λ z. z ∷ []) same
take_suc (y ∷ xs) (suc i) x e = ap (λ z. y ∷ z) (take_suc xs i x e)

pub take_get : (xs : List (List ℕ)) (i : ℕ) (x : List ℕ) → slice_get xs i ≡ Some x → take (i + 1) xs ≡ take i xs ++ x ∷ []
take_get xs i x e = rw add-one (take_suc xs i x e)

pub name_at : (columns : List ColumnDecl) (i : ℕ) (column : ColumnDecl) → i < length columns → column ≡ get_or columns i column
    → slice_get (names_of columns) i ≡ Some column.name
name_at [] i column lt is = absurd (omega arith)
name_at (c ∷ columns) zero column lt is = ap (λ (d : ColumnDecl). Some d.name) (sym is)
name_at (c ∷ columns) (suc i) column lt is = name_at columns i column (omega arith) is

pub names_length : (columns : List ColumnDecl) → length (names_of columns) ≡ length columns
names_length [] = refl
names_length (c ∷ columns) = ap suc (names_length columns)

-- both agree as far as they are compared, and one field more
pub same_more : (header : List (List ℕ)) (columns : List ColumnDecl) (i : ℕ) (column : ColumnDecl) → take i header ≡ take i (names_of columns)
    → i < length columns → column ≡ get_or columns i column → slice_get header i ≡ Some column.name
    → take (i + 1) header ≡ take (i + 1) (names_of columns)
same_more header columns i column same lt is here =
    take_get header i column.name here ∙ ap (λ front. front ++ column.name ∷ []) same ∙ sym (take_get (names_of columns) i column.name (name_at columns i column lt is))

-- both agree on all names, and the header has not so many fields
pub other_length : (header names : List (List ℕ)) (n : ℕ) → n ≡ length names → take n header ≡ take n names → length header ≢ n
    → slice_get header n ≢ slice_get names n
other_length [] [] zero all same other = absurd (other refl)
other_length (h ∷ header) [] zero all same other = λ e. cc e
other_length header [] (suc n) all same other = absurd (omega arith)
other_length header (m ∷ names) zero all same other = absurd (omega arith)
other_length [] (m ∷ names) (suc n) all same other = cc same
other_length (h ∷ header) (m ∷ names) (suc n) all same other =
    let rest : take n header ≡ take n names = cc same in
    other_length header names n (omega arith) rest (λ e. other (ap suc e))

pub all_same : (header names : List (List ℕ)) (n : ℕ) → n ≡ length names → n ≡ length header → take n header ≡ take n names → header ≡ names
all_same header names n all also same =
    let left : take n header ≡ header = rw also (take-length header) in
    let right : take n names ≡ names = rw all (take-length names) in
    rw (left, right) at same

pub same_some : {x y : List ℕ} → Some x ≡ Some y → x ≡ y
same_some e = cc e
