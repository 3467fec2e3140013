-- What checks of references find, together.
use Rattle.std.proofs.Common.{◌≡◌, ◌≢◌, ◌<◌, ◌≤◌, ◌+◌, ◌∙◌, ◌⊎◌, ℕ, ap, sym, subst, length, slice_get, Some, refl, inl, inr, arith}
use Rattle.std.specs.Prelude.{All}
use Rattle.std.proofs.lemmas.Bool.{cases_order}
use Rattle.std.proofs.lemmas.Option.{slice_get_within, get_or_from_slice_get}
use Rattle.pm_values.specs.References.{ReferenceHolds}
use Rattle.pm_values.specs.Table.{Relation}
use Rattle.pm_plan.specs.Rows.{Db}
use Rattle.pm_query.specs.declared.query.Query.{Query}
use Rattle.pm_query.specs.declared.query.QueryTable.{QueryTable}
use Rattle.pm_tables.specs.declared.fault.DataBad.{DataBad}
use Rattle.pm_tables.specs.declared.fault.DataBad.TheVariants as bad
use Rattle.pm_tables.specs.References.{FaultsReference, reference_of}
use Rattle.pm_requests.specs.declared.refusal.Refusal.{Refusal}
use Rattle.pm_requests.specs.declared.refusal.Refusal.TheVariants as refusal
use Rattle.pm_requests.specs.References.{Refers, HoldsBetween, AllHold, IsFaultOf}
use Rattle.pm_requests.specs.Checks.{HasFewReferences, FindsOfPair, FindsOfNumber, FindsOfTable, Finds}
use Rattle.pm_requests.specs.Calls.{IfRefused}
use Rattle.pm_requests.proofs.Stages.{refused_so}

-- what the check of one reference to one table finds
pub pair_found : (child parent : Relation) (number : ℕ) (e : DataBad) → (reference_of child.decl number).target ≡ parent.decl.name
    → FaultsReference (reference_of child.decl number) number child.rows parent.rows e → FindsOfPair child number parent e
pair_found child parent number (bad.NoTarget r n) named h = inr (named, (λ same. cc same), h)
pair_found child parent number bad.Memory named h = inl refl
pair_found child parent number bad.TooLong named h = absurd h
pair_found child parent number (bad.NotText n) named h = absurd h
pair_found child parent number bad.NoHeader named h = absurd h
pair_found child parent number (bad.Header c) named h = absurd h
pair_found child parent number bad.TooManyRows named h = absurd h
pair_found child parent number (bad.Width at) named h = absurd h
pair_found child parent number (bad.Field at column) named h = absurd h
pair_found child parent number (bad.DoubleKey a b) named h = absurd h
pair_found child parent number (bad.OutOfOrder at) named h = absurd h

one_there : (db : Db) (i : ℕ) (a b : Relation) → slice_get db i ≡ Some a → slice_get db i ≡ Some b → a ≡ b
one_there db i a b h k = let same : Some a ≡ Some b = sym h ∙ k in cc same

-- it holds between the tables at these positions
pub holds_here : (db : Db) (i number j : ℕ) (child parent : Relation) → slice_get db i ≡ Some child → slice_get db j ≡ Some parent
    → ((reference_of child.decl number).target ≡ parent.decl.name → ReferenceHolds (reference_of child.decl number) child.rows parent.rows) → HoldsBetween db i number j
holds_here db i number j child parent at to here child' parent' refers =
    let own = one_there db i child child' at refers.child_at in
    let other = one_there db j parent parent' to refers.parent_at in
    let named : (reference_of child.decl number).target ≡ parent.decl.name = ap (λ t. (reference_of t.decl number).target) own ∙ refers.named ∙ sym (ap (λ t. t.decl.name) other) in
    subst (λ t. ReferenceHolds (reference_of t.decl number) t.rows parent'.rows) own (subst (λ t. ReferenceHolds (reference_of child.decl number) child.rows t.rows) other (here named))

pub holds_more : (db : Db) (i number j : ℕ) → ((k : ℕ) → k < j → HoldsBetween db i number k) → HoldsBetween db i number j → (k : ℕ) → k < j + 1 → HoldsBetween db i number k
holds_more db i number j before here k lt = elim (cases_order k j) [
  | inl same ↦ subst (HoldsBetween db i number) (sym same) here
  | inr other ↦ elim other [ inl low ↦ before k low | inr high ↦ absurd (omega arith) ]
]

-- there are no further tables
pub holds_to_all : (db : Db) (i number : ℕ) → ((k : ℕ) → k < length db → HoldsBetween db i number k) → (j : ℕ) → HoldsBetween db i number j
holds_to_all db i number each j child parent refers = each j (slice_get_within db j parent refers.parent_at) child parent refers

pub number_found : (db : Db) (i number j : ℕ) (child parent : Relation) (e : DataBad) → slice_get db i ≡ Some child → slice_get db j ≡ Some parent → 1 ≤ number → number ≤ length child.decl.references
    → ((k : ℕ) → k < j → HoldsBetween db i number k) → FindsOfPair child number parent e → FindsOfNumber db i number e
number_found db i number j child parent e at to low high before (inl none) = inl none
number_found db i number j child parent e at to low high before (inr h) =
    let refers : Refers db i number j child parent = record { child_at = at; parent_at = to; from = low; to = high; named = h.0 } in
    inr (j, record { child = child; parent = parent; refers = refers; faults = h.2; real = h.1 }, before)

-- no reference has the number 0, and none a number past the last
pub holds_at_none : (db : Db) (i j : ℕ) → HoldsBetween db i 0 j
holds_at_none db i j child parent refers = absurd (omega (arith, refers.from))

pub holds_more_numbers : (db : Db) (i n : ℕ) → ((m k : ℕ) → m ≤ n → HoldsBetween db i m k) → ((k : ℕ) → HoldsBetween db i (n + 1) k) → (m k : ℕ) → m ≤ n + 1 → HoldsBetween db i m k
holds_more_numbers db i n before here m k le = elim (cases_order m (n + 1)) [
  | inl same ↦ subst (λ m. HoldsBetween db i m k) (sym same) (here k)
  | inr other ↦ elim other [ inl low ↦ before m k (omega arith) | inr high ↦ absurd (omega arith) ]
]

pub holds_of_all : (db : Db) (i : ℕ) (child : Relation) → slice_get db i ≡ Some child → ((m k : ℕ) → m ≤ length child.decl.references → HoldsBetween db i m k) → (m k : ℕ) → HoldsBetween db i m k
holds_of_all db i child at each m k child' parent refers =
    let own = one_there db i child' child refers.child_at at in
    let within : m ≤ length child.decl.references = subst (λ t. m ≤ length t.decl.references) own refers.to in
    each m k within child' parent refers

pub table_found : (db : Db) (i n : ℕ) (e : DataBad) → ((m k : ℕ) → m ≤ n → HoldsBetween db i m k) → FindsOfNumber db i (n + 1) e → FindsOfTable db i e
table_found db i n e before (inl none) = inl none
table_found db i n e before (inr h) = inr (n + 1, h.0, h.1, h.2, λ m k lt. before m k (omega arith))

-- ---- all tables

pub holds_more_tables : (db : Db) (i : ℕ) → ((h m k : ℕ) → h < i → HoldsBetween db h m k) → ((m k : ℕ) → HoldsBetween db i m k) → (h m k : ℕ) → h < i + 1 → HoldsBetween db h m k
holds_more_tables db i before here h m k lt = elim (cases_order h i) [
  | inl same ↦ subst (λ h. HoldsBetween db h m k) (sym same) (here m k)
  | inr other ↦ elim other [ inl low ↦ before h m k low | inr high ↦ absurd (omega arith) ]
]

pub all_hold : (db : Db) → ((h m k : ℕ) → h < length db → HoldsBetween db h m k) → AllHold db
all_hold db each i m k child parent refers = each i m k (slice_get_within db i child refers.child_at) child parent refers

pub found_all : (db : Db) (i : ℕ) (e : DataBad) → ((h m k : ℕ) → h < i → HoldsBetween db h m k) → FindsOfTable db i e → Finds db i e
found_all db i e before (inl none) = inl none
found_all db i e before (inr h) = inr (record { number = h.0; target = h.1; faults = h.2; first = first })
  where
    first : (t m k : ℕ) → (t < i) ⊎ (t ≡ i) × (m < h.0) ⊎ (t ≡ i) × (m ≡ h.0) × (k < h.1) → HoldsBetween db t m k
    first t m k (inl lt) = before t m k lt
    first t m k (inr (inl both)) = subst (λ t. HoldsBetween db t m k) (sym both.0) (h.4 m k both.1)
    first t m k (inr (inr all)) = subst (λ t. HoldsBetween db t m k) (sym all.0) (subst (λ m. HoldsBetween db i m k) (sym all.1) (h.3 k all.2))

-- a fault is refused
pub fault_refused : (query : Query) (db : Db) (position : ℕ) (table : QueryTable) (e : DataBad) (r : Refusal) → slice_get query.tables position ≡ Some table → e ≢ bad.Memory → Finds db position e
    → IfRefused (λ r. r ≡ refusal.Table table.place table.decl.name e) r → IfRefused (IsFaultOf query db) r
fault_refused query db position table e r there real (inl none) so = absurd (real none)
fault_refused query db position table e r there real (inr faults) so =
    refused_so (λ r. r ≡ refusal.Table table.place table.decl.name e) (IsFaultOf query db) (λ r is. record { position = position; table = table; fault = e; there = there; faults = faults; is = is }) r so

-- a table of a database of few references has few
pub few_there : (db : Db) (i : ℕ) (child : Relation) → All (λ table. HasFewReferences table.decl) db → slice_get db i ≡ Some child → HasFewReferences child.decl
few_there db i child few at = subst (λ t. HasFewReferences t.decl) (get_or_from_slice_get db i child child at) (few i child (slice_get_within db i child at))
