-- the records of a text have fields of text: bytes that end a field or are left out are ASCII
use Rattle.std.proofs.Common.{◌≡◌, ◌<◌, ◌+◌, ◌++◌, ◌==◌, ◌&&◌, ◌||◌, ◌⊎◌, ℕ, Bool, true, false, List, [], ◌∷◌, length, get_or, take, drop, Option, Some, None, refl, sym, subst, inl, inr, arith, append_assoc, append-nil, if◌then◌else◌, eqb-true, Bor}
use Rattle.std.specs.Prelude.{IsUtf8}
use Rattle.std.proofs.Math.Seq.{drop-append-add, get_or-append_seam, take-append_seam}
use lib.Utf8.{encode}
use Rattle.std.proofs.lemmas.Bool.{and_parts, cases_Bool, or_cases}
use Rattle.std.proofs.lemmas.List.{length-append}
use Rattle.std.proofs.lemmas.Str.{IsCharBoundary-after_ascii, IsUtf8-append, IsUtf8-drop, IsUtf8-nil, IsUtf8-past_char, IsUtf8-take}
use Rattle.csv.specs.declared.parser.State.{State}
use Rattle.csv.specs.declared.parser.State.TheVariants as st
use Rattle.csv.specs.declared.parser.Action.{Action}
use Rattle.csv.specs.declared.parser.Action.TheVariants as act
use Rattle.csv.specs.declared.reader.Reader.{Reader}
use Rattle.csv.specs.declared.reader.Trim.TheVariants as trim
use Rattle.csv.specs.declared.error.Error.{Error}
use Rattle.csv.specs.declared.error.ErrorKind.{ErrorKind}
use Rattle.csv.specs.declared.error.ErrorKind.TheVariants as kind
use Rattle.csv.specs.Machine.{Read, after_end, ends_at_end, field_after, fields_after, in_field, is_end, next_record, start_field, start_record, step}
use Rattle.csv.specs.Reading.{ExplainsRead, NextIs, Reached, ReadsNext, Ready, TookRecord, default_config, error_kind, is_bom, is_flexible, reader_trim, strip_bom}
use Rattle.csv.specs.Records.{AllText}
use Rattle.csv.proofs.RecordFacts.{text-more}
use Rattle.pm_tables.specs.HasRead.{HasRead, IsReadFailure, ReadsText}
use Rattle.pm_tables.proofs.HasRead.{now}

-- a byte of ASCII parts a text into two
parted : (a : List ℕ) (c : ℕ) (b : List ℕ) → c < 128 → IsUtf8 (a ++ c ∷ b) → IsUtf8 a × IsUtf8 b
parted a c b ascii text =
    let bytes = a ++ c ∷ b in
    let here : get_or bytes (length a) 0 ≡ c = get_or-append_seam a c b 0 in
    let size : length bytes ≡ length a + length (c ∷ b) = length-append a (c ∷ b) in
    let low : get_or bytes (length a) 0 < 128 = omega arith in
    let within : length a < length bytes = omega arith in
    let front : IsUtf8 (take (length a) bytes) = IsUtf8-take bytes (length a) text (omega arith, λ _ high. absurd (omega arith)) in
    let back : IsUtf8 (drop (length a + 1) bytes) = IsUtf8-drop bytes (length a + 1) text (IsCharBoundary-after_ascii bytes (length a) text within low) in
    (rw (take-append_seam a (c ∷ b)) at front, rw (drop-append-add a (c ∷ b) 1) at back)

-- a text without a byte order mark is text
pub strip_text : (bytes : List ℕ) → IsUtf8 bytes → IsUtf8 (strip_bom bytes)
unfolding strip_bom encode
strip_text [] u = u
strip_text (a ∷ []) u = u
strip_text (a ∷ b ∷ []) u = u
strip_text (a ∷ b ∷ c ∷ rest) u = elim (cases_Bool (is_bom a b c)) [
  | inr other ↦ rw other u
  | inl mark ↦ rw mark (IsUtf8-past_char (a ∷ b ∷ c ∷ rest) rest 65279 u (marked a b c mark))
]
  where
    marked : (x y z : ℕ) → is_bom x y z ≡ true → x ∷ y ∷ z ∷ rest ≡ encode 65279 ++ rest
    marked x y z e =
        let whole = and_parts ((x == 239) && (y == 187)) (z == 191) e in
        let front = and_parts (x == 239) (y == 187) whole.0 in
        rw (eqb-true x 239 front.0, eqb-true y 187 front.1, eqb-true z 191 whole.1) refl

-- no comment is read
abbrev OutsideComment : State → Type 0
OutsideComment st.StartRecord = Unit {0}
OutsideComment st.StartField = Unit {0}
OutsideComment st.InField = Unit {0}
OutsideComment st.InQuoted = Unit {0}
OutsideComment st.InEscape = Unit {0}
OutsideComment st.AfterQuote = Unit {0}
OutsideComment st.InComment = ⊥
OutsideComment st.AfterCr = Unit {0}

-- the byte joins the field at hand, or it is ASCII
abbrev Keeps : ℕ → State × Action → Type 0
Keeps c p = OutsideComment p.0 × ((p.1 ≡ act.Copy) ⊎ (c < 128))

either : (b : Bool) (x y : State × Action) (c : ℕ) → (b ≡ true → Keeps c x) → Keeps c y → Keeps c (if b then x else y)
either true x y c h k = h refl
either false x y c h k = k

byte : (c k : ℕ) → k < 128 → (c == k) ≡ true → c < 128
byte c k ascii e = let same : c ≡ k = eqb-true c k e in omega arith

line_byte : (c : ℕ) → ((c == 13) || (c == 10)) ≡ true → c < 128
line_byte c e = elim (or_cases (c == 13) (c == 10) e) [ inl cr ↦ byte c 13 (omega arith) cr | inr lf ↦ byte c 10 (omega arith) lf ]

ended : (c : ℕ) → OutsideComment (if c == 13 then st.AfterCr else st.StartRecord)
ended c = elim (c == 13) as (λ b. OutsideComment (if b then st.AfterCr else st.StartRecord)) [ true ↦ tt | false ↦ tt ]

in_field_keeps : (c : ℕ) → Keeps c (in_field default_config c)
in_field_keeps c =
    either (c == 44) (st.StartField, act.EndField) _ c (λ e. (tt, inr (byte c 44 (omega arith) e)))
    (either ((c == 13) || (c == 10)) (after_end default_config.terminator c, act.EndRecord) (st.InField, act.Copy) c (λ e. (ended c, inr (line_byte c e))) (tt, inl refl))

start_field_keeps : (c : ℕ) → Keeps c (start_field default_config c)
start_field_keeps c = either (c == 34) (st.InQuoted, act.Skip) (in_field default_config c) c (λ e. (tt, inr (byte c 34 (omega arith) e))) (in_field_keeps c)

start_record_keeps : (c : ℕ) → Keeps c (start_record default_config c)
start_record_keeps c =
    either ((c == 13) || (c == 10)) (st.StartRecord, act.Skip) (start_field default_config c) c (λ e. (tt, inr (line_byte c e))) (start_field_keeps c)

step_keeps : (s : State) (c : ℕ) → OutsideComment s → Keeps c (step default_config s c)
step_keeps st.StartRecord c o = start_record_keeps c
step_keeps st.StartField c o = start_field_keeps c
step_keeps st.InField c o = in_field_keeps c
step_keeps st.InQuoted c o = either (c == 34) (st.AfterQuote, act.Skip) (st.InQuoted, act.Copy) c (λ e. (tt, inr (byte c 34 (omega arith) e))) (tt, inl refl)
step_keeps st.InEscape c o = (tt, inl refl)
step_keeps st.AfterQuote c o = either (c == 34) (st.InQuoted, act.Copy) (in_field default_config c) c (λ e. (tt, inl refl)) (in_field_keeps c)
step_keeps st.InComment c o = absurd o
step_keeps st.AfterCr c o = either (c == 10) (st.StartRecord, act.Skip) (start_record default_config c) c (λ e. (tt, inr (byte c 10 (omega arith) e))) (start_record_keeps c)

-- the fields of a record that was read are text, and so are the bytes behind it
abbrev IsTextRead : Read → Type 0
IsTextRead p = AllText p.0 × OutsideComment p.1 × IsUtf8 p.2

-- the next byte does this
after_byte : (t : State) (a : Action) (fields : List (List ℕ)) (field : List ℕ) (c : ℕ) (rest : List ℕ) (p : Read)
    → OutsideComment t → (a ≡ act.Copy) ⊎ (c < 128) → AllText fields → IsUtf8 (field ++ c ∷ rest)
    → ((fs : List (List ℕ)) (f : List ℕ) → AllText fs → IsUtf8 (f ++ rest) → next_record default_config t fs f rest ≡ Some p → IsTextRead p)
    → (if is_end a then Some (fields_after a fields field, t, rest) else next_record default_config t (fields_after a fields field) (field_after a c field) rest) ≡ Some p
    → IsTextRead p
after_byte t act.Copy fields field c rest p o k all text further e = further fields (field ++ c ∷ []) all (rw append_assoc text) e
after_byte t act.Skip fields field c rest p o (inl copy) all text further e = absurd (cc copy)
after_byte t act.Skip fields field c rest p o (inr ascii) all text further e =
    let both = parted field c rest ascii text in
    further fields field all (IsUtf8-append field rest both.0 both.1) e
after_byte t act.EndField fields field c rest p o (inl copy) all text further e = absurd (cc copy)
after_byte t act.EndField fields field c rest p o (inr ascii) all text further e =
    let both = parted field c rest ascii text in
    further (fields ++ field ∷ []) [] (text-more fields field all both.0) both.1 e
after_byte t act.EndRecord fields field c rest p o (inl copy) all text further e = absurd (cc copy)
after_byte t act.EndRecord fields field c rest p o (inr ascii) all text further e =
    let both = parted field c rest ascii text in
    let made : Read = (fields ++ field ∷ [], t, rest) in
    let same : made ≡ p = cc e in
    subst IsTextRead same (text-more fields field all both.0, o, both.1)

at_end : (b : Bool) (fields : List (List ℕ)) (field : List ℕ) (p : Read) → AllText fields → IsUtf8 (field ++ [])
    → (if b then Some (fields ++ field ∷ [], st.StartRecord, []) else None) ≡ Some p → IsTextRead p
at_end true fields field p all text e =
    let made : Read = (fields ++ field ∷ [], st.StartRecord, []) in
    let same : made ≡ p = cc e in
    subst IsTextRead same (text-more fields field all (rw append-nil at text), tt, IsUtf8-nil)
at_end false fields field p all text e = absurd (cc e)

next_text : (s : State) (fields : List (List ℕ)) (field text : List ℕ) (p : Read) → OutsideComment s → AllText fields → IsUtf8 (field ++ text)
    → next_record default_config s fields field text ≡ Some p → IsTextRead p
unfolding next_record
next_text s fields field [] p o all text e = at_end (ends_at_end s) fields field p all text e
next_text s fields field (c ∷ rest) p o all text e =
    let k = step_keeps s c o in
    after_byte (step default_config s c).0 (step default_config s c).1 fields field c rest p k.0 k.1 all text
    (λ fs f a u. next_text (step default_config s c).0 fs f rest p k.0 a u) e

-- the bytes behind records of a text are text
reached_text : (s : State) (text : List ℕ) (rows : List (List (List ℕ))) (t : State) (rest : List ℕ) → OutsideComment s → IsUtf8 text
    → Reached default_config s text rows t rest → OutsideComment t × IsUtf8 rest
unfolding Reached AllText
reached_text s text [] t rest o u h = (subst OutsideComment h.0 o, subst IsUtf8 h.1 u)
reached_text s text (r ∷ rows) t rest o u h =
    let read = next_text s [] [] text h.0 o tt u h.1 in
    reached_text h.0.1 h.0.2 rows t rest read.1 read.2 h.3

next_is_text : (found : Option Read) (fields : List (List ℕ)) (s : State) (rest : List ℕ) → ((p : Read) → found ≡ Some p → IsTextRead p) → NextIs found true fields s rest → AllText fields
next_is_text None fields s rest all h = absurd (cc h)
next_is_text (Some p) fields s rest all h = let read = all p refl in subst AllText (sym h.1) read.0

reads_text : (xs : List ℕ) (s : State) (after : Option (List ℕ)) (fields : List (List ℕ)) (t : State) → OutsideComment s → IsUtf8 xs
    → ReadsNext default_config s (Some xs) after true fields t → AllText fields
unfolding AllText
reads_text xs s None fields t o u h = absurd h
reads_text xs s (Some ys) fields t o u h = next_is_text (next_record default_config s [] [] xs) fields t ys (λ p. next_text s [] [] xs p o tt u) h

record_text : (text : List ℕ) (rows : List (List (List ℕ))) (a b : Reader (Bor (List ℕ))) (fields : List (List ℕ)) → IsUtf8 text → HasRead text rows a → TookRecord now a b fields → AllText fields
record_text text rows a b fields u h took =
    let there = reached_text st.StartRecord text rows a.state h.rest tt u h.reached in
    let read = rw (h.config, h.source) at took in
    reads_text h.rest a.state _ fields b.state there.0 there.1 read

not_both : (b : Bool) → b ≡ true → b ≡ false → ⊥
not_both b one other = cc

-- a read of a text with records of any lengths fails for nothing else
why_failed : (a b : Reader (Bor (List ℕ))) (k : ErrorKind) → ReadsText a → ExplainsRead now a b true k → IsReadFailure k
why_failed a b (kind.Io e) t h = tt
why_failed a b kind.OutOfMemory t h = tt
why_failed a b (kind.UnequalLengths pos expected len) t h = absurd (not_both (is_flexible a) t.3.flexible h.0)
why_failed a b (kind.Utf8 pos err) t h = absurd (h.3 (record_text t.0 t.1 a b h.1 t.2 t.3 h.2))
why_failed a b (kind.Serialize why) t h = absurd h
why_failed a b (kind.Deserialize pos err) t h = absurd h

pub failed_read : (a b : Reader (Bor (List ℕ))) (e : Error) → ReadsText a → (reader_trim a ≡ trim.None → Ready a → ExplainsRead now a b true (error_kind e)) → IsReadFailure (error_kind e)
failed_read a b e t why = why_failed a b (error_kind e) t (why t.3.untrimmed t.3.ready)
