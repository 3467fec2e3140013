-- how the readers meet the definitions
use Rattle.std.proofs.Common.{◌≡◌, ◌∙◌, ap₂, ◌≤◌, ◌<◌, ◌^◌, ap, sym, refl, true, false, Bool, ℕ, List, [], ◌∷◌, Option, Some, None, Result, Err, length, map, arith, subst, if◌then◌else◌}
use Rattle.std.specs.List.{slice_index_or}
use Rattle.std.specs.Borrow.{Bor}
use Rattle.std.specs.Prelude.{option_map}
use Rattle.std.specs.Str.Parse.{IsNumeral, digits_value, without_leading_plus}
use Rattle.clap.specs.ValueTests.{is_unsigned_in}
use Rattle.clap.specs.declared.builder.value_parser.ValueParser.TheVariants as vp
use Rattle.clap.specs.declared.parser.matches.Found.{Found}
use Rattle.clap.specs.Matches.{matched_of, raw_values}
use Rattle.clap.specs.Walk.{Row, Text, rows_of}
use Rattle.clap.specs.Simple.{App, matches_of}
use Rattle.clap.specs.Faults.{fault_of, is_simple_and_free}
use Rattle.clap.proofs.WalkLemmas.{raw_values-rows}
use Rattle.clap.proofs.ValueTestLemmas.{Accepts-accepts, accepts-Accepts}
use Rattle.pm_words.specs.Settings.{Reads, ◌>>=◌, command_by_verb, number, only, read_by, settings_by, settings_of, unless, value_of, verb_in}
use Rattle.clap.specs.Kinds.{Kinds}
use Rattle.pm_words.specs.declared.settings.Settings.{Settings}
use Rattle.pm_words.specs.declared.settings.Verb.{Verb}
use Rattle.pm_words.specs.declared.settings.Verb.TheVariants as verb
use Rattle.pm_words.specs.declared.settings.WordsBad.{WordsBad}
use Rattle.pm_words.specs.declared.settings.WordsBad.TheVariants as bad
use Rattle.pm_words.proofs.Adding.{run_is_simple, explain_is_simple, demo_is_simple}

pub only_found : (f : Found) (id : Text) (o : Option (List Text)) → o ≡ option_map raw_values (matched_of f id) → (o >>= only) ≡ value_of id (rows_of f)
only_found f id o e = ap (λ (x : Option (List Text)). x >>= only) (e ∙ raw_values-rows f id)

pub one_of : (xs : List (Bor Text)) (d : Bor Text) → length xs ≡ 1 → Some (slice_index_or xs 0 d).now ≡ only (map (λ x. x.now) xs)
one_of [] d one = absurd (omega arith)
one_of (x ∷ []) d one = refl
one_of (x ∷ (y ∷ rest)) d one = absurd (omega arith)

pub not_one : (xs : List (Bor Text)) → (length xs ≡ 1 → ⊥) → None ≡ only (map (λ x. x.now) xs)
not_one [] h = refl
not_one (x ∷ []) h = absurd (h (omega arith))
not_one (x ∷ (y ∷ rest)) h = refl

-- std's reading of a `u64`, in the bounds
pub number_some : (low high n : ℕ) (text : Text) → IsNumeral 10 (without_leading_plus text) × (digits_value 10 (without_leading_plus text) < 2 ^ 64)
    → n ≡ digits_value 10 (without_leading_plus text) → low ≤ n → n ≤ high → Some n ≡ number low high text
number_some low high n text read is above below =
    let value = digits_value 10 (without_leading_plus text) in
    let low_ok : low ≤ value = rw (← is) above in
    let high_ok : value ≤ high = rw (← is) below in
    let e : is_unsigned_in low high text ≡ true = Accepts-accepts false (vp.Unsigned low high) text (read.0, read.1, low_ok, high_ok) in
    ap Some is ∙ sym (taken (is_unsigned_in low high text) value e)
  where
    taken : (b : Bool) (v : ℕ) → b ≡ true → (if b then Some v else None) ≡ Some v
    taken true v h = refl
    taken false v h = cc

pub number_none : (low high : ℕ) (text : Text)
    → (IsNumeral 10 (without_leading_plus text) → digits_value 10 (without_leading_plus text) < 2 ^ 64 → low ≤ digits_value 10 (without_leading_plus text)
    → digits_value 10 (without_leading_plus text) ≤ high → ⊥)
    → None ≡ number low high text
number_none low high text against = by_case (is_unsigned_in low high text) (digits_value 10 (without_leading_plus text)) refl
  where
    by_case : (b : Bool) (v : ℕ) → is_unsigned_in low high text ≡ b → None ≡ (if b then Some v else None)
    by_case false v e = refl
    by_case true v e = let h = accepts-Accepts false (vp.Unsigned low high) text e in absurd (against h.0 h.1 h.2 h.3)

pub verb_is_simple : (v : Verb) → is_simple_and_free (command_by_verb v) ≡ true
unfolding command_by_verb
verb_is_simple verb.Run = run_is_simple
verb_is_simple verb.Explain = explain_is_simple
verb_is_simple verb.Demo = demo_is_simple

pub no_settings : (words : List Text) → None ≡ verb_in words → settings_of words ≡ None
unfolding settings_of
no_settings words e = rw (← e) refl

pub refused_settings : (words : List Text) (v : Verb) → Some v ≡ verb_in words → (fault_of (command_by_verb v) words ≡ [] → ⊥) → settings_of words ≡ None
unfolding settings_of settings_by
refused_settings words v e some = rw (← e) (by_case (fault_of (command_by_verb v) words) some)
  where
    by_case : (kinds : Kinds) → (kinds ≡ [] → ⊥) → unless kinds (read_by v (matches_of (command_by_verb v) words)) ≡ None
    by_case [] h = absurd (h refl)
    by_case (k ∷ ks) h = refl

pub taken_settings : (words : List Text) (v : Verb) → Some v ≡ verb_in words → fault_of (command_by_verb v) words ≡ []
    → settings_of words ≡ read_by v (matches_of (command_by_verb v) words)
unfolding settings_of settings_by
taken_settings words v e none = rw (← e, none) refl

-- an error that is Usage only where there is no value
pub reads_error : {T : Type 0} (e : WordsBad) (o : Option T) → (e ≡ bad.Usage → o ≡ None) → Reads (Err e) o
reads_error bad.Usage o h = h refl
reads_error bad.Memory o h = tt

-- where clap takes the words, what its matches say is what the words call for
pub taken_by : (words texts : List Text) (v : Verb) (app : App) (rows : List Row) (r : Result Settings WordsBad) → Some v ≡ verb_in words → texts ≡ words → app ≡ command_by_verb v
    → rows ≡ matches_of app texts → fault_of app texts ≡ [] → Reads r (read_by v rows) → Reads r (settings_of words)
taken_by words texts v app rows r known same is from none h =
    let e : read_by v rows ≡ settings_of words = ap (read_by v) (from ∙ ap₂ matches_of is same) ∙ sym (taken_settings words v known (sym (ap₂ fault_of is same) ∙ none)) in
    subst (Reads r) e h

-- where it refuses them for another cause than memory, they call for nothing
pub refused_by : (words texts : List Text) (v : Verb) (app : App) (e : WordsBad) → Some v ≡ verb_in words → texts ≡ words → app ≡ command_by_verb v
    → (e ≡ bad.Usage → fault_of app texts ≡ [] → ⊥) → Reads {T = Settings} (Err e) (settings_of words)
refused_by words texts v app e known same is some =
    reads_error e (settings_of words) (λ usage. refused_settings words v known (λ none. some usage (ap₂ fault_of is same ∙ none)))
