-- the settings that words call for, by clap's own definitions of what a command takes and of its matches
use Rattle.std.specs.Prelude.{◌≡◌, ◌≤◌, ◌∷◌, [], List, ℕ, Bool, true, false, Option, Some, None, Result, Ok, Err, codes, map, if◌then◌else◌, ⊤}
use Rattle.std.specs.Borrow.{Bor}
use Rattle.std.specs.Str.{bytes_eq}
use Rattle.std.specs.Str.Parse.{digits_value, without_leading_plus}
use Rattle.clap.specs.ValueTests.{is_unsigned_in}
use Rattle.clap.specs.Walk.{Row, Text, all_of}
use Rattle.clap.specs.Simple.{App, matches_of}
use Rattle.clap.specs.Faults.{fault_of}
use Rattle.clap.specs.Kinds.{Kinds}
use Rattle.pm_query.specs.declared.query.Choice.{Choice}
use Rattle.pm_query.specs.declared.query.Choice.TheVariants as choice
use Rattle.pm_words.specs.Commands.{run_app, explain_app, demo_app}
use Rattle.pm_words.specs.declared.settings.Verb.{Verb}
use Rattle.pm_words.specs.declared.settings.Verb.TheVariants as verb
use Rattle.pm_words.specs.declared.settings.Settings.{Settings}
use Rattle.pm_words.specs.declared.settings.Settings.TheVariants as settings
use Rattle.pm_words.specs.declared.settings.RunSettings.{RunSettings}
use Rattle.pm_words.specs.declared.settings.ExplainSettings.{ExplainSettings}
use Rattle.pm_words.specs.declared.settings.DemoSettings.{DemoSettings}
use Rattle.pm_words.specs.declared.settings.WordsBad.{WordsBad}
use Rattle.pm_words.specs.declared.settings.WordsBad.TheVariants as bad

infixl 10 ◌>>=◌
abbrev pub ◌>>=◌ : {A B : Type 0} → Option A → (A → Option B) → Option B
(Some x) >>= f = f x
None >>= f = None

-- the texts that are lent
abbrev pub texts_in : List (Bor Text) → List Text
texts_in texts = map (λ text. text.now) texts

-- the one of a list of one
abbrev pub only : List Text → Option Text
only [] = None
only (value ∷ []) = Some value
only (value ∷ (other ∷ rest)) = None

-- the value of the position or option of this name, which has one and no more
abbrev pub value_of : Text → List Row → Option Text
value_of id rows = all_of id rows >>= only

-- the number that std's `u64` reads from the text, where it lies in the bounds
abbrev pub number : ℕ → ℕ → Text → Option ℕ
number low high text = if is_unsigned_in low high text then Some (digits_value 10 (without_leading_plus text)) else None

abbrev pub choice_of : Text → Option Choice
choice_of text =
    if bytes_eq text (codes "auto") then Some choice.Auto
    else (if bytes_eq text (codes "hash") then Some choice.Hash
    else (if bytes_eq text (codes "merge") then Some choice.Merge
    else (if bytes_eq text (codes "index") then Some choice.Index else None)))

abbrev pub switch_of : Text → Option Bool
switch_of text = if bytes_eq text (codes "on") then Some true else (if bytes_eq text (codes "off") then Some false else None)

-- the value of an option, as its reader takes it
abbrev pub number_at : Text → ℕ → ℕ → List Row → Option ℕ
number_at id low high rows = value_of id rows >>= number low high

abbrev pub choice_at : Text → List Row → Option Choice
choice_at id rows = value_of id rows >>= choice_of

abbrev pub switch_at : Text → List Row → Option Bool
switch_at id rows = value_of id rows >>= switch_of

unfoldable pub run_of : List Row → Option RunSettings
run_of rows = do
  schema ← value_of (codes "schema") rows
  query ← value_of (codes "query") rows
  every ← number_at (codes "every") 1 18446744073709551615 rows
  join ← choice_at (codes "join") rows
  progress ← switch_at (codes "progress") rows
  workers ← number_at (codes "workers") 1 64 rows
  Some (record { schema = schema; query = query; every = every; join = join; progress = progress; workers = workers })

unfoldable pub explain_of : List Row → Option ExplainSettings
explain_of rows = do
  schema ← value_of (codes "schema") rows
  query ← value_of (codes "query") rows
  join ← choice_at (codes "join") rows
  workers ← number_at (codes "workers") 1 64 rows
  Some (record { schema = schema; query = query; join = join; workers = workers })

unfoldable pub demo_of : List Row → Option DemoSettings
demo_of rows = do
  size ← number_at (codes "size") 1 100000 rows
  workers ← number_at (codes "workers") 1 64 rows
  Some (record { size = size; workers = workers })

abbrev pub verb_of : Text → Option Verb
verb_of word =
    if bytes_eq word (codes "run") then Some verb.Run
    else (if bytes_eq word (codes "explain") then Some verb.Explain
    else (if bytes_eq word (codes "demo") then Some verb.Demo else None))

-- the verb is the first word
unfoldable pub verb_in : List Text → Option Verb
verb_in [] = None
verb_in (word ∷ rest) = verb_of word

unfoldable pub command_by_verb : Verb → App
command_by_verb verb.Run = run_app
command_by_verb verb.Explain = explain_app
command_by_verb verb.Demo = demo_app

-- from the matches of a verb's command
unfoldable pub read_by : Verb → List Row → Option Settings
read_by verb.Run rows = run_of rows >>= λ s. Some (settings.Run s)
read_by verb.Explain rows = explain_of rows >>= λ s. Some (settings.Explain s)
read_by verb.Demo rows = demo_of rows >>= λ s. Some (settings.Demo s)

abbrev pub unless : {A : Type 0} → Kinds → Option A → Option A
unless [] o = o
unless (fault ∷ faults) o = None

-- what words call for under a verb: what the matches of its command say, where the command has no fault to find
unfoldable pub settings_by : List Text → Verb → Option Settings
settings_by words verb = unless (fault_of (command_by_verb verb) words) (read_by verb (matches_of (command_by_verb verb) words))

-- what words call for, if anything
unfoldable pub settings_of : List Text → Option Settings
settings_of words = verb_in words >>= settings_by words

-- the numbers of settings lie in the bounds of the options
abbrev pub IsInRange : Settings → Type 0
IsInRange (settings.Run s) = (1 ≤ s.every) × (1 ≤ s.workers) × (s.workers ≤ 64)
IsInRange (settings.Explain s) = (1 ≤ s.workers) × (s.workers ≤ 64)
IsInRange (settings.Demo s) = (1 ≤ s.size) × (s.size ≤ 100000) × (1 ≤ s.workers) × (s.workers ≤ 64)

-- a reader's answer: the value, or Usage where there is none, or want of memory
abbrev pub Reads : {T : Type 0} → Result T WordsBad → Option T → Type 0
Reads (Ok x) o = o ≡ Some x
Reads (Err bad.Usage) o = o ≡ None
Reads (Err bad.Memory) o = ⊤
