-- calls whose words differ in some options alone, and answers whose texts have the same lines of some kinds
use Rattle.std.specs.Prelude.{◌≡◌, ℕ, List, Option, Some, Result, Ok, Err}
use Rattle.pm_words.specs.declared.settings.Settings.{Settings}
use Rattle.pm_words.specs.declared.settings.Settings.TheVariants as settings
use Rattle.pm_words.specs.Settings.{settings_of}
use Rattle.pm_run.specs.Pieces.{Piece, pieces, answering}
use Rattle.pm_commands.specs.declared.command.Output.TheVariants as output
use Rattle.pm_commands.specs.declared.stop.Stop.{Stop}
use Rattle.pm_commands.specs.declared.stop.Stop.TheVariants as stop
use Rattle.pm_commands.specs.declared.preparing.Prepared.{Prepared}

-- ---- settings that differ in some options alone

-- in those of progress
abbrev pub DifferInProgress : Settings → Settings → Type 0
DifferInProgress (settings.Run s) (settings.Run t) = t ≡ record s { every = t.every; progress = t.progress }
DifferInProgress _ _ = ⊥

-- in the choice of joins; what is known of a plan before it runs has no rows
abbrev pub DifferInJoin : Settings → Settings → Type 0
DifferInJoin (settings.Run s) (settings.Run t) = t ≡ record s { join = t.join }
DifferInJoin _ _ = ⊥

-- in the number of workers
abbrev pub DifferInWorkers : Settings → Settings → Type 0
DifferInWorkers (settings.Run s) (settings.Run t) = t ≡ record s { workers = t.workers }
DifferInWorkers (settings.Explain s) (settings.Explain t) = t ≡ record s { workers = t.workers }
DifferInWorkers (settings.Demo s) (settings.Demo t) = t ≡ record s { workers = t.workers }
DifferInWorkers _ _ = ⊥

-- the words of two calls, by the settings that they call for
pub record AreCalls (Differ : Settings → Settings → Type 0) (words others : List (List ℕ)) : Type 0 where
  pub one : Settings
  pub other : Settings
  pub called : settings_of words ≡ Some one
  pub other_called : settings_of others ≡ Some other
  pub differ : Differ one other

-- ---- answers with the same lines

-- both are runs, and some pieces of their texts are the same
pub record AreAlike (some : List Piece → List Piece) (p q : Prepared) : Type 0 where
  pub every : Option ℕ
  pub other : Option ℕ
  pub run : p.output ≡ output.Run every
  pub other_run : q.output ≡ output.Run other
  pub same : some (pieces p.plan p.request.db every) ≡ some (pieces q.plan q.request.db other)

-- both are so written, or they have one refusal
abbrev pub Alike : (List Piece → List Piece) → Result Prepared Stop → Result Prepared Stop → Type 0
Alike some (Ok p) (Ok q) = AreAlike some p q
Alike some (Ok p) (Err b) = ⊥
Alike some (Err a) (Ok q) = ⊥
Alike some (Err a) (Err b) = a ≡ b

-- of two plans of one query each may be too wide. If neither is, their texts have the same header and row lines
abbrev pub AlikeUnlessWide : Result Prepared Stop → Result Prepared Stop → Type 0
AlikeUnlessWide (Ok p) (Ok q) = AreAlike answering p q
AlikeUnlessWide (Ok p) (Err (stop.TooWide bound)) = Unit {0}
AlikeUnlessWide (Err (stop.TooWide bound)) (Ok q) = Unit {0}
AlikeUnlessWide (Err (stop.TooWide bound)) (Err (stop.TooWide other)) = Unit {0}
AlikeUnlessWide (Err (stop.Request r)) (Err (stop.Request s)) = r ≡ s
AlikeUnlessWide _ _ = ⊥
