-- the command that words call for, and the files of a demo
use Rattle.std.specs.Prelude.{◌≡◌, ◌≤◌, ℕ, ◌-◌, ◌^◌, List, Option, Some, None, IfSome, if◌then◌else◌, codes}
use Rattle.std.specs.Option.{option_map}
use Rattle.pm_io.specs.Files.{Held}
use Rattle.pm_io.specs.MemState.{MemState, no_files, with_file, held_of}
use Rattle.pm_query.specs.declared.query.Choice.TheVariants as choice
use Rattle.pm_demo.specs.Texts.{demo_of}
use Rattle.pm_words.specs.declared.settings.RunSettings.{RunSettings}
use Rattle.pm_words.specs.declared.settings.Settings.{Settings}
use Rattle.pm_words.specs.declared.settings.Settings.TheVariants as settings
use Rattle.pm_words.specs.Settings.{settings_of}
use Rattle.pm_commands.specs.declared.command.Command.{Command}
use Rattle.pm_commands.specs.declared.command.Output.{Output}
use Rattle.pm_commands.specs.declared.command.Output.TheVariants as output

-- a progress line after each so many events; none with progress off
abbrev pub every_of : RunSettings → Option ℕ
every_of run = if run.progress then Some run.every else None

-- a demo is run with one progress line, at the end
abbrev pub command_of : Settings → Command
command_of (settings.Run s) =
    record { schema = s.schema; query = s.query; join = s.join; workers = s.workers; output = output.Run (every_of s); customers = None }
command_of (settings.Explain s) =
    record { schema = s.schema; query = s.query; join = s.join; workers = s.workers; output = output.Explain; customers = None }
command_of (settings.Demo s) =
    record {
      schema = codes "demo.schema";
      query = codes "demo.sql";
      join = choice.Auto;
      workers = s.workers;
      output = output.Run (Some (2 ^ 64 - 1));
      customers = Some s.size;
    }

abbrev pub command_in : List (List ℕ) → Option Command
command_in words = option_map command_of (settings_of words)

-- the files of the demo of so many customers
abbrev pub demo_files : ℕ → MemState
demo_files n =
    let demo = demo_of n in
    with_file (with_file (with_file (with_file no_files
    (codes "demo.schema") demo.schema) (codes "demo.sql") demo.query) (codes "cust.csv") demo.cust) (codes "ord.csv") demo.ord

abbrev pub demo_held : ℕ → Held
demo_held n = held_of (demo_files n).files

-- what is told of the files that a command reads: a demo's are told, and others as far as they tell
abbrev pub files_told : Option ℕ → Option Held → Option Held
files_told None told = told
files_told (Some n) told = Some (demo_held n)

abbrev pub told : Option Command → Option Held → Option Held
told None held = held
told (Some command) held = files_told command.customers held

-- a fact where the files are the call's own, and where they are a demo's
abbrev pub OnOwn : Option Command → Type 0 → Type 0
OnOwn None P = P
OnOwn (Some command) P = command.customers ≡ None → P

abbrev pub OnDemo : Option Command → Type 0 → Type 0
OnDemo None P = Unit {0}
OnDemo (Some command) P = (n : ℕ) → command.customers ≡ Some n → P

-- ---- the numbers of a command

abbrev pub CanWrite : Output → Type 0
CanWrite (output.Run every) = IfSome every (λ n. 1 ≤ n)
CanWrite output.Explain = Unit {0}

pub record CanRun (command : Command) : Type 0 where
  pub some : 1 ≤ command.workers
  pub workers : command.workers ≤ 64
  pub output : CanWrite command.output
  pub customers : IfSome command.customers (λ n. (1 ≤ n) × (n ≤ 100000))
