-- a command that is made argument by argument, and why clap refuses words
use Rattle.std.proofs.Common.{◌≡◌, ◌∙◌, ap₂, true, false, [], refl, subst, inl, inr, ◌⊎◌}
use Rattle.clap.specs.Walk.{Rule, rule_of}
use Rattle.clap.specs.Simple.{App, app_of, with_rule}
use Rattle.clap.specs.Faults.{is_free_app, is_simple_and_free}
use Rattle.clap.specs.Simple.{built, is_simple}
use Rattle.clap.specs.Kinds.{IsAmong, Kinds}
use Rattle.clap.specs.declared.error.kind.ErrorKind.{ErrorKind}
use Rattle.clap.specs.declared.error.kind.ErrorKind.TheVariants as error
use Rattle.clap.proofs.WalkLemmas.{both}
use Rattle.clap.specs.Built.{AddsArg}
use Rattle.clap.specs.declared.builder.arg.Arg.{Arg}
use Rattle.clap.specs.declared.builder.command.Command.{Command}
use Rattle.pm_words.specs.Commands.{run_app, explain_app, demo_app}

pub added : (old new : Command) (a : Arg) (app : App) (rule : Rule) → AddsArg old a new → a.global ≡ false → app_of old ≡ app → rule_of a ≡ rule → app_of new ≡ with_rule app rule
added old new a app rule h local e f = h.shape local ∙ ap₂ with_rule e f

pub run_is_simple : is_simple_and_free run_app ≡ true
unfolding run_app
run_is_simple = refl

pub explain_is_simple : is_simple_and_free explain_app ≡ true
unfolding explain_app
explain_is_simple = refl

pub demo_is_simple : is_simple_and_free demo_app ≡ true
unfolding demo_app
demo_is_simple = refl

pub simple_of : (a : App) → is_simple_and_free a ≡ true → is_simple a ≡ true
simple_of a h = (both (is_simple a) (is_free_app (built a)) h).0

-- words that are refused for another cause than memory have a kind of refusal
pub among_some : (kinds : Kinds) (k : ErrorKind) → (k ≡ error.OutOfMemory) ⊎ IsAmong k kinds → (k ≡ error.OutOfMemory → ⊥) → kinds ≡ [] → ⊥
among_some kinds k (inl memory) other none = other memory
among_some kinds k (inr among) other none = subst (IsAmong k) none among
