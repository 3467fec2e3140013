-- the commands that clap reads the words by, one for each verb
use Rattle.std.specs.Prelude.{◌∷◌, [], true, Some, codes}
use Rattle.clap.specs.Walk.{Rule, Text}
use Rattle.clap.specs.Simple.{App, new_app, new_rule, with_rule}

-- a position that must be there
abbrev pub position_rule : Text → Rule
position_rule id = record (new_rule id) { required = true }

-- an option with one value, and what stands where it is not given
abbrev pub option_rule : Text → Text → Rule
option_rule id value = record (new_rule id) { long = Some id; defaults = value ∷ [] }

-- a command with no help flag
abbrev pub bare_app : Text → App
bare_app name = let app = new_app name in record app { top = record app.top { disable_help_flag = true } }

unfoldable pub run_app : App
run_app = with_rule (with_rule (with_rule (with_rule (with_rule (with_rule (bare_app (codes "run"))
    (position_rule (codes "schema"))) (position_rule (codes "query")))
    (option_rule (codes "every") (codes "1"))) (option_rule (codes "join") (codes "auto")))
    (option_rule (codes "progress") (codes "on"))) (option_rule (codes "workers") (codes "1"))

unfoldable pub explain_app : App
explain_app = with_rule (with_rule (with_rule (with_rule (bare_app (codes "explain"))
    (position_rule (codes "schema"))) (position_rule (codes "query")))
    (option_rule (codes "join") (codes "auto"))) (option_rule (codes "workers") (codes "1"))

unfoldable pub demo_app : App
demo_app = with_rule (with_rule (bare_app (codes "demo")) (position_rule (codes "size"))) (option_rule (codes "workers") (codes "1"))
