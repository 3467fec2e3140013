-- the text that a command writes
use Rattle.std.specs.Prelude.{ℕ, List}
use Rattle.pm_plan.specs.declared.plan.Plan.{Plan}
use Rattle.pm_plan.specs.Rows.{Db}
use Rattle.pm_run.specs.Text.{run_text}
use Rattle.pm_run.specs.ExplainText.{explain_text}
use Rattle.pm_commands.specs.declared.command.Output.{Output}
use Rattle.pm_commands.specs.declared.command.Output.TheVariants as output
use Rattle.pm_commands.specs.declared.preparing.Prepared.{Prepared}

abbrev pub output_text : Output → Plan → Db → List ℕ
output_text (output.Run every) plan db = run_text plan db every
output_text output.Explain plan db = explain_text plan db

abbrev pub text_of : Prepared → List ℕ
text_of p = output_text p.output p.plan p.request.db
