-- the line of a refused command; want of memory has none
use Rattle.std.specs.Prelude.{ℕ, List, [], Some, None}
use Rattle.pm_refusals.specs.declared.word.Word.TheVariants as word
use Rattle.pm_lines.specs.declared.refusal.Values.TheVariants.{Zero, One, Two}
use Rattle.pm_lines.specs.Refusals.{refusal_line}
use Rattle.pm_tables.specs.declared.fault.DataBad.{DataBad}
use Rattle.pm_tables.specs.declared.fault.DataBad.TheVariants as bad
use Rattle.pm_requests.specs.declared.refusal.Refusal.{Refusal}
use Rattle.pm_requests.specs.declared.refusal.Refusal.TheVariants as refusal
use Rattle.pm_commands.specs.declared.stop.Stop.{Stop}
use Rattle.pm_commands.specs.declared.stop.Stop.TheVariants as stop

-- of a table with this name
abbrev pub data_line : List ℕ → DataBad → List ℕ
data_line name bad.TooLong = refusal_line 5 word.TooLong (Some name) Zero
data_line name (bad.NotText n) = refusal_line 5 word.NotText (Some name) (One n)
data_line name bad.NoHeader = refusal_line 5 word.NoHeader (Some name) Zero
data_line name (bad.Header column) = refusal_line 5 word.Header (Some name) (One column)
data_line name bad.TooManyRows = refusal_line 5 word.TooManyRows (Some name) Zero
data_line name (bad.Width at) = refusal_line 5 word.Width (Some name) (One at)
data_line name (bad.Field at column) = refusal_line 5 word.Field (Some name) (Two at column)
data_line name (bad.DoubleKey first second) = refusal_line 5 word.DoubleKey (Some name) (Two first second)
data_line name (bad.OutOfOrder at) = refusal_line 5 word.OutOfOrder (Some name) (One at)
data_line name (bad.NoTarget at number) = refusal_line 5 word.NoTarget (Some name) (Two at number)
data_line name bad.Memory = []

abbrev pub refused_line : Refusal → List ℕ
refused_line (refusal.NoFile role name) = refusal_line 6 word.NoFile (Some name) Zero
refused_line (refusal.ReadFault role name) = refusal_line 7 word.Read (Some name) Zero
refused_line (refusal.Schema fault) = refusal_line 2 fault.word None (One fault.at)
refused_line (refusal.Query fault) = refusal_line 3 fault.word None (One fault.at)
refused_line (refusal.Binding fault) = refusal_line 4 fault.word None (One fault.at)
refused_line (refusal.Table table name fault) = data_line name fault
refused_line refusal.NoMemory = []

abbrev pub line_of : Stop → List ℕ
line_of stop.Usage = refusal_line 1 word.Usage None Zero
line_of (stop.Request r) = refused_line r
line_of (stop.TooWide bound) = refusal_line 9 word.TooWide None (One bound)
