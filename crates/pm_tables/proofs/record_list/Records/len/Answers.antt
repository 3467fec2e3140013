use Rattle.std.proofs.Common.{◌∙◌, sym}
use Rattle.csv.specs.Records.{fields_of}
use Rattle.pm_tables.proofs.Cuts.{cut-length}
use Rattle.pm_tables.proofs.record_list.Records.len.Goals as goal

pub returns : goal.returns
returns c = rw (← c.self.view_is)
    (c.len.ensures ∙ c.self.inside.ends.ok.0 ∙ sym (cut-length 0 c.self.inside.ends.items (fields_of c.self.inside.fields)))
