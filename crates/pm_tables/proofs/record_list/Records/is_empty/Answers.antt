use Rattle.std.proofs.Common.{◌≡◌, ◌∙◌, length, sym}
use Rattle.std.specs.Vec.{vec_len}
use Rattle.csv.specs.Records.{fields_of}
use Rattle.pm_tables.proofs.Cuts.{cut-length}
use Rattle.pm_tables.proofs.record_list.Records.is_empty.Goals as goal

pub returns : goal.returns
returns c =
    let same : vec_len c.self.inside.ends ≡ length c.args.self.now = rw (← c.self.view_is)
    (c.self.inside.ends.ok.0 ∙ sym (cut-length 0 c.self.inside.ends.items (fields_of c.self.inside.fields))) in
    rw (← same) c.is_empty.ensures
