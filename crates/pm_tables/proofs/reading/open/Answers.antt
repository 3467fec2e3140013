use Rattle.std.proofs.Common.{◌∙◌, refl, sym, inr}
use Rattle.csv.specs.Reading.{Reached, strip_bom}
use Rattle.pm_tables.proofs.reading.open.Goals as goal

pub returns : goal.returns
unfolding Reached
returns c =
    let made = c.from_reader.ensures in
    let set = rw (c.flexible.ensures, c.has_headers.ensures) at made in
    record {
      untrimmed = set.trim ∙ c.new.ensures.trim;
      flexible = set.flexible;
      ready = inr (inr (set.has_headers, set.headers));
      config = set.config ∙ c.new.ensures.config;
      rest = strip_bom c.args.bytes.now;
      source = made.source;
      reached = (sym made.state, refl);
    }
