use Rattle.pm_words.proofs.Values.{number_none, number_some}
use Rattle.pm_words.proofs.reading.number.Goals as goal

pub returns-in-Ok-clause-number : goal.returns-in-Ok-clause-number
returns-in-Ok-clause-number c = number_some c.args.low c.args.high c.in-Ok.n c.args.text.now c.in-Ok.ensures.value.0.0 c.in-Ok.ensures.value.0.1 c.if-low-n.true c.if-n-high.true

pub returns-in_default-3-clause-number : goal.returns-in_default-3-clause-number
returns-in_default-3-clause-number c = number_none c.args.low c.args.high c.args.text.now (λ numeral fits above below. c.in_default.ensures.value.0 (numeral, fits))
