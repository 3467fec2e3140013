use Rattle.std.proofs.Common.{refl}
use Rattle.std.specs.Fmt.{digits}
use Rattle.pm_demo.proofs.worked.texts_worked.Goals as goal

pub returns-clause-customers : goal.returns-clause-customers
unfolding digits
returns-clause-customers c = refl

pub returns-clause-orders : goal.returns-clause-orders
unfolding digits
returns-clause-orders c = refl

pub returns-clause-centre : goal.returns-clause-centre
unfolding digits
returns-clause-centre c = refl

pub returns-clause-last : goal.returns-clause-last
unfolding digits
returns-clause-last c = refl
