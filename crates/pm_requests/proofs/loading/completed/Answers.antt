use Rattle.pm_requests.proofs.Sound.{sound_of, few_of, each_of}
use Rattle.pm_requests.proofs.loading.completed.Goals as goal

pub check_references-requires-clause-few : goal.check_references-requires-clause-few
check_references-requires-clause-few c = few_of c.args.query c.args.db c.requires.declared c.requires.asked.references

pub check_references-requires-clause-each : goal.check_references-requires-clause-each
check_references-requires-clause-each c = each_of c.args.query c.args.db c.requires.declared

pub returns-clause-sound : goal.returns-clause-sound
returns-clause-sound c = sound_of c.args.query c.args.db c.requires.asked c.requires.declared c.tables_are_declared.ensures c.in_ok-check_references.ensures.kept
