use Rattle.std.proofs.Common.{take, drop}
use Rattle.std.proofs.lemmas.List.{take-append-drop}
use Rattle.pm_work.specs.Events.{events}
use Rattle.pm_work.proofs.Flags.{merges_ascend}
use Rattle.pm_work.proofs.Orders.{Orderly-events}
use Rattle.pm_work.proofs.laws.moments_are_orderly.Goals as goal

pub returns : goal.returns
returns c = record {
  any = λ db tree done left sound e. Orderly-events db done left tree 1 (merges_ascend db sound.tables tree sound.operators) e;
  first = λ db tree t sound.
      Orderly-events db (take t (events db tree 1)) (drop t (events db tree 1)) tree 1 (merges_ascend db sound.tables tree sound.operators)
      (take-append-drop t (events db tree 1));
}
