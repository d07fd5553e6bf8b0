use Rattle.std.proofs.Common.{◌≡◌, map, take}
use Rattle.refined_check.specs.Singles.{single}
use Rattle.refined_text.proofs.versions.list.groups_of_one.Given as goal

abbrev pub invariant-loop-scenario : goal.invariant-loop-scenario
invariant-loop-scenario l = l.groups.items ≡ map (single l.weight) (take l.scenario-index l.tail.places)
