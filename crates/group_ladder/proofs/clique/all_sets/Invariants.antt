use Rattle.std.proofs.Common.{◌≡◌, length}
use Rattle.group_ladder.specs.Search.{AreSets}
use Rattle.group_ladder.proofs.clique.all_sets.Given as goal

abbrev pub invariant-loop-e : goal.invariant-loop-e
invariant-loop-e l = record {
  sets : AreSets l.inst l.sets.items;
  marks : length l.marks.items ≡ length l.inst.names;
  covered : length l.covered.items ≡ length l.inst.exclusion_names;
}
