use Rattle.std.proofs.Common.{take}
use Rattle.json_machine.specs.Machines.{state_of, IsSound}
use Rattle.json_tree.specs.Building.{built_of}
use Rattle.json_grammar.proofs.LawsLoop.{Came}
use Rattle.json_tree.proofs.tree_reader.read_tree.Given as goal

abbrev pub invariant-loop-i : goal.invariant-loop-i
invariant-loop-i l = record {
  came : Came (state_of l.machine) (built_of l.builder) (take l.i l.bytes);
  sound : IsSound l.i l.machine;
}
