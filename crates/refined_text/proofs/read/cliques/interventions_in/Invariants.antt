use Rattle.std.proofs.Common.{◌≡◌, ◌≤◌, ◌-◌, take, map}
use Rattle.std.specs.List.{All}
use Rattle.refined_text.proofs.read.cliques.interventions_in.Given as goal

abbrev pub invariant-loop-number : goal.invariant-loop-number
invariant-loop-number l = record {
  read : l.list.items ≡ map (λ i. i - 1) (take l.number-index l.numbers);
  numbers : All (λ i. 1 ≤ i) (take l.number-index l.numbers);
}
