use Rattle.std.proofs.Common.{◌≡◌, ◌+◌, ◌≤◌, drop}
use Rattle.refined_prices.specs.Groups.{weight_in}
use Rattle.refined_text.proofs.read.groups.weight_to.Given as goal

abbrev pub invariant-loop-member : goal.invariant-loop-member
invariant-loop-member l = record {
  few : l.sum ≤ 1000;
  rest : l.sum + weight_in (drop l.member-index l.group) ≡ weight_in l.group;
}
