use Rattle.std.proofs.Common.{◌≤◌, ◌*◌, drop}
use Rattle.refined_prices.proofs.TablesGroupTestLemmas.{IsGroupOn}
use Rattle.refined_prices.proofs.tables.group_test.is_group.Given as goal

abbrev pub invariant-loop-member : goal.invariant-loop-member
invariant-loop-member l = record {
  few : l.sum ≤ l.last * 1000;
  from : IsGroupOn l.n l.total l.last l.sum (drop l.member-index l.group) → IsGroupOn l.n l.total 0 0 l.group;
  to : IsGroupOn l.n l.total 0 0 l.group → IsGroupOn l.n l.total l.last l.sum (drop l.member-index l.group);
}
