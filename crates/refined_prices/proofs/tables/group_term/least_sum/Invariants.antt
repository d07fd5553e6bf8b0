use Rattle.std.proofs.Common.{◌≡◌, ◌+◌, ◌*◌, ◌≤◌, ◌+ℤ◌, pos, [], unsigned_abs, get_or}
use Rattle.instance_model.specs.RiskNumbers.{numbers_of}
use Rattle.refined_prices.specs.Groups.{weighted_sum, least_below}
use Rattle.refined_prices.specs.tables.GroupTerms.{risk_in}
use Rattle.refined_prices.proofs.tables.group_term.least_sum.Given as goal

abbrev pub invariant-loop-g : goal.invariant-loop-g
invariant-loop-g l = record {
  value : l.least ≡ least_below l.g (λ g. weighted_sum (risk_in (numbers_of l.fn.risks)) (get_or l.groups g [])
      +ℤ pos (1_000_000_000_000 * get_or l.offsets (l.from + g) 0));
  small : unsigned_abs l.least ≤ 101_000_000_000_000_000_000_000;
}
