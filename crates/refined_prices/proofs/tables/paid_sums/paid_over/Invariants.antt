use Rattle.std.proofs.Common.{◌≡◌, ◌+◌, ◌-◌, ◌*◌, ◌≤◌, ◌^◌}
use Rattle.instance_model.specs.Naturals.{count_sum}
use Rattle.refined_prices.proofs.TablesPaidLemmas.{paid_in}
use Rattle.refined_prices.proofs.tables.paid_sums.paid_over.Given as goal

abbrev pub invariant-loop-t : goal.invariant-loop-t
invariant-loop-t l = record {
  value : l.sum ≡ count_sum (l.t - 1) (paid_in l.inst l.list.prices.ex l.list.cliques l.i l.s);
  small : l.sum ≤ (l.t - 1) * (2 ^ 25 * 2_000_000_000 + 4096 * 1_000_000_000);
}
