use Rattle.std.proofs.Common.{take}
use Rattle.refined_prices.specs.tables.PaidSums.{AreByRun}
use Rattle.refined_prices.proofs.TablesPaidLemmas.{paid_so_far}
use Rattle.refined_prices.proofs.tables.paid_sums.paid_sums.Given as goal

abbrev pub invariant-loop-x : goal.invariant-loop-x
invariant-loop-x l = AreByRun l.inst (paid_so_far l.inst l.list.prices.ex (take l.x-index l.list.cliques)) l.sums.items
