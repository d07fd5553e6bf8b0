use Rattle.std.proofs.Common.{◌+◌}
use Rattle.lagrange_bound.specs.Worth.{band_share}
use Rattle.lagrange_bound.proofs.PricingLemmas.{IsRunSum}
use Rattle.lagrange_bound.proofs.band_cost.band_cost_of.Given as goal

abbrev pub invariant-loop-t : goal.invariant-loop-t
invariant-loop-t l = IsRunSum (λ u. band_share l.inst l.prices l.i l.s l.c (u + 1)) l.t l.cost
