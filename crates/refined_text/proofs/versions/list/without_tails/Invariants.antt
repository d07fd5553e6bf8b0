use Rattle.std.proofs.Common.{◌≡◌, ◌-◌}
use Rattle.lagrange_bound.specs.Prices.{IsPriceList}
use Rattle.refined_text.proofs.VersionsTailLemmas.{cleared}
use Rattle.refined_text.proofs.versions.list.without_tails.Given as goal

abbrev pub invariant-loop-t : goal.invariant-loop-t
invariant-loop-t l = record {
  so_far : l.limits ≡ record l.prices { tails = cleared (l.t - 1) l.prices.tails };
  in_range : IsPriceList l.inst l.limits;
}
