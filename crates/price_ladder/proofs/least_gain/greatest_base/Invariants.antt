use Rattle.std.proofs.Common.{◌<◌, ◌^◌, unsigned_abs}
use Rattle.instance_model.specs.Tables.{is_allowed, tmax}
use Rattle.lagrange_bound.specs.Prices.{zero_list}
use Rattle.lagrange_bound.specs.Goals.{risk_base}
use Rattle.price_ladder.proofs.GreatestLemmas.{IsGreatestTo}
use Rattle.price_ladder.proofs.least_gain.greatest_base.Given as goal

abbrev pub invariant-loop-s : goal.invariant-loop-s
invariant-loop-s l = record {
  value : IsGreatestTo (risk_base l.inst (zero_list l.inst) l.i) (is_allowed l.inst l.i)
      (tmax l.inst l.i) l.s l.greatest;
  small : unsigned_abs l.greatest < 10 ^ 30;
}
