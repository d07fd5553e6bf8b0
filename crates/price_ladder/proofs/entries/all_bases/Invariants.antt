use Rattle.std.proofs.Common.{◌<◌, ◌^◌, All, unsigned_abs}
use Rattle.lagrange_bound.specs.Goals.{risk_base}
use Rattle.price_ladder.proofs.KeptLemmas.{AreValuesTo}
use Rattle.price_ladder.proofs.entries.all_bases.Given as goal

abbrev pub invariant-loop-k : goal.invariant-loop-k
invariant-loop-k l = record {
  values : AreValuesTo l.inst (risk_base l.inst l.prices) l.k l.entries.items;
  small : All (λ z. unsigned_abs z < 10 ^ 30) l.entries.items;
}
