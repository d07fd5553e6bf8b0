use Rattle.std.proofs.Common.{◌<◌, ◌^◌, All, unsigned_abs}
use Rattle.price_ladder.specs.Kept.{rebased_of}
use Rattle.price_ladder.proofs.KeptLemmas.{AreValuesTo}
use Rattle.price_ladder.proofs.rebased.all_rebased.Given as goal

abbrev pub invariant-loop-k : goal.invariant-loop-k
invariant-loop-k l = record {
  values : AreValuesTo l.inst (rebased_of l.inst l.prices l.t l.bases) l.k l.new.items;
  small : All (λ z. unsigned_abs z < 10 ^ 30) l.new.items;
}
