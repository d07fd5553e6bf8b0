use Rattle.price_ladder.specs.Kept.{more_of}
use Rattle.price_ladder.proofs.KeptLemmas.{AreValuesTo}
use Rattle.price_ladder.proofs.entries.all_more.Given as goal

abbrev pub invariant-loop-k : goal.invariant-loop-k
invariant-loop-k l = record {
  values : AreValuesTo l.inst (more_of l.inst l.place l.times l.entries) l.k l.new.items;
}
