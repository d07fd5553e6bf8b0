use Rattle.price_ladder.specs.Kept.{shifted_of}
use Rattle.price_ladder.proofs.KeptLemmas.{AreValuesTo}
use Rattle.price_ladder.proofs.entries.all_shifted.Given as goal

abbrev pub invariant-loop-k : goal.invariant-loop-k
invariant-loop-k l = record {
  values : AreValuesTo l.inst (shifted_of l.inst l.before l.after l.entries) l.k l.new.items;
}
