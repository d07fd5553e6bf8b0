use Rattle.std.proofs.Common.{◌^◌}
use Rattle.price_ladder.specs.Tried.{IsChangedBy}
use Rattle.price_ladder.proofs.TriedLemmas.{HaveFailed}
use Rattle.price_ladder.proofs.sizes.try_place.Given as goal

abbrev pub invariant-loop-exponent : goal.invariant-loop-exponent
invariant-loop-exponent g l = record {
  failed : HaveFailed l.inst (g.L.Ladder.list l.initial.ladder) (g.L.Ladder.list l.ladder) l.target
      (λ e. IsChangedBy l.inst l.place (10 ^ e)) 0 l.exponent;
  kept : g.L.Ladder.is_kept l.inst l.ladder;
}
