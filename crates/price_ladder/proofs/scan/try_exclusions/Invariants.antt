use Rattle.price_ladder.specs.Tried.{IsStepAmong, IsExcludedOf}
use Rattle.price_ladder.proofs.TriedLemmas.{HaveFailed}
use Rattle.price_ladder.proofs.scan.try_exclusions.Given as goal

abbrev pub invariant-loop-e : goal.invariant-loop-e
invariant-loop-e g l = record {
  failed : HaveFailed l.inst (g.L.Ladder.list l.initial.ladder) (g.L.Ladder.list l.ladder) l.target
      (λ e. IsStepAmong l.inst (IsExcludedOf l.inst e)) 0 l.e;
  kept : g.L.Ladder.is_kept l.inst l.ladder;
}
