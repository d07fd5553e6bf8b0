use Rattle.price_ladder.specs.Tried.{IsStepAmong, IsLimitOf}
use Rattle.price_ladder.proofs.TriedLemmas.{HaveFailed}
use Rattle.price_ladder.proofs.scan.try_limits.Given as goal

abbrev pub invariant-loop-c : goal.invariant-loop-c
invariant-loop-c g l = record {
  failed : HaveFailed l.inst (g.L.Ladder.list l.initial.ladder) (g.L.Ladder.list l.ladder) l.target
      (λ c. IsStepAmong l.inst (IsLimitOf l.inst c)) 0 l.c;
  kept : g.L.Ladder.is_kept l.inst l.ladder;
}
