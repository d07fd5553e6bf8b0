use Rattle.price_ladder.specs.Steps.{IsTailStep}
use Rattle.price_ladder.proofs.TriedLemmas.{HaveFailed}
use Rattle.price_ladder.proofs.scan.try_tails.Given as goal

abbrev pub invariant-loop-t : goal.invariant-loop-t
invariant-loop-t g l = record {
  failed : HaveFailed l.inst (g.L.Ladder.list l.initial.ladder) (g.L.Ladder.list l.ladder) l.target
      (λ t old new. IsTailStep l.inst l.starts old t new) 1 l.t;
  kept : g.L.Ladder.is_kept l.inst l.ladder;
}
