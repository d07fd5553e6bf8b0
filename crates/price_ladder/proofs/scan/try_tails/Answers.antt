use Rattle.std.proofs.Common.{refl, arith, false}
use Rattle.std.specs.Int.{w128}
use Rattle.std.proofs.lemmas.Int.{to_z-of_z}
use Rattle.price_ladder.specs.Steps.{IsTailStep}
use Rattle.price_ladder.specs.Tried.{IsAnyTailStep}
use Rattle.price_ladder.proofs.TriedLemmas.{tried_to, failed_more, failed_all}
use Rattle.price_ladder.proofs.ScanLemmas.{tail_step_at}
use Rattle.price_ladder.proofs.scan.try_tails.Goals as goal

pub loop-t-preserved : goal.loop-t-preserved
loop-t-preserved g c = record {
  failed = failed_more c.args.inst.now (g.L.Ladder.list c.args.ladder.now) (g.L.Ladder.list c.loop-t.ladder)
      (g.L.Ladder.list c.try_tail.new.self) _ (λ t old new. IsTailStep c.args.inst.now c.args.starts.now old t new) 1
      c.loop-t.t c.loop-t.invariant.failed
      (tried_to c.args.inst.now (g.L.Ladder.list c.loop-t.ladder) (g.L.Ladder.list c.try_tail.new.self) _ _
      (IsTailStep c.args.inst.now c.args.starts.now (g.L.Ladder.list c.loop-t.ladder) c.loop-t.t)
      c.in_ok-try_tail.field-0
      false refl c.if-branch.false c.in_ok-try_tail.ensures.tried);
  kept = c.in_ok-try_tail.ensures.kept;
}

pub returns-clause-tried : goal.returns-clause-tried
returns-clause-tried g c =
    tried_to c.args.inst.now (g.L.Ladder.list c.args.ladder.now) (g.L.Ladder.list c.loop-t.ladder) _ _ _ false false
    (to_z-of_z w128 c.args.target c.ranges.target) refl
    (failed_all c.args.inst.now (g.L.Ladder.list c.args.ladder.now) (g.L.Ladder.list c.loop-t.ladder) _
    (λ t old new. IsTailStep c.args.inst.now c.args.starts.now old t new)
    (IsAnyTailStep c.args.inst.now c.args.starts.now) 1 c.loop-t.t
    (λ p s. tail_step_at c.args.inst.now c.args.starts.now c.loop-t.t (g.L.Ladder.list c.args.ladder.now) p
    (omega arith) s) c.loop-t.invariant.failed)
