use Rattle.std.proofs.Common.{refl, arith, false}
use Rattle.std.specs.Int.{w128}
use Rattle.std.proofs.lemmas.Int.{to_z-of_z}
use Rattle.price_ladder.specs.Tried.{IsStepAmong, IsLimitOf, IsLimit}
use Rattle.price_ladder.proofs.TriedLemmas.{tried_to, failed_more, failed_all}
use Rattle.price_ladder.proofs.ScanLemmas.{limit_at}
use Rattle.price_ladder.proofs.scan.try_limits.Goals as goal

pub loop-c-preserved : goal.loop-c-preserved
loop-c-preserved g c = record {
  failed = failed_more c.args.inst.now (g.L.Ladder.list c.args.ladder.now) (g.L.Ladder.list c.loop-c.ladder)
      (g.L.Ladder.list c.try_limits_of.new.ladder) _ (λ k. IsStepAmong c.args.inst.now (IsLimitOf c.args.inst.now k)) 0
      c.loop-c.c c.loop-c.invariant.failed
      (tried_to c.args.inst.now (g.L.Ladder.list c.loop-c.ladder) (g.L.Ladder.list c.try_limits_of.new.ladder) _ _
      (IsStepAmong c.args.inst.now (IsLimitOf c.args.inst.now c.loop-c.c) (g.L.Ladder.list c.loop-c.ladder))
      c.in_ok-try_limits_of.field-0 false refl c.if-branch.false c.in_ok-try_limits_of.ensures.tried);
  kept = c.in_ok-try_limits_of.ensures.kept;
}

pub returns-clause-tried : goal.returns-clause-tried
returns-clause-tried g c =
    tried_to c.args.inst.now (g.L.Ladder.list c.args.ladder.now) (g.L.Ladder.list c.loop-c.ladder) _ _ _ false false
    (to_z-of_z w128 c.args.target c.ranges.target) refl
    (failed_all c.args.inst.now (g.L.Ladder.list c.args.ladder.now) (g.L.Ladder.list c.loop-c.ladder) _
    (λ k. IsStepAmong c.args.inst.now (IsLimitOf c.args.inst.now k))
    (IsStepAmong c.args.inst.now (IsLimit c.args.inst.now)) 0 c.loop-c.c
    (λ p s. limit_at c.args.inst.now c.loop-c.c (g.L.Ladder.list c.args.ladder.now) p (omega arith) s)
    c.loop-c.invariant.failed)
