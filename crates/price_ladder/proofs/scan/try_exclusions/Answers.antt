use Rattle.std.proofs.Common.{refl, arith, false}
use Rattle.std.specs.Int.{w128}
use Rattle.std.proofs.lemmas.Int.{to_z-of_z}
use Rattle.price_ladder.specs.Tried.{IsStepAmong, IsExcludedOf, IsExcluded}
use Rattle.price_ladder.proofs.TriedLemmas.{tried_to, failed_more, failed_all}
use Rattle.price_ladder.proofs.ScanLemmas.{excluded_at}
use Rattle.price_ladder.proofs.scan.try_exclusions.Goals as goal

pub loop-e-preserved : goal.loop-e-preserved
loop-e-preserved g c = record {
  failed = failed_more c.args.inst.now (g.L.Ladder.list c.args.ladder.now) (g.L.Ladder.list c.loop-e.ladder)
      (g.L.Ladder.list c.try_exclusion.new.ladder) _
      (λ e. IsStepAmong c.args.inst.now (IsExcludedOf c.args.inst.now e)) 0
      c.loop-e.e c.loop-e.invariant.failed
      (tried_to c.args.inst.now (g.L.Ladder.list c.loop-e.ladder) (g.L.Ladder.list c.try_exclusion.new.ladder) _ _
      (IsStepAmong c.args.inst.now (IsExcludedOf c.args.inst.now c.loop-e.e) (g.L.Ladder.list c.loop-e.ladder))
      c.in_ok-try_exclusion.field-0 false refl c.if-branch.false c.in_ok-try_exclusion.ensures.tried);
  kept = c.in_ok-try_exclusion.ensures.kept;
}

pub returns-clause-tried : goal.returns-clause-tried
returns-clause-tried g c =
    tried_to c.args.inst.now (g.L.Ladder.list c.args.ladder.now) (g.L.Ladder.list c.loop-e.ladder) _ _ _ false false
    (to_z-of_z w128 c.args.target c.ranges.target) refl
    (failed_all c.args.inst.now (g.L.Ladder.list c.args.ladder.now) (g.L.Ladder.list c.loop-e.ladder) _
    (λ e. IsStepAmong c.args.inst.now (IsExcludedOf c.args.inst.now e))
    (IsStepAmong c.args.inst.now (IsExcluded c.args.inst.now)) 0 c.loop-e.e
    (λ p s. excluded_at c.args.inst.now c.loop-e.e (g.L.Ladder.list c.args.ladder.now) p (omega arith) s)
    c.loop-e.invariant.failed)
