use Rattle.std.proofs.Common.{refl, arith, false}
use Rattle.std.specs.Int.{w128}
use Rattle.std.proofs.lemmas.Int.{to_z-of_z}
use Rattle.price_ladder.specs.Tried.{IsStepAmong, IsExcludedIn, IsExcludedOf}
use Rattle.price_ladder.proofs.TriedLemmas.{tried_to, failed_more, failed_all}
use Rattle.price_ladder.proofs.ScanLemmas.{excluded_of_at}
use Rattle.price_ladder.proofs.scan.try_exclusion.Goals as goal

pub loop-t-preserved : goal.loop-t-preserved
loop-t-preserved g c = record {
  failed = failed_more c.args.inst.now (g.L.Ladder.list c.args.ladder.now) (g.L.Ladder.list c.loop-t.ladder)
      (g.L.Ladder.list c.try_exclusion_in.new.ladder) _
      (λ t. IsStepAmong c.args.inst.now (IsExcludedIn c.args.inst.now c.args.e t)) 1 c.loop-t.t
      c.loop-t.invariant.failed
      (tried_to c.args.inst.now (g.L.Ladder.list c.loop-t.ladder) (g.L.Ladder.list c.try_exclusion_in.new.ladder) _ _
      (IsStepAmong c.args.inst.now (IsExcludedIn c.args.inst.now c.args.e c.loop-t.t) (g.L.Ladder.list c.loop-t.ladder))
      c.in_ok-try_exclusion_in.field-0 false refl c.if-branch.false c.in_ok-try_exclusion_in.ensures.tried);
  kept = c.in_ok-try_exclusion_in.ensures.kept;
}

pub returns-clause-tried : goal.returns-clause-tried
returns-clause-tried g c =
    tried_to c.args.inst.now (g.L.Ladder.list c.args.ladder.now) (g.L.Ladder.list c.loop-t.ladder) _ _ _ false false
    (to_z-of_z w128 c.args.target c.ranges.target) refl
    (failed_all c.args.inst.now (g.L.Ladder.list c.args.ladder.now) (g.L.Ladder.list c.loop-t.ladder) _
    (λ t. IsStepAmong c.args.inst.now (IsExcludedIn c.args.inst.now c.args.e t))
    (IsStepAmong c.args.inst.now (IsExcludedOf c.args.inst.now c.args.e)) 1 c.loop-t.t
    (λ p s. excluded_of_at c.args.inst.now c.args.e c.loop-t.t (g.L.Ladder.list c.args.ladder.now) p (omega arith)
    s) c.loop-t.invariant.failed)
