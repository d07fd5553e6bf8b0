use Rattle.std.proofs.Common.{◌^◌, refl, true, false, subst, arith, ℕ}
use Rattle.std.specs.Int.{w128}
use Rattle.std.proofs.lemmas.Int.{to_z-of_z}
use Rattle.fixed_num.proofs.Bits.{by_bits}
use Rattle.price_ladder.specs.Steps.{IsStepAt}
use Rattle.price_ladder.specs.Tried.{IsChangedBy, IsTried}
use Rattle.price_ladder.proofs.TriedLemmas.{tried_to, failed_taken, failed_all}
use Rattle.price_ladder.proofs.ScanLemmas.{step_from_size, size_from_step}
use Rattle.price_ladder.proofs.sizes.try_place.Goals as goal

pub returns-then-branch-clause-tried : goal.returns-then-branch-clause-tried
returns-then-branch-clause-tried g c =
    let tried = tried_to c.args.inst.now (g.L.Ladder.list c.loop-exponent.ladder)
    (g.L.Ladder.list c.try_size.new.ladder) _ _
    (IsChangedBy c.args.inst.now c.args.place c.pow-size.result (g.L.Ladder.list c.loop-exponent.ladder))
    c.in_ok-try_size.field-0 true refl c.if-branch.true c.in_ok-try_size.ensures.tried in
    tried_to c.args.inst.now (g.L.Ladder.list c.args.ladder.now) (g.L.Ladder.list c.try_size.new.ladder) _ c.args.target
    (IsStepAt c.args.inst.now (g.L.Ladder.list c.args.ladder.now) c.args.place) true true
    (to_z-of_z w128 c.args.target c.ranges.target) refl
    (failed_taken c.args.inst.now (g.L.Ladder.list c.args.ladder.now) (g.L.Ladder.list c.loop-exponent.ladder)
    (g.L.Ladder.list c.try_size.new.ladder) _ (λ k. IsChangedBy c.args.inst.now c.args.place (10 ^ k))
    (λ old. IsStepAt c.args.inst.now old c.args.place) 0 c.loop-exponent.exponent
    (step_from_size c.args.inst.now c.args.place (g.L.Ladder.list c.args.ladder.now)
    (g.L.Ladder.list c.try_size.new.ladder) c.loop-exponent.exponent (omega arith)) c.loop-exponent.invariant.failed
    (subst
    (λ (n : ℕ). IsTried c.args.inst.now (g.L.Ladder.list c.loop-exponent.ladder)
    (g.L.Ladder.list c.try_size.new.ladder) (by_bits c.args.target)
    (IsChangedBy c.args.inst.now c.args.place n (g.L.Ladder.list c.loop-exponent.ladder)) true)
    c.pow-size.ensures tried))

pub returns-clause-tried : goal.returns-clause-tried
returns-clause-tried g c =
    tried_to c.args.inst.now (g.L.Ladder.list c.args.ladder.now) (g.L.Ladder.list c.loop-exponent.ladder) _ _ _ false
    false (to_z-of_z w128 c.args.target c.ranges.target) refl
    (failed_all c.args.inst.now (g.L.Ladder.list c.args.ladder.now) (g.L.Ladder.list c.loop-exponent.ladder) _
    (λ k. IsChangedBy c.args.inst.now c.args.place (10 ^ k)) (λ old. IsStepAt c.args.inst.now old c.args.place) 0
    c.loop-exponent.exponent (λ p s. size_from_step c.args.inst.now c.args.place (g.L.Ladder.list c.args.ladder.now)
    p c.loop-exponent.exponent (omega arith) s) c.loop-exponent.invariant.failed)
