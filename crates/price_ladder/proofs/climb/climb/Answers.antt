use Rattle.std.proofs.Common.{◌∙◌, ◌≤ℤ◌, sym, subst, arith, true, false, refl}
use Rattle.fixed_num.proofs.SignedLemmas.{back_from_abs}
use Rattle.lagrange_bound.specs.Prices.{PriceList}
use Rattle.price_ladder.specs.Steps.{IsLadderStep}
use Rattle.price_ladder.specs.Raised.{root_worth, least_total}
use Rattle.price_ladder.proofs.GainLemmas.{root_has_starts}
use Rattle.price_ladder.proofs.TriedLemmas.{tried_to}
use Rattle.price_ladder.proofs.ClimbLemmas.{target_at, raised_by_failing, raised_by_steps, climbed_least, climbed_more}
use Rattle.price_ladder.proofs.climb.climb.Goals as goal

pub worth-requires-clause-starts : goal.worth-requires-clause-starts
worth-requires-clause-starts g c = root_has_starts c.args.inst.now c.args.starts.now c.requires.starts

pub try_all-requires-clause-root : goal.try_all-requires-clause-root
try_all-requires-clause-root g c = root_has_starts c.args.inst.now c.args.starts.now c.requires.starts

pub worth-requires-in-loop-step-clause-starts : goal.worth-requires-in-loop-step-clause-starts
worth-requires-in-loop-step-clause-starts g c = root_has_starts c.args.inst.now c.args.starts.now c.requires.starts

pub returns-then-not-branch-clause-raised : goal.returns-then-not-branch-clause-raised
returns-then-not-branch-clause-raised g c =
    let target = target_at c.args.inst.now _ c.in_ok-gain.gain c.loop-step.invariant.small c.in_ok-gain.ensures.small
    c.in_ok-gain.ensures.value in
    raised_by_failing c.args.inst.now c.args.starts.now (g.L.Ladder.list c.loop-step.ladder)
    (g.L.Ladder.list c.try_all.new.ladder) _ c.loop-step.invariant.worth
    (tried_to c.args.inst.now (g.L.Ladder.list c.loop-step.ladder) (g.L.Ladder.list c.try_all.new.ladder) _ _
    (IsLadderStep c.args.inst.now c.args.starts.now (g.L.Ladder.list c.loop-step.ladder)) c.in_ok-try_all.field-0
    false target c.if-not-branch.true c.in_ok-try_all.ensures.tried)

pub returns-then-not-branch-clause-not_below_zeros : goal.returns-then-not-branch-clause-not_below_zeros
returns-then-not-branch-clause-not_below_zeros g c =
    let tried = tried_to c.args.inst.now (g.L.Ladder.list c.loop-step.ladder) (g.L.Ladder.list c.try_all.new.ladder) _ _
    (IsLadderStep c.args.inst.now c.args.starts.now (g.L.Ladder.list c.loop-step.ladder)) c.in_ok-try_all.field-0
    false refl c.if-not-branch.true c.in_ok-try_all.ensures.tried in
    subst (λ (p : PriceList). least_total c.args.inst.now ≤ℤ root_worth c.args.inst.now p) (sym tried.0)
    (climbed_least c.args.inst.now (g.L.Ladder.list c.args.ladder.now) c.loop-step._step
    (g.L.Ladder.list c.loop-step.ladder) (root_has_starts c.args.inst.now c.args.starts.now c.requires.starts)
    c.loop-step.invariant.climbed)

pub loop-step-preserved : goal.loop-step-preserved
loop-step-preserved g c =
    let target = target_at c.args.inst.now _ c.in_ok-gain.gain c.loop-step.invariant.small c.in_ok-gain.ensures.small
    c.in_ok-gain.ensures.value in
    let b = back_from_abs c.in_ok-worth-2.worth (omega (arith, c.in_ok-worth-2.ensures.small)) in
    record {
      climbed = climbed_more c.args.inst.now c.args.starts.now (g.L.Ladder.list c.args.ladder.now) c.loop-step._step
          (g.L.Ladder.list c.loop-step.ladder) (g.L.Ladder.list c.try_all.new.ladder) _ c.loop-step.invariant.worth
          c.loop-step.invariant.climbed
          (tried_to c.args.inst.now (g.L.Ladder.list c.loop-step.ladder) (g.L.Ladder.list c.try_all.new.ladder) _ _
          (IsLadderStep c.args.inst.now c.args.starts.now (g.L.Ladder.list c.loop-step.ladder)) c.in_ok-try_all.field-0
          true target c.if-not-branch.false c.in_ok-try_all.ensures.tried);
      kept = c.in_ok-try_all.ensures.kept;
      worth = b ∙ c.in_ok-worth-2.ensures.value;
      small = rw b c.in_ok-worth-2.ensures.small;
    }

pub returns-clause-raised : goal.returns-clause-raised
returns-clause-raised g c = raised_by_steps c.args.inst.now c.args.starts.now (g.L.Ladder.list c.args.ladder.now)
    c.loop-step._step (g.L.Ladder.list c.loop-step.ladder) (omega arith)
    (root_has_starts c.args.inst.now c.args.starts.now c.requires.starts) c.loop-step.invariant.climbed

pub returns-clause-not_below_zeros : goal.returns-clause-not_below_zeros
returns-clause-not_below_zeros g c = climbed_least c.args.inst.now (g.L.Ladder.list c.args.ladder.now) c.loop-step._step
    (g.L.Ladder.list c.loop-step.ladder) (root_has_starts c.args.inst.now c.args.starts.now c.requires.starts)
    c.loop-step.invariant.climbed
