use Rattle.std.proofs.Common.{false, true, refl}
use Rattle.std.specs.Int.{w128}
use Rattle.std.proofs.lemmas.Int.{to_z-of_z}
use Rattle.price_ladder.specs.Steps.{IsLadderStep}
use Rattle.price_ladder.specs.Tried.{IsStepAmong, IsAnyTailStep, IsLimit, IsExcluded}
use Rattle.price_ladder.proofs.TriedLemmas.{tried_to, tried_last, taken_wider, taken_after}
use Rattle.price_ladder.proofs.ScanLemmas.{ladder_from_tail, ladder_from_limit, ladder_from_number, ladder_cases}
use Rattle.price_ladder.proofs.ScanLemmas.{IsNumberStep, number_from_excluded, number_cases}
use Rattle.price_ladder.proofs.scan.try_all.Goals as goal

pub returns-then-branch-clause-tried : goal.returns-then-branch-clause-tried
returns-then-branch-clause-tried g c =
    let b = to_z-of_z w128 c.args.target c.ranges.target in
    taken_wider c.args.inst.now c.args.target
    (IsAnyTailStep c.args.inst.now c.args.starts.now (g.L.Ladder.list c.args.ladder.now))
    (IsLadderStep c.args.inst.now c.args.starts.now (g.L.Ladder.list c.args.ladder.now))
    (g.L.Ladder.list c.try_tails.new.ladder)
    (ladder_from_tail c.args.inst.now c.args.starts.now (g.L.Ladder.list c.args.ladder.now)
    (g.L.Ladder.list c.try_tails.new.ladder))
    (tried_to c.args.inst.now (g.L.Ladder.list c.args.ladder.now) (g.L.Ladder.list c.try_tails.new.ladder) _
    c.args.target (IsAnyTailStep c.args.inst.now c.args.starts.now (g.L.Ladder.list c.args.ladder.now))
    c.in_ok-try_tails.field-0 true b c.if-branch.true c.in_ok-try_tails.ensures.tried)

pub returns-then-branch-2-clause-tried : goal.returns-then-branch-2-clause-tried
returns-then-branch-2-clause-tried g c =
    let b = to_z-of_z w128 c.args.target c.ranges.target in
    let tails = tried_to c.args.inst.now (g.L.Ladder.list c.args.ladder.now) (g.L.Ladder.list c.try_tails.new.ladder) _
    c.args.target (IsAnyTailStep c.args.inst.now c.args.starts.now (g.L.Ladder.list c.args.ladder.now))
    c.in_ok-try_tails.field-0 false b c.if-branch.false c.in_ok-try_tails.ensures.tried in
    let limits = tried_to c.args.inst.now (g.L.Ladder.list c.try_tails.new.ladder)
    (g.L.Ladder.list c.try_limits.new.ladder) _ c.args.target
    (IsStepAmong c.args.inst.now (IsLimit c.args.inst.now) (g.L.Ladder.list c.try_tails.new.ladder))
    c.in_ok-try_limits.field-0 true b c.if-branch-2.true c.in_ok-try_limits.ensures.tried in
    taken_after c.args.inst.now (g.L.Ladder.list c.args.ladder.now) (g.L.Ladder.list c.try_tails.new.ladder)
    (g.L.Ladder.list c.try_limits.new.ladder) c.args.target (IsAnyTailStep c.args.inst.now c.args.starts.now)
    (IsStepAmong c.args.inst.now (IsLimit c.args.inst.now)) (IsLadderStep c.args.inst.now c.args.starts.now)
    (ladder_from_limit c.args.inst.now c.args.starts.now (g.L.Ladder.list c.args.ladder.now)
    (g.L.Ladder.list c.try_limits.new.ladder)) tails limits

pub returns-clause-tried : goal.returns-clause-tried
returns-clause-tried g c =
    let b = to_z-of_z w128 c.args.target c.ranges.target in
    let tails = tried_to c.args.inst.now (g.L.Ladder.list c.args.ladder.now) (g.L.Ladder.list c.try_tails.new.ladder) _
    c.args.target (IsAnyTailStep c.args.inst.now c.args.starts.now (g.L.Ladder.list c.args.ladder.now))
    c.in_ok-try_tails.field-0 false b c.if-branch.false c.in_ok-try_tails.ensures.tried in
    let limits = tried_to c.args.inst.now (g.L.Ladder.list c.try_tails.new.ladder)
    (g.L.Ladder.list c.try_limits.new.ladder) _ c.args.target
    (IsStepAmong c.args.inst.now (IsLimit c.args.inst.now) (g.L.Ladder.list c.try_tails.new.ladder))
    c.in_ok-try_limits.field-0 false b c.if-branch-2.false c.in_ok-try_limits.ensures.tried in
    let numbers = tried_last c.try_exclusions.result c.args.inst.now (g.L.Ladder.list c.try_tails.new.ladder)
    (g.L.Ladder.list c.try_limits.new.ladder) (g.L.Ladder.list c.try_exclusions.new.ladder) _ c.args.target
    (IsStepAmong c.args.inst.now (IsLimit c.args.inst.now)) (IsStepAmong c.args.inst.now (IsExcluded c.args.inst.now))
    (IsNumberStep c.args.inst.now) b
    (λ p s. number_from_excluded c.args.inst.now (g.L.Ladder.list c.try_tails.new.ladder) p s)
    (λ p s. number_cases c.args.inst.now (g.L.Ladder.list c.try_tails.new.ladder) p s) limits
    c.try_exclusions.ensures.tried in
    tried_last c.try_exclusions.result c.args.inst.now (g.L.Ladder.list c.args.ladder.now)
    (g.L.Ladder.list c.try_tails.new.ladder) (g.L.Ladder.list c.try_exclusions.new.ladder) c.args.target
    c.args.target (IsAnyTailStep c.args.inst.now c.args.starts.now) (IsNumberStep c.args.inst.now)
    (IsLadderStep c.args.inst.now c.args.starts.now) refl
    (λ p s. ladder_from_number c.args.inst.now c.args.starts.now (g.L.Ladder.list c.args.ladder.now) p s)
    (λ p s. ladder_cases c.args.inst.now c.args.starts.now (g.L.Ladder.list c.args.ladder.now) p s) tails numbers
