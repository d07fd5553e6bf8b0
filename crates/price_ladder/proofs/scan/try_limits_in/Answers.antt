use Rattle.std.proofs.Common.{false}
use Rattle.std.specs.Int.{w128}
use Rattle.std.proofs.lemmas.Int.{to_z-of_z}
use Rattle.price_ladder.specs.declared.place.Place.TheVariants.{Upper, Lower}
use Rattle.price_ladder.specs.Steps.{IsStepAt}
use Rattle.price_ladder.specs.Tried.{IsStepAmong, IsLimitIn}
use Rattle.price_ladder.proofs.TriedLemmas.{tried_to, tried_last}
use Rattle.price_ladder.proofs.ScanLemmas.{limit_from_lower, limit_cases}
use Rattle.price_ladder.proofs.scan.try_limits_in.Goals as goal

pub returns-clause-tried : goal.returns-clause-tried
returns-clause-tried g c =
    let b = to_z-of_z w128 c.args.target c.ranges.target in
    let upper = tried_to c.args.inst.now (g.L.Ladder.list c.args.ladder.now) (g.L.Ladder.list c.try_place.new.ladder) _
    c.args.target (IsStepAt c.args.inst.now (g.L.Ladder.list c.args.ladder.now) (Upper c.args.c c.args.t))
    c.in_ok-try_place.field-0 false b c.if-branch.false c.in_ok-try_place.ensures.tried in
    tried_last c.try_place-2.result c.args.inst.now (g.L.Ladder.list c.args.ladder.now)
    (g.L.Ladder.list c.try_place.new.ladder) (g.L.Ladder.list c.try_place-2.new.ladder) _ c.args.target
    (λ old. IsStepAt c.args.inst.now old (Upper c.args.c c.args.t))
    (λ old. IsStepAt c.args.inst.now old (Lower c.args.c c.args.t))
    (IsStepAmong c.args.inst.now (IsLimitIn c.args.c c.args.t)) b
    (λ p s. limit_from_lower c.args.inst.now c.args.c c.args.t (g.L.Ladder.list c.args.ladder.now) p s)
    (λ p s. limit_cases c.args.inst.now c.args.c c.args.t (g.L.Ladder.list c.args.ladder.now) p s) upper
    c.try_place-2.ensures.tried
