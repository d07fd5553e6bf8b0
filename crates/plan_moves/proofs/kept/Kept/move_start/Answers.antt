use Rattle.std.proofs.Common.{◌<◌, ◌∙◌, sym, ap, subst, ℕ, List, length, set, IsTrue}
use Rattle.undo_trail.specs.declared.Step.{Step}
use Rattle.undo_trail.specs.declared.Step.TheVariants.{Move}
use Rattle.instance_model.specs.Tables.{is_allowed}
use Rattle.plan_moves.specs.Boards.{Board}
use Rattle.plan_moves.specs.KeptPlans.{KeptPlans, with_plan}
use Rattle.plan_moves.specs.Trails.{IsTrailOf}
use Rattle.plan_moves.proofs.BoardLemmas.{AreAllowedStarts-set}
use Rattle.plan_moves.proofs.TrailLemmas.{IsTrailOf-push, allowed-present, present_is, undone-move, with_plan-push}
use Rattle.plan_moves.proofs.kept.Kept.move_start.Goals as goal

pub invariant_of-self : goal.invariant_of-self
invariant_of-self g c =
    let board = c.self.inside.board in
    let i = c.args.i in
    let s = c.args.s in
    let from = c.set_start-from.result in
    let number = subst (λ (k : KeptPlans). i < length k.instance.names) (sym c.self.view_is) c.requires.number in
    let allowed =
    subst (λ (k : KeptPlans). IsTrue (is_allowed k.instance i s)) (sym c.self.view_is) c.requires.allowed in
    let back = undone-move board.starts i s from c.set_start-from.ensures.within c.set_start-from.ensures.before in
    let next = AreAllowedStarts-set board.instance board.starts i s
    (allowed-present board.instance c.self.inside.trail.0 board.starts c.self.invariant) allowed in
    let pushed = IsTrailOf-push board.instance c.self.inside.trail.0 (Move i from) board.starts (set board.starts i s)
    c.self.invariant number back next in
    let after =
    subst (λ (l : List Step). IsTrailOf board.instance l (set board.starts i s)) (sym c.push.ensures.steps) pushed in
    subst (λ (b : Board). IsTrailOf b.instance c.push.new.self.0 b.starts) (sym c.set_start-from.ensures.starts) after

pub returns-clause-plans : goal.returns-clause-plans
returns-clause-plans g c =
    let board = c.self.inside.board in
    let i = c.args.i in
    let s = c.args.s in
    let from = c.set_start-from.result in
    let back = undone-move board.starts i s from c.set_start-from.ensures.within c.set_start-from.ensures.before in
    with_plan-push board c.set_start-from.new.self c.self.inside.trail c.push.new.self (Move i from)
    (set board.starts i s) c.args.self.now c.self.view_is c.set_start-from.ensures.starts c.push.ensures.steps
    c.push.ensures.spare back
    ∙ ap (λ (l : List ℕ). with_plan (set l i s) c.args.self.now)
    (sym (present_is board c.self.inside.trail c.args.self.now c.self.view_is))
