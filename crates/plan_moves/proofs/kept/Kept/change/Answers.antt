use Rattle.std.proofs.Common.{◌∙◌, ◌++◌, ◌∷◌, [], sym, ap, subst, ℕ, List}
use Rattle.undo_trail.specs.declared.Step.{Step}
use Rattle.plan_moves.specs.Boards.{Board}
use Rattle.plan_moves.specs.Changing.{after_change}
use Rattle.plan_moves.specs.KeptPlans.{with_plan}
use Rattle.plan_moves.specs.Trails.{IsTrailOf, step_back}
use Rattle.plan_moves.proofs.ChangingLemmas.{can_change-board, allowed-after_change, named-step_back, undone-step_back}
use Rattle.plan_moves.proofs.TrailLemmas.{IsTrailOf-push, allowed-present, present_is, with_plan-push}
use Rattle.plan_moves.proofs.kept.Kept.change.Goals as goal

pub change-back-requires : goal.change-back-requires
change-back-requires g c =
    can_change-board c.self.inside.board c.self.inside.trail c.args.self.now c.args.change c.self.view_is c.requires.can

pub invariant_of-self : goal.invariant_of-self
invariant_of-self g c =
    let board = c.self.inside.board in
    let step = step_back c.args.change board.starts in
    let can = can_change-board board c.self.inside.trail c.args.self.now c.args.change c.self.view_is c.requires.can in
    let present = allowed-present board.instance c.self.inside.trail.0 board.starts c.self.invariant in
    let pushed = IsTrailOf-push board.instance c.self.inside.trail.0 step board.starts
    (after_change c.args.change board.starts) c.self.invariant
    (named-step_back board.instance board.starts c.args.change can)
    (undone-step_back board.instance board.starts c.args.change present can)
    (allowed-after_change board.instance board.starts c.args.change present can) in
    let steps = c.push.ensures.steps ∙ ap (λ (s : Step). c.self.inside.trail.0 ++ s ∷ []) c.change-back.ensures.back in
    let after = subst (λ (l : List Step). IsTrailOf board.instance l (after_change c.args.change board.starts))
    (sym steps) pushed in
    subst (λ (b : Board). IsTrailOf b.instance c.push.new.self.0 b.starts) (sym c.change-back.ensures.starts) after

pub returns-clause-plans : goal.returns-clause-plans
returns-clause-plans g c =
    let board = c.self.inside.board in
    let step = step_back c.args.change board.starts in
    let can = can_change-board board c.self.inside.trail c.args.self.now c.args.change c.self.view_is c.requires.can in
    let present = allowed-present board.instance c.self.inside.trail.0 board.starts c.self.invariant in
    let steps = c.push.ensures.steps ∙ ap (λ (s : Step). c.self.inside.trail.0 ++ s ∷ []) c.change-back.ensures.back in
    with_plan-push board c.change-back.new.self c.self.inside.trail c.push.new.self step
    (after_change c.args.change board.starts) c.args.self.now c.self.view_is c.change-back.ensures.starts steps
    c.push.ensures.spare (undone-step_back board.instance board.starts c.args.change present can)
    ∙ ap (λ (l : List ℕ). with_plan (after_change c.args.change l) c.args.self.now)
    (sym (present_is board c.self.inside.trail c.args.self.now c.self.view_is))
