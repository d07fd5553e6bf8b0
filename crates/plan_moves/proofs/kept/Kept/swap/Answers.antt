use Rattle.std.proofs.Common.{◌<◌, ◌∙◌, sym, ap, subst, arith, ℕ, List, length, get_or, IsTrue}
use Rattle.std.specs.List.{swap}
use Rattle.undo_trail.specs.declared.Step.{Step}
use Rattle.undo_trail.specs.declared.Step.TheVariants.{Swap}
use Rattle.instance_model.specs.Tables.{is_allowed}
use Rattle.plan_moves.specs.Boards.{Board}
use Rattle.plan_moves.specs.KeptPlans.{KeptPlans, with_plan}
use Rattle.plan_moves.specs.Trails.{IsTrailOf}
use Rattle.plan_moves.proofs.BoardLemmas.{AreAllowedStarts-swap}
use Rattle.plan_moves.proofs.TrailLemmas.{IsTrailOf-push, allowed-present, present_is, undone-swap, with_plan-push}
use Rattle.plan_moves.proofs.kept.Kept.swap.Goals as goal

pub invariant_of-self : goal.invariant_of-self
invariant_of-self g c =
    let board = c.self.inside.board in
    let i = c.args.i in
    let j = c.args.j in
    let first = subst (λ (k : KeptPlans). i < length k.instance.names) (sym c.self.view_is) c.requires.first in
    let second = subst (λ (k : KeptPlans). j < length k.instance.names) (sym c.self.view_is) c.requires.second in
    let here = present_is board c.self.inside.trail c.args.self.now c.self.view_is in
    let first_allowed = subst (λ (k : KeptPlans). IsTrue (is_allowed k.instance i (get_or board.starts j 0)))
    (sym c.self.view_is) (subst (λ (l : List ℕ). IsTrue (is_allowed c.args.self.now.instance i (get_or l j 0))) here
    c.requires.first_allowed) in
    let second_allowed = subst (λ (k : KeptPlans). IsTrue (is_allowed k.instance j (get_or board.starts i 0)))
    (sym c.self.view_is) (subst (λ (l : List ℕ). IsTrue (is_allowed c.args.self.now.instance j (get_or l i 0))) here
    c.requires.second_allowed) in
    let present = allowed-present board.instance c.self.inside.trail.0 board.starts c.self.invariant in
    let back =
    undone-swap board.starts i j (omega (arith, present.each, first)) (omega (arith, present.each, second)) in
    let next =
    AreAllowedStarts-swap board.instance board.starts i j present first second first_allowed second_allowed in
    let pushed = IsTrailOf-push board.instance c.self.inside.trail.0 (Swap i j) board.starts (swap board.starts i j)
    c.self.invariant (first, second) back next in
    let after =
    subst (λ (l : List Step). IsTrailOf board.instance l (swap board.starts i j)) (sym c.push.ensures.steps) pushed in
    subst (λ (b : Board). IsTrailOf b.instance c.push.new.self.0 b.starts) (sym c.exchange.ensures.starts) after

pub returns-clause-plans : goal.returns-clause-plans
returns-clause-plans g c =
    let board = c.self.inside.board in
    let i = c.args.i in
    let j = c.args.j in
    let first = subst (λ (k : KeptPlans). i < length k.instance.names) (sym c.self.view_is) c.requires.first in
    let second = subst (λ (k : KeptPlans). j < length k.instance.names) (sym c.self.view_is) c.requires.second in
    let present = allowed-present board.instance c.self.inside.trail.0 board.starts c.self.invariant in
    let back =
    undone-swap board.starts i j (omega (arith, present.each, first)) (omega (arith, present.each, second)) in
    with_plan-push board c.exchange.new.self c.self.inside.trail c.push.new.self (Swap i j) (swap board.starts i j)
    c.args.self.now c.self.view_is c.exchange.ensures.starts c.push.ensures.steps c.push.ensures.spare back
    ∙ ap (λ (l : List ℕ). with_plan (swap l i j) c.args.self.now)
    (sym (present_is board c.self.inside.trail c.args.self.now c.self.view_is))
