use Rattle.std.proofs.Common.{◌∷◌, [], ◌∙◌, ap, sym, subst, refl, arith, length, length-append}
use Rattle.std.proofs.lemmas.Bool.{false≢true}
use Rattle.plan_moves.specs.Boards.{Board}
use Rattle.plan_moves.specs.Trails.{IsTrailOf}
use Rattle.plan_moves.proofs.TrailLemmas.{IsTrailOf-pop, allowed-present, plan_count, without_present-pop}
use Rattle.plan_moves.proofs.kept.Kept.undo.Goals as goal

pub undo-requires-clause-allowed : goal.undo-requires-clause-allowed
undo-requires-clause-allowed g c =
    let inst = c.self.inside.board.instance in
    let before = IsTrailOf-pop inst c.self.inside.trail.0 c.pop.new.self.0 c.in-Some.step c.self.inside.board.starts
    c.self.invariant c.in-Some.ensures.last in
    allowed-present inst c.pop.new.self.0 _ before

pub invariant_of-self : goal.invariant_of-self
invariant_of-self g c =
    let board = c.self.inside.board in
    let before = IsTrailOf-pop board.instance c.self.inside.trail.0 c.pop.new.self.0 c.in-Some.step board.starts
    c.self.invariant c.in-Some.ensures.last in
    subst (λ (b : Board). IsTrailOf b.instance c.pop.new.self.0 b.starts) (sym c.undo.ensures.starts) before

pub returns-in-Some-clause-plans : goal.returns-in-Some-clause-plans
returns-in-Some-clause-plans g c =
    without_present-pop c.self.inside.board c.undo.new.self c.self.inside.trail c.pop.new.self c.in-Some.step
    c.args.self.now c.self.view_is c.in-Some.ensures.last c.in-Some.ensures.spare c.undo.ensures.starts

pub returns-in-Some-clause-undone : goal.returns-in-Some-clause-undone
returns-in-Some-clause-undone g c =
    let count = plan_count c.self.inside.board c.self.inside.trail c.args.self.now c.self.view_is in
    let longer = ap length c.in-Some.ensures.last ∙ length-append c.pop.new.self.0 (c.in-Some.step ∷ []) in
    (λ _. omega (arith, count, longer), λ _. refl)

pub returns-in-None-clause-undone : goal.returns-in-None-clause-undone
returns-in-None-clause-undone g c =
    let count = plan_count c.self.inside.board c.self.inside.trail c.args.self.now c.self.view_is in
    let none = ap length (c.in-None.ensures.empty.0 refl) in
    (λ e. absurd (false≢true e), λ more. absurd (omega (arith, more, count, none)))
