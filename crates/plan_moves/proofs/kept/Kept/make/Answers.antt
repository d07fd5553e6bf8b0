use Rattle.std.proofs.Common.{sym, subst, ℕ, List, []}
use Rattle.undo_trail.specs.declared.Step.{Step}
use Rattle.plan_moves.specs.Boards.{Board}
use Rattle.plan_moves.specs.Trails.{IsTrailOf}
use Rattle.plan_moves.proofs.TrailLemmas.{IsTrailOf-make}
use Rattle.plan_moves.proofs.kept.Kept.make.Goals as goal

pub invariant_of-result : goal.invariant_of-result
invariant_of-result g c =
    let made = IsTrailOf-make c.args.inst.now c.args.starts.now c.requires in
    let over = subst (λ (b : Board). IsTrailOf b.instance [] b.starts) (sym c.in_ok-board.ensures) made in
    subst (λ (t : List Step × ℕ). IsTrailOf c.in_ok-board.board.instance t.0 c.in_ok-board.board.starts)
    (sym c.make-2.ensures) over
