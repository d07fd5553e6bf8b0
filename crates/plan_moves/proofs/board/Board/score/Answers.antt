use Rattle.std.proofs.Common.{◌∙◌, ap, subst, arith, map, Some}
use Rattle.fixed_num.proofs.SignedLemmas.{back_from_abs}
use Rattle.instance_model.specs.Fitting.{IsFitting}
use Rattle.instance_model.specs.Values.{score_of}
use Rattle.instance_model.proofs.ScoreSizeLemmas.{score_of_small}
use Rattle.plan_moves.specs.Boards.{Board}
use Rattle.plan_moves.proofs.board.Board.score.Goals as goal

pub returns-clause-value : goal.returns-clause-value
returns-clause-value g c =
    let board = c.self.inside.violations in
    let value = back_from_abs c.score.result (omega (arith, c.score.ensures.small))
    ∙ c.score.ensures.value board.instance c.self.invariant.over
    ∙ ap (score_of board.instance) c.self.invariant.board_is in
    value ∙ ap (λ (b : Board). score_of b.instance (map Some b.starts)) c.self.view_is

pub returns-clause-small : goal.returns-clause-small
returns-clause-small g c =
    let inst = c.args.self.now.instance in
    let fits = subst IsFitting c.instance.ensures c.fits.ensures in
    rw (returns-clause-value g c) (score_of_small inst (map Some c.args.self.now.starts) fits)
