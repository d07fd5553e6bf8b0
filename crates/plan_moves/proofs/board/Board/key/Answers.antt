use Rattle.std.proofs.Common.{◌∙◌, ap, arith, map, Some}
use Rattle.fixed_num.proofs.SignedLemmas.{back_from_abs}
use Rattle.instance_model.specs.Keys.{violation_of}
use Rattle.plan_moves.specs.Boards.{Board}
use Rattle.plan_moves.proofs.KeyLemmas.{key_from_parts}
use Rattle.plan_moves.proofs.board.Board.key.Goals as goal

pub returns-clause-value : goal.returns-clause-value
returns-clause-value g c =
    let board = c.args.self.now in
    let violation =
    c.violation.ensures.value ∙ ap (λ (b : Board). violation_of b.instance (map Some b.starts)) c.self.view_is in
    key_from_parts board.instance (map Some board.starts) c.violation.result c.score.result violation
    c.score.ensures.value c.violation.ensures.small (omega (arith, c.score.ensures.small))

pub returns-clause-small : goal.returns-clause-small
returns-clause-small g c =
    rw (back_from_abs c.score.result (omega (arith, c.score.ensures.small))) c.score.ensures.small
