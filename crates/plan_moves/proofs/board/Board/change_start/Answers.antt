use Rattle.std.proofs.Common.{◌<◌, sym, ap, subst, arith, length, IsTrue}
use Rattle.instance_model.specs.Tables.{Tables, is_allowed}
use Rattle.scenario_rows.specs.RiskStates.{IsOver}
use Rattle.plan_moves.specs.Boards.{Board, AreRowsOf}
use Rattle.plan_moves.proofs.BoardLemmas.{is_on_board, AreRowsOf-set}
use Rattle.plan_moves.proofs.board.Board.change_start.Goals as goal

pub move_run-requires-clause-on_board : goal.move_run-requires-clause-on_board
move_run-requires-clause-on_board g c =
    let board = c.self.inside.violations in
    let within : c.args.i < length board.starts = omega (
      arith,
      c.self.invariant.allowed.each,
      ap (λ (b : Board). length b.instance.names)
          c.self.view_is,
      c.requires.number,
    ) in
    is_on_board c.self.inside.rows.board board.starts c.args.i c.self.invariant.board_is within

pub invariant_of-self : goal.invariant_of-self
invariant_of-self g c =
    let allowed =
    subst (λ (b : Board). IsTrue (is_allowed b.instance c.args.i c.args.s)) (sym c.self.view_is) c.requires.allowed in
    let over = subst (λ (inst : Tables). IsOver inst c.move_run.new.rows) c.instance.ensures c.move_run.ensures.over in
    subst (λ (b : Board). AreRowsOf b c.move_run.new.rows) (sym c.set_start.ensures)
    (AreRowsOf-set c.self.inside.violations c.self.inside.rows c.move_run.new.rows c.args.i c.args.s c.self.invariant
    allowed over c.move_run.ensures.board)
