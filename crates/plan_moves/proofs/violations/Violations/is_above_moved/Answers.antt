use Rattle.std.proofs.Common.{subst, ℤ, ◌<ℤ◌, Some, map, set}
use Rattle.instance_model.specs.Keys.{band_gaps, violation_of}
use Rattle.resource_bands.specs.StartChanges.{board_after}
use Rattle.scenario_rows.proofs.JudgeLemmas.{limit_back}
use Rattle.plan_moves.specs.Boards.{Board}
use Rattle.plan_moves.proofs.AboveLemmas.{moved_board, violation_above}
use Rattle.plan_moves.proofs.violations.Violations.is_above_moved.Goals as goal

pub returns : goal.returns
returns c = λ h.
    let inst = c.self.inside.inst.now in
    let starts = c.self.inside.starts.items in
    let board = c.self.inside.loads.board in
    let one = c.start_change-one.result in
    let above = subst (λ (l : ℤ). l <ℤ band_gaps inst (board_after one one board))
    (limit_back c.args.limit c.ranges.limit) (c.is_above_after.ensures h) in
    let moved = moved_board board starts c.args.i c.args.s c.start_of.result one c.start_change-one.ensures
    c.self.invariant.loads_board in
    subst (λ (b : Board). c.args.limit <ℤ violation_of b.instance (map Some (set b.starts c.args.i c.args.s)))
    c.self.view_is (violation_above inst (board_after one one board) (map Some (set starts c.args.i c.args.s))
    c.args.limit
    above moved)
