use Rattle.std.proofs.Common.{◌<◌, ◌∙◌, sym, ap, subst, ℤ, ◌<ℤ◌, Some, map, length, get_or}
use Rattle.instance_model.specs.Keys.{band_gaps, violation_of}
use Rattle.resource_bands.specs.StartChanges.{board_after}
use Rattle.scenario_rows.proofs.JudgeLemmas.{limit_back}
use Rattle.plan_moves.specs.Boards.{Board}
use Rattle.plan_moves.proofs.AboveLemmas.{exchanged_board, violation_above}
use Rattle.plan_moves.proofs.violations.Violations.is_above_exchanged.Goals as goal
use Rattle.std.specs.List.{swap}

pub returns : goal.returns
returns c = λ h.
    let inst = c.self.inside.inst.now in
    let starts = c.self.inside.starts.items in
    let board = c.self.inside.loads.board in
    let one = c.start_change-one.result in
    let other = c.start_change-other.result in
    let above = subst (λ (l : ℤ). l <ℤ band_gaps inst (board_after one other board))
    (limit_back c.args.limit c.ranges.limit) (c.is_above_after.ensures h) in
    let same = sym c.self.view_is in
    let first_within = subst (λ (b : Board). c.args.i < length b.starts) same c.start_of-first.ensures.within in
    let second_within = subst (λ (b : Board). c.args.j < length b.starts) same c.start_of-second.ensures.within in
    let first = c.start_of-first.ensures.value ∙ ap (λ (b : Board). get_or b.starts c.args.i 0) same in
    let second = c.start_of-second.ensures.value ∙ ap (λ (b : Board). get_or b.starts c.args.j 0) same in
    let swapped = exchanged_board board starts c.args.i c.args.j c.start_of-first.result c.start_of-second.result one
    other
    c.start_change-one.ensures c.start_change-other.ensures first_within second_within c.self.invariant.loads_board
    first
    second in
    subst (λ (b : Board). c.args.limit <ℤ violation_of b.instance (map Some (swap b.starts c.args.i c.args.j)))
    c.self.view_is (violation_above inst (board_after one other board) (map Some (swap starts c.args.i c.args.j))
    c.args.limit above swapped)
