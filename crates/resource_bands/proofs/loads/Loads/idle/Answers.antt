use Rattle.std.proofs.Common.{◌≡◌, ◌∙◌, ap, rules, length, replicate, None, Option, ℕ}
use Rattle.resource_bands.specs.Gaps.{rows_gap}
use Rattle.resource_bands.proofs.OverLemmas.{IsOver-idle}
use Rattle.resource_bands.proofs.loads.Loads.idle.Goals as goal

pub returns-clause-over : goal.returns-clause-over
returns-clause-over c =
    let inst = c.args.inst.now in
    let none : Option ℕ = None in
    let board : c.in_ok-board.board.items ≡ replicate (length inst.names) none = search rules in
    IsOver-idle inst c.in_ok-board.board.items c.in_ok-rows.rows.items c.gap_of_rows-violation.result board
    c.in_ok-rows.ensures (c.gap_of_rows-violation.ensures ∙ ap (rows_gap inst) c.deref.ensures.value)
