use Rattle.std.proofs.Common.{rules, ◌≡◌, [], ◌+◌, ◌*◌, ℕ, List, length, take, drop, ap, sym, subst, arith}
use Rattle.plan_desk.specs.Written.Way.{writing}
use Rattle.plan_desk.proofs.Written.{ends, respelled}
use Rattle.certificate_text.specs.Text.{limit_lines, text_of_lines}
use Rattle.certificate_text.specs.Steps.{limit_form, limit_table, row_lines}
use Rattle.certificate_text.proofs.WriteLemmas.{HasLines, nothing, step_on, step_stops, limits_none, rows_step}
use Rattle.certificate_text.proofs.WriteLemmas.{rows_rest, rows_whole}
use Rattle.certificate_text.proofs.entries.write_limits.Goals as goal

pub loop-c-init : goal.loop-c-init
loop-c-init g c =
    let old = g.D.Desk.shows c.args.desk.now in
    let inst = c.args.inst.now in
    let none : 0 * inst.periods ≡ 0 = omega arith in
    subst (λ k. HasLines
    (limit_lines (limit_form c.args.side) inst.periods 0 (take k (limit_table c.args.side c.args.prices.now))) old
    old) (sym none)
    (nothing (limit_lines (limit_form c.args.side) inst.periods 0 []) old
    (limits_none (limit_form c.args.side) inst.periods 0))

pub returns-in_err-write_row : goal.returns-in_err-write_row
returns-in_err-write_row g c =
    let inst = c.args.inst.now in
    let prices = c.args.prices.now in
    let form = limit_form c.args.side in
    let table : List ℕ = limit_table c.args.side prices in
    let k : ℕ = (c.loop-c.c + 1) * inst.periods in
    step_stops (limit_lines form inst.periods 0 (take (c.loop-c.c * inst.periods) table))
    (row_lines inst c.args.side prices c.loop-c.c) (limit_lines form inst.periods 0 (take k table))
    (rows_step inst c.args.side prices c.loop-c.c c.requires.in_range
    (omega (arith, c.resources-c-end.ensures.value, c.loop-c-test.true)))
    c.from_residual.result (search rules) (limit_lines form inst.periods (0 + length (take k table)) (drop k table))
    (limit_lines form inst.periods 0 table)
    (rows_rest inst c.args.side prices c.loop-c.c c.requires.in_range
    (omega (arith, c.resources-c-end.ensures.value, c.loop-c-test.true))) c.loop-c.invariant
    c.in_err-write_row.ensures

pub loop-c-preserved : goal.loop-c-preserved
loop-c-preserved g c =
    let inst = c.args.inst.now in
    let prices = c.args.prices.now in
    let form = limit_form c.args.side in
    let table : List ℕ = limit_table c.args.side prices in
    let k : ℕ = (c.loop-c.c + 1) * inst.periods in
    step_on (limit_lines form inst.periods 0 (take (c.loop-c.c * inst.periods) table))
    (row_lines inst c.args.side prices c.loop-c.c) (limit_lines form inst.periods 0 (take k table))
    (rows_step inst c.args.side prices c.loop-c.c c.requires.in_range
    (omega (arith, c.resources-c-end.ensures.value, c.loop-c-test.true)))
    c.loop-c.invariant c.in_ok-write_row.ensures

pub returns : goal.returns
returns g c =
    let inst = c.args.inst.now in
    let whole = rows_whole inst c.args.side c.args.prices.now c.loop-c.c c.requires.in_range
    (omega (arith, c.resources-c-end.ensures.value, c.loop-c-test.false)) in
    respelled writing (ap (λ (vs : List ℕ). text_of_lines (limit_lines (limit_form c.args.side) inst.periods 0 vs))
    whole) (ends writing _ c.loop-c.invariant)
