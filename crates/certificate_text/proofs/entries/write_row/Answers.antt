use Rattle.std.proofs.Common.{rules, [], ◌+◌, ◌*◌, ℕ, List, length, take, drop, ap, arith}
use Rattle.plan_desk.specs.Written.Way.{writing}
use Rattle.plan_desk.proofs.Written.{ends, respelled}
use Rattle.certificate_text.specs.Text.{limit_lines, text_of_lines}
use Rattle.certificate_text.specs.Steps.{limit_form, limit_table, limit_of, price_lines, row_lines}
use Rattle.certificate_text.proofs.WriteLemmas.{nothing, step_on, step_stops, limits_none, row_step, row_rest}
use Rattle.certificate_text.proofs.WriteLemmas.{row_whole}
use Rattle.certificate_text.proofs.entries.write_row.Goals as goal

pub loop-u-init : goal.loop-u-init
loop-u-init g c =
    let periods = c.args.inst.now.periods in
    nothing (limit_lines (limit_form c.args.side) periods (c.args.c * periods) []) (g.D.Desk.shows c.args.desk.now)
    (limits_none (limit_form c.args.side) periods (c.args.c * periods))

pub returns-in_err-write_limit : goal.returns-in_err-write_limit
returns-in_err-write_limit g c =
    let inst = c.args.inst.now in
    let prices = c.args.prices.now in
    let u = c.loop-u.u in
    let row : List ℕ = take inst.periods (drop (c.args.c * inst.periods) (limit_table c.args.side prices)) in
    step_stops (limit_lines (limit_form c.args.side) inst.periods (c.args.c * inst.periods) (take u row))
    (price_lines c.args.side (c.args.c + 1) (u + 1) (limit_of inst c.args.side prices c.args.c (u + 1)))
    (limit_lines (limit_form c.args.side) inst.periods (c.args.c * inst.periods) (take (u + 1) row))
    (row_step inst c.args.side prices c.args.c c.requires.in_range c.requires.resource u
    (omega (arith, c.periods-u-end.ensures.value, c.loop-u-test.true)))
    c.from_residual.result (search rules)
    (limit_lines (limit_form c.args.side) inst.periods (c.args.c * inst.periods + length (take (u + 1) row))
    (drop (u + 1) row)) (row_lines inst c.args.side prices c.args.c)
    (row_rest inst c.args.side prices c.args.c c.requires.in_range c.requires.resource u) c.loop-u.invariant
    c.in_err-write_limit.ensures

pub loop-u-preserved : goal.loop-u-preserved
loop-u-preserved g c =
    let inst = c.args.inst.now in
    let prices = c.args.prices.now in
    let u = c.loop-u.u in
    let row : List ℕ = take inst.periods (drop (c.args.c * inst.periods) (limit_table c.args.side prices)) in
    step_on (limit_lines (limit_form c.args.side) inst.periods (c.args.c * inst.periods) (take u row))
    (price_lines c.args.side (c.args.c + 1) (u + 1) (limit_of inst c.args.side prices c.args.c (u + 1)))
    (limit_lines (limit_form c.args.side) inst.periods (c.args.c * inst.periods) (take (u + 1) row))
    (row_step inst c.args.side prices c.args.c c.requires.in_range c.requires.resource u
    (omega (arith, c.periods-u-end.ensures.value, c.loop-u-test.true)))
    c.loop-u.invariant c.in_ok-write_limit.ensures

pub returns : goal.returns
returns g c =
    let inst = c.args.inst.now in
    let whole = row_whole inst c.args.side c.args.prices.now c.args.c c.requires.in_range c.requires.resource c.loop-u.u
    (omega (arith, c.periods-u-end.ensures.value, c.loop-u-test.false)) in
    respelled writing
    (ap (λ (vs : List ℕ). text_of_lines (limit_lines (limit_form c.args.side) inst.periods (c.args.c * inst.periods)
    vs)) whole) (ends writing _ c.loop-u.invariant)
