use Rattle.std.proofs.Common.{rules, [], ◌∷◌, ◌+◌, List, Option, length, take, drop, ap, arith}
use Rattle.std.proofs.lemmas.List.{take_all}
use Rattle.plan_desk.specs.Written.Way.{writing}
use Rattle.plan_desk.proofs.Written.{ends, respelled}
use Rattle.lagrange_bound.specs.declared.tail.Tail.{Tail}
use Rattle.lagrange_bound.specs.Prices.{tail_of}
use Rattle.certificate_text.specs.Text.{tail_lines, text_of_lines}
use Rattle.certificate_text.proofs.WriteLemmas.{nothing, step_on, step_stops, tails_none, tails_step, tails_rest}
use Rattle.certificate_text.proofs.entries.write_tails.Goals as goal

pub loop-u-init : goal.loop-u-init
loop-u-init g c = nothing (tail_lines 1 []) (g.D.Desk.shows c.args.desk.now) (tails_none 1)

pub returns-in_err-write_tail_of : goal.returns-in_err-write_tail_of
returns-in_err-write_tail_of g c =
    let prices = c.args.prices.now in
    let u = c.loop-u.u in
    step_stops (tail_lines 1 (take u prices.tails)) (tail_lines (u + 1) (tail_of prices (u + 1) ∷ []))
    (tail_lines 1 (take (u + 1) prices.tails))
    (tails_step c.args.inst.now prices u c.requires.in_range
    (omega (arith, c.periods-u-end.ensures.value, c.loop-u-test.true)))
    c.from_residual.result (search rules)
    (tail_lines (1 + length (take (u + 1) prices.tails)) (drop (u + 1) prices.tails))
    (tail_lines 1 prices.tails) (tails_rest prices u)
    c.loop-u.invariant c.in_err-write_tail_of.ensures

pub loop-u-preserved : goal.loop-u-preserved
loop-u-preserved g c =
    let prices = c.args.prices.now in
    let u = c.loop-u.u in
    step_on (tail_lines 1 (take u prices.tails)) (tail_lines (u + 1) (tail_of prices (u + 1) ∷ []))
    (tail_lines 1 (take (u + 1) prices.tails))
    (tails_step c.args.inst.now prices u c.requires.in_range
    (omega (arith, c.periods-u-end.ensures.value, c.loop-u-test.true)))
    c.loop-u.invariant c.in_ok-write_tail_of.ensures

pub returns : goal.returns
returns g c =
    let prices = c.args.prices.now in
    let whole = take_all c.loop-u.u prices.tails (let each = c.requires.in_range.tails_each in
    omega (arith, each, c.periods-u-end.ensures.value, c.loop-u-test.false)) in
    respelled writing (ap (λ (tails : List (Option Tail)). text_of_lines (tail_lines 1 tails)) whole)
    (ends writing _ c.loop-u.invariant)
