use Rattle.std.proofs.Common.{rules, [], ◌∷◌, ◌+◌, List, Option, length, take, drop, ap, arith}
use Rattle.std.proofs.lemmas.List.{take_all}
use Rattle.plan_desk.specs.Written.Way.{writing}
use Rattle.plan_desk.proofs.Written.{ends, respelled}
use Rattle.refined_prices.specs.declared.group_tail.GroupTail.{GroupTail}
use Rattle.refined_prices.specs.Offsets.{group_tail_at}
use Rattle.refined_text.specs.text.Text.{group_lines, text_of_refined}
use Rattle.refined_text.proofs.TextTailLemmas.{groups_none, tails_step, tails_rest}
use Rattle.refined_text.proofs.TextWriteLemmas.{nothing, step_on, step_stops}
use Rattle.refined_text.proofs.text.entries.write_tails.Goals as goal

pub loop-u-init : goal.loop-u-init
loop-u-init g c = nothing (group_lines 1 []) (g.D.Desk.shows c.args.desk.now) (groups_none 1)

pub returns-in_err-write_tail_of : goal.returns-in_err-write_tail_of
returns-in_err-write_tail_of g c =
    let list = c.args.list.now in
    let u = c.loop-u.u in
    step_stops (group_lines 1 (take u list.tails)) (group_lines (u + 1) (group_tail_at list.tails (u + 1) ∷ []))
    (group_lines 1 (take (u + 1) list.tails))
    (tails_step c.args.inst.now list u c.requires.in_range
    (omega (arith, c.periods-u-end.ensures.value, c.loop-u-test.true)))
    c.from_residual.result (search rules)
    (group_lines (1 + length (take (u + 1) list.tails)) (drop (u + 1) list.tails))
    (group_lines 1 list.tails) (tails_rest list u)
    c.loop-u.invariant c.in_err-write_tail_of.ensures

pub loop-u-preserved : goal.loop-u-preserved
loop-u-preserved g c =
    let list = c.args.list.now in
    let u = c.loop-u.u in
    step_on (group_lines 1 (take u list.tails)) (group_lines (u + 1) (group_tail_at list.tails (u + 1) ∷ []))
    (group_lines 1 (take (u + 1) list.tails))
    (tails_step c.args.inst.now list u c.requires.in_range
    (omega (arith, c.periods-u-end.ensures.value, c.loop-u-test.true)))
    c.loop-u.invariant c.in_ok-write_tail_of.ensures

pub returns : goal.returns
returns g c =
    let list = c.args.list.now in
    let whole = take_all c.loop-u.u list.tails (let each = c.requires.in_range.tails_each in
    omega (arith, each, c.periods-u-end.ensures.value, c.loop-u-test.false)) in
    respelled writing (ap (λ (tails : List (Option GroupTail)). text_of_refined (group_lines 1 tails)) whole)
    (ends writing _ c.loop-u.invariant)
