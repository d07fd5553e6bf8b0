use Rattle.std.proofs.Common.{◌≡◌, ◌∙◌, ◌+◌, ◌-◌, ◌*◌, ◌<◌, ◌≤◌, ◌^◌, sym, ap, subst, arith, rules, ℕ, ℤ, ◌+ℤ◌, ◌-ℤ◌}
use Rattle.std.proofs.Common.{◌≤ℤ◌, ◌<ℤ◌, List, [], length, get_or, unsigned_abs, to_z, of_z}
use Rattle.std.specs.Int.{w128}
use Rattle.scenario_rows.specs.RiskStates.{PeriodState}
use Rattle.scenario_rows.specs.Parts.{part_of, period_at}
use Rattle.instance_model.specs.Tables.{Tables}
use Rattle.scenario_rows.specs.declared.change.RunChange.{RunChange}
use Rattle.scenario_rows.specs.Shifts.{CanJudge, CanShift, rise_from, shifted_period}
use Rattle.scenario_rows.proofs.ListLemmas.{read_at}
use Rattle.scenario_rows.proofs.ScoreLemmas.{part_of_small}
use Rattle.scenario_rows.proofs.JudgeLemmas.{rise_from-next, rise_from-end, rise_here, exchanged_small, bounded_none}
use Rattle.scenario_rows.proofs.JudgeLemmas.{exact_value, limit_back, if_some, if_none, none_of, nothing_risen}
use Rattle.scenario_rows.proofs.judge.+score_from.Goals as goal

pub returns-then-t-periods-clause-value : goal.returns-then-t-periods-clause-value
returns-then-t-periods-clause-value g t c =
    let inst = c.args.inst.now in
    let last : c.next_touched-t.result ≡ inst.periods + 1 = omega (arith, c.periods.ensures.value) in
    let r = rise_from-next inst c.args.runs.now c.args.periods.now c.args.from c.next_touched-t.result c.requires.from
    c.next_touched-t.ensures.from c.next_touched-t.ensures.idle
    ∙ rise_from-end inst c.args.runs.now c.args.periods.now c.next_touched-t.result last in
    if_some c.if_below.result _ _ c.if_below.ensures.value (λ x h. h
    ∙ nothing_risen c.args.score (rise_from inst c.args.runs.now c.args.periods.now c.args.from) r)

pub returns-then-t-periods-clause-none : goal.returns-then-t-periods-clause-none
returns-then-t-periods-clause-none g t c =
    let inst = c.args.inst.now in
    let last : c.next_touched-t.result ≡ inst.periods + 1 = omega (arith, c.periods.ensures.value) in
    let r = rise_from-next inst c.args.runs.now c.args.periods.now c.args.from c.next_touched-t.result c.requires.from
    c.next_touched-t.ensures.from c.next_touched-t.ensures.idle
    ∙ rise_from-end inst c.args.runs.now c.args.periods.now c.next_touched-t.result last in
    let back = limit_back c.args.limit c.ranges.limit in
    if_none c.if_below.result _ _ c.if_below.ensures.none
    (λ h. subst (λ (l : ℤ). l ≤ℤ (c.args.score +ℤ rise_from inst c.args.runs.now c.args.periods.now c.args.from)) back
    (subst (λ (x : ℤ). to_z w128 (of_z w128 c.args.limit) ≤ℤ x)
    (nothing_risen c.args.score (rise_from inst c.args.runs.now c.args.periods.now c.args.from) r) h))

pub minus-requires : goal.minus-requires
minus-requires g t c =
    let old : unsigned_abs c.part.result ≤ 3 * 1024 * 1024 * 10 ^ 26 =
    rw c.part.ensures.value (part_of_small _ c.part.ensures.sound) in
    let e = exchanged_small c.args.score c.part.result c.part.result (512 + 2 * c.args.from) c.requires.small old old in
    omega (arith, e.0, c.requires.to, c.requires.can.few)

pub plus-bound-requires : goal.plus-bound-requires
plus-bound-requires g t c =
    let old : unsigned_abs c.part.result ≤ 3 * 1024 * 1024 * 10 ^ 26 =
    rw c.part.ensures.value (part_of_small _ c.part.ensures.sound) in
    let e = exchanged_small c.args.score c.part.result c.least_part_after-least.result (512 + 2 * c.args.from)
    c.requires.small old c.least_part_after-least.ensures.small in
    rw c.minus.ensures (omega (arith, e.1, c.requires.to, c.requires.can.few))

pub score_from-requires : goal.score_from-requires
score_from-requires g t c κs within =
    let old : unsigned_abs c.part.result ≤ 3 * 1024 * 1024 * 10 ^ 26 =
    rw c.part.ensures.value (part_of_small _ c.part.ensures.sound) in
    let e = exchanged_small c.args.score c.part.result c.least_part_after-least.result (512 + 2 * c.args.from)
    c.requires.small old c.least_part_after-least.ensures.small in
    let up = c.next_touched-t.ensures.from in
    let small : unsigned_abs c.plus-bound.result
    ≤ (512 + 2 * (c.next_touched-t.result + 1)) * (3 * 1024 * 1024 * 10 ^ 26) =
    rw (c.plus-bound.ensures, c.minus.ensures) (omega (arith, e.1, up)) in (
      search rules,
      (search rules, (search rules, (c.requires.can, (c.requires.room, (search rules, (search rules, small)))))),
    )

-- the period that was read
period_read : (inst : Tables) (runs : List RunChange) (periods : List PeriodState) (size t : ℕ) (p : PeriodState)
    → CanJudge inst runs periods size → 1 ≤ t → t ≤ inst.periods → p ≡ get_or periods (t - 1) p
    → (p ≡ period_at periods t) × (length p.sums ≤ size)
period_read inst runs periods size t p can from to is =
    let within : t - 1 < length periods = omega (arith, can.each, from, to) in (
      read_at periods (t - 1) p (record { alpha = 0; rank = 0; sums = [] }) within is,
      subst (λ (q : PeriodState). length q.sums ≤ size) (sym is) (can.room (t - 1) p within),
    )

pub returns-in_err-after-clause-none : goal.returns-in_err-after-clause-none
returns-in_err-after-clause-none g t c =
    let inst = c.args.inst.now in
    let runs = c.args.runs.now in
    let periods = c.args.periods.now in
    let u = c.next_touched-t.result in
    let p = c.index-periods-t.result in
    let from : 1 ≤ u = omega arith in
    let to : u ≤ inst.periods = omega (arith, c.periods.ensures.value) in
    let at = (period_read inst runs periods (length c.args.scratch.now) u p c.requires.can from to
    c.index-periods-t.is).0 in
    let e = rise_here inst runs periods c.args.from u p c.part.result c.requires.from c.next_touched-t.ensures.from
    c.next_touched-t.ensures.idle at c.part.ensures.value in
    let h = subst (λ (l : ℤ). l ≤ℤ (c.plus-bound.result +ℤ rise_from inst runs periods (u + 1)))
    (limit_back c.args.limit c.ranges.limit) c.in_err-after.ensures.none in
    let k = subst (λ (x : ℤ). c.args.limit ≤ℤ (x +ℤ rise_from inst runs periods (u + 1)))
    (c.plus-bound.ensures ∙ ap (λ (x : ℤ). x +ℤ c.least_part_after-least.result) c.minus.ensures) h in
    none_of c.from_residual.result _ (bounded_none c.args.limit c.args.score c.part.result
    c.least_part_after-least.result (part_of (shifted_period inst u runs p)) (rise_from inst runs periods (u + 1))
    (rise_from inst runs periods c.args.from) k c.least_part_after-least.ensures.least e)

pub part_after-part-requires-clause-can : goal.part_after-part-requires-clause-can
part_after-part-requires-clause-can g t c =
    let inst = c.args.inst.now in
    let u = c.next_touched-t.result in
    let from : 1 ≤ u = omega arith in
    let to : u ≤ inst.periods = omega (arith, c.periods.ensures.value) in
    let at = (period_read inst c.args.runs.now c.args.periods.now (length c.args.scratch.now) u
    c.index-periods-t.result c.requires.can from to c.index-periods-t.is).0 in
    subst (λ (q : PeriodState). CanShift inst u c.args.runs.now q.sums) (sym at) (c.requires.can.can u from to)

pub part_after-part-requires-clause-sums_room : goal.part_after-part-requires-clause-sums_room
part_after-part-requires-clause-sums_room g t c =
    let inst = c.args.inst.now in
    let u = c.next_touched-t.result in
    let from : 1 ≤ u = omega arith in
    let to : u ≤ inst.periods = omega (arith, c.periods.ensures.value) in
    let size = (period_read inst c.args.runs.now c.args.periods.now (length c.args.scratch.now) u
    c.index-periods-t.result c.requires.can from to c.index-periods-t.is).1 in
    omega (arith, size, c.in_ok-after.ensures.sums_room)

pub part_after-part-requires-clause-values_room : goal.part_after-part-requires-clause-values_room
part_after-part-requires-clause-values_room g t c =
    let inst = c.args.inst.now in
    let u = c.next_touched-t.result in
    let from : 1 ≤ u = omega arith in
    let to : u ≤ inst.periods = omega (arith, c.periods.ensures.value) in
    let size = (period_read inst c.args.runs.now c.args.periods.now (length c.args.scratch.now) u
    c.index-periods-t.result c.requires.can from to c.index-periods-t.is).1 in
    omega (arith, size, c.in_ok-after.ensures.values_room, c.requires.room)

pub plus-requires : goal.plus-requires
plus-requires g t c =
    let e = exchanged_small c.in_ok-after.after c.least_part_after-least.result c.part_after-part.result
    (4096 - 2 * (c.next_touched-t.result + 1)) c.in_ok-after.ensures.small c.least_part_after-least.ensures.small
    c.part_after-part.ensures.small in
    rw c.minus-2.ensures (omega (arith, e.1))

pub returns-clause-value : goal.returns-clause-value
returns-clause-value g t c =
    let inst = c.args.inst.now in
    let runs = c.args.runs.now in
    let periods = c.args.periods.now in
    let u = c.next_touched-t.result in
    let p = c.index-periods-t.result in
    let from : 1 ≤ u = omega arith in
    let to : u ≤ inst.periods = omega (arith, c.periods.ensures.value) in
    let at = (period_read inst runs periods (length c.args.scratch.now) u p c.requires.can from to
    c.index-periods-t.is).0 in
    let e = rise_here inst runs periods c.args.from u p c.part.result c.requires.from c.next_touched-t.ensures.from
    c.next_touched-t.ensures.idle at c.part.ensures.value
    ∙ ap (λ (x : ℤ). (x -ℤ c.part.result) +ℤ rise_from inst runs periods (u + 1)) (sym
    c.part_after-part.ensures.value) in
    let bound = c.plus-bound.ensures ∙ ap (λ (x : ℤ). x +ℤ c.least_part_after-least.result) c.minus.ensures in
    let after = c.in_ok-after.ensures.value
    ∙ ap (λ (x : ℤ). x +ℤ rise_from inst runs periods (u + 1)) bound in
    let sum = c.plus.ensures ∙ ap (λ (x : ℤ). x +ℤ c.part_after-part.result) c.minus-2.ensures
    ∙ exact_value c.args.score c.part.result c.least_part_after-least.result c.part_after-part.result
    (rise_from inst runs periods (u + 1)) (rise_from inst runs periods c.args.from) c.in_ok-after.after after e in
    if_some c.if_below-2.result _ _ c.if_below-2.ensures.value (λ x h. h ∙ sum)

pub returns-clause-below : goal.returns-clause-below
returns-clause-below g t c =
    if_some c.if_below-2.result _ _ c.if_below-2.ensures.below
    (λ x h. subst (λ (l : ℤ). x <ℤ l) (limit_back c.args.limit c.ranges.limit) h)

pub returns-clause-none : goal.returns-clause-none
returns-clause-none g t c =
    let inst = c.args.inst.now in
    let runs = c.args.runs.now in
    let periods = c.args.periods.now in
    let u = c.next_touched-t.result in
    let p = c.index-periods-t.result in
    let from : 1 ≤ u = omega arith in
    let to : u ≤ inst.periods = omega (arith, c.periods.ensures.value) in
    let at = (period_read inst runs periods (length c.args.scratch.now) u p c.requires.can from to
    c.index-periods-t.is).0 in
    let e = rise_here inst runs periods c.args.from u p c.part.result c.requires.from c.next_touched-t.ensures.from
    c.next_touched-t.ensures.idle at c.part.ensures.value
    ∙ ap (λ (x : ℤ). (x -ℤ c.part.result) +ℤ rise_from inst runs periods (u + 1)) (sym
    c.part_after-part.ensures.value) in
    let bound = c.plus-bound.ensures ∙ ap (λ (x : ℤ). x +ℤ c.least_part_after-least.result) c.minus.ensures in
    let after = c.in_ok-after.ensures.value
    ∙ ap (λ (x : ℤ). x +ℤ rise_from inst runs periods (u + 1)) bound in
    let sum = c.plus.ensures ∙ ap (λ (x : ℤ). x +ℤ c.part_after-part.result) c.minus-2.ensures
    ∙ exact_value c.args.score c.part.result c.least_part_after-least.result c.part_after-part.result
    (rise_from inst runs periods (u + 1)) (rise_from inst runs periods c.args.from) c.in_ok-after.after after e in
    if_none c.if_below-2.result _ _ c.if_below-2.ensures.none
    (λ h. subst (λ (l : ℤ). l ≤ℤ (c.args.score +ℤ rise_from inst runs periods c.args.from))
    (limit_back c.args.limit c.ranges.limit) (subst (λ (x : ℤ). to_z w128 (of_z w128 c.args.limit) ≤ℤ x) sum h))

pub returns-clause-small : goal.returns-clause-small
returns-clause-small g t c =
    let e = exchanged_small c.in_ok-after.after c.least_part_after-least.result c.part_after-part.result
    (4096 - 2 * (c.next_touched-t.result + 1)) c.in_ok-after.ensures.small c.least_part_after-least.ensures.small
    c.part_after-part.ensures.small in
    let few : c.next_touched-t.result ≤ 512 = omega (arith, c.periods.ensures.few) in
    let small : unsigned_abs c.plus.result ≤ (4096 - 2 * c.args.from) * (3 * 1024 * 1024 * 10 ^ 26) =
    rw (c.plus.ensures, c.minus-2.ensures) (omega (arith, e.1, c.next_touched-t.ensures.from, few)) in
    if_some c.if_below-2.result _ _ c.if_below-2.ensures.value
    (λ x h. subst (λ (y : ℤ). unsigned_abs y ≤ (4096 - 2 * c.args.from) * (3 * 1024 * 1024 * 10 ^ 26)) (sym h) small)
