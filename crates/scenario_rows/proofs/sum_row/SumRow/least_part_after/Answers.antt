use Rattle.std.proofs.Common.{◌≡◌, ◌∙◌, ◌≤◌, ◌*◌, ◌^◌, sym, ap, subst, arith, ℕ, ℤ, pos, ◌+ℤ◌, ◌-ℤ◌, ◌*ℤ◌, ◌-◌, ◌<◌}
use Rattle.std.proofs.Common.{List, length, get_or, unsigned_abs, ◌≤ℤ◌, to_z, of_z}
use Rattle.std.specs.Int.{w128, int_max}
use Rattle.fixed_num.specs.Floors.{floor_of}
use Rattle.fixed_num.specs.Rank.{mth_smallest}
use Rattle.fixed_num.proofs.SignedLemmas.{back_from_abs}
use Rattle.scenario_rows.specs.Parts.{part_in}
use Rattle.scenario_rows.specs.Shifts.{CanShift, shifted_by}
use Rattle.scenario_rows.proofs.ListLemmas.{total_small}
use Rattle.scenario_rows.proofs.PartLemmas.{part_handed, part_small}
use Rattle.scenario_rows.proofs.QuantileLemmas.{part_in-least, AreBoundsOf-least}
use Rattle.scenario_rows.proofs.ShiftLemmas.{length-shifted_by, shifted_by-row}
use Rattle.scenario_rows.proofs.sum_row.SumRow.least_part_after.Goals as goal

pub least_of_high-quantile-requires : goal.least_of_high-quantile-requires
least_of_high-quantile-requires g c =
    subst (CanShift c.args.inst.now c.args.t c.args.runs.now) (sym c.self.view_is) c.requires.can

pub part-requires-clause-total : goal.part-requires-clause-total
part-requires-clause-total g c =
    let row = shifted_by-row c.args.inst.now c.args.t c.args.runs.now c.args.self.now c.requires.can.row
    c.requires.can.stay in
    rw (
      back_from_abs c.number.result (omega (arith, c.number.ensures.small)),
      c.number.ensures.value,
      c.total_after-total.ensures.value,
    ) (total_small _ row.few row.small)

pub returns-clause-least : goal.returns-clause-least
returns-clause-least g c =
    let xs = shifted_by c.args.inst.now c.args.t c.args.runs.now c.args.self.now in
    let row = shifted_by-row c.args.inst.now c.args.t c.args.runs.now c.args.self.now c.requires.can.row
    c.requires.can.stay in
    let each : c.len.result ≡ length xs = c.len.ensures.value ∙ ap length c.self.view_is
    ∙ sym (length-shifted_by c.args.inst.now c.args.t c.args.runs.now c.args.self.now) in
    let long = length-shifted_by c.args.inst.now c.args.t c.args.runs.now c.args.self.now in
    let sum = c.number.ensures.value ∙ c.total_after-total.ensures.value in
    let before : to_z w128 (of_z w128 c.value-before.result) ≡ mth_smallest c.args.rank c.args.self.now =
    back_from_abs c.value-before.result (omega (arith, c.value-before.ensures.small)) ∙ c.value-before.ensures.value
    ∙ c.kth.ensures.value ∙ ap (mth_smallest c.args.rank) c.self.view_is in
    let least = subst (λ (zs : List ℤ). (k : ℕ) → k < length zs
    → to_z w128 (of_z w128 c.value-before.result) ≤ℤ get_or zs k (pos 0) → c.least_of_high-quantile.result
    ≤ℤ get_or (shifted_by c.args.inst.now c.args.t c.args.runs.now zs) k (pos 0)) c.self.view_is
    c.least_of_high-quantile.ensures.least in
    let b = AreBoundsOf-least c.args.rank c.args.self.now xs c.number.result
    (to_z w128 (of_z w128 c.value-before.result)) c.least_of_high-quantile.result c.requires.from c.requires.to long sum
    before (λ k l h. least k (omega (arith, l, long)) h) c.least_of_high-quantile.ensures.small in
    let p = part_handed c.args.alpha c.len.result c.least_of_high-quantile.result c.number.result c.part.result
    (omega (arith, b.small.small)) (omega (arith, c.number.ensures.small)) c.part.ensures in
    let q = p
    ∙ ap (λ (n : ℕ). floor_of ((pos c.args.alpha *ℤ c.number.result) +ℤ (pos (1_000_000 - c.args.alpha)
    *ℤ int_max (pos 0) (pos n *ℤ c.least_of_high-quantile.result -ℤ c.number.result))) n) each in
    subst (λ (x : ℤ). x ≤ℤ part_in c.args.alpha c.args.rank xs) (sym q)
    (part_in-least c.args.alpha c.args.rank xs c.number.result c.least_of_high-quantile.result row.some b)

pub returns-clause-small : goal.returns-clause-small
returns-clause-small g c =
    let xs = shifted_by c.args.inst.now c.args.t c.args.runs.now c.args.self.now in
    let row = shifted_by-row c.args.inst.now c.args.t c.args.runs.now c.args.self.now c.requires.can.row
    c.requires.can.stay in
    let each : c.len.result ≡ length xs = c.len.ensures.value ∙ ap length c.self.view_is
    ∙ sym (length-shifted_by c.args.inst.now c.args.t c.args.runs.now c.args.self.now) in
    let long = length-shifted_by c.args.inst.now c.args.t c.args.runs.now c.args.self.now in
    let sum = c.number.ensures.value ∙ c.total_after-total.ensures.value in
    let before : to_z w128 (of_z w128 c.value-before.result) ≡ mth_smallest c.args.rank c.args.self.now =
    back_from_abs c.value-before.result (omega (arith, c.value-before.ensures.small)) ∙ c.value-before.ensures.value
    ∙ c.kth.ensures.value ∙ ap (mth_smallest c.args.rank) c.self.view_is in
    let least = subst (λ (zs : List ℤ). (k : ℕ) → k < length zs
    → to_z w128 (of_z w128 c.value-before.result) ≤ℤ get_or zs k (pos 0) → c.least_of_high-quantile.result
    ≤ℤ get_or (shifted_by c.args.inst.now c.args.t c.args.runs.now zs) k (pos 0)) c.self.view_is
    c.least_of_high-quantile.ensures.least in
    let b = AreBoundsOf-least c.args.rank c.args.self.now xs c.number.result
    (to_z w128 (of_z w128 c.value-before.result)) c.least_of_high-quantile.result c.requires.from c.requires.to long sum
    before (λ k l h. least k (omega (arith, l, long)) h) c.least_of_high-quantile.ensures.small in
    let p = part_handed c.args.alpha c.len.result c.least_of_high-quantile.result c.number.result c.part.result
    (omega (arith, b.small.small)) (omega (arith, c.number.ensures.small)) c.part.ensures in
    let total : unsigned_abs c.number.result ≤ 1024 * 1024 * 10 ^ 20 = rw sum (total_small _ row.few row.small) in
    rw p (part_small c.args.alpha c.len.result c.least_of_high-quantile.result c.number.result c.requires.alpha
    (omega (arith, each, row.some)) (omega (arith, each, row.few)) b.small.small total)
