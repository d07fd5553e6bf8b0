use Rattle.std.proofs.Common.{◌≡◌, ◌∙◌, sym, ap, subst, arith, length}
use Rattle.fixed_num.specs.Rank.{mth_smallest}
use Rattle.fixed_num.specs.Sums.{total}
use Rattle.fixed_num.proofs.SignedLemmas.{back_from_abs}
use Rattle.scenario_rows.specs.Parts.{AreRowSums}
use Rattle.scenario_rows.specs.Shifts.{CanShift, shifted_by}
use Rattle.scenario_rows.proofs.ListLemmas.{total_small}
use Rattle.scenario_rows.proofs.PartLemmas.{part_made}
use Rattle.scenario_rows.proofs.ShiftLemmas.{length-shifted_by, shifted_by-row}
use Rattle.scenario_rows.proofs.sum_row.SumRow.part_after.Goals as goal

pub copy_sums-requires : goal.copy_sums-requires
copy_sums-requires g c = omega (arith, c.requires.sums_room, ap length c.self.view_is)

pub shift_by_runs-requires : goal.shift_by_runs-requires
shift_by_runs-requires g c =
    subst (CanShift c.args.inst.now c.args.t c.args.runs.now) (sym (c.copy_sums.ensures ∙ c.self.view_is))
    c.requires.can

pub total_of-total-requires : goal.total_of-total-requires
total_of-total-requires g c =
    let e = c.shift_by_runs.ensures.sums
    ∙ ap (shifted_by c.args.inst.now c.args.t c.args.runs.now) (c.copy_sums.ensures ∙ c.self.view_is) in
    subst AreRowSums (sym e) (shifted_by-row c.args.inst.now c.args.t c.args.runs.now c.args.self.now c.requires.can.row
    c.requires.can.stay)

pub sum_at_rank-quantile-requires-clause-to : goal.sum_at_rank-quantile-requires-clause-to
sum_at_rank-quantile-requires-clause-to g c =
    let e = c.shift_by_runs.ensures.sums
    ∙ ap (shifted_by c.args.inst.now c.args.t c.args.runs.now) (c.copy_sums.ensures ∙ c.self.view_is) in
    omega (
      arith,
      c.requires.to,
      ap length e,
      length-shifted_by c.args.inst.now c.args.t c.args.runs.now c.args.self.now,
    )

pub sum_at_rank-quantile-requires-clause-row : goal.sum_at_rank-quantile-requires-clause-row
sum_at_rank-quantile-requires-clause-row g c =
    let e = c.shift_by_runs.ensures.sums
    ∙ ap (shifted_by c.args.inst.now c.args.t c.args.runs.now) (c.copy_sums.ensures ∙ c.self.view_is) in
    subst AreRowSums (sym e) (shifted_by-row c.args.inst.now c.args.t c.args.runs.now c.args.self.now c.requires.can.row
    c.requires.can.stay)

pub sum_at_rank-quantile-requires-clause-room : goal.sum_at_rank-quantile-requires-clause-room
sum_at_rank-quantile-requires-clause-room g c =
    let e = c.shift_by_runs.ensures.sums
    ∙ ap (shifted_by c.args.inst.now c.args.t c.args.runs.now) (c.copy_sums.ensures ∙ c.self.view_is) in
    omega (
      arith,
      c.requires.values_room,
      ap length e,
      length-shifted_by c.args.inst.now c.args.t c.args.runs.now c.args.self.now,
    )

pub part-requires-clause-total : goal.part-requires-clause-total
part-requires-clause-total g c =
    let e = c.shift_by_runs.ensures.sums
    ∙ ap (shifted_by c.args.inst.now c.args.t c.args.runs.now) (c.copy_sums.ensures ∙ c.self.view_is) in
    let row = shifted_by-row c.args.inst.now c.args.t c.args.runs.now c.args.self.now c.requires.can.row
    c.requires.can.stay in
    rw (
      back_from_abs c.number.result (omega (arith, c.number.ensures.small)),
      c.number.ensures.value,
      c.total_of-total.ensures.total,
      e,
    ) (total_small _ row.few row.small)

pub returns-clause-value : goal.returns-clause-value
returns-clause-value g c =
    let xs = shifted_by c.args.inst.now c.args.t c.args.runs.now c.args.self.now in
    let e = c.shift_by_runs.ensures.sums
    ∙ ap (shifted_by c.args.inst.now c.args.t c.args.runs.now) (c.copy_sums.ensures ∙ c.self.view_is) in
    let each : c.len.result ≡ length xs = c.len.ensures.value ∙ ap length c.self.view_is
    ∙ sym (length-shifted_by c.args.inst.now c.args.t c.args.runs.now c.args.self.now) in
    part_made c.args.alpha c.args.rank c.len.result xs c.sum_at_rank-quantile.result c.number.result c.part.result each
    (c.sum_at_rank-quantile.ensures.value ∙ ap (mth_smallest c.args.rank) e)
    (c.number.ensures.value ∙ c.total_of-total.ensures.total ∙ ap total e)
    (omega (arith, c.sum_at_rank-quantile.ensures.small.small)) (omega (arith, c.number.ensures.small)) c.part.ensures

pub returns-clause-sums_room : goal.returns-clause-sums_room
returns-clause-sums_room g c =
    let e = c.shift_by_runs.ensures.sums
    ∙ ap (shifted_by c.args.inst.now c.args.t c.args.runs.now) (c.copy_sums.ensures ∙ c.self.view_is) in
    omega (
      arith,
      c.requires.sums_room,
      ap length e,
      length-shifted_by c.args.inst.now c.args.t c.args.runs.now c.args.self.now,
    )

pub returns-clause-values_room : goal.returns-clause-values_room
returns-clause-values_room g c = omega (arith, c.sum_at_rank-quantile.ensures.room)
