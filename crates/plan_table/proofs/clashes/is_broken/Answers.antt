use Rattle.std.proofs.Common.{◌∙◌, sym, false, map, Some}
use Rattle.plan_table.proofs.LineLemmas.{clash_off_season, clash_first_idle, clash_if_second}
use Rattle.plan_table.proofs.clashes.is_broken.Goals as goal
use Rattle.plan_table.proofs.clashes.is_broken.Goals.{then-in_season, else-in_season}

pub returns-then-is_running : goal.returns-then-is_running
returns-then-is_running c =
    elim c.if-in_season.branch [
      | then-in_season w ↦
          clash_if_second c.args.inst.now (map Some c.args.starts.now) c.args.e c.args.t c.exclusion-exclusion.result
          c.in_season.result w.is_running.result c.is_running-then-is_running.result
          c.exclusion-exclusion.ensures.value c.in_season.ensures w.is_running.ensures.value
          c.is_running-then-is_running.ensures.value w.if-in_season.true (sym w.value-is ∙ c.if-is_running.true)
      | else-in_season w ↦ absurd (cc)
    ]

pub returns-else-is_running : goal.returns-else-is_running
returns-else-is_running c =
    elim c.if-in_season.branch [
      | then-in_season w ↦
          c.if-is_running.false
          ∙ clash_first_idle c.args.inst.now (map Some c.args.starts.now) c.args.e c.args.t c.exclusion-exclusion.result
          c.in_season.result w.is_running.result false c.exclusion-exclusion.ensures.value c.in_season.ensures
          w.is_running.ensures.value w.if-in_season.true (sym w.value-is ∙ c.if-is_running.false)
      | else-in_season w ↦
          c.if-is_running.false
          ∙ clash_off_season c.args.inst.now (map Some c.args.starts.now) c.args.e c.args.t c.exclusion-exclusion.result
          c.in_season.result false false c.exclusion-exclusion.ensures.value c.in_season.ensures w.if-in_season.false
    ]
