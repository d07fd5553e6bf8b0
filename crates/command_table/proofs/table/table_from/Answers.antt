use Rattle.std.proofs.Common.{List, ℕ, ◌∙◌, inl, inr, subst}
use Rattle.plan_table.specs.declared.report.PeriodReport.{PeriodReport}
use Rattle.command_frame.specs.Refusals.{SaysOrFails}
use Rattle.command_frame.proofs.OpeningLemmas.{own_opening}
use Rattle.command_table.specs.Tabling.{reports_of, table_text}
use Rattle.command_table.specs.Tabling.Tabulates.{reported}
use Rattle.command_table.proofs.table.table_from.Goals as goal

pub returns-in-Ok-clause-ends : goal.returns-in-Ok-clause-ends
returns-in-Ok-clause-ends g c =
    let inst = c.args.inst.now in
    let starts = c.args.starts.now in
    inl (
      0,
      table_text inst (reports_of inst starts c.args.from c.args.to),
      reported starts (own_opening inst starts c.requires.allowed),
      subst (λ (rs : List PeriodReport).
          SaysOrFails 0 (table_text inst rs) (g.D.Desk.shows c.args.desk.now) (g.D.Desk.shows c.say_table.new.desk)
          c.say_table.result)
          (c.as_slice.ensures.value ∙ c.in-Ok.ensures.reports) c.say_table.ensures.ends,
    )

pub returns-in-Err-clause-ends : goal.returns-in-Err-clause-ends
returns-in-Err-clause-ends g c =
    inr (subst (λ (t : List ℕ). SaysOrFails 11 t (g.D.Desk.shows c.args.desk.now)
    (g.D.Desk.shows c.say.new.desk) c.say.result) c.as_bytes.ensures.value c.say.ensures.ends)
