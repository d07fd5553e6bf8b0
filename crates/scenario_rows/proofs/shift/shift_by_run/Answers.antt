use Rattle.std.proofs.Common.{◌≡◌, ◌∙◌, sym, subst, true, false}
use Rattle.instance_model.specs.RiskNumbers.{numbers_of}
use Rattle.instance_model.specs.Tables.{in_run}
use Rattle.scenario_rows.specs.Parts.{AreRowSums}
use Rattle.scenario_rows.proofs.ShiftLemmas.{shifted-by_risks, shifted-idle}
use Rattle.scenario_rows.proofs.shift.shift_by_run.Goals as goal

pub shift-requires-clause-small : goal.shift-requires-clause-small
shift-requires-clause-small g c =
    let running : in_run c.args.inst.now c.args.one.i c.args.one.s c.args.t ≡ true =
    sym c.is_running.ensures ∙ c.if-is_running.true in
    subst AreRowSums (sym (shifted-by_risks c.args.inst.now c.args.t c.args.one (numbers_of c.risks.result)
    c.args.sums.now running c.risks.ensures.value c.requires.each)) c.requires.stay.0

pub returns-then-is_running-clause-sums : goal.returns-then-is_running-clause-sums
returns-then-is_running-clause-sums g c =
    let running : in_run c.args.inst.now c.args.one.i c.args.one.s c.args.t ≡ true =
    sym c.is_running.ensures ∙ c.if-is_running.true in
    c.shift.ensures ∙ shifted-by_risks c.args.inst.now c.args.t c.args.one (numbers_of c.risks.result)
    c.args.sums.now running c.risks.ensures.value c.requires.each

pub returns-else-is_running-clause-sums : goal.returns-else-is_running-clause-sums
returns-else-is_running-clause-sums g c =
    let idle : in_run c.args.inst.now c.args.one.i c.args.one.s c.args.t ≡ false =
    sym c.is_running.ensures ∙ c.if-is_running.false in
    sym (shifted-idle c.args.inst.now c.args.t c.args.one c.args.sums.now idle)
