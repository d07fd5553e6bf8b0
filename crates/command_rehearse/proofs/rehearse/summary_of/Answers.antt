-- The summary is that of the drawn instance.
use Rattle.std.proofs.Common.{List, ℕ, sym, subst}
use Rattle.instance_model.specs.Tables.{Tables}
use Rattle.command_frame.specs.Ending.{reply}
use Rattle.command_rehearse.specs.Rehearsing.{Rehearses}
use Rattle.command_rehearse.specs.Rehearsing.Rehearses.{rehearsed}
use Rattle.command_rehearse.proofs.rehearse.summary_of.Goals as goal

pub returns : goal.returns
returns g c =
    let inst = c.in_ok-inst.inst in
    let summary = c.in_ok-summary.summary in
    subst (λ (tables : Tables). Rehearses tables (reply 0 c.in_ok-text.text)) c.in_ok-inst.ensures
    (subst (λ (text : List ℕ). Rehearses inst (reply 0 text)) (sym c.in_ok-text.ensures)
    (rehearsed summary c.in_ok-summary.ensures))
