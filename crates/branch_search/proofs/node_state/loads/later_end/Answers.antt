use Rattle.std.proofs.Common.{sym, ◌∙◌, ap, arith}
use Rattle.std.proofs.lemmas.Bool.{false≢true}
use Rattle.instance_model.proofs.EntryLemmas.{IsRunning-from}
use Rattle.duration_calendar.specs.declared.window.Window.{Window}
use Rattle.branch_search.proofs.node_state.loads.later_end.Goals as goal

pub returns-then-not-allowed-clause-run : goal.returns-then-not-allowed-clause-run
returns-then-not-allowed-clause-run c = λ t a r. absurd (false≢true (sym c.if-not-allowed.true ∙ c.allowed.ensures ∙ a))

pub returns-clause-run : goal.returns-clause-run
returns-clause-run c = λ t a r.
    let w = IsRunning-from c.args.inst.now c.args.i c.args.s t a r in
    let to = w.to in
    let past = ap (λ (x : Window). x.past) c.run.ensures.value in
    omega (arith, to, past, c.max.ensures)
