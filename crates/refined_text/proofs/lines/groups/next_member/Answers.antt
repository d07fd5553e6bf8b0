use Rattle.refined_text.proofs.LinesMemberLemmas.{no_scenario, no_weight}
use Rattle.refined_text.proofs.lines.groups.next_member.Goals as goal

pub returns-in_err-scenario-clause-none : goal.returns-in_err-scenario-clause-none
returns-in_err-scenario-clause-none c =
    rw c.from_residual.ensures (no_scenario c.args.text.now c.in_err-scenario.ensures.none)

pub returns-in_err-weight-clause-none : goal.returns-in_err-weight-clause-none
returns-in_err-weight-clause-none c =
    let first = c.in_ok-scenario in
    rw c.from_residual-in_err-weight.ensures
    (no_weight c.args.text.now first.more.now first.scenario first.ensures.found first.ensures.small first.ensures.rest
    c.in_err-weight.ensures.none)
