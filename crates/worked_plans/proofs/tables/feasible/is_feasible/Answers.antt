use Rattle.std.proofs.Common.{◌+◌, ◌∙◌, sym, arith, true, false}
use Rattle.worked_plans.proofs.FeasibleLemmas.{shown_by_definition, shown_by_report, feasible_from_shown}
use Rattle.worked_plans.proofs.FeasibleLemmas.{shown_from_feasible, shown_more}
use Rattle.worked_plans.proofs.tables.feasible.is_feasible.Goals as goal

pub returns-then-not-has_no_fault-clause-wherever_feasible : goal.returns-then-not-has_no_fault-clause-wherever_feasible
returns-then-not-has_no_fault-clause-wherever_feasible c feasible =
    let inst = c.args.inst.now in
    let starts = c.args.starts.now in
    sym c.if-not-has_no_fault.true
    ∙ c.has_no_fault.ensures.1
    (shown_by_report inst starts c.one_report.ensures (c.loop-u.u + 1) c.in_ok-report.report
    c.in_ok-report.ensures.report
    (shown_from_feasible inst starts c.one_report.ensures c.no_fault_means_feasible.ensures c.requires feasible
    (c.loop-u.u + 1) (omega arith) (omega arith)))

pub loop-u-preserved : goal.loop-u-preserved
loop-u-preserved c =
    let inst = c.args.inst.now in
    let starts = c.args.starts.now in
    shown_more inst starts c.loop-u.u c.loop-u.invariant
    (shown_by_definition inst starts c.one_report.ensures (c.loop-u.u + 1) c.in_ok-report.report
    c.in_ok-report.ensures.report (c.has_no_fault.ensures.0 c.if-not-has_no_fault.false))

pub returns-clause-only_where_feasible : goal.returns-clause-only_where_feasible
returns-clause-only_where_feasible c kept =
    feasible_from_shown c.args.inst.now c.args.starts.now c.one_report.ensures c.no_fault_means_feasible.ensures
    c.requires (λ t from to. c.loop-u.invariant t from (omega (arith, to)))
