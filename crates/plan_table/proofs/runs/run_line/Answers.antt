use Rattle.std.proofs.Common.{◌∙◌, ap, arith}
use Rattle.fixed_num.specs.Sums.{total}
use Rattle.instance_model.proofs.EntryLemmas.{IsRunning-from}
use Rattle.plan_table.proofs.LineLemmas.{run_line_is}
use Rattle.plan_table.proofs.runs.run_line.Goals as goal

pub overflow_sub-result : goal.overflow_sub-result
overflow_sub-result g c =
    (IsRunning-from c.args.inst.now c.args.i c.args.s c.args.t c.requires.allowed c.requires.running).from

pub overflow_add-result : goal.overflow_add-result
overflow_add-result g c =
    let r = IsRunning-from c.args.inst.now c.args.i c.args.s c.args.t c.requires.allowed c.requires.running in
    omega (arith, r.start, r.from, c.ranges.t)

pub delta-requires-clause-from : goal.delta-requires-clause-from
delta-requires-clause-from g c =
    (IsRunning-from c.args.inst.now c.args.i c.args.s c.args.t c.requires.allowed c.requires.running).start

pub delta-requires-clause-to : goal.delta-requires-clause-to
delta-requires-clause-to g c =
    (IsRunning-from c.args.inst.now c.args.i c.args.s c.args.t c.requires.allowed c.requires.running).among

pub returns : goal.returns
returns g c =
    run_line_is c.args.inst.now c.args.t c.args.i c.args.s c.delta.result c.scenarios-n.result c.total_risk-risk.result
    c.floor_div.result c.ceil_div.result c.delta.ensures.value c.scenarios-n.ensures.value c.scenarios-n.ensures.some
    c.scenarios-n.ensures.few (c.total_risk-risk.ensures.value ∙ ap total c.risks.ensures.value)
    c.total_risk-risk.ensures.small c.floor_div.ensures c.ceil_div.ensures
