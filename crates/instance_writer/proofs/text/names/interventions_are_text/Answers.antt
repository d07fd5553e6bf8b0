use Rattle.std.proofs.Common.{◌≤◌, length, arith}
use Rattle.instance_writer.proofs.TextNameTexts.{one_more, all_told}
use Rattle.instance_writer.proofs.text.names.interventions_are_text.Goals as goal

pub loop-i-preserved : goal.loop-i-preserved
loop-i-preserved c = one_more c.args.inst.now.names c.loop-i.i c.name.result.now c.loop-i.invariant
    c.name.ensures.value c.is_text.ensures

pub returns : goal.returns
returns c =
    let past : length c.args.inst.now.names ≤ c.loop-i.i =
    omega (arith, c.loop-i-test.false, c.interventions-i-end.ensures.value) in
    all_told c.args.inst.now.names c.loop-i.i past c.loop-i.invariant
