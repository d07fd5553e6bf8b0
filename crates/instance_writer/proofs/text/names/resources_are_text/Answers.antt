use Rattle.std.proofs.Common.{◌≤◌, length, arith}
use Rattle.instance_writer.proofs.TextNameTexts.{one_more, all_told}
use Rattle.instance_writer.proofs.text.names.resources_are_text.Goals as goal

pub loop-c-preserved : goal.loop-c-preserved
loop-c-preserved c = one_more c.args.inst.now.resource_names c.loop-c.c c.resource_name.result.now c.loop-c.invariant
    c.resource_name.ensures.value c.is_text.ensures

pub returns : goal.returns
returns c =
    let past : length c.args.inst.now.resource_names ≤ c.loop-c.c =
    omega (arith, c.loop-c-test.false, c.resources-c-end.ensures.value) in
    all_told c.args.inst.now.resource_names c.loop-c.c past c.loop-c.invariant
