use Rattle.std.proofs.Common.{◌≤◌, length, arith}
use Rattle.instance_writer.proofs.TextNameTexts.{one_more, all_told}
use Rattle.instance_writer.proofs.text.names.exclusions_are_text.Goals as goal

pub loop-e-preserved : goal.loop-e-preserved
loop-e-preserved c = one_more c.args.inst.now.exclusion_names c.loop-e.e c.exclusion_name.result.now c.loop-e.invariant
    c.exclusion_name.ensures.value c.is_text.ensures

pub returns : goal.returns
returns c =
    let past : length c.args.inst.now.exclusion_names ≤ c.loop-e.e =
    omega (arith, c.loop-e-test.false, c.exclusions-e-end.ensures.value) in
    all_told c.args.inst.now.exclusion_names c.loop-e.e past c.loop-e.invariant
