use Rattle.std.proofs.Common.{◌≤◌, length, arith}
use Rattle.instance_writer.proofs.TextNameTexts.{one_more, all_told}
use Rattle.instance_writer.proofs.text.names.seasons_are_text.Goals as goal

pub loop-q-preserved : goal.loop-q-preserved
loop-q-preserved c = one_more c.args.inst.now.season_names c.loop-q.q c.season_name.result.now c.loop-q.invariant
    c.season_name.ensures.value c.is_text.ensures

pub returns : goal.returns
returns c =
    let past : length c.args.inst.now.season_names ≤ c.loop-q.q =
    omega (arith, c.loop-q-test.false, c.seasons-q-end.ensures.value) in
    all_told c.args.inst.now.season_names c.loop-q.q past c.loop-q.invariant
