use Rattle.std.proofs.Common.{◌∙◌, arith, to_z, of_z}
use Rattle.std.specs.Int.{w128}
use Rattle.fixed_num.proofs.SignedLemmas.{back_from_abs}
use Rattle.resource_bands.specs.StartChanges.{board_after}
use Rattle.resource_bands.proofs.AboveLemmas.{all_above, handed_on}
use Rattle.resource_bands.proofs.above.is_above_at.Goals as goal

pub returns : goal.returns
returns c = λ h.
    let inst = c.args.inst.now in
    let after = board_after c.args.first c.args.second c.args.loads.now.board in
    let number = back_from_abs c.number.result (omega (arith, c.number.ensures.small)) ∙ c.number.ensures.value in
    all_above inst after c.args.c c.args.t c.load_after-after.result c.gap.result c.args.limit c.requires.resource
    c.requires.from c.requires.to c.load_after-after.ensures.value c.gap.ensures.value
    (handed_on c.args.limit c.gap.result (to_z w128 (of_z w128 c.number.result)) c.ranges.limit number h)
