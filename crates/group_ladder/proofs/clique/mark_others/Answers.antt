use Rattle.std.proofs.Common.{◌∙◌}
use Rattle.group_ladder.proofs.StartLemmas.{named_number}
use Rattle.group_ladder.proofs.clique.mark_others.Goals as goal

pub other_of-requires : goal.other_of-requires
other_of-requires c = named_number c.args.inst.now c.args.i c.loop-e.e-index c.as_slice-e-items.result.now
    (c.as_slice-e-items.ensures ∙ c.requires.named) c.loop-e-test.true
