use Rattle.group_ladder.proofs.raise.box_worth.Goals as goal

pub worth-requires : goal.worth-requires
worth-requires c = c.in_ok-table.ensures.boxes c.args.spans.now c.requires.spans c.requires.starts
