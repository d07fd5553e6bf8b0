use Rattle.resource_bands.proofs.ChangeLemmas.{row_gap-set}
use Rattle.resource_bands.proofs.row.Row.shift.Goals as goal

pub returns-clause-gap : goal.returns-clause-gap
returns-clause-gap c =
    let set = row_gap-set c.args.inst.now c.args.c c.args.t c.args.self.now c.plus-new.result c.requires.each
    c.requires.from c.requires.to in
    rw (c.set_load.ensures, c.minus.ensures, c.gap.ensures.value, c.gap-2.ensures.value, c.load-old.ensures) set
