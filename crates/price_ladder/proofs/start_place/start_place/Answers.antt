use Rattle.price_ladder.proofs.PhaseLemmas.{start_within}
use Rattle.price_ladder.proofs.start_place.start_place.Goals as goal

pub period_place-requires-clause-from : goal.period_place-requires-clause-from
period_place-requires-clause-from c =
    (start_within c.args.inst.now c.args.i c.args.s c.fits.ensures c.requires.number c.requires.allowed).0

pub period_place-requires-clause-to : goal.period_place-requires-clause-to
period_place-requires-clause-to c =
    (start_within c.args.inst.now c.args.i c.args.s c.fits.ensures c.requires.number c.requires.allowed).1
