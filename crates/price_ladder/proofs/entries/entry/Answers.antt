use Rattle.std.proofs.Common.{ℕ, ◌+◌, ◌-◌, ◌*◌, ◌<◌, length, sym, subst}
use Rattle.price_ladder.proofs.KeptLemmas.{entry_within}
use Rattle.price_ladder.proofs.entries.entry.Goals as goal

pub overflow_sub-result : goal.overflow_sub-result
overflow_sub-result c = (entry_within c.args.inst.now c.args.i c.args.s (length c.args.entries.now) c.fits.ensures
    c.requires.number c.requires.allowed c.requires.each).0

pub bounds-entries-first : goal.bounds-entries-first
bounds-entries-first c =
    subst (λ (p : ℕ). c.args.i * p + (c.args.s - 1) < length c.args.entries.now) (sym c.periods.ensures.value)
    (entry_within c.args.inst.now c.args.i c.args.s (length c.args.entries.now) c.fits.ensures c.requires.number
    c.requires.allowed c.requires.each).1
