use Rattle.std.proofs.Common.{subst, sym, ◌≤ℤ◌, ◌<◌, ◌^◌, pos, unsigned_abs}
use Rattle.refined_prices.proofs.SizeLemmas.{cap_of_small}
use Rattle.refined_prices.proofs.TablesCapTableLemmas.{IsCapRead-from, limit_above_zero, table_read}
use Rattle.refined_prices.proofs.tables.cap_table.CapTable.cap.Goals as goal

pub overflow_add-result : goal.overflow_add-result
overflow_add-result c =
    (IsCapRead-from c.args.inst.now c.args.c c.args.t c.max.result c.index.result.now c.fits.ensures
    (limit_above_zero c.max.result c.lower.result _ c.max.ensures.value c.lower.ensures.value c.lower.ensures.small)
    (table_read c.args.inst.now c.args.c c.args.t c.place.result c.self.inside.taken.items c.args.self.now
    c.index.result.now c.self.view_is c.requires.table c.place.ensures.value c.place.ensures.within c.index.ensures
    c.requires.resource c.requires.from c.requires.to)).fits

pub returns-clause-value : goal.returns-clause-value
returns-clause-value c =
    (IsCapRead-from c.args.inst.now c.args.c c.args.t c.max.result c.index.result.now c.fits.ensures
    (limit_above_zero c.max.result c.lower.result _ c.max.ensures.value c.lower.ensures.value c.lower.ensures.small)
    (table_read c.args.inst.now c.args.c c.args.t c.place.result c.self.inside.taken.items c.args.self.now
    c.index.result.now c.self.view_is c.requires.table c.place.ensures.value c.place.ensures.within c.index.ensures
    c.requires.resource c.requires.from c.requires.to)).value

pub returns-clause-some : goal.returns-clause-some
returns-clause-some c = subst (λ z. pos 0 ≤ℤ z) (sym (returns-clause-value c))
    (cap_of_small c.args.inst.now c.args.c c.args.t c.fits.ensures).0

pub returns-clause-small : goal.returns-clause-small
returns-clause-small c = subst (λ z. unsigned_abs z < 10 ^ 24) (sym (returns-clause-value c))
    (cap_of_small c.args.inst.now c.args.c c.args.t c.fits.ensures).1
