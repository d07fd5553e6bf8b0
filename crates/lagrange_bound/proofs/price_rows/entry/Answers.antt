use Rattle.lagrange_bound.proofs.RowLemmas.{IsRunPart-from}
use Rattle.lagrange_bound.proofs.price_rows.entry.Goals as goal

pub overflow_sub-ex-3 : goal.overflow_sub-ex-3
overflow_sub-ex-3 g c =
    (IsRunPart-from c.args.inst.now c.args.prices.now c.args.i c.args.s c.run-window.result c.args.before.now
    c.fits.ensures c.requires.prices c.requires.before c.run-window.ensures.value c.run-window.ensures.starts
    c.run-window.ensures.order c.run-window.ensures.ends).order

pub price_with-requires-clause-ex : goal.price_with-requires-clause-ex
price_with-requires-clause-ex g c =
    (IsRunPart-from c.args.inst.now c.args.prices.now c.args.i c.args.s c.run-window.result c.args.before.now
    c.fits.ensures c.requires.prices c.requires.before c.run-window.ensures.value c.run-window.ensures.starts
    c.run-window.ensures.order c.run-window.ensures.ends).part

pub price_with-requires-clause-few : goal.price_with-requires-clause-few
price_with-requires-clause-few g c =
    (IsRunPart-from c.args.inst.now c.args.prices.now c.args.i c.args.s c.run-window.result c.args.before.now
    c.fits.ensures c.requires.prices c.requires.before c.run-window.ensures.value c.run-window.ensures.starts
    c.run-window.ensures.order c.run-window.ensures.ends).few
