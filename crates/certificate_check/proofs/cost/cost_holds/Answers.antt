use Rattle.std.proofs.Common.{sym, subst}
use Rattle.lagrange_bound.specs.Tabulated.{PriceRows, IsPricedBox}
use Rattle.certificate_check.proofs.cost.cost_holds.Goals as goal

pub worth-requires : goal.worth-requires
worth-requires c = subst (λ (t : PriceRows). IsPricedBox t c.args.spans.now) (sym c.index-tables-list.is)
    (c.requires.priced c.args.list c.index-tables-list.result c.requires.list c.args.spans.now c.requires.spans
    (c.has_starts.ensures.0 c.if-not-has_starts.false))
