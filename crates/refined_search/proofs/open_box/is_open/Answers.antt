use Rattle.std.proofs.Common.{sym, subst, arith}
use Rattle.lagrange_bound.specs.Tabulated.{PriceRows, IsPricedBox}
use Rattle.refined_search.proofs.open_box.is_open.Goals as goal

pub worth-least-requires : goal.worth-least-requires
worth-least-requires c =
    let at = c.index-tables-list in
    subst (λ (t : PriceRows). IsPricedBox t c.args.spans.now) (sym at.is)
    (c.requires.priced c.in-Cost.list at.result (omega (arith, c.if-list-tables.false)) c.args.spans.now
    c.requires.spans (c.has_starts.ensures.0 c.if-not-has_starts.false))
