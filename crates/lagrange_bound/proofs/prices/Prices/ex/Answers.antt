use Rattle.std.proofs.Common.{◌∙◌, sym, ap, subst, List}
use Rattle.lagrange_bound.specs.declared.ex_price.ExPrice.{ExPrice}
use Rattle.lagrange_bound.specs.Prices.{PriceList, IsPriceList, ex_of}
use Rattle.lagrange_bound.specs.ExLists.{StandsAt, BelongsAt}
use Rattle.lagrange_bound.proofs.ExListLemmas.{found_value, missing_value}
use Rattle.lagrange_bound.proofs.prices.Prices.ex.Goals as goal

pub returns-in-Ok-clause-value : goal.returns-in-Ok-clause-value
returns-in-Ok-clause-value c =
    let old = subst (IsPriceList c.args.inst.now) (sym c.self.view_is) c.requires.prices in
    let at = subst (λ (xs : List ExPrice). StandsAt xs c.args.e c.args.t c.in-Ok.place) c.as_slice.ensures.value
    c.in-Ok.ensures.found in
    ap (λ (x : ExPrice). x.value) c.index.ensures
    ∙ found_value c.self.inside.ex.items c.args.e c.args.t c.in-Ok.place c.index.result.now old.ex_ascend at
    ∙ ap (λ (p : PriceList). ex_of p.ex c.args.e c.args.t) c.self.view_is

pub returns-in-Err-clause-value : goal.returns-in-Err-clause-value
returns-in-Err-clause-value c =
    let at = subst (λ (xs : List ExPrice). BelongsAt xs c.args.e c.args.t c.in-Err.field-0) c.as_slice.ensures.value
    c.in-Err.ensures.missing in
    missing_value c.self.inside.ex.items c.args.e c.args.t c.in-Err.field-0 at
    ∙ ap (λ (p : PriceList). ex_of p.ex c.args.e c.args.t) c.self.view_is
