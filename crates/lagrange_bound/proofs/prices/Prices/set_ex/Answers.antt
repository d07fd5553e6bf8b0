use Rattle.std.proofs.Common.{sym, subst, List, is_ok}
use Rattle.lagrange_bound.specs.Prices.{IsPriceList}
use Rattle.lagrange_bound.specs.declared.ex_price.ExPrice.{ExPrice}
use Rattle.lagrange_bound.specs.ExLists.{StandsAt, BelongsAt}
use Rattle.lagrange_bound.proofs.ExSetLemmas.{ex_replaced, ex_inserted, changed_from, list_from, on_ok, inserted_where}
use Rattle.lagrange_bound.proofs.prices.Prices.set_ex.Goals as goal

pub returns-in-Ok-clause-changed : goal.returns-in-Ok-clause-changed
returns-in-Ok-clause-changed c =
    let old = subst (IsPriceList c.args.inst.now) (sym c.self.view_is) c.requires.prices in
    let at = subst (λ (xs : List ExPrice). StandsAt xs c.args.e c.args.t c.in-Ok.place) c.as_slice.ensures.value
    c.in-Ok.ensures.found in
    (changed_from c.args.inst.now c.args.self.now c.self.inside.up.items c.self.inside.lo.items
    c.self.inside.tails.items c.self.inside.ex.items c.replace_at.new.ex.items c.args.e c.args.t c.args.v
    c.self.view_is
    (ex_replaced c.args.inst.now (list_from c.self.inside.up.items c.self.inside.lo.items c.self.inside.tails.items
    c.self.inside.ex.items) c.replace_at.new.ex.items c.args.e c.args.t c.args.v c.in-Ok.place old c.requires.place
    c.requires.small at c.replace_at.ensures)).0

pub returns-in-Ok-clause-in_range : goal.returns-in-Ok-clause-in_range
returns-in-Ok-clause-in_range c =
    let old = subst (IsPriceList c.args.inst.now) (sym c.self.view_is) c.requires.prices in
    let at = subst (λ (xs : List ExPrice). StandsAt xs c.args.e c.args.t c.in-Ok.place) c.as_slice.ensures.value
    c.in-Ok.ensures.found in
    (ex_replaced c.args.inst.now (list_from c.self.inside.up.items c.self.inside.lo.items c.self.inside.tails.items
    c.self.inside.ex.items) c.replace_at.new.ex.items c.args.e c.args.t c.args.v c.in-Ok.place old c.requires.place
    c.requires.small at c.replace_at.ensures).in_range

pub returns-in-Err-clause-changed : goal.returns-in-Err-clause-changed
returns-in-Err-clause-changed c =
    let old = subst (IsPriceList c.args.inst.now) (sym c.self.view_is) c.requires.prices in
    let at = subst (λ (xs : List ExPrice). BelongsAt xs c.args.e c.args.t c.in-Err.place) c.as_slice.ensures.value
    c.in-Err.ensures.missing in
    on_ok c.insert_at.result _ (λ ok.
    (changed_from c.args.inst.now c.args.self.now c.self.inside.up.items c.self.inside.lo.items
    c.self.inside.tails.items c.self.inside.ex.items c.insert_at.new.ex.items c.args.e c.args.t c.args.v
    c.self.view_is
    (ex_inserted c.args.inst.now (list_from c.self.inside.up.items c.self.inside.lo.items c.self.inside.tails.items
    c.self.inside.ex.items) c.insert_at.new.ex.items c.args.e c.args.t c.args.v c.in-Err.place old c.requires.place
    c.requires.small at (inserted_where (is_ok c.insert_at.result) _ _ _ _ ok c.insert_at.ensures.inserted))).0)

pub returns-in-Err-clause-in_range : goal.returns-in-Err-clause-in_range
returns-in-Err-clause-in_range c =
    let old = subst (IsPriceList c.args.inst.now) (sym c.self.view_is) c.requires.prices in
    let at = subst (λ (xs : List ExPrice). BelongsAt xs c.args.e c.args.t c.in-Err.place) c.as_slice.ensures.value
    c.in-Err.ensures.missing in
    on_ok c.insert_at.result _ (λ ok.
    (ex_inserted c.args.inst.now (list_from c.self.inside.up.items c.self.inside.lo.items c.self.inside.tails.items
    c.self.inside.ex.items) c.insert_at.new.ex.items c.args.e c.args.t c.args.v c.in-Err.place old c.requires.place
    c.requires.small at
    (inserted_where (is_ok c.insert_at.result) _ _ _ _ ok c.insert_at.ensures.inserted)).in_range)
