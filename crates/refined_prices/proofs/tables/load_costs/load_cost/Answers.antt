use Rattle.std.proofs.Common.{◌≡◌, ◌∙◌, ◌≤◌, ◌*ℤ◌, ◌-ℤ◌, ℤ, Bool, false, true, ap, arith, cond, pos, sym, unsigned_abs}
use Rattle.std.specs.Int.{int_min}
use Rattle.fixed_num.proofs.Bits.{by_bits}
use Rattle.fixed_num.proofs.SignedLemmas.{back_from_abs}
use Rattle.lagrange_bound.specs.Prices.{PriceList, up_of, lo_of}
use Rattle.refined_prices.specs.Caps.{cap_of}
use Rattle.refined_prices.proofs.TablesLoadCostLemmas.{load_share_is, counted_small}
use Rattle.refined_prices.proofs.tables.load_costs.load_cost.Goals as goal

pub returns-then-not-capped-clause-value : goal.returns-then-not-capped-clause-value
returns-then-not-capped-clause-value c =
    let b = back_from_abs c.weighed.result (omega (arith, c.weighed.ensures.small)) in
    let load : by_bits c.count-load.result ≡ c.args.load =
    back_from_abs c.count-load.result (omega (arith, c.requires.small, ap unsigned_abs c.count-load.ensures.value))
    ∙ c.count-load.ensures.value in
    let no : c.args.list.now.capped ≡ false = sym c.capped.ensures ∙ c.if-not-capped.true in
    b ∙ load_share_is c.args.inst.now c.args.list.now c.args.c c.args.t c.up-up.result c.lo-lo.result c.args.load
    c.args.load c.weighed.result
    (c.up-up.ensures.value ∙ ap (λ (p : PriceList). up_of c.args.inst.now p c.args.c c.args.t) c.prices.ensures)
    (c.lo-lo.ensures.value ∙ ap (λ (p : PriceList). lo_of c.args.inst.now p c.args.c c.args.t) c.prices-2.ensures)
    (sym (ap (λ (t : Bool). cond t (int_min c.args.load (cap_of c.args.inst.now c.args.c c.args.t)) c.args.load) no))
    (c.weighed.ensures.value
    ∙ ap (λ (z : ℤ). (pos c.up-up.result *ℤ z) -ℤ (pos c.lo-lo.result *ℤ z)) load)

pub returns-clause-value : goal.returns-clause-value
returns-clause-value c =
    let b = back_from_abs c.weighed-2.result (omega (arith, c.weighed-2.ensures.small)) in
    let load : by_bits c.count-load.result ≡ c.args.load =
    back_from_abs c.count-load.result (omega (arith, c.requires.small, ap unsigned_abs c.count-load.ensures.value))
    ∙ c.count-load.ensures.value in
    let cap : by_bits c.cap.result ≡ c.cap.result = back_from_abs c.cap.result (omega (arith, c.cap.ensures.small)) in
    let least : c.min-counted.result ≡ int_min c.args.load c.cap.result =
    c.min-counted.ensures.value ∙ ap (λ (z : ℤ). int_min z (by_bits c.cap.result)) load
    ∙ ap (int_min c.args.load) cap in
    let small : unsigned_abs c.min-counted.result ≤ 100_000_000_000_000_000_000 =
    rw least (counted_small c.args.load c.cap.result (omega (arith, c.requires.small)) c.cap.ensures.some) in
    let counted : by_bits c.min-counted.result ≡ int_min c.args.load (cap_of c.args.inst.now c.args.c c.args.t) =
    back_from_abs c.min-counted.result (omega (arith, small)) ∙ least
    ∙ ap (int_min c.args.load) c.cap.ensures.value in
    let yes' : c.args.list.now.capped ≡ true = sym c.capped.ensures ∙ c.if-not-capped.false in
    b ∙ load_share_is c.args.inst.now c.args.list.now c.args.c c.args.t c.up-up.result c.lo-lo.result c.args.load
    (by_bits c.min-counted.result) c.weighed-2.result
    (c.up-up.ensures.value ∙ ap (λ (p : PriceList). up_of c.args.inst.now p c.args.c c.args.t) c.prices.ensures)
    (c.lo-lo.ensures.value ∙ ap (λ (p : PriceList). lo_of c.args.inst.now p c.args.c c.args.t) c.prices-2.ensures)
    (counted ∙ sym (ap (λ (t : Bool). cond t (int_min c.args.load (cap_of c.args.inst.now c.args.c c.args.t))
    c.args.load) yes'))
    (c.weighed-2.ensures.value ∙ ap (λ (z : ℤ). (pos c.up-up.result *ℤ z)
    -ℤ (pos c.lo-lo.result *ℤ by_bits c.min-counted.result)) load)
