use Rattle.std.proofs.Common.{◌≡◌, ◌∙◌, ◌-◌, true, arith, get_or, pos, sym}
use Rattle.fixed_num.proofs.Bits.{by_bits}
use Rattle.fixed_num.proofs.SignedLemmas.{back_from_abs}
use Rattle.instance_model.specs.Tables.{is_allowed}
use Rattle.instance_model.proofs.EntryLemmas.{is_allowed_facts}
use Rattle.refined_prices.proofs.SizeLemmas.{RefinedPricesAreSmall-from}
use Rattle.refined_prices.proofs.TablesRowLemmas.{entry_priced, refined_price_is}
use Rattle.refined_prices.proofs.tables.rows.entry.Goals as goal

pub overflow_sub-s : goal.overflow_sub-s
overflow_sub-s c = (is_allowed_facts c.args.inst.now c.args.i c.args.s
    (sym c.allowed.ensures ∙ c.if-not-allowed.false)).0

pub bounds-costs-s : goal.bounds-costs-s
bounds-costs-s c =
    let f = is_allowed_facts c.args.inst.now c.args.i c.args.s (sym c.allowed.ensures ∙ c.if-not-allowed.false) in
    let each = c.requires.costs.each in
    omega (arith, f, each)

pub returns : goal.returns
returns c =
    let allowed : is_allowed c.args.inst.now c.args.i c.args.s ≡ true =
    sym c.allowed.ensures ∙ c.if-not-allowed.false in
    let f = is_allowed_facts c.args.inst.now c.args.i c.args.s allowed in
    let base = back_from_abs c.base_at-base.result (omega (arith, c.base_at-base.ensures.small))
    ∙ c.base_at-base.ensures.value in
    let limits = back_from_abs (get_or c.args.costs.now (c.args.s - 1) (pos 0))
    (omega (arith, c.requires.costs.small (c.args.s - 1))) ∙ c.requires.costs.at c.args.s f.0 f.1 in
    entry_priced c.args.inst.now c.args.list.now c.args.i c.args.s c.allowed.result c.price_from.result
    c.allowed.ensures c.if-not-allowed.false
    (refined_price_is c.args.inst.now c.args.list.now c.args.i c.args.s (by_bits c.base_at-base.result)
    (by_bits (get_or c.args.costs.now (c.args.s - 1) (pos 0))) c.price_from.result c.paid_over-paid.result base limits
    c.paid_over-paid.ensures.value c.price_from.ensures)
    (omega (
      arith,
      RefinedPricesAreSmall-from c.args.inst.now c.args.list.now c.args.i c.args.s c.fits.ensures
          c.requires.list c.requires.number allowed,
    ))
