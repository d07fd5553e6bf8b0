use Rattle.std.proofs.Common.{◌≡◌, ◌∙◌, sym, ap, subst, arith, get_or, to_z}
use Rattle.std.specs.Int.{int_max, w128}
use Rattle.fixed_num.proofs.SignedLemmas.{back_from_abs}
use Rattle.instance_model.specs.Tables.{is_allowed, tmax}
use Rattle.instance_model.proofs.EntryLemmas.{is_allowed_facts}
use Rattle.lagrange_bound.specs.Prices.{PriceList, IsPriceList, zero_list}
use Rattle.lagrange_bound.specs.Goals.{risk_base}
use Rattle.lagrange_bound.proofs.PriceLemmas.{zero_in_range}
use Rattle.price_ladder.proofs.GreatestLemmas.{greatest_none, greatest_passed, greatest_taken, max_small, greatest_is}
use Rattle.price_ladder.proofs.least_gain.greatest_base.Goals as goal
use Rattle.price_ladder.proofs.least_gain.greatest_base.Goals.{then-allowed, else-allowed}

pub base-greatest-requires-clause-prices : goal.base-greatest-requires-clause-prices
base-greatest-requires-clause-prices c =
    subst (IsPriceList c.args.inst.now) (sym c.requires.zero) (zero_in_range c.args.inst.now)

pub base-requires-clause-prices : goal.base-requires-clause-prices
base-requires-clause-prices c =
    subst (IsPriceList c.args.inst.now) (sym c.requires.zero) (zero_in_range c.args.inst.now)

pub loop-s-init : goal.loop-s-init
loop-s-init c =
    let s = get_or c.args.starts.now c.args.i 0 in
    let allowed = c.requires.starts.allowed c.args.i (omega (arith, c.requires.number, c.requires.starts.each)) in
    let w = is_allowed_facts c.args.inst.now c.args.i (get_or c.args.starts.now c.args.i 0) allowed in
    let b = back_from_abs c.base-greatest.result (omega (arith, c.base-greatest.ensures.small)) in
    record {
      value = greatest_none (risk_base c.args.inst.now (zero_list c.args.inst.now) c.args.i)
          (is_allowed c.args.inst.now c.args.i) (tmax c.args.inst.now c.args.i) (get_or c.args.starts.now c.args.i 0) _
          w.0 w.1 allowed
          (b ∙ c.base-greatest.ensures.value ∙ ap (λ (p : PriceList). risk_base c.args.inst.now p c.args.i
          (get_or c.args.starts.now c.args.i 0)) c.requires.zero);
      small = rw b c.base-greatest.ensures.small;
    }

pub returns-clause-value : goal.returns-clause-value
returns-clause-value c = greatest_is c.args.inst.now (risk_base c.args.inst.now (zero_list c.args.inst.now) c.args.i)
    c.args.i c.loop-s.s _ c.requires.number (omega arith) c.loop-s.invariant.value

pub loop-s-preserved : goal.loop-s-preserved
loop-s-preserved c =
    elim c.if-allowed.branch [
      | then-allowed w ↦
          let n = back_from_abs w.base.result (omega (arith, w.base.ensures.small)) in
          let m : w.max-greatest.result ≡ int_max (to_z w128 c.loop-s.greatest-bits) w.base.result =
          w.max-greatest.ensures.value ∙ ap (int_max (to_z w128 c.loop-s.greatest-bits)) n in
          let small = max_small (to_z w128 c.loop-s.greatest-bits) w.base.result w.max-greatest.result
          c.loop-s.invariant.small w.base.ensures.small m in
          let b = back_from_abs w.max-greatest.result (omega (arith, small)) in
          rw (w.greatest-is, b) (record {
            value = greatest_taken (risk_base c.args.inst.now (zero_list c.args.inst.now) c.args.i)
                (is_allowed c.args.inst.now c.args.i) (tmax c.args.inst.now c.args.i) c.loop-s.s
                (to_z w128 c.loop-s.greatest-bits) w.base.result w.max-greatest.result c.loop-s.invariant.value
                (omega arith) (omega (arith, c.tmax-s-end.ensures.value)) (sym c.allowed.ensures ∙ w.if-allowed.true)
                (w.base.ensures.value
                ∙ ap (λ (p : PriceList). risk_base c.args.inst.now p c.args.i c.loop-s.s) c.requires.zero) m;
            small = small;
          })
      | else-allowed w ↦
          rw w.greatest-is (record {
            value = greatest_passed (risk_base c.args.inst.now (zero_list c.args.inst.now) c.args.i)
                (is_allowed c.args.inst.now c.args.i) (tmax c.args.inst.now c.args.i) c.loop-s.s
                (to_z w128 c.loop-s.greatest-bits) c.loop-s.invariant.value
                (sym c.allowed.ensures ∙ w.if-allowed.false);
            small = c.loop-s.invariant.small;
          })
    ]
