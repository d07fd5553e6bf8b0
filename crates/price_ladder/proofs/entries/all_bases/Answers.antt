use Rattle.std.proofs.Common.{◌≡◌, ◌<◌, ◌^◌, ◌∙◌, sym, subst, arith, ℤ, List, All, unsigned_abs}
use Rattle.std.proofs.lemmas.List.Elements.{All-push}
use Rattle.fixed_num.proofs.Bits.{by_bits}
use Rattle.fixed_num.proofs.SignedLemmas.{back_from_abs}
use Rattle.lagrange_bound.specs.Goals.{risk_base}
use Rattle.price_ladder.proofs.KeptLemmas.{values_none, values_more, values_all}
use Rattle.price_ladder.proofs.entries.all_bases.Goals as goal

pub loop-k-init : goal.loop-k-init
loop-k-init c = record {
  values = values_none c.args.inst.now (risk_base c.args.inst.now c.args.prices.now) _ c.in_ok-entries.ensures.items;
  small = subst (λ (xs : List ℤ). All (λ z. unsigned_abs z < 10 ^ 30) xs) (sym c.in_ok-entries.ensures.items)
      (λ i d l. absurd (omega (arith, l)));
}

pub loop-k-preserved : goal.loop-k-preserved
loop-k-preserved c =
    let is : by_bits c.base_at.result ≡ c.base_at.result =
    back_from_abs c.base_at.result (omega (arith, c.base_at.ensures.small)) in
    record {
      values = values_more c.args.inst.now (risk_base c.args.inst.now c.args.prices.now) c.loop-k.k
          c.loop-k.entries.items _ (by_bits c.base_at.result)
          c.loop-k.invariant.values c.in_ok-push.ensures.items (λ a. is ∙ c.base_at.ensures.value a);
      small = subst (λ (xs : List ℤ). All (λ z. unsigned_abs z < 10 ^ 30) xs) (sym c.in_ok-push.ensures.items)
          (All-push (λ z. unsigned_abs z < 10 ^ 30) c.loop-k.entries.items (by_bits c.base_at.result)
          c.loop-k.invariant.small
          (subst (λ (z : ℤ). unsigned_abs z < 10 ^ 30) (sym is) c.base_at.ensures.small));
    }

pub returns-clause-value : goal.returns-clause-value
returns-clause-value c = values_all c.args.inst.now (risk_base c.args.inst.now c.args.prices.now) c.loop-k.k
    c.loop-k.entries.items c.fits.ensures (omega arith)
    c.loop-k.invariant.values
