use Rattle.std.proofs.Common.{◌≡◌, ◌<◌, ◌^◌, ◌∙◌, sym, subst, arith, ℤ, List, All, unsigned_abs}
use Rattle.std.proofs.lemmas.List.Elements.{All-push}
use Rattle.fixed_num.proofs.Bits.{by_bits}
use Rattle.fixed_num.proofs.SignedLemmas.{back_from_abs}
use Rattle.price_ladder.specs.Kept.{rebased_of}
use Rattle.price_ladder.proofs.KeptLemmas.{values_none, values_more, values_all}
use Rattle.price_ladder.proofs.rebased.all_rebased.Goals as goal

pub loop-k-init : goal.loop-k-init
loop-k-init c = record {
  values = values_none c.args.inst.now (rebased_of c.args.inst.now c.args.prices.now c.args.t c.args.bases.now) _
      c.in_ok-new.ensures.items;
  small = subst (λ (xs : List ℤ). All (λ z. unsigned_abs z < 10 ^ 30) xs) (sym c.in_ok-new.ensures.items)
      (λ i d l. absurd (omega (arith, l)));
}

pub loop-k-preserved : goal.loop-k-preserved
loop-k-preserved c =
    let is : by_bits c.rebased_at.result ≡ c.rebased_at.result =
    back_from_abs c.rebased_at.result (omega (arith, c.rebased_at.ensures.small)) in
    record {
      values = values_more c.args.inst.now (rebased_of c.args.inst.now c.args.prices.now c.args.t c.args.bases.now)
          c.loop-k.k c.loop-k.new.items _ (by_bits c.rebased_at.result)
          c.loop-k.invariant.values c.in_ok-push.ensures.items (λ a. is ∙ c.rebased_at.ensures.value a);
      small = subst (λ (xs : List ℤ). All (λ z. unsigned_abs z < 10 ^ 30) xs) (sym c.in_ok-push.ensures.items)
          (All-push (λ z. unsigned_abs z < 10 ^ 30) c.loop-k.new.items (by_bits c.rebased_at.result)
          c.loop-k.invariant.small
          (subst (λ (z : ℤ). unsigned_abs z < 10 ^ 30) (sym is) c.rebased_at.ensures.small));
    }

pub returns-clause-value : goal.returns-clause-value
returns-clause-value c = values_all c.args.inst.now (rebased_of c.args.inst.now c.args.prices.now c.args.t
    c.args.bases.now) c.loop-k.k c.loop-k.new.items c.fits.ensures (omega arith)
    c.loop-k.invariant.values
