use Rattle.std.proofs.Common.{◌≡◌, ◌∙◌, subst, arith, ℤ}
use Rattle.fixed_num.proofs.Bits.{by_bits}
use Rattle.fixed_num.proofs.SignedLemmas.{back_from_abs}
use Rattle.price_ladder.specs.Kept.{AreValues, more_of}
use Rattle.price_ladder.proofs.KeptLemmas.{values_none, values_more, values_all}
use Rattle.price_ladder.proofs.entries.all_more.Goals as goal

pub loop-k-init : goal.loop-k-init
loop-k-init c = record {
  values = values_none c.args.inst.now (more_of c.args.inst.now c.args.place (by_bits c.args.times)
      c.args.entries.now) c.in_ok-new.new.items c.in_ok-new.ensures.items;
}

pub loop-k-preserved : goal.loop-k-preserved
loop-k-preserved c =
    let is : by_bits c.more_at.result ≡ c.more_at.result =
    back_from_abs c.more_at.result (omega (arith, c.more_at.ensures.small)) in
    record {
      values = values_more c.args.inst.now (more_of c.args.inst.now c.args.place (by_bits c.args.times)
          c.args.entries.now) c.loop-k.k c.loop-k.new.items _ (by_bits c.more_at.result)
          c.loop-k.invariant.values c.in_ok-push.ensures.items (λ a. is ∙ c.more_at.ensures.value a);
    }

pub returns : goal.returns
returns c =
    subst (λ (z : ℤ). AreValues c.args.inst.now (more_of c.args.inst.now c.args.place z c.args.entries.now)
    c.loop-k.new.items) (back_from_abs c.args.times (omega (arith, c.requires.times)))
    (values_all c.args.inst.now (more_of c.args.inst.now c.args.place (by_bits c.args.times) c.args.entries.now)
    c.loop-k.k c.loop-k.new.items c.fits.ensures (omega arith) c.loop-k.invariant.values)
