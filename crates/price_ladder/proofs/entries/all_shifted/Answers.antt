use Rattle.std.proofs.Common.{◌≡◌, ◌∙◌, arith}
use Rattle.fixed_num.proofs.Bits.{by_bits}
use Rattle.fixed_num.proofs.SignedLemmas.{back_from_abs}
use Rattle.price_ladder.specs.Kept.{shifted_of}
use Rattle.price_ladder.proofs.KeptLemmas.{values_none, values_more, values_all}
use Rattle.price_ladder.proofs.entries.all_shifted.Goals as goal

pub loop-k-init : goal.loop-k-init
loop-k-init c = record {
  values = values_none c.args.inst.now (shifted_of c.args.inst.now c.args.before.now c.args.after.now
      c.args.entries.now) _ c.in_ok-new.ensures.items;
}

pub loop-k-preserved : goal.loop-k-preserved
loop-k-preserved c =
    let is : by_bits c.shifted_at.result ≡ c.shifted_at.result =
    back_from_abs c.shifted_at.result (omega (arith, c.shifted_at.ensures.small)) in
    record {
      values = values_more c.args.inst.now (shifted_of c.args.inst.now c.args.before.now c.args.after.now
          c.args.entries.now) c.loop-k.k c.loop-k.new.items _ (by_bits c.shifted_at.result)
          c.loop-k.invariant.values c.in_ok-push.ensures.items (λ a. is ∙ c.shifted_at.ensures.value a);
    }

pub returns : goal.returns
returns c = values_all c.args.inst.now (shifted_of c.args.inst.now c.args.before.now c.args.after.now
    c.args.entries.now) c.loop-k.k c.loop-k.new.items c.fits.ensures (omega arith)
    c.loop-k.invariant.values
