use Rattle.std.proofs.Common.{◌≡◌, ◌∙◌, arith}
use Rattle.fixed_num.proofs.Bits.{by_bits}
use Rattle.fixed_num.proofs.SignedLemmas.{back_from_abs}
use Rattle.price_ladder.specs.Weights.{price_at}
use Rattle.price_ladder.proofs.KeptLemmas.{values_none, values_more, values_all}
use Rattle.price_ladder.proofs.entries.all_prices.Goals as goal

pub loop-k-init : goal.loop-k-init
loop-k-init c =
    values_none c.args.inst.now (price_at c.args.inst.now c.args.prices.now) _ c.in_ok-entries.ensures.items

pub loop-k-preserved : goal.loop-k-preserved
loop-k-preserved c =
    let is : by_bits c.price_at.result ≡ c.price_at.result =
    back_from_abs c.price_at.result (omega (arith, c.price_at.ensures.small)) in
    values_more c.args.inst.now (price_at c.args.inst.now c.args.prices.now) c.loop-k.k c.loop-k.entries.items _
    (by_bits c.price_at.result) c.loop-k.invariant c.in_ok-push.ensures.items
    (λ a. is ∙ c.price_at.ensures.value a)

pub returns : goal.returns
returns c = values_all c.args.inst.now (price_at c.args.inst.now c.args.prices.now) c.loop-k.k c.loop-k.entries.items
    c.fits.ensures (omega arith) c.loop-k.invariant
