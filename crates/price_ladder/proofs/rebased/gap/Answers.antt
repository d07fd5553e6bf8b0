use Rattle.std.proofs.Common.{◌∙◌, ◌^◌, refl, ap, ℤ, ◌-ℤ◌}
use Rattle.price_ladder.specs.Kept.{rebased_of}
use Rattle.price_ladder.proofs.KeptLemmas.{entry_read}
use Rattle.price_ladder.proofs.TailBaseLemmas.{gap_is}
use Rattle.price_ladder.proofs.rebased.gap.Goals as goal

pub returns-clause-value : goal.returns-clause-value
returns-clause-value c =
    let small = entry_read c.args.inst.now (10 ^ 30) c.args.bases.now c.args.i c.args.s c.entry.result _
    c.requires.bases c.requires.number refl c.requires.allowed c.entry.ensures in
    (gap_is c.rebased.result c.entry.result c.rebased.ensures.small small).value
    ∙ ap (λ (z : ℤ). z -ℤ c.entry.result) c.rebased.ensures.value
    ∙ ap (λ (z : ℤ). rebased_of c.args.inst.now c.args.prices.now c.args.t c.args.bases.now c.args.i c.args.s -ℤ z)
    c.entry.ensures

pub returns-clause-small : goal.returns-clause-small
returns-clause-small c =
    let small = entry_read c.args.inst.now (10 ^ 30) c.args.bases.now c.args.i c.args.s c.entry.result _
    c.requires.bases c.requires.number refl c.requires.allowed c.entry.ensures in
    (gap_is c.rebased.result c.entry.result c.rebased.ensures.small small).small
