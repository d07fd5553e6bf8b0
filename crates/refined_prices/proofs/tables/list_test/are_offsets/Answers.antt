use Rattle.std.proofs.Common.{refl, subst, arith}
use Rattle.std.proofs.lemmas.List.{get_or_default}
use Rattle.refined_prices.specs.Offsets.{IsOffset, OffsetBefore}
use Rattle.refined_prices.proofs.TablesOrderLemmas.{AreOrdered-more, AreOrdered-all, offsets_trans}
use Rattle.refined_prices.proofs.tables.list_test.are_offsets.Goals as goal

pub loop-k-preserved : goal.loop-k-preserved
loop-k-preserved c = AreOrdered-more (IsOffset c.args.inst.now c.args.tails.now) OffsetBefore c.args.offsets.now
    c.loop-k.k offsets_trans c.loop-k.invariant
    (λ d. subst (IsOffset c.args.inst.now c.args.tails.now)
    (get_or_default c.args.offsets.now c.loop-k.k
    (record { period = 0; intervention = 0; group = 0; value = 0 }) d c.loop-k-test.true)
    (c.is_offset.ensures.0 c.if-not-is_offset.false))
    (c.offset_follows.ensures.0 c.if-not-offset_follows.false)

pub returns : goal.returns
returns c = (
  λ _. AreOrdered-all (IsOffset c.args.inst.now c.args.tails.now) OffsetBefore c.args.offsets.now c.loop-k.k
      c.loop-k.invariant (omega arith),
  λ _. refl,
)
