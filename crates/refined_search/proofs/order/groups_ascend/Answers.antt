use Rattle.std.proofs.Common.{◌∙◌, sym, refl, arith}
use Rattle.std.proofs.lemmas.Bool.{false≢true}
use Rattle.refined_search.proofs.OrderLemmas.{ascend_none, ascend_more, ascend_all, not_ascending}
use Rattle.refined_search.proofs.order.groups_ascend.Goals as goal

pub loop-k-init : goal.loop-k-init
loop-k-init c = ascend_none c.args.groups.now

pub loop-k-preserved : goal.loop-k-preserved
loop-k-preserved c =
    ascend_more c.args.groups.now c.loop-k.k c.loop-k.invariant
    (c.group_follows.ensures.0 c.if-not-group_follows.false)

pub returns-then-not-group_follows : goal.returns-then-not-group_follows
returns-then-not-group_follows c = (
  λ t. absurd (false≢true t),
  λ h. absurd (not_ascending c.args.groups.now c.loop-k.k c.loop-k-test.true
      (λ next. false≢true (sym c.if-not-group_follows.true ∙ c.group_follows.ensures.1 next)) h),
)

pub returns : goal.returns
returns c = (λ t. ascend_all c.args.groups.now c.loop-k.k c.loop-k.invariant (omega arith), λ h. refl)
