use Rattle.std.proofs.Common.{◌∙◌, [], refl, sym, arith}
use Rattle.std.proofs.lemmas.Bool.{false≢true}
use Rattle.std.proofs.lemmas.List.{get_or_read}
use Rattle.refined_prices.proofs.TablesGroupTestLemmas.{AreTaken-none, AreTaken-more, AreTaken-all, refused_group}
use Rattle.refined_prices.proofs.tables.group_test.are_groups.Goals as goal

pub loop-group-init : goal.loop-group-init
loop-group-init c = AreTaken-none c.args.n c.args.total c.args.groups.now c.in_ok-taken.taken.items
    (c.in_ok-taken.ensures.items_if_clones_equal (λ y e. e))

pub returns-then-not-take_group : goal.returns-then-not-take_group
returns-then-not-take_group c = (
  λ t. absurd (false≢true t),
  λ w. absurd (refused_group c.args.n c.args.total c.loop-group.group-index c.args.groups.now c.as_slice.result.now
      c.loop-group.taken.items c.loop-group.invariant c.loop-group-test.true
      (c.as_slice.ensures ∙ get_or_read c.args.groups.now c.loop-group.group-index c.group-item.result
      c.loop-group-test.true c.group-item.is [])
      (λ v. false≢true (sym c.if-not-take_group.true ∙ c.take_group.ensures.value.1 v)) w),
)

pub loop-group-preserved : goal.loop-group-preserved
loop-group-preserved c =
    let v = c.take_group.ensures.value.0 c.if-not-take_group.false in
    AreTaken-more c.args.n c.args.total c.loop-group.group-index c.args.groups.now c.as_slice.result.now
    c.loop-group.taken.items c.take_group.new.taken.items c.loop-group.invariant c.loop-group-test.true
    (c.as_slice.ensures ∙ get_or_read c.args.groups.now c.loop-group.group-index c.group-item.result
    c.loop-group-test.true c.group-item.is [])
    v.0 v.1 c.take_group.ensures.each (c.take_group.ensures.taken c.if-not-take_group.false)

pub returns : goal.returns
returns c = (
  λ _. AreTaken-all c.args.n c.args.total c.loop-group.group-index c.args.groups.now c.loop-group.taken.items
      c.loop-group.invariant (omega arith),
  λ _. refl,
)
