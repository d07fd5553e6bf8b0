use Rattle.std.proofs.Common.{ap, arith, length}
use Rattle.refined_prices.proofs.TablesGroupTestLemmas.{members_flagged}
use Rattle.refined_prices.proofs.tables.group_test.take_group.Goals as goal

pub are_free-requires : goal.are_free-requires
are_free-requires c = λ k d l. omega (
  arith,
  members_flagged c.args.n c.args.total c.args.group.now c.args.taken.now.items
      (c.is_group.ensures.0 c.if-not-is_group.false) c.requires.each k d l,
  ap length c.as_slice.ensures.value,
)

pub take_scenarios-requires : goal.take_scenarios-requires
take_scenarios-requires c = members_flagged c.args.n c.args.total c.args.group.now c.args.taken.now.items
    (c.is_group.ensures.0 c.if-not-is_group.false) c.requires.each
