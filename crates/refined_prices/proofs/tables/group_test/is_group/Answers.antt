use Rattle.std.proofs.Common.{◌∙◌, sym, arith}
use Rattle.std.proofs.lemmas.Bool.{false≢true}
use Rattle.std.proofs.lemmas.Bool.Decides.{Decides-eqb}
use Rattle.refined_prices.proofs.TablesGroupTestLemmas.{on_less, on_end, on_ended, IsGroup-from_on, on_from_IsGroup}
use Rattle.refined_prices.proofs.tables.group_test.is_group.Goals as goal

pub returns-then-not-is_next : goal.returns-then-not-is_next
returns-then-not-is_next c = (
  λ t. absurd (false≢true t),
  λ w. absurd (false≢true (sym c.if-not-is_next.true
      ∙ c.is_next.ensures.1 (on_less c.args.n c.args.total c.loop-member.last c.loop-member.sum
      c.loop-member.member-index c.args.group.now (record { scenario = 0; weight = 0 }) c.loop-member-test.true
      (c.loop-member.invariant.to (on_from_IsGroup c.args.n c.args.total c.args.group.now w))).0)),
)

pub returns : goal.returns
returns c = (
  λ t. IsGroup-from_on c.args.n c.args.total c.args.group.now (c.loop-member.invariant.from
      (on_end c.args.n c.args.total c.loop-member.last c.loop-member.sum c.loop-member.member-index c.args.group.now
      (omega arith) ((Decides-eqb c.loop-member.sum c.args.total).0 t))),
  λ w. (Decides-eqb c.loop-member.sum c.args.total).1 (on_ended c.args.n c.args.total c.loop-member.last
      c.loop-member.sum c.loop-member.member-index c.args.group.now (omega arith)
      (c.loop-member.invariant.to (on_from_IsGroup c.args.n c.args.total c.args.group.now w))),
)
