use Rattle.std.proofs.Common.{◌∙◌, ◌+◌, ℕ, refl, sym, arith, below_more}
use Rattle.std.proofs.lemmas.Bool.{false≢true}
use Rattle.refined_prices.specs.tables.ListTests.{IsTailAt}
use Rattle.refined_prices.proofs.TablesListTestLemmas.{tails_from}
use Rattle.refined_prices.proofs.tables.list_test.are_tails.Goals as goal

pub returns-then-not-branch : goal.returns-then-not-branch
returns-then-not-branch c = (
  λ t. absurd (false≢true t),
  λ w. absurd (false≢true (sym c.if-not-branch.true
      ∙ c.in_ok-is_tail_at.ensures.1 (w (c.loop-u.u + 1) (omega arith) (omega arith)))),
)

pub loop-u-preserved : goal.loop-u-preserved
loop-u-preserved c = below_more (λ (u : ℕ). IsTailAt c.args.inst.now c.args.tails.now (u + 1)) c.loop-u.u
    c.loop-u.invariant (c.in_ok-is_tail_at.ensures.0 c.if-not-branch.false)

pub returns : goal.returns
returns c = (
  λ _. tails_from c.args.inst.now c.args.tails.now c.loop-u.u (omega arith) c.loop-u.invariant,
  λ _. refl,
)
