use Rattle.std.proofs.Common.{◌∙◌, sym, arith}
use Rattle.std.proofs.lemmas.Bool.{false≢true}
use Rattle.refined_prices.proofs.TablesListTestLemmas.{refined_tails, refined_offsets, refined_cliques}
use Rattle.refined_prices.proofs.TablesListTestLemmas.{IsRefinedList-from}
use Rattle.refined_prices.proofs.tables.list_test.is_refined_list.Goals as goal

pub returns-then-not-branch : goal.returns-then-not-branch
returns-then-not-branch c = (
  λ t. absurd (false≢true t),
  λ w. absurd (false≢true (sym c.if-not-branch.true ∙ c.in_ok-are_tails.ensures.1
      (refined_tails c.args.inst.now c.args.list.now c.tails-tails.result.now c.tails-tails.ensures w))),
)

pub returns-then-not-are_offsets : goal.returns-then-not-are_offsets
returns-then-not-are_offsets c = (
  λ t. absurd (false≢true t),
  λ w. absurd (false≢true (sym c.if-not-are_offsets.true ∙ c.are_offsets.ensures.1
      (refined_offsets c.args.inst.now c.args.list.now c.tails-tails.result.now c.offsets.result.now
      c.tails-tails.ensures c.offsets.ensures w))),
)

pub returns : goal.returns
returns c = (
  λ t. IsRefinedList-from c.args.inst.now c.args.list.now c.prices.result.now c.tails-tails.result.now
      c.offsets.result.now c.cliques.result.now c.prices.ensures c.tails-tails.ensures c.offsets.ensures
      c.cliques.ensures c.requires (c.has_no_tails.ensures.0 c.if-not-has_no_tails.false)
      (omega (arith, c.periods.ensures.value)) (c.in_ok-are_tails.ensures.0 c.if-not-branch.false)
      (c.are_offsets.ensures.0 c.if-not-are_offsets.false) (c.are_cliques.ensures.0 t),
  λ w. c.are_cliques.ensures.1 (refined_cliques c.args.inst.now c.args.list.now c.cliques.result.now
      c.cliques.ensures w),
)
