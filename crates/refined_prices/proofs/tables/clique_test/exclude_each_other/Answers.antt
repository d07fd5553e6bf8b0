use Rattle.std.proofs.Common.{◌∙◌, sym, refl, arith, get_or}
use Rattle.std.proofs.lemmas.Bool.{false≢true}
use Rattle.refined_prices.proofs.TablesCliqueTestLemmas.{named_number, found, none_found}
use Rattle.refined_prices.proofs.tables.clique_test.exclude_each_other.Goals as goal

pub exclusion-exclusion-requires : goal.exclusion-exclusion-requires
exclusion-exclusion-requires c = named_number c.args.inst.now c.args.i c.loop-e.e-index c.as_slice-e-items.result.now
    (c.as_slice-e-items.ensures ∙ c.requires.named) c.loop-e-test.true

pub returns-then-in_season : goal.returns-then-in_season
returns-then-in_season c = (
  λ t. found c.args.inst.now (get_or c.as_slice-e-items.result.now c.loop-e.e-index 0) c.args.t c.args.i c.args.j
      c.exclusion-exclusion.result (named_number c.args.inst.now c.args.i c.loop-e.e-index
      c.as_slice-e-items.result.now (c.as_slice-e-items.ensures ∙ c.requires.named) c.loop-e-test.true)
      c.exclusion-exclusion.ensures.value (c.names.ensures.0 c.if-names.true)
      (sym c.in_season.ensures ∙ c.if-in_season.true),
  λ w. refl,
)

pub returns : goal.returns
returns c = (
  λ t. absurd (false≢true t),
  λ w. absurd (none_found c.args.inst.now c.args.t c.args.i c.args.j c.as_slice-e-items.result.now
      (c.as_slice-e-items.ensures ∙ c.requires.named) (λ k l. c.loop-e.invariant k (omega arith)) w),
)
