use Rattle.std.proofs.Common.{◌∙◌, ap, replicate, ℕ, Option, None, sym, subst}
use Rattle.refined_prices.specs.declared.group_tail.GroupTail.{GroupTail}
use Rattle.refined_prices.specs.RefinedLists.{IsRefinedList}
use Rattle.refined_prices.proofs.ListLemmas.{zero_refined_is, zero_refined_in_range}
use Rattle.refined_prices.proofs.refined.RefinedPrices.zero.Goals as goal

pub returns-clause-value : goal.returns-clause-value
returns-clause-value c =
    zero_refined_is c.args.inst.now c.in_ok-zero.field-0 c.in_ok-no_tails.field-0.items c.new.result.items
    c.new-2.result.items c.in_ok-zero.ensures.value
    (c.in_ok-no_tails.ensures ∙ ap (λ (n : ℕ). replicate {A = Option GroupTail} n None) c.periods.ensures.value)
    c.new.ensures.items c.new-2.ensures.items

pub returns-clause-in_range : goal.returns-clause-in_range
returns-clause-in_range c =
    subst (IsRefinedList c.args.inst.now) (sym (returns-clause-value c)) (zero_refined_in_range c.args.inst.now)
