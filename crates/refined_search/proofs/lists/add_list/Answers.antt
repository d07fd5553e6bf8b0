use Rattle.std.proofs.Common.{◌∙◌, sym, subst, refl, inl, inr, List, ◌∷◌}
use Rattle.std.specs.Prelude.{Any}
use Rattle.std.proofs.lemmas.Bool.{false≢true}
use Rattle.refined_prices.specs.RefinedLists.{RefinedList, zero_refined}
use Rattle.refined_search.specs.Alike.{PriceAlike}
use Rattle.refined_search.proofs.ListLemmas.{none_alike}
use Rattle.refined_search.proofs.lists.add_list.Goals as goal

pub returns-then-branch : goal.returns-then-branch
returns-then-branch c =
    inl (
      refl,
      subst (λ (ls : List RefinedList).
          Any (λ other. PriceAlike c.args.inst.now other c.args.list) (zero_refined c.args.inst.now ∷ ls))
          c.as_slice.ensures.value (c.in_ok-has_alike.ensures.0 c.if-branch.true),
    )

pub returns : goal.returns
returns c =
    let inst = c.args.inst.now in
    let list = c.args.list in
    inr (
      c.in_ok-push.ensures.items,
      none_alike inst list (zero_refined inst ∷ c.args.lists.now.items)
          (λ h. false≢true (sym c.if-branch.false
          ∙ c.in_ok-has_alike.ensures.1
          (subst (λ (ls : List RefinedList). Any (λ other. PriceAlike inst other list) (zero_refined inst ∷ ls))
          (sym c.as_slice.ensures.value) h))),
    )
