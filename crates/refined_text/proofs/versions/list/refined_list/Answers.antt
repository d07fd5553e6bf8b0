use Rattle.std.proofs.Common.{◌≡◌, sym, ◌∙◌, ap, subst, Bool, false, List, [], map, Option, None, option_map, replicate}
use Rattle.instance_model.specs.Tables.{Tables}
use Rattle.lagrange_bound.specs.Prices.{PriceList}
use Rattle.refined_prices.specs.declared.group_tail.GroupTail.{GroupTail}
use Rattle.refined_prices.specs.declared.offset.Offset.{Offset}
use Rattle.refined_prices.specs.declared.clique.Clique.{Clique}
use Rattle.refined_prices.specs.RefinedLists.{RefinedList}
use Rattle.refined_check.specs.Singles.{singles_of, refined_of, IsSameList}
use Rattle.refined_text.proofs.versions.list.refined_list.Goals as goal

-- the list of these parts
made : PriceList → Bool → List (Option GroupTail) → List Offset → List Clique → RefinedList
made prices capped tails offsets cliques =
    record { prices = prices; capped = capped; tails = tails; offsets = offsets; cliques = cliques }

-- a list with the parts of the refined list is it
list_is : (inst : Tables) (prices : PriceList) (list : RefinedList)
    → list.prices ≡ record prices { tails = replicate inst.periods None } → list.capped ≡ false
    → list.tails ≡ map (option_map singles_of) prices.tails → list.offsets ≡ [] → list.cliques ≡ []
    → list ≡ refined_of inst prices
unfolding made
list_is inst prices list p c t o q =
    let limits : PriceList = record prices { tails = replicate inst.periods None } in
    let tails : List (Option GroupTail) = map (option_map singles_of) prices.tails in
    ap (λ (x : PriceList). made x list.capped list.tails list.offsets list.cliques) p
    ∙ ap (λ (x : Bool). made limits x list.tails list.offsets list.cliques) c
    ∙ ap (λ (x : List (Option GroupTail)). made limits false x list.offsets list.cliques) t
    ∙ ap (λ (x : List Offset). made limits false tails x list.cliques) o ∙ ap (made limits false tails []) q

pub returns-clause-same : goal.returns-clause-same
returns-clause-same c =
    let inst = c.args.inst.now in
    let prices = c.args.prices.now in
    let list = c.from_parts-list in
    let is : list.result ≡ refined_of inst prices = list_is inst prices list.result
    (list.ensures.prices ∙ c.in_ok-limits.ensures) list.ensures.capped (list.ensures.tails ∙ c.in_ok-tails.ensures)
    (list.ensures.offsets ∙ c.new.ensures.items) (list.ensures.cliques ∙ c.new-2.ensures.items) in
    subst (IsSameList inst prices) (sym is) (c.price_lists_are_refined.ensures inst prices c.requires)
