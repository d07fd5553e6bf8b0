-- The list of zeros is in range.
use Rattle.std.proofs.Common.{◌≡◌, ℕ, ◌-◌, ◌<◌, refl, arith, List, [], replicate, get_or, Option, Some, None, true}
use Rattle.std.proofs.lemmas.List.{length-replicate, get_or-replicate}
use Rattle.instance_model.specs.Tables.{Tables}
use Rattle.lagrange_bound.specs.Prices.{PriceList, zero_list}
use Rattle.lagrange_bound.proofs.PriceLemmas.{zero_in_range}
use Rattle.refined_prices.specs.declared.group_tail.GroupTail.{GroupTail}
use Rattle.refined_prices.specs.declared.offset.Offset.{Offset}
use Rattle.refined_prices.specs.declared.clique.Clique.{Clique}
use Rattle.refined_prices.specs.RefinedLists.{RefinedList, IsRefinedList, zero_refined}

no_own_tails : (inst : Tables) → (zero_list inst).tails ≡ replicate inst.periods None
unfolding zero_list
no_own_tails inst = refl

pub zero_refined_in_range : (inst : Tables) → IsRefinedList inst (zero_refined inst)
unfolding zero_refined
zero_refined_in_range inst =
    record {
      prices = zero_in_range inst;
      no_tails = no_own_tails inst;
      tails_each = length-replicate inst.periods None;
      tails = λ t one few tail e. absurd (no_tail t (omega arith) tail e);
      offsets = tt;
      offsets_ascend = λ i j d l h. absurd (omega (arith, h));
      few_cliques = omega arith;
      cliques = tt;
      cliques_ascend = λ i j d l h. absurd (omega (arith, h));
    }
  where
    no_tail : (t : ℕ) → t - 1 < inst.periods → (tail : GroupTail)
        → get_or (replicate inst.periods None) (t - 1) None ≡ Some tail → ⊥
    no_tail t l tail e =
        let none = get_or-replicate {A = Option GroupTail} inst.periods (t - 1) None None l in cc (none, e)

pub zero_refined_is : (inst : Tables) (prices : PriceList) (tails : List (Option GroupTail)) (offsets : List Offset)
    (cliques : List Clique) → prices ≡ zero_list inst → tails ≡ replicate inst.periods None → offsets ≡ []
    → cliques ≡ [] → ◌≡◌ {A = RefinedList} (record {
      prices = prices;
      capped = true;
      tails = tails;
      offsets = offsets;
      cliques = cliques;
    }) (zero_refined inst)
unfolding zero_refined
zero_refined_is inst prices tails offsets cliques a b c d = rw (a, b, c, d) refl
