-- A certificate in range stays so where it is told as one by refined price lists.
use Rattle.std.proofs.Common.{◌≡◌, ℕ, ◌+◌, ◌-◌, ◌<◌, ◌≤◌, refl, sym, ◌∙◌, ap, subst, arith, List, length, map, get_or}
use Rattle.std.proofs.Common.{All, AllPairs, Option, Some, None, option_map}
use Rattle.std.proofs.lemmas.List.{length-map, get_or-map}
use Rattle.std.proofs.lemmas.List.Elements.{All-nil, All-from_get_or}
use Rattle.instance_model.specs.Tables.{Tables}
use Rattle.lagrange_bound.specs.declared.tail.Tail.{Tail}
use Rattle.lagrange_bound.specs.Least.{AscendAbove}
use Rattle.lagrange_bound.specs.Prices.{PriceList, IsPriceList, IsTail, tail_of, zero_list}
use Rattle.certificate_tree.specs.Trees.{root_box}
use Rattle.certificate_tree.specs.Ranges.{AreNodesOf}
use Rattle.certificate_text.proofs.FormLemmas.{ascend_pairs}
use Rattle.refined_prices.specs.declared.clique.Clique.{Clique}
use Rattle.refined_prices.specs.RefinedLists.{RefinedList, IsRefinedList}
use Rattle.refined_check.specs.certificate.Orders.{GroupBefore, AreGroupsInOrder, IsInOrder}
use Rattle.refined_check.specs.Singles.{single, singles_of, refined_of, PriceListsAreRefined}
use Rattle.refined_text.specs.versions.Laws.{VersionsStayInRange}

-- groups of one scenario each ascend where the scenarios do
singles_ascend : (weight : ℕ) (places : List ℕ) → AscendAbove 0 places
    → AllPairs GroupBefore (map (single weight) places)
singles_ascend weight places up i j d l m =
    let high : j < length places = omega (arith, m, length-map places (single weight)) in
    let low : i < length places = omega (arith, l, high) in
    rw (
      get_or-map (single weight) places i 0 d low,
      get_or-map (single weight) places j 0 d high,
    )
    (ascend_pairs 0 places up i j 0 l high)

tail_in_order : (inst : Tables) (t : ℕ) (tail : Option Tail) → ((x : Tail) → tail ≡ Some x → IsTail inst t x)
    → AreGroupsInOrder (option_map singles_of tail)
tail_in_order inst t None h = tt
tail_in_order inst t (Some x) h = singles_ascend x.weight x.places (h x refl).ascend

-- the refined list of a price list in range is in order
in_order : (inst : Tables) (prices : PriceList) → IsPriceList inst prices → IsInOrder (refined_of inst prices)
in_order inst prices ok = record {
  groups = All-from_get_or AreGroupsInOrder (map (option_map singles_of) prices.tails) None
      (λ k l. let m : k < length prices.tails = omega (arith, l, length-map prices.tails (option_map singles_of)) in
      rw (get_or-map (option_map singles_of) prices.tails k None None m)
      (tail_in_order inst (k + 1) (get_or prices.tails k None)
      (λ x e. ok.tails (k + 1) (omega arith) (omega (arith, m, ok.tails_each)) x (at k ∙ e))));
  members = All-nil (λ (x : Clique). 2 ≤ length x.members);
}
  where
    at : (k : ℕ) → tail_of prices (k + 1) ≡ get_or prices.tails k None
    at k =
        let e : k + 1 - 1 ≡ k = omega arith in
        ap (λ (n : ℕ). get_or prices.tails n None) e

-- what holds of the refined list of each price list in range
each_refined : (P : RefinedList → Type 0) (inst : Tables) (lists : List PriceList) → All (IsPriceList inst) lists
    → ((prices : PriceList) → IsPriceList inst prices → P (refined_of inst prices))
    → All P (map (refined_of inst) lists)
each_refined P inst lists ok h k d l =
    let m : k < length lists = omega (arith, l, length-map lists (refined_of inst)) in
    rw (get_or-map (refined_of inst) lists k (zero_list inst) d m)
    (h (get_or lists k (zero_list inst)) (ok k (zero_list inst) m))

pub VersionsStayInRange-from : PriceListsAreRefined → VersionsStayInRange
VersionsStayInRange-from law inst cert ok =
    let count = length-map cert.lists (refined_of inst) in
    record {
      bound = ok.bound;
      few = omega (arith, ok.few, count);
      lists = each_refined (IsRefinedList inst) inst cert.lists ok.lists (λ prices h. (law inst prices h).in_range);
      in_order = each_refined IsInOrder inst cert.lists ok.lists (in_order inst);
      tree = (
        ok.tree.0,
        subst (λ (n : ℕ). AreNodesOf inst n (root_box inst) ok.tree.0 cert.nodes) (sym count) ok.tree.1,
      );
    }
