-- What the tests of the tails of a refined price list find.
use Rattle.std.proofs.Common.{◌≡◌, ℕ, ◌+◌, ◌-◌, ◌<◌, ◌≤◌, sym, ◌∙◌, ap, subst, arith, List}
use Rattle.std.proofs.Common.{length, get_or, replicate, Option, None, AllPairs}
use Rattle.std.specs.List.{AllByRecursion}
use Rattle.std.proofs.lemmas.List.{same_lists, get_or-replicate, length-replicate, get_or_default}
use Rattle.instance_model.specs.Tables.{Tables}
use Rattle.lagrange_bound.specs.declared.tail.Tail.{Tail}
use Rattle.lagrange_bound.specs.Prices.{PriceList, IsPriceList}
use Rattle.refined_prices.specs.declared.group_tail.GroupTail.{GroupTail}
use Rattle.refined_prices.specs.declared.offset.Offset.{Offset}
use Rattle.refined_prices.specs.declared.clique.Clique.{Clique}
use Rattle.refined_prices.specs.Offsets.{IsOffset, OffsetBefore}
use Rattle.refined_prices.specs.Cliques.{IsPricedClique, CliqueBefore}
use Rattle.refined_prices.specs.RefinedLists.{RefinedList, IsRefinedList}
use Rattle.refined_prices.specs.tables.ListTests.{IsTailAt}

-- ---- lists without a tail

pub none_from_lists : (n : ℕ) (tails : List (Option Tail)) → length tails ≡ n
    → ((u : ℕ) → u < n → get_or tails u None ≡ None) → tails ≡ replicate n None
none_from_lists n tails each h = same_lists tails (replicate n None) (each ∙ sym (length-replicate n None))
    (λ k d l. let low : k < n = omega (arith, l, each) in
    get_or_default tails k d None l ∙ h k low ∙ sym (get_or-replicate n k None d low))

pub none_at : (n u : ℕ) (tails : List (Option Tail)) → tails ≡ replicate n None → u < n → get_or tails u None ≡ None
none_at n u tails e l = ap (λ (xs : List (Option Tail)). get_or xs u None) e ∙ get_or-replicate n u None None l

-- ---- tails by period

-- the tails of all periods are in range where each of the first n is
pub tails_from : (inst : Tables) (tails : List (Option GroupTail)) (n : ℕ) → inst.periods ≤ n
    → ((u : ℕ) → u < n → IsTailAt inst tails (u + 1)) → (t : ℕ) → 1 ≤ t → t ≤ inst.periods → IsTailAt inst tails t
tails_from inst tails n few h t one low =
    let back : (t - 1) + 1 ≡ t = omega (arith, one) in
    subst (IsTailAt inst tails) back (h (t - 1) (omega (arith, one, low, few)))

-- ---- the parts of a list

-- what the tests of the parts ask
abbrev pub TailsInRange : Tables → List (Option GroupTail) → Type 0
TailsInRange inst tails = (t : ℕ) → 1 ≤ t → t ≤ inst.periods → IsTailAt inst tails t

abbrev pub OffsetsInRange : Tables → List (Option GroupTail) → List Offset → Type 0
OffsetsInRange inst tails offsets = AllByRecursion (IsOffset inst tails) offsets × AllPairs OffsetBefore offsets

abbrev pub CliquesInRange : Tables → List Clique → Type 0
CliquesInRange inst cliques =
    (length cliques ≤ 4096) × (AllByRecursion (IsPricedClique inst) cliques × AllPairs CliqueBefore cliques)

pub refined_tails : (inst : Tables) (list : RefinedList) (tails : List (Option GroupTail)) → tails ≡ list.tails
    → IsRefinedList inst list → TailsInRange inst tails
refined_tails inst list tails e h = subst (TailsInRange inst) (sym e) h.tails

pub refined_offsets : (inst : Tables) (list : RefinedList) (tails : List (Option GroupTail)) (offsets : List Offset)
    → tails ≡ list.tails → offsets ≡ list.offsets → IsRefinedList inst list → OffsetsInRange inst tails offsets
refined_offsets inst list tails offsets e f h =
    subst (λ (ts : List (Option GroupTail)). OffsetsInRange inst ts offsets) (sym e)
    (subst (OffsetsInRange inst list.tails) (sym f) (h.offsets, h.offsets_ascend))

pub refined_cliques : (inst : Tables) (list : RefinedList) (cliques : List Clique) → cliques ≡ list.cliques
    → IsRefinedList inst list → CliquesInRange inst cliques
refined_cliques inst list cliques e h =
    subst (CliquesInRange inst) (sym e) (h.few_cliques, (h.cliques, h.cliques_ascend))

pub IsRefinedList-from : (inst : Tables) (list : RefinedList) (prices : PriceList) (tails : List (Option GroupTail))
    (offsets : List Offset) (cliques : List Clique) → prices ≡ list.prices → tails ≡ list.tails
    → offsets ≡ list.offsets → cliques ≡ list.cliques → IsPriceList inst list.prices
    → prices.tails ≡ replicate inst.periods None → length tails ≡ inst.periods → TailsInRange inst tails
    → OffsetsInRange inst tails offsets → CliquesInRange inst cliques → IsRefinedList inst list
IsRefinedList-from inst list prices tails offsets cliques p e f g in_range none each ts os cs =
    let os' = subst (OffsetsInRange inst list.tails) f
    (subst (λ (xs : List (Option GroupTail)). OffsetsInRange inst xs offsets) e os) in
    let cs' = subst (CliquesInRange inst) g cs in
    record {
      prices = in_range;
      no_tails = subst (λ (x : PriceList). x.tails ≡ replicate inst.periods None) p none;
      tails_each = subst (λ (xs : List (Option GroupTail)). length xs ≡ inst.periods) e each;
      tails = subst (TailsInRange inst) e ts;
      offsets = os'.0;
      offsets_ascend = os'.1;
      few_cliques = cs'.0;
      cliques = cs'.1.0;
      cliques_ascend = cs'.1.1;
    }
