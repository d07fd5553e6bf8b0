-- Lists as far as they have been read, and those of which all entries were.
use Rattle.std.proofs.Common.{◌≡◌, ◌⊎◌, inl, inr, ℕ, ◌+◌, ◌-◌, ◌<◌, ◌≤◌, refl, sym, ◌∙◌, ap, subst, arith}
use Rattle.std.proofs.Common.{List, [], ◌∷◌, ◌++◌, length, map, get_or, Option, Some, None}
use Rattle.std.specs.List.{AllByRecursion}
use Rattle.std.proofs.lemmas.Bool.{cases_eq, cases_lt}
use Rattle.std.proofs.lemmas.List.{length-append, length-map, length-set}
use Rattle.std.proofs.lemmas.List.Elements.{All-push, All-from_get_or}
use Rattle.std.proofs.lemmas.List.Quantifiers.{all_pairs_push}
use Rattle.instance_model.specs.Tables.{Tables, scenarios_of, rank_of}
use Rattle.lagrange_bound.specs.Prices.{PriceList}
use Rattle.refined_prices.specs.declared.member.Member.{Member}
use Rattle.refined_prices.specs.declared.group_tail.GroupTail.{GroupTail}
use Rattle.refined_prices.specs.Offsets.{group_tail_at, IsOffset, OffsetBefore}
use Rattle.refined_prices.specs.Cliques.{IsPricedClique, CliqueBefore}
use Rattle.refined_prices.specs.RefinedLists.{IsRefinedList}
use Rattle.certificate_text.specs.Grammar.{EntryKey}
use Rattle.certificate_text.proofs.KeyLemmas.{less_one}
use Rattle.refined_check.specs.certificate.Orders.{AreGroupsInOrder, IsInOrder}
use Rattle.refined_text.specs.grammar.Further.{Further, with_group, with_group_at, HasEnough, IsNextGroup, GroupFits}
use Rattle.refined_text.specs.grammar.Further.{IsNextOffset, OffsetFits, IsNextClique, CliqueFits, with_cap}
use Rattle.refined_text.specs.grammar.Further.{with_group_of}
use Rattle.refined_text.specs.grammar.Further.{with_offset, with_clique, offset_of_line, clique_of_line}
use Rattle.refined_text.proofs.GrammarValueLemmas.{offset_before, clique_before}
use Rattle.refined_text.specs.grammar.SoFar.{IsPartTail, IsSoFar, list_of}
use Rattle.refined_text.proofs.GrammarGrowLemmas.{own_tail, other_tail, part_grows}

each_push : {A : Type 0} (P : A → Type 0) (xs : List A) (x : A) → AllByRecursion P xs → P x
    → AllByRecursion P (xs ++ x ∷ [])
each_push P [] x h g = (g, tt)
each_push P (y ∷ ys) x h g = (h.0, each_push P ys x h.1 g)

some_same : (x y : GroupTail) → Some x ≡ Some y → x ≡ y
some_same x y e = cc

not_none : (x : GroupTail) → None ≡ Some x → ⊥
not_none x e = let z : ⊥ = cc in z

module _ (inst : Tables) (p : PriceList) (f : Further) (last : EntryKey) (s : IsSoFar inst p f last) where
  -- ---- the cap

  pub cap_so_far : f.kind ≡ 0 → IsSoFar inst p (with_cap f) last
  cap_so_far first = record {
    prices = s.prices;
    no_tails = s.no_tails;
    up_to = s.up_to;
    no_cap = λ e. absurd (omega (arith, e));
    no_period = λ l. s.no_period (omega (arith, first));
    to = s.to;
    tails_each = s.tails_each;
    later = s.later;
    tails = s.tails;
    enough = s.enough;
    no_offsets = λ l. s.no_offsets (omega (arith, first));
    offsets = s.offsets;
    offsets_ascend = s.offsets_ascend;
    no_cliques = λ l. s.no_cliques (omega (arith, first));
    few_cliques = s.few_cliques;
    cliques = s.cliques;
    cliques_ascend = s.cliques_ascend;
    members = s.members;
  }

  -- ---- a group

  module _ (t : ℕ) (g : List Member) (next : IsNextGroup f t g) (fit : GroupFits inst f t g) where
    abbrev grown : List (Option GroupTail)
    grown = with_group_at f.tails t g

    within : t ≤ length f.tails
    within = let each = s.tails_each in let to = fit.to in omega (arith, each, to)

    tails_then : (u : ℕ) → 1 ≤ u → u ≤ inst.periods → (tail : GroupTail) → group_tail_at grown u ≡ Some tail
        → (u ≡ t) ⊎ (u ≡ t → ⊥) → IsPartTail inst u tail
    tails_then u one few tail e (inl same) =
        let part = part_grows inst t (group_tail_at f.tails t) g (s.tails t fit.from fit.to) fit.some_weight
        fit.small_weight fit.own fit.apart next.above in
        let here = own_tail f.tails t g fit.from within in
        let is : with_group (group_tail_at f.tails t) g ≡ tail =
        some_same (with_group (group_tail_at f.tails t) g) tail
        (sym here ∙ ap (λ (v : ℕ). group_tail_at grown v) (sym same) ∙ e) in
        subst (λ (v : ℕ). IsPartTail inst v tail) (sym same) (subst (IsPartTail inst t) is part)
    tails_then u one few tail e (inr apart) =
        s.tails u one few tail (sym (other_tail f.tails t u g fit.from one apart) ∙ e)

    enough_then : (u : ℕ) → 1 ≤ u → u < t → (u < f.period) ⊎ (f.period ≤ u) → (f.period ≡ u) ⊎ (f.period ≡ u → ⊥)
        → HasEnough inst grown u
    enough_then u one l before same tail e =
        let apart : u ≡ t → ⊥ = λ h. omega (arith, l, h) in
        at before same (sym (other_tail f.tails t u g fit.from one apart) ∙ e)
      where
        at : (u < f.period) ⊎ (f.period ≤ u) → (f.period ≡ u) ⊎ (f.period ≡ u → ⊥) → group_tail_at f.tails u ≡ Some tail
            → scenarios_of inst u + 1 ≤ length tail.groups + rank_of inst u
        at (inl h) k e = s.enough u one h tail e
        at (inr h) (inl k) e = subst (λ (v : ℕ). HasEnough inst f.tails v) k
            (fit.closed (λ z. omega (arith, z, k, l))) tail e
        at (inr h) (inr k) e = absurd (not_none tail (sym (s.later u (omega (arith, h, k))) ∙ e))

    pub group_so_far : IsSoFar inst p (with_group_of f t g) last
    group_so_far = record {
      prices = s.prices;
      no_tails = s.no_tails;
      up_to = s.up_to;
      no_cap = λ e. absurd (omega (arith, e));
      no_period = λ l. absurd (omega (arith, l));
      to = fit.to;
      tails_each = length-set f.tails (t - 1) (Some (with_group (group_tail_at f.tails t) g)) ∙ s.tails_each;
      later = λ u h. other_tail f.tails t u g fit.from (omega (arith, h)) (λ e. omega (arith, h, e))
          ∙ s.later u (let low = next.period in omega (arith, low, h));
      tails = λ u one few tail e. tails_then u one few tail e (cases_eq u t);
      enough = λ u one l. enough_then u one l (cases_lt u f.period) (cases_eq f.period u);
      no_offsets = λ l. s.no_offsets next.kind;
      offsets = subst (AllByRecursion (IsOffset inst grown)) (sym (s.no_offsets next.kind)) tt;
      offsets_ascend = s.offsets_ascend;
      no_cliques = λ l. s.no_cliques (let k = next.kind in omega (arith, k));
      few_cliques = s.few_cliques;
      cliques = s.cliques;
      cliques_ascend = s.cliques_ascend;
      members = s.members;
    }

  -- ---- an offset

  pub offset_so_far : (t i g v : ℕ) → IsNextOffset f t i g → OffsetFits inst f t i g v
      → IsSoFar inst p (with_offset f (offset_of_line t i g v)) last
  offset_so_far t i g v next fit = record {
    prices = s.prices;
    no_tails = s.no_tails;
    up_to = s.up_to;
    no_cap = λ e. absurd (omega (arith, e));
    no_period = λ l. absurd (omega (arith, l));
    to = s.to;
    tails_each = s.tails_each;
    later = s.later;
    tails = s.tails;
    enough = s.enough;
    no_offsets = λ l. absurd (omega (arith, l));
    offsets = each_push (IsOffset inst f.tails) f.offsets (offset_of_line t i g v) s.offsets fit.offset;
    offsets_ascend = all_pairs_push OffsetBefore f.offsets (offset_of_line t i g v) s.offsets_ascend
        (λ k d l. offset_before (get_or f.offsets k d) t i g v fit.some_intervention fit.some_group (next.above k d l));
    no_cliques = λ l. s.no_cliques next.kind;
    few_cliques = s.few_cliques;
    cliques = s.cliques;
    cliques_ascend = s.cliques_ascend;
    members = s.members;
  }

  -- ---- a clique

  pub clique_so_far : (t v : ℕ) (ms : List ℕ) → IsNextClique f t ms → CliqueFits inst f t v ms
      → IsSoFar inst p (with_clique f (clique_of_line t v ms)) last
  clique_so_far t v ms next fit = record {
    prices = s.prices;
    no_tails = s.no_tails;
    up_to = s.up_to;
    no_cap = λ e. absurd (omega (arith, e));
    no_period = λ l. absurd (omega (arith, l));
    to = s.to;
    tails_each = s.tails_each;
    later = s.later;
    tails = s.tails;
    enough = s.enough;
    no_offsets = λ l. absurd (omega (arith, l));
    offsets = s.offsets;
    offsets_ascend = s.offsets_ascend;
    no_cliques = λ l. absurd (omega (arith, l));
    few_cliques = let few = fit.few in
        omega (arith, few, length-append f.cliques (clique_of_line t v ms ∷ []));
    cliques = each_push (IsPricedClique inst) f.cliques (clique_of_line t v ms) s.cliques fit.clique;
    cliques_ascend = all_pairs_push CliqueBefore f.cliques (clique_of_line t v ms) s.cliques_ascend
        (λ k d l. clique_before (get_or f.cliques k d) t v ms fit.numbers (next k d l));
    members = All-push (λ x. 2 ≤ length x.members) f.cliques (clique_of_line t v ms) s.members (many ms fit.some);
  }
    where
      many : (ms : List ℕ) → 2 ≤ length ms → 2 ≤ length (map (λ i. i - 1) ms)
      many ms some = omega (arith, some, length-map ms (λ i. i - 1))

  -- ---- the end

  module _ (enough : HasEnough inst f.tails f.period) where
    all_enough : (t : ℕ) → 1 ≤ t → (t < f.period) ⊎ (f.period ≤ t) → (f.period ≡ t) ⊎ (f.period ≡ t → ⊥)
        → HasEnough inst f.tails t
    all_enough t one (inl h) k tail e = s.enough t one h tail e
    all_enough t one (inr h) (inl k) tail e = subst (λ (v : ℕ). HasEnough inst f.tails v) k enough tail e
    all_enough t one (inr h) (inr k) tail e = absurd (not_none tail (sym (s.later t (omega (arith, h, k))) ∙ e))

    pub list_in_range : IsRefinedList inst (list_of p f)
    list_in_range = record {
      prices = s.prices;
      no_tails = s.no_tails;
      tails_each = s.tails_each;
      tails = λ t one few tail e.
          let part = s.tails t one few tail e in
          record {
            some_weight = part.some_weight;
            small_weight = part.small_weight;
            enough = all_enough t one (cases_lt t f.period) (cases_eq f.period t) tail e;
            groups = part.groups;
            apart = part.apart;
          };
      offsets = s.offsets;
      offsets_ascend = s.offsets_ascend;
      few_cliques = s.few_cliques;
      cliques = s.cliques;
      cliques_ascend = s.cliques_ascend;
    }

    pub list_in_order : IsInOrder (list_of p f)
    list_in_order = record {
      groups = All-from_get_or AreGroupsInOrder f.tails None (λ i l. at i l (get_or f.tails i None) refl);
      members = s.members;
    }
      where
        at : (i : ℕ) → i < length f.tails → (o : Option GroupTail) → get_or f.tails i None ≡ o
            → AreGroupsInOrder (get_or f.tails i None)
        at i l None e = subst AreGroupsInOrder (sym e) tt
        at i l (Some tail) e =
            let each = s.tails_each in
            let here : group_tail_at f.tails (i + 1) ≡ Some tail =
            ap (λ (k : ℕ). get_or f.tails k None) (less_one i) ∙ e in
            let part = s.tails (i + 1) (omega arith) (omega (arith, l, each)) tail here in
            subst AreGroupsInOrder (sym e) part.order
