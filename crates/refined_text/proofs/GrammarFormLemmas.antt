-- Each line of a certificate in range has a form.
use Rattle.std.proofs.Common.{◌≡◌, ℕ, zero, suc, ◌+◌, ◌-◌, ◌<◌, ◌≤◌, refl, ◌∙◌, ap, subst, arith}
use Rattle.std.proofs.Common.{Bool, true, false, List, [], ◌∷◌, length, map, get_or, Option, Some, None}
use Rattle.std.specs.List.{All, AllPairs, AllByRecursion, flat_map}
use Rattle.std.proofs.lemmas.List.{get_or-map, length-map}
use Rattle.std.proofs.lemmas.List.Elements.{All-nil, All-cons, All-weaker, All-map, All-from_recursion}
use Rattle.std.proofs.lemmas.List.Elements.{recursion_from_All}
use Rattle.std.proofs.lemmas.List.Elements.{All-get_or}
use Rattle.std.proofs.lemmas.List.Kept.{AllPairs-cons}
use Rattle.instance_model.specs.Tables.{Tables, scenarios_of, rank_of}
use Rattle.instance_model.specs.Fitting.{IsFitting}
use Rattle.lagrange_bound.specs.Least.{AscendAbove}
use Rattle.refined_prices.specs.declared.member.Member.{Member}
use Rattle.refined_prices.specs.declared.group_tail.GroupTail.{GroupTail}
use Rattle.refined_prices.specs.declared.offset.Offset.{Offset}
use Rattle.refined_prices.specs.declared.clique.Clique.{Clique}
use Rattle.refined_prices.specs.Groups.{scenarios_in, IsGroup, IsGroupTail}
use Rattle.refined_prices.specs.Offsets.{group_tail_at, group_count, IsOffset}
use Rattle.refined_prices.specs.Cliques.{IsPricedClique}
use Rattle.refined_prices.specs.RefinedLists.{RefinedList, IsRefinedList}
use Rattle.certificate_lines.specs.declared.line.CertificateLine.{CertificateLine}
use Rattle.certificate_lines.specs.declared.line.CertificateLine.TheVariants as line
use Rattle.certificate_lines.specs.Spelling.{IsNumber, IsLine}
use Rattle.certificate_tree.specs.declared.node.Node.{Node}
use Rattle.certificate_tree.specs.declared.node.Node.TheVariants as node
use Rattle.certificate_tree.specs.Trees.{Tree, root_box}
use Rattle.certificate_text.specs.Text.{entry_lines, node_line, tree_lines}
use Rattle.certificate_text.proofs.TellLemmas.{each_append}
use Rattle.certificate_text.proofs.FormLemmas.{scenarios_small, few_periods, few_names, entries_form, leaf_form}
use Rattle.certificate_text.proofs.FormLemmas.{bound_form}
use Rattle.certificate_text.proofs.FormLemmas.{tree_such, root_small}
use Rattle.refined_check.specs.certificate.Orders.{first_scenario, GroupBefore, AreGroupsInOrder, IsInOrder}
use Rattle.refined_text.specs.declared.lines.line.RefinedLine.TheVariants.{Plain}
use Rattle.refined_text.specs.lines.Spelling.{IsPlain, IsMember, MemberBefore, IsRefinedLine}
use Rattle.refined_text.specs.text.Text.{line_member, group_line, group_lines, cap_lines, offset_line, clique_line}
use Rattle.refined_text.specs.text.Text.{further_lines, refined_list_lines, refined_certificate_lines}
use Rattle.refined_text.specs.grammar.Laws.{RefinedLinesHaveForms}
use Rattle.refined_text.proofs.GrammarPlaceLemmas.{IsInside}
use Rattle.refined_text.proofs.GrammarLeadLemmas.{inside_entries}

-- ---- lines of version 2

inside_plain : (a : CertificateLine) → IsInside a → IsPlain a
inside_plain (line.Title version) h = h
inside_plain (line.Bound least) h = tt
inside_plain (line.Lists n) h = tt
inside_plain line.Prices h = tt
inside_plain (line.Up c t v) h = tt
inside_plain (line.Lo c t v) h = tt
inside_plain (line.Tail t weight places) h = h
inside_plain (line.Ex e t v) h = tt
inside_plain line.Tree h = tt
inside_plain (line.Split i last) h = tt
inside_plain (line.Cost list) h = tt
inside_plain line.Point h = tt
inside_plain (line.Band c t side) h = tt
inside_plain (line.Excl e) h = tt
inside_plain (line.Empty i) h = tt

plains_form : (ls : List CertificateLine) → AllByRecursion IsInside ls → AllByRecursion IsLine ls
    → AllByRecursion IsRefinedLine (map Plain ls)
plains_form [] inside form = tt
plains_form (a ∷ ls) inside form = ((inside_plain a inside.0, form.0), plains_form ls inside.1 form.1)

-- ---- groups

above_members : (a : ℕ) (xs : List Member) → AscendAbove a (scenarios_in xs)
    → All (λ y. a < y.scenario) (map line_member xs)
above_members a [] h = All-nil (λ y. a < y.scenario)
above_members a (x ∷ xs) h =
    let up = h.0 in
    All-cons (λ y. a < y.scenario) (line_member x) (map line_member xs) up
    (All-weaker (λ y. x.scenario < y.scenario) (λ y. a < y.scenario) (λ y m. omega (arith, m, up)) (map line_member xs)
    (above_members x.scenario xs h.1))

members_ascend : (a : ℕ) (xs : List Member) → AscendAbove a (scenarios_in xs)
    → AllPairs MemberBefore (map line_member xs)
members_ascend a [] h = λ i j d l m. absurd (omega (arith, m))
members_ascend a (x ∷ xs) h =
    AllPairs-cons MemberBefore (line_member x) (map line_member xs) (above_members x.scenario xs h.1)
    (members_ascend x.scenario xs h.1)

members_small : (n : ℕ) (xs : List Member) → n ≤ 1024 → AllByRecursion (λ k. k ≤ n) (scenarios_in xs)
    → AllByRecursion (λ x. x.weight ≤ 1000) xs → AllByRecursion IsMember (map line_member xs)
members_small n [] few within small = tt
members_small n (x ∷ xs) few within small =
    let a = within.0 in
    let b = small.0 in
    ((omega (arith, a, few), omega (arith, b)), members_small n xs few within.1 small.1)

module _ (inst : Tables) (fits : IsFitting inst) where
  group_form : (t w : ℕ) (group : List Member) → 1 ≤ t → t ≤ inst.periods → IsGroup (scenarios_of inst t) w group
      → IsRefinedLine (group_line t group)
  group_form t w group from to ok = (
    omega (arith, to, few_periods inst fits),
    All-from_recursion IsMember (map line_member group)
        (members_small (scenarios_of inst t) group (scenarios_small inst t fits from to)
        (recursion_from_All (λ k. k ≤ scenarios_of inst t) (scenarios_in group) ok.within)
        (recursion_from_All (λ x. x.weight ≤ 1000) group ok.small_weight)),
    members_ascend 0 group ok.ascend,
  )

  some_form : (t w : ℕ) (groups : List (List Member)) → 1 ≤ t → t ≤ inst.periods
      → AllByRecursion (IsGroup (scenarios_of inst t) w) groups
      → AllByRecursion IsRefinedLine (map (group_line t) groups)
  some_form t w [] from to ok = tt
  some_form t w (g ∷ groups) from to ok = (group_form t w g from to ok.0, some_form t w groups from to ok.1)

  -- each of these tails is in range for its period, where t is that of the first
  abbrev TailsFrom : ℕ → List (Option GroupTail) → Type 0
  TailsFrom t tails =
      (i : ℕ) (tail : GroupTail) → i < length tails → get_or tails i None ≡ Some tail
      → IsGroupTail (scenarios_of inst (t + i)) (rank_of inst (t + i)) tail

  groups_form : (t : ℕ) (tails : List (Option GroupTail)) → 1 ≤ t → t + length tails ≤ inst.periods + 1
      → TailsFrom t tails → AllByRecursion IsRefinedLine (group_lines t tails)
  unfolding group_lines
  groups_form t [] from few ok = tt
  groups_form t (None ∷ tails) from few ok =
      groups_form (t + 1) tails (omega arith) (omega (arith, few))
      (λ i tail h e. let f : t + suc i ≡ t + 1 + i = omega arith in
      subst (λ (u : ℕ). IsGroupTail (scenarios_of inst u) (rank_of inst u) tail) f
      (ok (suc i) tail (omega (arith, h)) e))
  groups_form t (Some tail ∷ tails) from few ok =
      let f : t + 0 ≡ t = omega arith in
      let own = subst (λ (u : ℕ). IsGroupTail (scenarios_of inst u) (rank_of inst u) tail) f
      (ok 0 tail (omega arith) refl) in
      each_append IsRefinedLine (map (group_line t) tail.groups) (group_lines (t + 1) tails)
      (some_form t tail.weight tail.groups from (omega (arith, few))
      (recursion_from_All (IsGroup (scenarios_of inst t) tail.weight) tail.groups own.groups))
      (groups_form (t + 1) tails (omega arith) (omega (arith, few))
      (λ i other h e. let g : t + suc i ≡ t + 1 + i = omega arith in
      subst (λ (u : ℕ). IsGroupTail (scenarios_of inst u) (rank_of inst u) other) g
      (ok (suc i) other (omega (arith, h)) e)))

  -- ---- how many groups a tail has

  first_within : (n w : ℕ) (group : List Member) → IsGroup n w group → first_scenario group ≤ n
  first_within n w [] ok = omega arith
  first_within n w (x ∷ xs) ok = ok.within 0 x.scenario (omega arith)

  groups_rise : (groups : List (List Member)) → AllPairs GroupBefore groups → (g : ℕ) → g < length groups
      → g ≤ first_scenario (get_or groups g [])
  groups_rise groups order zero l = omega arith
  groups_rise groups order (suc g) l =
      let before = groups_rise groups order g (omega (arith, l)) in
      let pair : GroupBefore (get_or groups g []) (get_or groups (suc g) []) = order g (suc g) [] (omega arith) l in
      omega (arith, before, pair)

  few_groups : (n rank : ℕ) (tail : GroupTail) → IsGroupTail n rank tail → AllPairs GroupBefore tail.groups → (g : ℕ)
      → g < length tail.groups → g ≤ n
  few_groups n rank tail ok order g l =
      let low = groups_rise tail.groups order g l in
      let high = first_within n tail.weight (get_or tail.groups g [])
      (All-get_or (IsGroup n tail.weight) tail.groups g [] l ok.groups) in
      omega (arith, low, high)

  -- ---- offsets

  module _ (list : RefinedList) (ok : IsRefinedList inst list) (order : IsInOrder list) where
    group_small : (x : Offset) → 1 ≤ x.period → x.period ≤ inst.periods
        → x.group < group_count (group_tail_at list.tails x.period) → x.group ≤ 1024
    group_small x from to l = at (group_tail_at list.tails x.period) refl l
      where
        at : (o : Option GroupTail) → group_tail_at list.tails x.period ≡ o → x.group < group_count o → x.group ≤ 1024
        at None e h = absurd (omega (arith, h))
        at (Some tail) e h =
            let own = ok.tails x.period from to tail e in
            let each = ok.tails_each in
            let in_order : AreGroupsInOrder (group_tail_at list.tails x.period) =
            All-get_or AreGroupsInOrder list.tails (x.period - 1) None (omega (arith, each, from, to)) order.groups in
            let few = few_groups (scenarios_of inst x.period) (rank_of inst x.period) tail own
            (subst AreGroupsInOrder e in_order) x.group h in
            omega (arith, few, scenarios_small inst x.period fits from to)

    offset_form : (x : Offset) → IsOffset inst list.tails x → IsRefinedLine (offset_line x)
    offset_form x h =
        let to = h.to in
        let number = h.number in
        let group = group_small x h.from to h.group in
        let small = h.small in (
          omega (arith, to, few_periods inst fits),
          omega (arith, number, few_names inst fits),
          omega (arith, group),
          omega (arith, small),
        )

    offsets_form : (xs : List Offset) → AllByRecursion (IsOffset inst list.tails) xs
        → AllByRecursion IsRefinedLine (map offset_line xs)
    offsets_form [] h = tt
    offsets_form (x ∷ xs) h = (offset_form x h.0, offsets_form xs h.1)

  -- ---- cliques

  members_up : (xs : List ℕ) → AllPairs (λ i j. i < j) xs → AllPairs (λ i j. i < j) (map (λ i. i + 1) xs)
  members_up xs h i j d l m =
      let long = length-map xs (λ k. k + 1) in
      let right : j < length xs = omega (arith, m, long) in
      let left : i < length xs = omega (arith, l, right) in
      let pair : get_or xs i 0 < get_or xs j 0 = h i j 0 l right in
      let a = get_or-map (λ k. k + 1) xs i 0 d left in
      let b = get_or-map (λ k. k + 1) xs j 0 d right in
      omega (arith, pair, a, b)

  clique_form : (x : Clique) → IsPricedClique inst x → IsRefinedLine (clique_line x)
  clique_form x h =
      let to = h.to in
      let small = h.small in (
        omega (arith, to, few_periods inst fits),
        omega (arith, small),
        All-map IsNumber (λ i. i + 1) x.members
            (All-weaker (λ i. i < length inst.names) (λ i. IsNumber (i + 1))
            (λ i l. omega (arith, l, few_names inst fits))
            x.members h.members.numbers),
        members_up x.members h.members.ascend,
      )

  cliques_form : (xs : List Clique) → AllByRecursion (IsPricedClique inst) xs
      → AllByRecursion IsRefinedLine (map clique_line xs)
  cliques_form [] h = tt
  cliques_form (x ∷ xs) h = (clique_form x h.0, cliques_form xs h.1)

  -- ---- lists

  caps_form : (b : Bool) → AllByRecursion IsRefinedLine (cap_lines b)
  caps_form true = (tt, tt)
  caps_form false = tt

  list_form : (list : RefinedList) → IsRefinedList inst list → IsInOrder list
      → AllByRecursion IsRefinedLine (refined_list_lines inst list)
  list_form list ok order = (
    (tt, tt),
    each_append IsRefinedLine (map Plain (entry_lines inst list.prices)) (further_lines list)
        (plains_form (entry_lines inst list.prices) (inside_entries inst list.prices ok.no_tails)
        (entries_form inst fits list.prices ok.prices))
        (each_append IsRefinedLine (cap_lines list.capped) _ (caps_form list.capped)
        (each_append IsRefinedLine (group_lines 1 list.tails) _
        (groups_form 1 list.tails (omega arith) (let each = ok.tails_each in omega (arith, each)) tails)
        (each_append IsRefinedLine (map offset_line list.offsets) _ (offsets_form list ok order list.offsets ok.offsets)
        (cliques_form list.cliques ok.cliques)))),
  )
    where
      tails : TailsFrom 1 list.tails
      tails i tail h e =
          let each = ok.tails_each in
          let f : 1 + i - 1 ≡ i = omega arith in
          ok.tails (1 + i) (omega arith) (omega (arith, h, each)) tail (ap (λ k. get_or list.tails k None) f ∙ e)

  lists_form : (ls : List RefinedList) → AllByRecursion (IsRefinedList inst) ls → AllByRecursion IsInOrder ls
      → AllByRecursion IsRefinedLine (flat_map (refined_list_lines inst) ls)
  lists_form [] ok order = tt
  lists_form (l ∷ ls) ok order =
      each_append IsRefinedLine (refined_list_lines inst l) (flat_map (refined_list_lines inst) ls)
      (list_form l ok.0 order.0) (lists_form ls ok.1 order.1)

-- ---- the tree

node_inside : (n : Node) → IsInside (node_line n)
node_inside (node.Split i last) = tt
node_inside (node.Cost list) = tt
node_inside node.Point = tt
node_inside (node.Band c t side) = tt
node_inside (node.Excl e) = tt
node_inside (node.Empty i) = tt

nodes_inside : (ns : List Node) → AllByRecursion IsInside (map node_line ns)
nodes_inside [] = tt
nodes_inside (n ∷ ns) = (node_inside n, nodes_inside ns)

pub refined_lines_have_forms : RefinedLinesHaveForms
refined_lines_have_forms inst cert fits ok =
    let few : length cert.lists ≤ 16 = ok.few in
    let t : Tree = ok.tree.0 in
    let lines = subst (λ (ns : List Node). AllByRecursion IsLine (map node_line ns)) ok.tree.1.order
    (tree_such inst fits IsLine (length cert.lists) (λ n h. leaf_form inst fits (length cert.lists) n few h)
    (λ i last h l. (omega (arith, few_names inst fits, h), omega (arith, l))) t (root_box inst) (root_small inst fits)
    ok.tree.1.in_range) in
    All-from_recursion IsRefinedLine (refined_certificate_lines inst cert) (
      tt,
      (
        (tt, bound_form cert.bound ok.bound),
        (
          (tt, omega (arith, few)),
          each_append IsRefinedLine (flat_map (refined_list_lines inst) cert.lists) (map Plain (tree_lines cert.nodes))
              (lists_form inst fits cert.lists (recursion_from_All (IsRefinedList inst) cert.lists ok.lists)
              (recursion_from_All IsInOrder cert.lists ok.in_order))
              ((tt, tt), plains_form (map node_line cert.nodes) (nodes_inside cert.nodes) lines),
        ),
      ),
    )
