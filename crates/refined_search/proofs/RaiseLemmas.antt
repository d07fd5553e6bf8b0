-- What is made is the answer: the statement, from what its steps came to.
use Rattle.std.proofs.Common.{◌≡◌, ◌⊎◌, inl, inr, ℕ, zero, suc, ◌+◌, ◌-◌, ◌*◌, ◌<◌, ◌≤◌, ◌^◌, refl, sym, ◌∙◌, ap, subst}
use Rattle.std.proofs.Common.{arith}
use Rattle.std.proofs.Common.{ℤ, pos, ◌-ℤ◌, ◌≤ℤ◌, unsigned_abs, List, [], ◌++◌, length, length-append, get_or}
use Rattle.std.proofs.Common.{Option, Some, None, IsTrue}
use Rattle.std.specs.Int.{int_min}
use Rattle.std.proofs.lemmas.Bool.{OnFalse_at, OnFalse_from}
use Rattle.std.proofs.lemmas.List.{get_or_append_left}
use Rattle.fixed_num.proofs.SignedLemmas.{signed_arith}
use Rattle.instance_model.specs.Tables.{Tables, is_allowed}
use Rattle.instance_model.proofs.EntryLemmas.{is_allowed_facts}
use Rattle.duration_calendar.specs.Calendar.{IsAllowedIn}
use Rattle.instance_model.specs.Fitting.{IsFitting}
use Rattle.lagrange_bound.specs.declared.span.Span.{Span}
use Rattle.lagrange_bound.specs.Goals.{risk_base, risk_value, ValuesAreSmall}
use Rattle.lagrange_bound.specs.Worth.{WorthsAreSmall, worth_of}
use Rattle.lagrange_bound.specs.Pricings.{pricing_worth}
use Rattle.lagrange_bound.specs.Boxes.{span_of, HasStarts}
use Rattle.lagrange_bound.specs.Tabulated.{PriceRows}
use Rattle.certificate_lines.specs.declared.line.Bound.{Bound}
use Rattle.certificate_lines.specs.declared.line.Bound.TheVariants.{NoPlan, Least}
use Rattle.certificate_tree.specs.declared.node.Node.{Node}
use Rattle.certificate_tree.specs.declared.node.Node.TheVariants.{Cost}
use Rattle.certificate_tree.specs.Trees.{Leaf, pre_order, leaves, root_box}
use Rattle.certificate_tree.specs.Ranges.{IsBoundInRange}
use Rattle.certificate_tree.specs.Holding.{Worths, worth_by, list_at}
use Rattle.certificate_tree.specs.Validity.{Claim, IsProved, AreSameWorths}
use Rattle.certificate_tree.specs.PriceTables.{table_worths, claim_by}
use Rattle.certificate_tree.specs.Laws.{NodesAreOneTree, ProvedBoundsPlans, SameWorthsProveTheSame}
use Rattle.certificate_tree.proofs.RootLemmas.{root_at, root_is_box}
use Rattle.certificate_tree.proofs.StartLemmas.{has_start_from, start_found}
use Rattle.certificate_tree.proofs.LeafLemmas.{IsLeafOver, leaves_in_range}
use Rattle.certificate_tree.proofs.Refuting.{feasible_allowed}
use Rattle.branch_search.specs.declared.part.Part.{Part}
use Rattle.branch_search.specs.declared.search_end.SearchEnd.{SearchEnd}
use Rattle.branch_search.specs.Best.{IsBestOver, Reaches, bound_of}
use Rattle.branch_search.specs.Splits.{split_boxes, split_count}
use Rattle.branch_search.specs.Searched.{IsBounding, IsCostLeaf, IsAmong, IsLeastOf, IsSearchedBy}
use Rattle.branch_search.specs.Parts.{IsLeftToOthers, IsGoneOnBy}
use Rattle.branch_search.proofs.LeafLemmas.{at_most_trans}
use Rattle.branch_search.proofs.SamePartLemmas.{gone_on_same}
use Rattle.branch_search.proofs.SplitLemmas.{tree_splits, given_nodes}
use Rattle.band_rebound.specs.declared.rebounded.ReboundTree.{ReboundTree}
use Rattle.band_rebound.specs.Rebinding.{IsNoLower, ReachLeastBound}
use Rattle.band_rebound.specs.Rebounds.{IsReboundBy}
use Rattle.band_rebound.proofs.SameLemmas.{rebound_same}
use Rattle.band_rebound.proofs.ReboundLemmas.{reach_least_bound}
use Rattle.refined_prices.specs.RefinedLists.{RefinedList, zero_refined}
use Rattle.refined_prices.specs.RefinedWorth.{refined_pricing}
use Rattle.refined_check.specs.declared.certificate.certificate.RefinedCertificate.{RefinedCertificate}
use Rattle.refined_check.specs.certificate.Ranges.{IsRefinedInRange}
use Rattle.refined_check.specs.Worths.{refined_pricing_at, refined_worths, AreRefinedTables}
use Rattle.refined_check.specs.Validity.{refined_claim, IsRefinedValid}
use Rattle.refined_check.specs.Laws.{RefinedListsBoundBoxes}
use Rattle.refined_search.specs.declared.raised.Raised.{Raised}
use Rattle.refined_search.specs.Lists.{lists_of, most_added, AreListsFor}
use Rattle.refined_search.specs.Raising.{most_bound, within_range, BeginsWith, IsRaised}
use Rattle.refined_search.specs.Steps.{IsBegun}
use Rattle.refined_search.proofs.TreeLemmas.{nodes_wider, min_small, cut_proved, cut_reaches, cut_no_lower}
use Rattle.refined_search.proofs.TreeLemmas.{leaves_counted}
use Rattle.refined_search.proofs.TreeLemmas.{min_within}

-- ---- worths by lists that begin alike

-- a list of those that stand first
worth_first : (inst : Tables) (old more : List RefinedList) (box : List Span) (j : ℕ) → j ≤ length old
    → refined_worths inst (old ++ more) box j ≡ refined_worths inst old box j
unfolding refined_pricing_at
worth_first inst old more box zero l = refl
worth_first inst old more box (suc j) l =
    ap (λ (list : RefinedList). pricing_worth inst (refined_pricing inst list) box)
    (get_or_append_left old more (zero_refined inst) j (omega (arith, l)))

-- by list 0 it is that of the list of zeros
zero_worth : (inst : Tables) (lists : List RefinedList) (box : List Span)
    → refined_worths inst lists box 0 ≡ worth_by risk_base inst [] box 0
unfolding refined_pricing_at list_at worth_of pricing_worth
zero_worth inst lists box = refl

reach_least : (inst : Tables) (lists : List RefinedList) → IsFitting inst → WorthsAreSmall risk_base
    → ReachLeastBound inst (refined_worths inst lists)
reach_least inst lists fit worths box is_box starts =
    subst (λ (z : ℤ). (pos 0 -ℤ pos (10 ^ 36)) ≤ℤ z) (sym (zero_worth inst lists box))
    (reach_least_bound inst [] fit worths box is_box starts)

-- ---- what an old certificate claims, by the tables of more lists

module _ (inst : Tables) (lists : List RefinedList) (tables : List PriceRows) (fit : IsFitting inst)
    (are : AreRefinedTables inst lists tables) (same_proved : SameWorthsProveTheSame) where
  pub one_table_more : length tables - 1 ≡ length lists
  one_table_more = let e = are.each in omega (arith, e)

  -- by tables as by lists
  table_same : AreSameWorths inst (length tables - 1) (table_worths tables) (refined_worths inst lists)
  table_same = subst (λ (n : ℕ). AreSameWorths inst n (table_worths tables) (refined_worths inst lists))
      (sym one_table_more) are.same

  -- what is proved by the tables is by the lists
  pub proved_by_lists : (bound : Bound) (nodes : List Node) → IsProved risk_value inst (claim_by bound tables nodes)
      → IsProved risk_value inst (record {
        bound = bound;
        lists = length lists;
        worths = refined_worths inst lists;
        nodes = nodes;
      })
  proved_by_lists bound nodes h =
      subst (λ (n : ℕ). IsProved risk_value inst (record {
        bound = bound;
        lists = n;
        worths = refined_worths inst lists;
        nodes = nodes;
      })) one_table_more
      ((same_proved risk_value inst (claim_by bound tables nodes) (refined_worths inst lists) fit table_same).0 h)

  -- what an old certificate proves by its own lists, with which these begin, its nodes prove by the tables
  pub old_proved : (old : RefinedCertificate) (more : List RefinedList) → lists ≡ old.lists ++ more
      → IsRefinedValid inst old → IsProved risk_value inst (claim_by old.bound tables old.nodes)
  old_proved old more behind valid =
      (same_proved risk_value inst (claim_on (length tables - 1) (refined_worths inst lists)) (table_worths tables) fit
      (λ box j l b s. sym (table_same box j l b s))).0 (record {
        tree = first.tree;
        of_nodes = nodes_wider inst (length old.lists) (length tables - 1) (root_box inst) first.tree old.nodes wider
            first.of_nodes;
        holds = first.holds;
      })
    where
      claim_on : ℕ → Worths → Claim
      claim_on n worths = record { bound = old.bound; lists = n; worths = worths; nodes = old.nodes }

      wider : length old.lists ≤ length tables - 1
      wider = omega (arith, one_table_more, ap length behind, length-append old.lists more)

      first : IsProved risk_value inst (claim_on (length old.lists) (refined_worths inst lists))
      first = (same_proved risk_value inst (refined_claim inst old) (refined_worths inst lists) fit
          (λ box j l b s. sym (ap (λ (ls : List RefinedList). refined_worths inst ls box j) behind
          ∙ worth_first inst old.lists more box j l))).0 valid

-- ---- starts

-- where each intervention has an allowed start, each interval of the box of all starts has one
root_has_starts : (inst : Tables) → ((i : ℕ) → i < length inst.names → (s : ℕ) × IsTrue (is_allowed inst i s))
    → HasStarts inst (root_box inst)
root_has_starts inst some i l =
    let w = some i l in
    let facts = is_allowed_facts inst i w.0 w.1 in
    has_start_from inst i w.0 (span_of (root_box inst) i)
    (subst (λ (span : Span). IsAllowedIn inst i span.from span.to w.0) (sym (root_at inst i l))
    (record { from = facts.0; to = facts.1; allowed = w.1 }))

-- ---- the value of the best plan

best_value_small : (inst : Tables) (incumbent best : Option (List ℕ)) (plan : List ℕ) → IsFitting inst
    → ValuesAreSmall risk_value → IsBestOver risk_value inst incumbent best → best ≡ Some plan
    → unsigned_abs (risk_value inst plan) < 10 ^ 36
best_value_small inst incumbent best plan fit values is e =
    let w = (subst (IsBestOver risk_value inst incumbent) e is).feasible in
    values inst plan fit (record {
      each = w.each;
      allowed = λ i l. feasible_allowed inst plan w.each w.feasible i (omega (arith, l, w.each));
    })

at_most_value : (z : ℤ) → unsigned_abs z < 10 ^ 36 → z ≤ℤ most_bound
at_most_value z l = omega (arith, signed_arith, l)

at_least_value : (z : ℤ) → unsigned_abs z < 10 ^ 36 → (pos 0 -ℤ pos (10 ^ 36)) ≤ℤ z
at_least_value z l = omega (arith, signed_arith, l)

-- the bound of a search that is finished is not cut
best_not_cut : (inst : Tables) (incumbent best : Option (List ℕ)) → IsFitting inst → ValuesAreSmall risk_value
    → IsBestOver risk_value inst incumbent best
    → within_range (bound_of risk_value inst best) ≡ bound_of risk_value inst best
best_not_cut inst incumbent None fit values is = refl
best_not_cut inst incumbent (Some plan) fit values is =
    ap Least (min_small (risk_value inst plan)
    (at_most_value (risk_value inst plan) (best_value_small inst incumbent (Some plan) plan fit values is refl)))

-- ---- what the search came to, by its leaves

module _ (inst : Tables) (lists : ℕ) (worths : Worths) (incumbent : Option (List ℕ)) (before turns : ℕ)
    (ended : SearchEnd) (fit : IsFitting inst) (values : ValuesAreSmall risk_value)
    (is : IsSearchedBy risk_value inst lists worths incumbent before turns ended) where
  abbrev Among : ℤ → Type 0
  Among = IsAmong risk_value inst worths ended.best (leaves (root_box inst) is.tree)

  -- a `cost` leaf whose worth is among the numbers
  leaf_over : (k : ℕ) (x : Leaf) → k < length (leaves (root_box inst) is.tree)
      → get_or (leaves (root_box inst) is.tree) k x ≡ x → IsLeafOver inst lists x
  leaf_over k x l e = subst (IsLeafOver inst lists) e
      (leaves_in_range inst lists (root_box inst) is.tree (root_is_box inst fit) is.of_nodes.in_range k x l)

  cost_leaf : (k : ℕ) (x : Leaf) (j : ℕ) → k < length (leaves (root_box inst) is.tree)
      → get_or (leaves (root_box inst) is.tree) k x ≡ x → x.node ≡ Cost j
      → IsCostLeaf risk_value inst lists worths ended.best x.box j
  cost_leaf k x j l e node = subst (IsBounding risk_value inst lists worths ended.best x.box) node
      (subst (λ (y : Leaf). IsBounding risk_value inst lists worths ended.best y.box y.node) e (is.bounding k x l))

  -- each number is at least the least that a bound may be
  among_high : ReachLeastBound inst worths → (z : ℤ) → Among z → (pos 0 -ℤ pos (10 ^ 36)) ≤ℤ z
  among_high low z (inl (plan, e, v)) = subst (λ (y : ℤ). (pos 0 -ℤ pos (10 ^ 36)) ≤ℤ y) v
      (at_least_value (risk_value inst plan) (best_value_small inst incumbent ended.best plan fit values is.best e))
  among_high low z (inr (k, x, l, e, c)) =
      let w = cost_leaf k x c.list l e c.node in
      subst (λ (y : ℤ). (pos 0 -ℤ pos (10 ^ 36)) ≤ℤ y) c.worth
      (at_most_trans (pos 0 -ℤ pos (10 ^ 36)) (worths x.box 0) (worths x.box c.list)
      (low x.box (leaf_over k x l e).is_box w.unrefuted.starts) (w.list.greatest 0 (omega arith)))

  -- where there is one, each intervention has an allowed start
  among_starts : (z : ℤ) → Among z → HasStarts inst (root_box inst)
  among_starts z (inl (plan, e, v)) =
      let w = (subst (IsBestOver risk_value inst incumbent) e is.best).feasible in
      root_has_starts inst (λ i l. (get_or plan i 0, feasible_allowed inst plan w.each w.feasible i l))
  among_starts z (inr (k, x, l, e, c)) =
      let w = cost_leaf k x c.list l e c.node in
      root_has_starts inst (λ i n. let s = start_found inst i (span_of x.box i) (w.unrefuted.starts i n) in
      (s.0, s.1.allowed))

  pub bound_starts : (b : ℤ) → ended.bound ≡ Least b → HasStarts inst (root_box inst)
  bound_starts b e = among_starts b (subst (IsLeastOf Among) e is.bound).0

  pub cut_in_range : ReachLeastBound inst worths → IsBoundInRange (within_range ended.bound)
  cut_in_range low = at ended.bound is.bound
    where
      at : (bound : Bound) → IsLeastOf Among bound → IsBoundInRange (within_range bound)
      at NoPlan h = tt
      at (Least b) h = min_within b (among_high low b h.0)

  -- its splits
  pub splits_counted : split_count ended.nodes ≡ length (split_boxes (root_box inst) is.tree)
  splits_counted = sym (ap split_count is.of_nodes.order)
      ∙ tree_splits inst lists (root_box inst) is.tree is.of_nodes.in_range

-- ---- the bound

-- none above a bound that the tree proves at first
end_no_lower : (old begun ended : Bound) → IsNoLower old begun
    → ((b : ℤ) → begun ≡ Least b → Reaches ended b) → (begun ≡ NoPlan → ended ≡ NoPlan) → IsNoLower old ended
end_no_lower old NoPlan ended h reaches none = subst (IsNoLower old) (sym (none refl)) tt
end_no_lower old (Least b) NoPlan h reaches none = tt
end_no_lower NoPlan (Least b) (Least z) h reaches none = absurd h
end_no_lower (Least a) (Least b) (Least z) h reaches none = at_most_trans a b z h (reaches b refl)

small_bound : (bound : Bound) (b : ℤ) → IsBoundInRange bound → bound ≡ Least b → b ≤ℤ most_bound
small_bound bound b range e = at_most (subst IsBoundInRange e range)
  where
    at_most : unsigned_abs b ≤ 10 ^ 36 → b ≤ℤ most_bound
    at_most l = omega (arith, signed_arith, l)

-- ---- the statement

-- what the steps came to
pub record IsEnded (inst : Tables) (incumbent : Option (List ℕ)) (cert : Option RefinedCertificate) (turns : ℕ)
    (part : Part) (most : ℕ) (lists : List RefinedList) (tables : List PriceRows) (begun : ReboundTree)
    (ended : SearchEnd) (splits : ℕ)
    : Type 0 where
  pub old_ok : (old : RefinedCertificate) → cert ≡ Some old → IsRefinedInRange inst old
  pub lists_are : AreListsFor inst incumbent (lists_of cert) turns (most_added cert part most) lists
  pub tables_are : AreRefinedTables inst lists tables
  pub begun_is : IsBegun inst tables cert begun
  pub proved : IsProved risk_value inst (claim_by ended.bound tables ended.nodes)
  pub gone_on : IsGoneOnBy risk_value inst (length tables - 1) (table_worths tables) incumbent begun.nodes part turns
      ended
  pub floor : (j : ℕ) → j ≤ length tables - 1 → Reaches ended.bound (table_worths tables (root_box inst) j)
  pub no_lower : (b : ℤ) → IsProved risk_value inst (claim_by (Least b) tables begun.nodes) → Reaches ended.bound b
  pub no_plan : IsProved risk_value inst (claim_by NoPlan tables begun.nodes) → ended.bound ≡ NoPlan
  pub splits_is : split_count ended.nodes ≡ split_count begun.nodes + splits

-- the laws that they rest on
pub record Laws (inst : Tables) : Type 0 where
  pub fit : IsFitting inst
  pub one_tree : NodesAreOneTree
  pub same_proved : SameWorthsProveTheSame
  pub plans_bounded : ProvedBoundsPlans
  pub lists_bound : RefinedListsBoundBoxes
  pub worths : WorthsAreSmall risk_base
  pub values : ValuesAreSmall risk_value

module _ (inst : Tables) (incumbent : Option (List ℕ)) (cert : Option RefinedCertificate) (turns : ℕ) (part : Part)
    (most : ℕ) (lists : List RefinedList) (tables : List PriceRows) (begun : ReboundTree) (ended : SearchEnd)
    (splits : ℕ) (laws : Laws inst)
    (is : IsEnded inst incumbent cert turns part most lists tables begun ended splits) where
  abbrev worths : Worths
  worths = refined_worths inst lists

  one_less : length tables - 1 ≡ length lists
  one_less = one_table_more inst lists tables laws.fit is.tables_are laws.same_proved

  gone_on : IsGoneOnBy risk_value inst (length lists) worths incumbent begun.nodes part turns ended
  gone_on =
      subst (λ (n : ℕ). IsGoneOnBy risk_value inst n worths incumbent begun.nodes part turns ended) one_less
      (gone_on_same risk_value inst (length tables - 1) (table_worths tables) worths incumbent begun.nodes part turns
      ended laws.fit (table_same inst lists tables laws.fit is.tables_are laws.same_proved) is.gone_on)

  begins : BeginsWith inst (length lists) worths cert begun
  begins = at cert is.begun_is.begins
    where
      at : (c : Option RefinedCertificate) → BeginsWith inst (length tables - 1) (table_worths tables) c begun
          → BeginsWith inst (length lists) worths c begun
      at None h = h
      at (Some old) h =
          subst (λ (n : ℕ). IsReboundBy inst n worths old.nodes begun) one_less
          (rebound_same inst (length tables - 1) (table_worths tables) worths
          (table_same inst lists tables laws.fit is.tables_are laws.same_proved) old.nodes begun laws.fit h)

  valid : IsRefinedValid inst (record { bound = within_range ended.bound; lists = lists; nodes = ended.nodes })
  valid =
      cut_proved risk_value inst
      (record { bound = ended.bound; lists = length lists; worths = worths; nodes = ended.nodes })
      (proved_by_lists inst lists tables laws.fit is.tables_are laws.same_proved ended.bound ended.nodes is.proved)

  in_range : IsRefinedInRange inst (record { bound = within_range ended.bound; lists = lists; nodes = ended.nodes })
  in_range = record {
    bound = cut_in_range inst (length lists) worths incumbent (split_count begun.nodes) gone_on.splits ended laws.fit
        laws.values gone_on.by (reach_least inst lists laws.fit laws.worths);
    few = is.lists_are.few;
    lists = is.lists_are.in_range;
    in_order = is.lists_are.in_order;
    tree = (gone_on.by.tree, gone_on.by.of_nodes);
  }

  leaves_are : (old : RefinedCertificate) → cert ≡ Some old
      → begun.kept + begun.changed + split_count old.nodes ≡ length old.nodes
  leaves_are old e =
      let w : IsReboundBy inst (length lists) worths old.nodes begun =
      subst (λ (c : Option RefinedCertificate). BeginsWith inst (length lists) worths c begun) e begins in
      leaves_counted inst (length lists) (root_box inst) w.old w.new old.nodes begun.kept begun.changed w.of_old
      w.counts

  counted : splits ≡ gone_on.splits
  counted =
      let boxes = splits_counted inst (length lists) worths incumbent (split_count begun.nodes) gone_on.splits ended
      laws.fit laws.values gone_on.by in
      let made = gone_on.made in
      omega (arith, is.splits_is, boxes, made)

  floor : (j : ℕ) → j ≤ length lists
      → Reaches (within_range ended.bound) (int_min (worths (root_box inst) j) most_bound)
  floor j l = at ended.bound refl
    where
      table_floor : Reaches ended.bound (table_worths tables (root_box inst) j)
      table_floor = is.floor j (omega (arith, l, one_less))

      at : (bound : Bound) → ended.bound ≡ bound
          → Reaches (within_range bound) (int_min (worths (root_box inst) j) most_bound)
      at NoPlan e = tt
      at (Least b) e =
          let starts = bound_starts inst (length lists) worths incumbent (split_count begun.nodes) gone_on.splits ended
          laws.fit laws.values gone_on.by b e in
          cut_reaches (Least b) (worths (root_box inst) j)
          (subst (λ (z : ℤ). Reaches (Least b) z)
          (is.tables_are.same (root_box inst) j l (root_is_box inst laws.fit) starts)
          (subst (λ (bound : Bound). Reaches bound (table_worths tables (root_box inst) j)) e table_floor))

  no_lower : (old : RefinedCertificate) → cert ≡ Some old → IsRefinedValid inst old
      → IsNoLower old.bound (within_range ended.bound)
  no_lower old e old_valid =
      let range = is.old_ok old e in
      let begun_no_lower = is.begun_is.no_lower old e range.bound
      (old_proved inst lists tables laws.fit is.tables_are laws.same_proved old is.lists_are.more
      (is.lists_are.behind ∙ ap (λ (ls : List RefinedList). ls ++ is.lists_are.more) (ap lists_of e)) old_valid) in
      cut_no_lower old.bound ended.bound (λ b same. small_bound old.bound b range.bound same)
      (end_no_lower old.bound begun.bound ended.bound begun_no_lower.0
      (λ b same. is.no_lower b
      (subst (λ (bound : Bound). IsProved risk_value inst (claim_by bound tables begun.nodes)) same begun_no_lower.1))
      (λ same. is.no_plan
      (subst (λ (bound : Bound). IsProved risk_value inst (claim_by bound tables begun.nodes)) same begun_no_lower.1)))

  abbrev answer : Bound → List RefinedList → Raised
  answer bound made = record {
    cert = record { bound = bound; lists = made; nodes = ended.nodes };
    best = ended.best;
    unfinished = ended.unfinished;
    splits = splits;
    kept = begun.kept;
    changed = begun.changed;
  }

  spent : IsTrue ended.unfinished → (splits ≡ turns)
      ⊎ IsLeftToOthers risk_value inst worths ended.best part gone_on.given gone_on.by.tree
  spent t = at (gone_on.spent t)
    where
      at : (gone_on.splits ≡ turns) ⊎ IsLeftToOthers risk_value inst worths ended.best part gone_on.given
          gone_on.by.tree
          → (splits ≡ turns) ⊎ IsLeftToOthers risk_value inst worths ended.best part gone_on.given gone_on.by.tree
      at (inl e) = inl (counted ∙ e)
      at (inr o) = inr o

  is_raised : IsRaised inst incumbent cert turns part most (answer (within_range ended.bound) lists)
  is_raised = record {
    in_range = in_range;
    valid = valid;
    bounds = laws.plans_bounded risk_value inst (refined_claim inst (record {
      bound = within_range ended.bound;
      lists = lists;
      nodes = ended.nodes;
    })) laws.fit (laws.lists_bound inst lists laws.fit is.lists_are.in_range) valid;
    lists = is.lists_are;
    begun = begun;
    begins = begins;
    ended = ended;
    gone_on = gone_on;
    nodes = refl;
    best = refl;
    unfinished = refl;
    bound = refl;
    splits = is.splits_is;
    kept = refl;
    changed = refl;
    leaves = leaves_are;
    few = let most = gone_on.few in omega (arith, counted, most);
    spent = spent;
    finished = OnFalse_from ended.unfinished
        (within_range ended.bound ≡ bound_of risk_value inst ended.best) (λ e.
        ap within_range (OnFalse_at e gone_on.by.finished)
        ∙ best_not_cut inst incumbent ended.best laws.fit laws.values gone_on.by.best);
    enough = λ l. gone_on.enough (omega (arith, l));
    floor = floor;
    no_lower = no_lower;
  }

  -- with the bound and the lists as they are made
  pub is_raised_as : (bound : Bound) (made : List RefinedList) → bound ≡ within_range ended.bound → made ≡ lists
      → IsRaised inst incumbent cert turns part most (answer bound made)
  is_raised_as bound made b l =
      subst (λ (x : Bound). IsRaised inst incumbent cert turns part most (answer x made)) (sym b)
      (subst (λ (ls : List RefinedList).
      IsRaised inst incumbent cert turns part most (answer (within_range ended.bound) ls)) (sym l) is_raised)

-- ---- the splits that were made

-- a tree grows by two nodes with each
pub record GrowsBy (old new : List Node) (turns : ℕ) : Type 0 where
  pub odd_old : length old ≡ 2 * split_count old + 1
  pub odd_new : length new ≡ 2 * split_count new + 1
  pub more : split_count old ≤ split_count new
  pub few : split_count new ≤ split_count old + turns

pub grows_by : (inst : Tables) (incumbent : Option (List ℕ)) (cert : Option RefinedCertificate) (turns : ℕ)
    (part : Part) (tables : List PriceRows) (begun : ReboundTree) (ended : SearchEnd) → IsBegun inst tables cert begun
    → IsGoneOnBy risk_value inst (length tables - 1) (table_worths tables) incumbent begun.nodes part turns ended
    → GrowsBy begun.nodes ended.nodes turns
grows_by inst incumbent cert turns part tables begun ended start is =
    let lists = length tables - 1 in
    let root = root_box inst in
    let boxes = tree_splits inst lists root is.by.tree is.by.of_nodes.in_range in
    let count : split_count (pre_order is.by.tree) ≡ split_count ended.nodes = ap split_count is.by.of_nodes.order in
    let made = is.made in
    let few = is.few in
    record {
      odd_old = given_nodes inst lists root start.tree.0 begun.nodes start.tree.1;
      odd_new = given_nodes inst lists root is.by.tree ended.nodes is.by.of_nodes;
      more = omega (arith, boxes, count, made);
      few = omega (arith, boxes, count, made, few);
    }
