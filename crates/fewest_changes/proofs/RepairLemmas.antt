-- What a search for few changes and what its best plan gives back come to.
use Rattle.std.proofs.Common.{◌≡◌, ◌⊎◌, inl, inr, ℕ, ◌*◌, ◌<◌, ◌≤◌, refl, sym, ◌∙◌, ap, subst, arith, ℤ, pos}
use Rattle.std.proofs.Common.{zero-add, ◌≤ℤ◌, List, length, Option, Some, None, All, Any, Bool, true, false, IsTrue}
use Rattle.std.specs.Bool.{OnFalse}
use Rattle.std.proofs.lemmas.List.Elements.{All-weaker}
use Rattle.fixed_num.proofs.SignedLemmas.{signed_arith}
use Rattle.instance_model.specs.Tables.{Tables}
use Rattle.instance_model.specs.Rules.{IsFeasible}
use Rattle.lagrange_bound.specs.declared.span.Span.{Span}
use Rattle.certificate_lines.specs.declared.line.Bound.{Bound}
use Rattle.certificate_lines.specs.declared.line.Bound.TheVariants.{NoPlan, Least}
use Rattle.certificate_tree.specs.declared.node.Node.{Node}
use Rattle.certificate_tree.specs.declared.node.Node.TheVariants.{Split, Cost, Point, Band, Excl, Empty}
use Rattle.certificate_tree.specs.Trees.{Leaf, leaves, root_box}
use Rattle.certificate_tree.specs.Holding.{IsAtLeast}
use Rattle.certificate_tree.specs.Validity.{BoundsPlans}
use Rattle.branch_search.specs.declared.tree_end.TreeEnd.{TreeEnd}
use Rattle.branch_search.specs.Best.{IsBestOver, IsNoWorse, bound_of}
use Rattle.branch_search.specs.Searched.{IsBounding, IsAmong, IsLeastOf, IsUnfinishedLeaf, IsSearched}
use Rattle.plan_changes.specs.Changes.{changes_of, change_base, change_value, least_changes, BoundsCountChanges}
use Rattle.branch_search.specs.Splits.{split_count}
use Rattle.branch_search.specs.Turns.{AreEnough}
use Rattle.branch_search.proofs.SplitCountLemmas.{splits_are}
use Rattle.fewest_changes.specs.Incumbents.{IsBackFrom}
use Rattle.fewest_changes.specs.Repaired.{change_worths, IsRepairTree, IsRepaired}

-- ---- values

trans : (a b c : ℤ) → a ≤ℤ b → b ≤ℤ c → a ≤ℤ c
trans a b c h k = omega (arith, signed_arith)

same_both : (a b : ℤ) → a ≤ℤ b → b ≤ℤ a → a ≡ b
same_both a b h k = omega (arith, signed_arith)

at_most_itself : (a b : ℤ) → a ≡ b → a ≤ℤ b
at_most_itself a b e = omega (arith, signed_arith)

more_changes : (m n : ℕ) → m ≤ n → pos (1_000_000_000_000_000_000 * m) ≤ℤ pos (1_000_000_000_000_000_000 * n)
more_changes m n h = omega (arith, signed_arith)

same_changes : (m n : ℕ) → pos (1_000_000_000_000_000_000 * m) ≡ pos (1_000_000_000_000_000_000 * n) → m ≡ n
same_changes m n e = omega (arith, signed_arith)

-- a plan with no more changes has no greater value
value_le : (old : List (Option ℕ)) (inst : Tables) (a b : List ℕ) → changes_of old a ≤ changes_of old b
    → change_value old inst a ≤ℤ change_value old inst b
unfolding change_value
value_le old inst a b h = more_changes (changes_of old a) (changes_of old b) h

pub fewer_le : (old : List (Option ℕ)) (inst : Tables) (a b : List ℕ) → change_value old inst a ≤ℤ change_value old
    inst b
    → changes_of old a ≤ changes_of old b
unfolding change_value
fewer_le old inst a b h = omega (arith, signed_arith)

-- the least number of a bound that is a value is that of the changes
least_is : BoundsCountChanges → (old : List (Option ℕ)) (inst : Tables) (plan : List ℕ) (b : ℤ)
    → change_value old inst plan ≡ b → changes_of old plan ≡ least_changes b
unfolding change_value
least_is counts old inst plan b e =
    let n = changes_of old plan in
    let most : least_changes b ≤ n = (counts b n).0 (at_most_itself b (pos (1_000_000_000_000_000_000 * n)) (sym e)) in
    let least : b ≤ℤ pos (1_000_000_000_000_000_000 * least_changes b) =
    (counts b (least_changes b)).1 (omega arith) in
    let fewest : n ≤ least_changes b = omega (arith, signed_arith) in
    omega (arith, most, fewest)

least_most : BoundsCountChanges → (old : List (Option ℕ)) (inst : Tables) (plan : List ℕ) (b : ℤ)
    → b ≤ℤ change_value old inst plan → least_changes b ≤ changes_of old plan
unfolding change_value
least_most counts old inst plan b h = (counts b (changes_of old plan)).0 h

-- ---- bounds

least_same : (a b : ℤ) → Least a ≡ Least b → a ≡ b
least_same a b e = cc

least_or_none : (b : ℤ) → Least b ≡ NoPlan → ⊥
least_or_none b e = cc

some_or_none : (plan : List ℕ) → Some plan ≡ None → ⊥
some_or_none plan e = cc

same_plan : (a b : List ℕ) → Some a ≡ Some b → a ≡ b
same_plan a b e = cc

module _ (inst : Tables) (old : List (Option ℕ)) (turns : ℕ) (given : Option (List ℕ)) (answer : TreeEnd)
    (searched : IsSearched (change_base old) (change_value old) inst None given turns answer) where
  -- what is said of leaves and of the bound, by a best plan
  abbrev Bounding : Option (List ℕ) → Leaf → Type 0
  Bounding o leaf = IsBounding (change_value old) inst (length answer.cert.lists) (change_worths old inst answer.cert)
      o leaf.box leaf.node

  abbrev Among : Option (List ℕ) → ℤ → Type 0
  Among o = IsAmong (change_value old) inst (change_worths old inst answer.cert) o
      (leaves (root_box inst) searched.by.tree)

  abbrev Unfinished : Option (List ℕ) → Leaf → Type 0
  Unfinished o = IsUnfinishedLeaf (change_value old) inst (change_worths old inst answer.cert) o

  -- a search that is finished has the bound that says so
  finished : answer.unfinished ≡ false → answer.cert.bound ≡ bound_of (change_value old) inst answer.best
  finished is =
      subst (λ (b : Bool). OnFalse b (answer.cert.bound ≡ bound_of (change_value old) inst answer.best)) is
      searched.by.finished

  -- the search is finished, or has made as many splits as turns
  all_or_spent : (answer.unfinished ≡ false) ⊎ ((split_count answer.cert.nodes ≡ turns) × IsTrue answer.unfinished)
  all_or_spent = at answer.unfinished refl
    where
      at : (b : Bool) → answer.unfinished ≡ b
          → (answer.unfinished ≡ false) ⊎ ((split_count answer.cert.nodes ≡ turns) × IsTrue answer.unfinished)
      at true e = inr (
        splits_are inst answer.cert searched.by.tree searched.by.of_nodes ∙ searched.by.spent e ∙ zero-add turns,
        e,
      )
      at false e = inl e

  -- ---- where there is a best plan

  module _ (best plan : List ℕ) (is : answer.best ≡ Some best) (back : IsBackFrom inst old best plan)
      (bounds : BoundsPlans (change_value old) inst answer.cert.bound) where
    best_is : IsNoWorse (change_value old) inst given best
    best_is = subst (IsBestOver (change_value old) inst given) is searched.by.best

    no_more : change_value old inst plan ≤ℤ change_value old inst best
    no_more = value_le old inst plan best back.few

    bounding_at : (box : List Span) (node : Node) → Bounding (Some best) (record { box = box; node = node })
        → Bounding (Some plan) (record { box = box; node = node })
    bounding_at box (Split i m) h = tt
    bounding_at box (Cost j) h = record {
      unrefuted = h.unrefuted;
      list = h.list;
      single = λ single. trans _ (change_value old inst best) _ no_more (h.single single);
    }
    bounding_at box Point h = λ feasible. trans _ (change_value old inst best) _ no_more (h feasible)
    bounding_at box (Band c t side) h = tt
    bounding_at box (Excl e) h = tt
    bounding_at box (Empty i) h = tt

    bounding : All (Bounding (Some plan)) (leaves (root_box inst) searched.by.tree)
    bounding = All-weaker (Bounding (Some best)) (Bounding (Some plan)) (λ leaf h. bounding_at leaf.box leaf.node h)
        (leaves (root_box inst) searched.by.tree)
        (subst (λ (o : Option (List ℕ)). All (Bounding o) (leaves (root_box inst) searched.by.tree)) is
        searched.by.bounding)

    -- the bound is at most the value of the plan
    reached : IsAtLeast answer.cert.bound (change_value old inst plan)
    reached = bounds plan back.plan.each back.plan.feasible

    -- where the bound is the value of the best plan, it is that of the plan
    met : (b : ℤ) → answer.cert.bound ≡ Least b → change_value old inst best ≡ b → change_value old inst plan ≡ b
    met b bound value =
        let least : b ≤ℤ change_value old inst plan =
        subst (λ (x : Bound). IsAtLeast x (change_value old inst plan)) bound reached in
        same_both (change_value old inst plan) b
        (subst (λ (z : ℤ). change_value old inst plan ≤ℤ z) value no_more) least

    among_plan : (b : ℤ) → answer.cert.bound ≡ Least b → Among (Some best) b → Among (Some plan) b
    among_plan b bound (inl (p, p_is, value)) =
        inl (
          plan,
          refl,
          met b bound
              (subst (λ (xs : List ℕ). change_value old inst xs ≡ b) (sym (same_plan best p p_is)) value),
        )
    among_plan b bound (inr leaf) = inr leaf

    least_among : (b : ℤ) → answer.cert.bound ≡ Least b → ((z : ℤ) → Among (Some best) z → b ≤ℤ z) → (z : ℤ)
        → Among (Some plan) z → b ≤ℤ z
    least_among b bound least z (inl (p, p_is, value)) =
        let here : b ≤ℤ change_value old inst plan =
        subst (λ (x : Bound). IsAtLeast x (change_value old inst plan)) bound reached in
        subst (λ (y : ℤ). b ≤ℤ y)
        (ap (change_value old inst) (same_plan plan p p_is) ∙ value) here
    least_among b bound least z (inr leaf) = least z (inr leaf)

    bound_at : (x : Bound) → answer.cert.bound ≡ x → IsLeastOf (Among (Some best)) x → IsLeastOf (Among (Some plan)) x
    bound_at (Least b) e h = (among_plan b e h.0, least_among b e h.1)
    bound_at NoPlan e h = absurd (h (change_value old inst best) (inl (best, refl, refl)))

    best_bound : IsLeastOf (Among (Some best)) answer.cert.bound
    best_bound = subst (λ (o : Option (List ℕ)). IsLeastOf (Among o) answer.cert.bound) is searched.by.bound

    -- the tree for the plan that is given back
    pub found_tree : IsRepairTree inst old turns given (Some plan) answer.cert
    found_tree = record {
      version = searched.version;
      lists = searched.lists;
      tree = searched.by.tree;
      of_nodes = searched.by.of_nodes;
      holds = searched.by.holds;
      few = omega (arith, searched.by.few);
      splits = searched.splits;
      bounding = bounding;
      no_worse = record {
        feasible = back.plan;
        at_most = λ start given_is.
            trans _ (change_value old inst best) _ no_more (best_is.at_most start given_is);
      };
      bound = bound_at answer.cert.bound refl best_bound;
    }

    -- the bound is a number
    pub none_never : answer.cert.bound ≡ NoPlan → ⊥
    none_never e =
        subst (IsLeastOf (Among (Some best))) e best_bound (change_value old inst best) (inl (best, refl, refl))

    module _ (counts : BoundsCountChanges) (b : ℤ) (bound : answer.cert.bound ≡ Least b) where
      finished_meets : answer.unfinished ≡ false → changes_of old plan ≡ least_changes b
      finished_meets e =
          least_is counts old inst plan b
          (met b bound (least_same (change_value old inst best) b
          (sym (finished e ∙ ap (λ (o : Option (List ℕ)). bound_of (change_value old) inst o) is) ∙ bound)))

      gap : least_changes b < changes_of old plan → split_count answer.cert.nodes ≡ turns
      gap short = at all_or_spent
        where
          at : (answer.unfinished ≡ false) ⊎ ((split_count answer.cert.nodes ≡ turns) × IsTrue answer.unfinished)
              → split_count answer.cert.nodes ≡ turns
          at (inl e) = absurd (omega (arith, short, finished_meets e))
          at (inr (spent, more)) = spent

      pub repaired : (unchanged : length old ≡ length inst.names → IsFeasible inst old → changes_of old plan ≡ 0)
          → (AreEnough inst turns → answer.unfinished ≡ false) → IsRepaired inst old turns plan b answer.cert
      repaired unchanged enough = record {
        bound_is = bound;
        none_left = back.none_left;
        unchanged = unchanged;
        at_least = least_most counts old inst plan b
            (subst (λ (x : Bound). IsAtLeast x (change_value old inst plan)) bound reached);
        gap = gap;
        enough = λ are. finished_meets (enough are);
      }

  -- ---- where there is none

  module _ (is : answer.best ≡ None) where
    abbrev pub no_tree : IsRepairTree inst old turns given None answer.cert
    no_tree = record {
      version = searched.version;
      lists = searched.lists;
      tree = searched.by.tree;
      of_nodes = searched.by.of_nodes;
      holds = searched.by.holds;
      few = omega (arith, searched.by.few);
      splits = searched.splits;
      bounding = subst (λ (o : Option (List ℕ)). All (Bounding o) (leaves (root_box inst) searched.by.tree)) is
          searched.by.bounding;
      no_worse = subst (IsBestOver (change_value old) inst given) is searched.by.best;
      bound = subst (λ (o : Option (List ℕ)). IsLeastOf (Among o) answer.cert.bound) is searched.by.bound;
    }

    pub none_given : given ≡ None
    none_given = subst (IsBestOver (change_value old) inst given) is searched.by.best

    module _ (b : ℤ) (bound : answer.cert.bound ≡ Least b) where
      -- a finished search without a plan has no number as its bound
      pub unmet : answer.unfinished ≡ false → ⊥
      unmet e =
          least_or_none b
          (sym bound ∙ finished e ∙ ap (λ (o : Option (List ℕ)). bound_of (change_value old) inst o) is)

      pub nothing_spent : (split_count answer.cert.nodes ≡ turns) × IsTrue answer.unfinished
      nothing_spent = at all_or_spent
        where
          at : (answer.unfinished ≡ false) ⊎ ((split_count answer.cert.nodes ≡ turns) × IsTrue answer.unfinished)
              → (split_count answer.cert.nodes ≡ turns) × IsTrue answer.unfinished
          at (inl e) = absurd (unmet e)
          at (inr spent) = spent

      pub nothing_left : Any (Unfinished None) (leaves (root_box inst) searched.by.tree)
      nothing_left = subst (λ (o : Option (List ℕ)). Any (Unfinished o) (leaves (root_box inst) searched.by.tree)) is
          (searched.by.unfinished.0 nothing_spent.1)
