-- What a tree of boxes and a certificate become is in range and valid, and it is one.
use Rattle.std.proofs.Common.{◌≡◌, ℕ, ◌*◌, ◌≤◌, ◌^◌, zero, suc, refl, sym, ◌∙◌, ap, subst, arith, ℤ, pos, ◌-ℤ◌, ◌≤ℤ◌}
use Rattle.std.proofs.Common.{List, length, All, unsigned_abs}
use Rattle.std.specs.Prelude.{sum, replicate}
use Rattle.fixed_num.proofs.SignedLemmas.{signed_arith}
use Rattle.instance_model.specs.Tables.{Tables}
use Rattle.instance_model.specs.Fitting.{IsFitting}
use Rattle.lagrange_bound.specs.Prices.{PriceList, IsPriceList, zero_list}
use Rattle.lagrange_bound.specs.Goals.{risk_base, risk_value, ValuesAreSmall}
use Rattle.lagrange_bound.specs.Worth.{ex_total, price_total, WorthsAreSmall}
use Rattle.lagrange_bound.proofs.PriceLemmas.{zero_in_range}
use Rattle.certificate_lines.specs.declared.line.Bound.{Bound}
use Rattle.certificate_lines.specs.declared.line.Version.{Version}
use Rattle.certificate_tree.specs.declared.node.Node.{Node}
use Rattle.certificate_tree.specs.declared.certificate.Certificate.{Certificate}
use Rattle.certificate_tree.specs.Trees.{Tree, pre_order, leaves, root_box}
use Rattle.certificate_tree.specs.Ranges.{AreNodesOf, IsInRange, IsBoundInRange, HasPricesOf}
use Rattle.certificate_tree.specs.Holding.{Worths, worth_by, list_at}
use Rattle.certificate_tree.specs.Validity.{Claim, IsProved, IsValid, BoundBoxes, BoundsPlans}
use Rattle.certificate_tree.specs.Laws.{NodesAreOneTree, ProvedBoundsPlans, ValidBoundsPlans}
use Rattle.certificate_tree.proofs.RootLemmas.{root_is_box}
use Rattle.band_rebound.specs.declared.rebounded.ReboundTree.{ReboundTree}
use Rattle.band_rebound.specs.declared.rebounded.Rebounded.{Rebounded}
use Rattle.band_rebound.specs.declared.growth.Growth.{Growth}
use Rattle.band_rebound.specs.Rebinding.{TreeBecomes, tree_worths, IsBoundOf, ReachLeastBound, IsNoLower, LeafCounts}
use Rattle.band_rebound.specs.Rebinding.{Counts}
use Rattle.band_rebound.specs.Rebounds.{IsReboundBy, IsReboundOf, tree_of}
use Rattle.band_rebound.specs.Steps.{IsGrown}
use Rattle.band_rebound.proofs.BoundLemmas.{all_at_least, bound_in_range, no_lower, one_bound}
use Rattle.band_rebound.proofs.TreeLemmas.{tree_in_range, leaves_hold, worths_above, worths_high, one_tree}
use Rattle.band_rebound.proofs.TreeLemmas.{one_counting, Holds}

-- ---- what was grown is the answer

pub is_rebound : (inst : Tables) (lists : ℕ) (worths : Worths) (nodes : List Node) (growth : Growth)
    (answer : ReboundTree) → answer.nodes ≡ growth.nodes.items → answer.bound ≡ growth.bound
    → answer.kept ≡ growth.kept → answer.changed ≡ growth.changed → IsGrown inst lists worths nodes growth
    → IsReboundBy inst lists worths nodes answer
is_rebound inst lists worths nodes growth answer nodes_are bound_is kept changed grown = record {
  old = grown.old;
  of_old = grown.of_old;
  new = grown.new;
  of_new = record {
    order = grown.order ∙ sym nodes_are;
    in_range = tree_in_range inst lists worths (root_box inst) grown.old grown.new grown.of_old.in_range grown.becomes;
  };
  becomes = grown.becomes;
  bound = subst (λ (b : Bound). IsBoundOf (tree_worths inst worths (root_box inst) grown.new) b) (sym bound_is)
      grown.bound;
  counts = subst (λ (n : ℕ). Counts grown.old grown.new (record { kept = n; changed = answer.changed })) (sym kept)
      (subst (λ (n : ℕ). Counts grown.old grown.new (record { kept = growth.kept; changed = n })) (sym changed)
      grown.counts);
}

-- ---- what holds of it

-- what a bound and nodes claim by these worths
abbrev pub claim_on : ℕ → Worths → Bound → List Node → Claim
claim_on lists worths bound nodes = record { bound = bound; lists = lists; worths = worths; nodes = nodes }

module _ (inst : Tables) (lists : ℕ) (worths : Worths) (nodes : List Node) (answer : ReboundTree)
    (fit : IsFitting inst) (is : IsReboundBy inst lists worths nodes answer) where
  pub rebound_in_range : ValuesAreSmall risk_value → ReachLeastBound inst worths → IsBoundInRange answer.bound
  rebound_in_range values low =
      bound_in_range (tree_worths inst worths (root_box inst) is.new) answer.bound
      (worths_high inst lists worths fit values low (root_box inst) is.old is.new (root_is_box inst fit)
      is.of_old.in_range is.becomes) is.bound

  -- its leaves hold
  pub rebound_proved : IsProved risk_value inst (claim_on lists worths answer.bound answer.nodes)
  rebound_proved = record {
    tree = is.new;
    of_nodes = is.of_new;
    holds = leaves_hold inst lists worths answer.bound (root_box inst) is.old is.new
        (all_at_least (tree_worths inst worths (root_box inst) is.new) answer.bound is.bound) is.becomes;
  }

  -- it is no lower than a bound that the old tree proves
  pub rebound_no_lower : NodesAreOneTree → (bound : Bound) → IsBoundInRange bound → BoundsPlans risk_value inst bound
      → IsProved risk_value inst (claim_on lists worths bound nodes) → IsNoLower bound answer.bound
  rebound_no_lower one bound range bounds proved =
      let same : proved.tree ≡ is.old =
      one inst lists (root_box inst) nodes proved.tree is.old proved.of_nodes is.of_old in
      no_lower (tree_worths inst worths (root_box inst) is.new) bound answer.bound range
      (worths_above inst lists worths bound bounds (root_box inst) is.old is.new (root_is_box inst fit)
      is.of_old.in_range
      (subst (λ (t : Tree). All (Holds inst bound worths) (leaves (root_box inst) t)) same proved.holds)
      is.becomes) is.bound

-- ---- it is one

same_tree : (a b : ReboundTree) → a.bound ≡ b.bound → a.nodes ≡ b.nodes → a.kept ≡ b.kept → a.changed ≡ b.changed
    → a ≡ b
same_tree a b e f g h =
    ap (λ (x : Bound). record { bound = x; nodes = a.nodes; kept = a.kept; changed = a.changed }) e
    ∙ ap (λ (ns : List Node). record { bound = b.bound; nodes = ns; kept = a.kept; changed = a.changed }) f
    ∙ ap (λ (n : ℕ). record { bound = b.bound; nodes = b.nodes; kept = n; changed = a.changed }) g
    ∙ ap (λ (n : ℕ). record { bound = b.bound; nodes = b.nodes; kept = b.kept; changed = n }) h

pub one_rebound_tree : NodesAreOneTree → (inst : Tables) (lists : ℕ) (worths : Worths) (nodes : List Node)
    (a b : ReboundTree) → IsReboundBy inst lists worths nodes a → IsReboundBy inst lists worths nodes b → b ≡ a
one_rebound_tree law inst lists worths nodes a b x y =
    let root = root_box inst in
    let old_is : y.old ≡ x.old = law inst lists root nodes y.old x.old y.of_old x.of_old in
    let new_is : y.new ≡ x.new = one_tree inst lists worths root x.old y.new x.new
    (subst (λ (t : Tree). TreeBecomes inst lists worths root t y.new) old_is y.becomes) x.becomes in
    let bound_is : b.bound ≡ a.bound = one_bound (tree_worths inst worths root x.new) b.bound a.bound
    (subst (λ (t : Tree). IsBoundOf (tree_worths inst worths root t) b.bound) new_is y.bound) x.bound in
    let nodes_are : b.nodes ≡ a.nodes = sym y.of_new.order ∙ ap pre_order new_is ∙ x.of_new.order in
    let counts_are = one_counting x.old x.new (record { kept = b.kept; changed = b.changed })
    (record { kept = a.kept; changed = a.changed })
    (subst (λ (t : Tree). Counts t x.new (record { kept = b.kept; changed = b.changed })) old_is
    (subst (λ (t : Tree). Counts y.old t (record { kept = b.kept; changed = b.changed })) new_is y.counts)) x.counts in
    same_tree b a bound_is nodes_are (ap (λ (c : LeafCounts). c.kept) counts_are)
    (ap (λ (c : LeafCounts). c.changed) counts_are)

same_answer : (a b : Rebounded) → a.cert.version ≡ b.cert.version → a.cert.lists ≡ b.cert.lists → tree_of a ≡ tree_of b
    → a ≡ b
same_answer a b e f g =
    ap (λ (v : Version). answer v a.cert.lists (tree_of a)) e
    ∙ ap (λ (ps : List PriceList). answer b.cert.version ps (tree_of a)) f
    ∙ ap (λ (t : ReboundTree). answer b.cert.version b.cert.lists t) g
  where
    answer : Version → List PriceList → ReboundTree → Rebounded
    answer v ps t =
        record {
          cert = record { version = v; bound = t.bound; lists = ps; nodes = t.nodes };
          kept = t.kept;
          changed = t.changed;
        }

pub one_rebound : NodesAreOneTree → (inst : Tables) (cert : Certificate) (a b : Rebounded) → IsReboundOf inst cert a
    → IsReboundOf inst cert b → b ≡ a
one_rebound law inst cert a b x y =
    same_answer b a (y.version ∙ sym x.version) (y.lists ∙ sym x.lists)
    (one_rebound_tree law inst (length cert.lists) (worth_by risk_base inst cert.lists) cert.nodes (tree_of a)
    (tree_of b) x.tree y.tree)

-- ---- all that is promised of a tree

pub record IsRightTree (inst : Tables) (lists : ℕ) (worths : Worths) (nodes : List Node) (answer : ReboundTree)
    : Type 0 where
  pub rebound : IsReboundBy inst lists worths nodes answer
  pub only : (other : ReboundTree) → IsReboundBy inst lists worths nodes other → other ≡ answer
  pub proved : IsProved risk_value inst (claim_on lists worths answer.bound answer.nodes)
  pub in_range : ReachLeastBound inst worths → IsBoundInRange answer.bound
  pub bounds : BoundBoxes risk_value inst lists worths → BoundsPlans risk_value inst answer.bound
  pub no_lower : BoundBoxes risk_value inst lists worths → (old : Bound) → IsBoundInRange old
      → IsProved risk_value inst (claim_on lists worths old nodes) → IsNoLower old answer.bound

pub is_right_tree : (inst : Tables) (lists : ℕ) (worths : Worths) (nodes : List Node) (answer : ReboundTree)
    → IsFitting inst → NodesAreOneTree → ProvedBoundsPlans → ValuesAreSmall risk_value
    → IsReboundBy inst lists worths nodes answer → IsRightTree inst lists worths nodes answer
is_right_tree inst lists worths nodes answer fit one law values is =
    let proved = rebound_proved inst lists worths nodes answer fit is in
    record {
      rebound = is;
      only = λ other also. one_rebound_tree one inst lists worths nodes answer other is also;
      proved = proved;
      in_range = rebound_in_range inst lists worths nodes answer fit is values;
      bounds = λ boxes. law risk_value inst (claim_on lists worths answer.bound answer.nodes) fit boxes proved;
      no_lower = λ boxes old range old_proved. rebound_no_lower inst lists worths nodes answer fit is one old range
          (law risk_value inst (claim_on lists worths old nodes) fit boxes old_proved) old_proved;
    }

-- ---- the worths by the list of zeros

sum_of_zeros : (n : ℕ) → sum (replicate n 0) ≡ 0
sum_of_zeros zero = refl
sum_of_zeros (suc n) = sum_of_zeros n

zero_total : (inst : Tables) → price_total (zero_list inst) ≡ 0
unfolding price_total zero_list ex_total
zero_total inst =
    let e = sum_of_zeros (length inst.resource_names * inst.periods) in omega (arith, e)

at_least_most : (z : ℤ) → unsigned_abs z ≤ 10 ^ 36 → (pos 0 -ℤ pos (10 ^ 36)) ≤ℤ z
at_least_most z h = omega (arith, signed_arith)

pub reach_least_bound : (inst : Tables) (lists : List PriceList) → IsFitting inst → WorthsAreSmall risk_base
    → ReachLeastBound inst (worth_by risk_base inst lists)
unfolding list_at
reach_least_bound inst lists fit worths = λ box is_box starts.
    at_least_most (worth_by risk_base inst lists box 0)
    (worths inst (zero_list inst) box fit (zero_in_range inst) (let e = zero_total inst in omega (arith, e)) starts)

-- ---- all that is promised of a certificate

module _ (inst : Tables) (cert : Certificate) (answer : Rebounded) (fit : IsFitting inst) (range : IsInRange inst cert)
    (is : IsReboundOf inst cert answer) where
  abbrev by_lists : Worths
  by_lists = worth_by risk_base inst cert.lists

  certificate_in_range : WorthsAreSmall risk_base → ValuesAreSmall risk_value → IsInRange inst answer.cert
  certificate_in_range worths values = record {
    bound = rebound_in_range inst (length cert.lists) by_lists cert.nodes (tree_of answer) fit
        is.tree values (reach_least_bound inst cert.lists fit worths);
    few = subst (λ (ps : List PriceList). length ps ≤ 16) (sym is.lists) range.few;
    lists = subst (λ (ps : List PriceList). All (IsPriceList inst) ps) (sym is.lists) range.lists;
    version = subst (λ (ps : List PriceList). All (HasPricesOf answer.cert.version) ps) (sym is.lists)
        (subst (λ (v : Version). All (HasPricesOf v) cert.lists) (sym is.version) range.version);
    tree = (
      is.tree.new,
      subst (λ (ps : List PriceList). AreNodesOf inst (length ps) (root_box inst) is.tree.new answer.cert.nodes)
          (sym is.lists) is.tree.of_new,
    );
  }

  certificate_valid : IsValid risk_base risk_value inst answer.cert
  certificate_valid =
      subst (λ (ps : List PriceList). IsProved risk_value inst
      (claim_on (length ps) (worth_by risk_base inst ps) answer.cert.bound answer.cert.nodes)) (sym is.lists)
      (rebound_proved inst (length cert.lists) by_lists cert.nodes (tree_of answer) fit is.tree)

  certificate_no_lower : NodesAreOneTree → ValidBoundsPlans risk_base risk_value
      → IsValid risk_base risk_value inst cert → IsNoLower cert.bound answer.cert.bound
  certificate_no_lower one law valid =
      rebound_no_lower inst (length cert.lists) by_lists cert.nodes (tree_of answer) fit is.tree
      one cert.bound range.bound (law inst cert fit range valid) valid

pub record IsRight (inst : Tables) (cert : Certificate) (answer : Rebounded) : Type 0 where
  pub rebound : IsReboundOf inst cert answer
  pub only : (other : Rebounded) → IsReboundOf inst cert other → other ≡ answer
  pub in_range : IsInRange inst answer.cert
  pub valid : IsValid risk_base risk_value inst answer.cert
  pub bounds : BoundsPlans risk_value inst answer.cert.bound
  pub no_lower : IsValid risk_base risk_value inst cert → IsNoLower cert.bound answer.cert.bound

pub is_right : (inst : Tables) (cert : Certificate) (answer : Rebounded) → IsFitting inst → IsInRange inst cert
    → NodesAreOneTree → ValidBoundsPlans risk_base risk_value → WorthsAreSmall risk_base → ValuesAreSmall risk_value
    → IsReboundOf inst cert answer → IsRight inst cert answer
is_right inst cert answer fit range one law worths values is =
    let new_range = certificate_in_range inst cert answer fit range is worths values in
    let new_valid = certificate_valid inst cert answer fit range is in
    record {
      rebound = is;
      only = λ other also. one_rebound one inst cert answer other is also;
      in_range = new_range;
      valid = new_valid;
      bounds = law inst answer.cert fit new_range new_valid;
      no_lower = certificate_no_lower inst cert answer fit range is one law;
    }
