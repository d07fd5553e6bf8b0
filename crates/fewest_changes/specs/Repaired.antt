-- What a repair comes to: the certificate of a search for few changes, and a plan of which no change can go back alone.
--
-- The search has no price list, so all worths are by the list of zeros. Values and worths are 10^18 for each change.
use Rattle.std.specs.Prelude.{◌≡◌, ℕ, ◌+◌, ◌*◌, ◌<◌, ◌≤◌, ℤ, List, [], length, map, All, Any, Option, Some, None}
use Rattle.instance_model.specs.Tables.{Tables}
use Rattle.instance_model.specs.Rules.{IsFeasible}
use Rattle.plan_moves.specs.declared.change.Change.{Change}
use Rattle.certificate_lines.specs.declared.line.Bound.{Bound}
use Rattle.certificate_lines.specs.declared.line.Bound.TheVariants.{NoPlan, Least}
use Rattle.certificate_lines.specs.declared.line.Version.TheVariants.{Two}
use Rattle.certificate_tree.specs.declared.certificate.Certificate.{Certificate}
use Rattle.certificate_tree.specs.Trees.{Tree, leaves, root_box}
use Rattle.certificate_tree.specs.Ranges.{IsTreeOf, IsInRange}
use Rattle.certificate_tree.specs.Holding.{Worths, worth_by}
use Rattle.certificate_tree.specs.Validity.{CertLeafHolds, IsValid}
use Rattle.branch_search.specs.Splits.{split_boxes, split_count}
use Rattle.branch_search.specs.Best.{IsBestOver, IsNumber}
use Rattle.branch_search.specs.Searched.{IsSplitBox, IsBounding, IsAmong, IsLeastOf, IsUnfinishedLeaf}
use Rattle.plan_changes.specs.Changes.{changes_of, change_base, change_value, least_changes}
use Rattle.plan_changes.specs.Returning.{NoneCanGoBack}
use Rattle.local_search.specs.Ends.{end_of, IsDescentFrom}
use Rattle.branch_search.specs.Turns.{AreEnough}
use Rattle.fewest_changes.specs.declared.repairing.Repair.{Repair}
use Rattle.fewest_changes.specs.Openings.{IsKeptOpening}
use Rattle.fewest_changes.specs.Incumbents.{IsBackFrom, IsIncumbent}

-- ---- the tree

-- the worths of boxes by the lists of a certificate, for the number of changes
abbrev pub change_worths : List (Option ℕ) → Tables → Certificate → Worths
change_worths old inst cert = worth_by (change_base old) inst cert.lists

-- A certificate without price lists, and the plan that is answered with it, if there is one, where the search was given
-- a feasible plan or none. Its tree is in range, has at most so many splits as turns, and each leaf holds. What is said
-- of the boxes of splits, of `cost` and of `point` leaves and of the bound is said for the plan that is answered: the
-- bound is the least of its value and of the worths of the `cost` leaves, and none where there is neither.
pub record IsRepairTree (inst : Tables) (old : List (Option ℕ)) (turns : ℕ) (given plan : Option (List ℕ))
    (cert : Certificate) : Type 0 where
  pub version : cert.version ≡ Two
  pub lists : cert.lists ≡ []
  pub tree : Tree
  pub of_nodes : IsTreeOf inst cert tree
  pub holds : All (CertLeafHolds (change_base old) (change_value old) inst cert) (leaves (root_box inst) tree)
  pub few : length (split_boxes (root_box inst) tree) ≤ turns
  pub splits : All (IsSplitBox (change_value old) inst (length cert.lists) (change_worths old inst cert) given
      (IsNumber cert.bound)) (split_boxes (root_box inst) tree)
  pub bounding : All (λ leaf.
      IsBounding (change_value old) inst (length cert.lists) (change_worths old inst cert) plan leaf.box leaf.node)
      (leaves (root_box inst) tree)
  pub no_worse : IsBestOver (change_value old) inst given plan
  pub bound : IsLeastOf
      (IsAmong (change_value old) inst (change_worths old inst cert) plan (leaves (root_box inst) tree)) cert.bound

-- a plan to set out from, the plan that the search is given, if there is one, and the tree
pub record IsRepairOf (inst : Tables) (old : List (Option ℕ)) (turns : ℕ) (plan : Option (List ℕ)) (cert : Certificate)
    : Type 0 where
  pub opening : List ℕ
  pub opens : IsKeptOpening inst old opening
  pub given : Option (List ℕ)
  pub is_given : IsIncumbent inst old turns opening given
  pub found : IsRepairTree inst old turns given plan cert

-- ---- what is found

-- A plan was found, and the bound is a number. No change of the plan can go back alone, and an old plan that is
-- feasible isn't changed. More changes than the least number come only after as many splits as turns, and not where the
-- turns are enough for all plans.
pub record IsRepaired (inst : Tables) (old : List (Option ℕ)) (turns : ℕ) (plan : List ℕ) (bound : ℤ)
    (cert : Certificate) : Type 0 where
  pub bound_is : cert.bound ≡ Least bound
  pub none_left : NoneCanGoBack inst old plan
  pub unchanged : length old ≡ length inst.names → IsFeasible inst old → changes_of old plan ≡ 0
  pub at_least : least_changes bound ≤ changes_of old plan
  pub gap : least_changes bound < changes_of old plan → split_count cert.nodes ≡ turns
  pub enough : AreEnough inst turns → changes_of old plan ≡ least_changes bound

-- No plan was found, the bound is a number, the tree has as many splits as turns, which aren't enough for all plans,
-- and a `cost` leaf of several plans is left. The opening isn't feasible, nor is the end of a descent from it.
pub record IsNothing (inst : Tables) (old : List (Option ℕ)) (turns : ℕ) (bound : ℤ) (cert : Certificate)
    (made : IsRepairOf inst old turns None cert) : Type 0 where
  pub bound_is : cert.bound ≡ Least bound
  pub spent : split_count cert.nodes ≡ turns
  pub too_few : AreEnough inst turns → ⊥
  pub left : Any (IsUnfinishedLeaf (change_value old) inst (change_worths old inst cert) None)
      (leaves (root_box inst) made.found.tree)
  pub opening_infeasible : ¬ IsFeasible inst (map Some made.opening)
  pub changes : List Change
  pub descent : IsDescentFrom inst turns made.opening changes
  pub end_infeasible : ¬ IsFeasible inst (map Some (end_of made.opening changes))

-- what was found, by the plan and the bound: there is no plan beside the bound none
abbrev pub ComesTo : (inst : Tables) (old : List (Option ℕ)) (turns : ℕ) (plan : Option (List ℕ)) → Bound
    → (cert : Certificate) → IsRepairOf inst old turns plan cert → Type 0
ComesTo inst old turns (Some plan) (Least b) cert made = IsRepaired inst old turns plan b cert
ComesTo inst old turns (Some plan) NoPlan cert made = ⊥
ComesTo inst old turns None (Least b) cert made = IsNothing inst old turns b cert made
ComesTo inst old turns None NoPlan cert made = Unit {0}

-- what a repair makes: the certificate is valid for the number of changes and in range
pub record IsMadeRepair (inst : Tables) (old : List (Option ℕ)) (turns : ℕ) (repair : Repair) : Type 0 where
  pub made : IsRepairOf inst old turns repair.plan repair.certificate
  pub comes_to : ComesTo inst old turns repair.plan repair.certificate.bound repair.certificate made
  pub valid : IsValid (change_base old) (change_value old) inst repair.certificate
  pub in_range : IsInRange inst repair.certificate
  pub nodes : length repair.certificate.nodes ≤ 2 * turns + 1

-- ---- no part of any promise

-- what a plan gives back, if there is one
abbrev pub IsBackOf : Tables → List (Option ℕ) → (best plan : Option (List ℕ)) → Type 0
IsBackOf inst old None None = Unit {0}
IsBackOf inst old (Some best) (Some plan) = IsBackFrom inst old best plan
IsBackOf inst old None (Some plan) = ⊥
IsBackOf inst old (Some best) None = ⊥
