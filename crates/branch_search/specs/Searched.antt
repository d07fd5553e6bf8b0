-- What a tree search promises: this is the statement. `IsSearchedBy` says it of the worths of boxes by any tables, and
-- `IsSearched` of a certificate and its price lists.
use Rattle.std.specs.Prelude.{◌≡◌, ℕ, ◌+◌, ◌≤◌, ℤ, ◌<ℤ◌, ◌≤ℤ◌, ⊤, ◌⊎◌, ◌↔◌, List, [], ◌∷◌, length, map, All, Any}
use Rattle.std.specs.Prelude.{Option, Some, None, IsTrue}
use Rattle.std.specs.Bool.{OnFalse}
use Rattle.instance_model.specs.Tables.{Tables}
use Rattle.instance_model.specs.Rules.{IsFeasible}
use Rattle.lagrange_bound.specs.declared.span.Span.{Span}
use Rattle.lagrange_bound.specs.Prices.{PriceList}
use Rattle.lagrange_bound.specs.Goals.{Bases, PlanValue}
use Rattle.certificate_lines.specs.declared.line.Bound.{Bound}
use Rattle.certificate_lines.specs.declared.line.Bound.TheVariants.{NoPlan, Least}
use Rattle.certificate_lines.specs.declared.line.Version.TheVariants.{Two}
use Rattle.certificate_tree.specs.declared.node.Node.{Node}
use Rattle.certificate_tree.specs.declared.node.Node.TheVariants.{Split, Cost, Point, Band, Excl, Empty}
use Rattle.certificate_tree.specs.Trees.{Tree, Leaf, leaves, root_box}
use Rattle.certificate_tree.specs.Holding.{Worths, worth_by, IsGreatest, IsSingle, first_starts}
use Rattle.certificate_tree.specs.Validity.{Claim, IsTreeOfClaim, ClaimLeafHolds}
use Rattle.branch_search.specs.declared.search_end.SearchEnd.{SearchEnd}
use Rattle.branch_search.specs.declared.tree_end.TreeEnd.{TreeEnd}
use Rattle.branch_search.specs.Splits.{split_boxes}
use Rattle.branch_search.specs.Best.{IsReached, IsShort, IsBestOver, bound_of, IsNumber}
use Rattle.branch_search.specs.Boxes.{IsUnrefuted}

-- ---- splits

-- the box of a split is refuted by no leaf, no worth of it is at least the value of the plan handed in, and none is
-- above one of these numbers
pub record IsSplitBox (value : PlanValue) (inst : Tables) (lists : ℕ) (worths : Worths) (incumbent : Option (List ℕ))
    (among : ℤ → Type 0) (box : List Span) : Type 0 where
  pub unrefuted : IsUnrefuted inst box
  pub below_given : (j : ℕ) (given : List ℕ) → j ≤ lists → incumbent ≡ Some given → worths box j <ℤ value inst given
  pub at_most : (j : ℕ) (z : ℤ) → j ≤ lists → among z → worths box j ≤ℤ z

-- ---- leaves

-- the box of a `cost` leaf is refuted by no leaf, the leaf names the list of greatest worth, and
-- where the box is a single plan, that worth is at least the value of the best plan, which there is then
pub record IsCostLeaf (value : PlanValue) (inst : Tables) (lists : ℕ) (worths : Worths) (best : Option (List ℕ))
    (box : List Span) (j : ℕ) : Type 0 where
  pub unrefuted : IsUnrefuted inst box
  pub list : IsGreatest (worths box) lists j
  pub single : IsSingle box → IsReached value inst best (worths box j)

-- where the plan of a `point` leaf is feasible, there is a best plan, of at most its value
abbrev pub IsPointLeaf : PlanValue → Tables → Option (List ℕ) → List Span → Type 0
IsPointLeaf value inst best box =
    IsFeasible inst (map Some (first_starts box)) → IsReached value inst best (value inst (first_starts box))

-- what is said of the leaves of either kind
abbrev pub IsBounding : PlanValue → Tables → ℕ → Worths → Option (List ℕ) → List Span → Node → Type 0
IsBounding value inst lists worths best box (Split i m) = ⊤
IsBounding value inst lists worths best box (Cost j) = IsCostLeaf value inst lists worths best box j
IsBounding value inst lists worths best box Point = IsPointLeaf value inst best box
IsBounding value inst lists worths best box (Band c t side) = ⊤
IsBounding value inst lists worths best box (Excl e) = ⊤
IsBounding value inst lists worths best box (Empty i) = ⊤

-- ---- the bound

-- a `cost` leaf whose worth by the list that it names is z
pub record IsCostOf (worths : Worths) (z : ℤ) (leaf : Leaf) : Type 0 where
  pub list : ℕ
  pub node : leaf.node ≡ Cost list
  pub worth : worths leaf.box list ≡ z

-- z is the value of the best plan, or the worth of a `cost` leaf
abbrev pub IsAmong : PlanValue → Tables → Worths → Option (List ℕ) → List Leaf → ℤ → Type 0
IsAmong value inst worths best leaves z =
    ((plan : List ℕ) × (best ≡ Some plan) × (value inst plan ≡ z)) ⊎ Any (IsCostOf worths z) leaves

-- a bound is the least of some numbers, and none where there is none
abbrev pub IsLeastOf : (ℤ → Type 0) → Bound → Type 0
IsLeastOf among NoPlan = (z : ℤ) → ¬ among z
IsLeastOf among (Least b) = among b × ((z : ℤ) → among z → b ≤ℤ z)

-- ---- what is left

-- a `cost` leaf of several plans, of a worth below the value of the best plan, or where there is none
pub record IsUnfinishedLeaf (value : PlanValue) (inst : Tables) (worths : Worths) (best : Option (List ℕ))
    (leaf : Leaf) : Type 0 where
  pub list : ℕ
  pub node : leaf.node ≡ Cost list
  pub several : ¬ IsSingle leaf.box
  pub short : IsShort value inst best (worths leaf.box list)

-- ---- the statement

-- what an answer claims, by the worths of boxes by list 0 and so many others
abbrev pub claim_in : ℕ → Worths → SearchEnd → Claim
claim_in lists worths answer =
    record { bound = answer.bound; lists = lists; worths = worths; nodes = answer.nodes }

-- the answer of a search with this many turns, by worths of boxes, given a feasible plan or none, which went on from a
-- tree that had so many splits before
pub record IsSearchedBy (value : PlanValue) (inst : Tables) (lists : ℕ) (worths : Worths) (incumbent : Option (List ℕ))
    (before turns : ℕ) (answer : SearchEnd) : Type 0 where
  -- its tree is in range and holds
  pub tree : Tree
  pub of_nodes : IsTreeOfClaim inst (claim_in lists worths answer) tree
  pub holds : All (ClaimLeafHolds value inst (claim_in lists worths answer)) (leaves (root_box inst) tree)
  -- its splits: all that were given, and at most so many more as there are turns
  pub stay : before ≤ length (split_boxes (root_box inst) tree)
  pub few : length (split_boxes (root_box inst) tree) ≤ before + turns
  -- its leaves
  pub bounding : All (λ leaf. IsBounding value inst lists worths answer.best leaf.box leaf.node)
      (leaves (root_box inst) tree)
  -- the best plan and the bound
  pub best : IsBestOver value inst incumbent answer.best
  pub bound : IsLeastOf (IsAmong value inst worths answer.best (leaves (root_box inst) tree)) answer.bound
  -- whether the search is unfinished, and what it shows where it isn't
  pub unfinished : IsTrue answer.unfinished
      ↔ Any (IsUnfinishedLeaf value inst worths answer.best) (leaves (root_box inst) tree)
  pub spent : IsTrue answer.unfinished → length (split_boxes (root_box inst) tree) ≡ before + turns
  pub finished : OnFalse answer.unfinished (answer.bound ≡ bound_of value inst answer.best)

-- ---- by price lists

-- the lists of a certificate: the one handed in, or none
abbrev pub lists_of : Option PriceList → List PriceList
lists_of None = []
lists_of (Some prices) = prices ∷ []

-- an answer without its price lists, where no leaf was given
abbrev pub end_of : TreeEnd → SearchEnd
end_of answer =
    record {
      bound = answer.cert.bound;
      nodes = answer.cert.nodes;
      best = answer.best;
      unfinished = answer.unfinished;
    }

-- the answer of a search given a price list or none: the certificate is one of version 2 with that list, or none, and
-- the rest is what a search from the box of all starts answers by the worths of its lists; no worth of a box that was
-- split is above the bound
pub record IsSearched (base : Bases) (value : PlanValue) (inst : Tables) (prices : Option PriceList)
    (incumbent : Option (List ℕ)) (turns : ℕ) (answer : TreeEnd) : Type 0 where
  pub version : answer.cert.version ≡ Two
  pub lists : answer.cert.lists ≡ lists_of prices
  pub by : IsSearchedBy value inst (length answer.cert.lists) (worth_by base inst answer.cert.lists) incumbent 0 turns
      (end_of answer)
  pub splits : All (IsSplitBox value inst (length answer.cert.lists) (worth_by base inst answer.cert.lists) incumbent
      (IsNumber answer.cert.bound)) (split_boxes (root_box inst) by.tree)
