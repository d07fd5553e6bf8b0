-- What is made of an instance with an opening plan: a descent, a price list and a search.
--
-- Worths, values and bounds are in parts of 10^-18.
use Rattle.std.specs.Prelude.{◌≡◌, ℕ, ◌≤◌, ℤ, ◌≤ℤ◌, List, length, map, Any, Option, Some, None}
use Rattle.instance_model.specs.Tables.{Tables}
use Rattle.instance_model.specs.Rules.{IsFeasible}
use Rattle.plan_moves.specs.declared.change.Change.{Change}
use Rattle.lagrange_bound.specs.Prices.{PriceList}
use Rattle.lagrange_bound.specs.Goals.{risk_base, risk_value}
use Rattle.lagrange_bound.specs.Worth.{price_total}
use Rattle.certificate_lines.specs.declared.line.Bound.TheVariants.{NoPlan, Least}
use Rattle.certificate_tree.specs.Trees.{leaves, root_box}
use Rattle.certificate_tree.specs.Holding.{worth_by}
use Rattle.price_ladder.specs.Raised.{IsRaised, root_worth, least_total}
use Rattle.branch_search.specs.declared.tree_end.TreeEnd.{TreeEnd}
use Rattle.branch_search.specs.Searched.{IsSearched, IsUnfinishedLeaf}
use Rattle.local_search.specs.Ends.{end_of, IsTrail}
use Rattle.branch_search.specs.Given.{IsGiven}
use Rattle.branch_search.specs.Splits.{split_count}
use Rattle.branch_search.specs.Turns.{AreEnough}

-- ---- the price list

-- The price list of the certificate: it is raised for a plan, and its worth is at least that of zeros. Its numbers add
-- up to at most 4 * 10^10, and it has at most 400 prices of exclusions.
pub record IsPriced (inst : Tables) (end : List ℕ) (prices : PriceList) : Type 0 where
  pub raised : IsRaised inst end prices
  pub not_below_zeros : least_total inst ≤ℤ root_worth inst prices
  pub small : price_total prices ≤ 40_000_000_000
  pub few_exclusions : length prices.ex ≤ 400

-- ---- the search

-- A descent, a price list raised for its end, and a search with that list, given that end where it is feasible: its
-- answer is a certificate, the best plan, if there is one, and whether a box is left that may have a better one. A
-- bound that is a number is at least the worth of the list over all starts.
pub record IsSolved (inst : Tables) (turns : ℕ) (changes : List Change) (answer : TreeEnd) : Type 0 where
  pub opening : List ℕ
  pub trail : IsTrail inst turns opening changes
  pub prices : PriceList
  pub priced : IsPriced inst (end_of opening changes) prices
  pub given : Option (List ℕ)
  pub is_given : IsGiven inst (end_of opening changes) given
  pub searched : IsSearched risk_base risk_value inst (Some prices) given turns answer
  pub above_root : (b : ℤ) → answer.cert.bound ≡ Least b → root_worth inst prices ≤ℤ b

-- No plan was found, the bound is a number, the tree has as many splits as turns, and these aren't enough for all
-- plans. The end of the descent isn't feasible, and a box of several plans is left.
pub record IsNothing (inst : Tables) (turns : ℕ) (changes : List Change) (answer : TreeEnd) (bound : ℤ)
    (solved : IsSolved inst turns changes answer) : Type 0 where
  pub best : answer.best ≡ None
  pub bound_is : answer.cert.bound ≡ Least bound
  pub spent : split_count answer.cert.nodes ≡ turns
  pub too_few : AreEnough inst turns → ⊥
  pub end_infeasible : IsFeasible inst (map Some (end_of solved.opening changes)) → ⊥
  pub left : Any (IsUnfinishedLeaf risk_value inst (worth_by risk_base inst answer.cert.lists) None)
      (leaves (root_box inst) solved.searched.by.tree)

-- the bound is none, and no plan was found
pub record IsNone (answer : TreeEnd) : Type 0 where
  pub best : answer.best ≡ None
  pub bound_is : answer.cert.bound ≡ NoPlan
