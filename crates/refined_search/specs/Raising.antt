-- A certificate by refined price lists that is made, or gone on with: this is the statement.
--
-- Worths, values and bounds are in parts of 10^-18.
use Rattle.std.specs.Prelude.{◌≡◌, ◌⊎◌, ◌^◌, ℕ, ◌+◌, ◌≤◌, ℤ, pos, List, [], ◌∷◌, length, Option, Some, None, IsTrue}
use Rattle.std.specs.Int.{int_min}
use Rattle.std.specs.Bool.{OnFalse}
use Rattle.instance_model.specs.Naturals.{count_product}
use Rattle.instance_model.specs.Tables.{Tables, tmax}
use Rattle.lagrange_bound.specs.Goals.{risk_value}
use Rattle.certificate_lines.specs.declared.line.Bound.{Bound}
use Rattle.certificate_lines.specs.declared.line.Bound.TheVariants.{NoPlan, Least}
use Rattle.certificate_tree.specs.declared.node.Node.TheVariants.{Cost}
use Rattle.certificate_tree.specs.Trees.{Tree, root_box}
use Rattle.certificate_tree.specs.Holding.{Worths}
use Rattle.certificate_tree.specs.Validity.{BoundsPlans}
use Rattle.branch_search.specs.declared.part.Part.{Part}
use Rattle.branch_search.specs.declared.search_end.SearchEnd.{SearchEnd}
use Rattle.branch_search.specs.Best.{Reaches, bound_of}
use Rattle.branch_search.specs.Splits.{split_count}
use Rattle.branch_search.specs.Parts.{IsLeftToOthers, IsGoneOnBy}
use Rattle.band_rebound.specs.declared.rebounded.ReboundTree.{ReboundTree}
use Rattle.band_rebound.specs.Rebinding.{IsNoLower}
use Rattle.band_rebound.specs.Rebounds.{IsReboundBy}
use Rattle.refined_check.specs.declared.certificate.certificate.RefinedCertificate.{RefinedCertificate}
use Rattle.refined_check.specs.certificate.Ranges.{IsRefinedInRange}
use Rattle.refined_check.specs.Worths.{refined_worths}
use Rattle.refined_check.specs.Validity.{IsRefinedValid}
use Rattle.refined_search.specs.declared.raised.Raised.{Raised}
use Rattle.refined_search.specs.Lists.{lists_of, most_added, AreListsFor}

-- the greatest number that a bound may be
abbrev pub most_bound : ℤ
most_bound = pos (10 ^ 36)

-- a bound, cut to that number
abbrev pub within_range : Bound → Bound
within_range NoPlan = NoPlan
within_range (Least b) = Least (int_min b most_bound)

-- the tree that the search goes on from, by the worths of boxes by list 0 and so many others: one `cost` leaf over all
-- starts, or what the tree of the certificate becomes by these worths, with the leaves that stayed and those that
-- became others
abbrev pub BeginsWith : Tables → ℕ → Worths → Option RefinedCertificate → ReboundTree → Type 0
BeginsWith inst lists worths None begun = (begun.nodes ≡ Cost 0 ∷ []) × (begun.kept ≡ 0) × (begun.changed ≡ 0)
BeginsWith inst lists worths (Some cert) begun = IsReboundBy inst lists worths cert.nodes begun

-- what is left of the tree that the search went on from, as it is at last, is left to other parts: no leaf that stands
-- where it had a leaf of this part may have a better plan than the best one
abbrev pub LeavesToOthers : Tables → Raised → Part → (given tree : Tree) → Type 0
LeavesToOthers inst answer part given tree =
    IsLeftToOthers risk_value inst (refined_worths inst answer.cert.lists) answer.best part given tree

-- the answer to a feasible plan or none and a certificate in range or none, with so many turns for the leaves of a part
-- of its tree, and so many further lists at most
pub record IsRaised (inst : Tables) (incumbent : Option (List ℕ)) (cert : Option RefinedCertificate) (turns : ℕ)
    (part : Part) (most : ℕ) (answer : Raised) : Type 0 where
  -- the new certificate is in range and valid, and bounds every feasible plan
  pub in_range : IsRefinedInRange inst answer.cert
  pub valid : IsRefinedValid inst answer.cert
  pub bounds : BoundsPlans risk_value inst answer.cert.bound
  -- its lists: the old ones, and more behind them
  pub lists : AreListsFor inst incumbent (lists_of cert) turns (most_added cert part most) answer.cert.lists
  -- the tree that the search went on from, by the worths of these lists, and what it came to
  pub begun : ReboundTree
  pub begins : BeginsWith inst (length answer.cert.lists) (refined_worths inst answer.cert.lists) cert begun
  pub ended : SearchEnd
  pub gone_on : IsGoneOnBy risk_value inst (length answer.cert.lists) (refined_worths inst answer.cert.lists) incumbent
      begun.nodes part turns ended
  pub nodes : answer.cert.nodes ≡ ended.nodes
  pub best : answer.best ≡ ended.best
  pub unfinished : answer.unfinished ≡ ended.unfinished
  -- the bound is the least of the best plan's value and the worths of the `cost` leaves, cut to the greatest number
  -- that a bound may be
  pub bound : answer.cert.bound ≡ within_range ended.bound
  -- how many splits it has more than the tree that the search went on from, and how many leaves of the old tree stayed
  -- or became others
  pub splits : split_count answer.cert.nodes ≡ split_count begun.nodes + answer.splits
  pub kept : answer.kept ≡ begun.kept
  pub changed : answer.changed ≡ begun.changed
  pub leaves : (old : RefinedCertificate) → cert ≡ Some old
      → answer.kept + answer.changed + split_count old.nodes ≡ length old.nodes
  -- when the search stopped: after these turns, or at the value of the best plan, or where only what is left to other
  -- parts was left; with enough turns at one of these two
  pub few : answer.splits ≤ turns
  pub spent : IsTrue answer.unfinished
      → (answer.splits ≡ turns) ⊎ LeavesToOthers inst answer part gone_on.given gone_on.by.tree
  pub finished : OnFalse answer.unfinished (answer.cert.bound ≡ bound_of risk_value inst answer.best)
  pub enough : count_product (length inst.names) (tmax inst) ≤ turns + 1 → IsTrue answer.unfinished
      → LeavesToOthers inst answer part gone_on.given gone_on.by.tree
  -- the bound is none, or at least the worth of each list over all starts, as far as a bound may be that
  pub floor : (j : ℕ) → j ≤ length answer.cert.lists
      → Reaches answer.cert.bound (int_min (refined_worths inst answer.cert.lists (root_box inst) j) most_bound)
  -- where the old certificate is valid, the bound is no lower than that one's
  pub no_lower : (old : RefinedCertificate) → cert ≡ Some old → IsRefinedValid inst old
      → IsNoLower old.bound answer.cert.bound
