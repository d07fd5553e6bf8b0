-- What a rehearsal makes of an instance: a descent from the opening plan, and a certificate by a search from its end.
--
-- Scores, worths and bounds are in parts of 10^-18, violations in counts of 10^-12.
use Rattle.std.specs.Prelude.{◌≡◌, ℕ, pos, ◌↔◌, List, length, map, Option, Some, None}
use Rattle.instance_model.specs.Tables.{Tables}
use Rattle.instance_model.specs.Rules.{IsFeasible}
use Rattle.plan_moves.specs.declared.change.Change.{Change}
use Rattle.lagrange_bound.specs.Goals.{risk_base, risk_value}
use Rattle.certificate_tree.specs.Validity.{IsValid}
use Rattle.branch_search.specs.declared.tree_end.TreeEnd.{TreeEnd}
use Rattle.branch_search.specs.Searched.{IsSearched}
use Rattle.command_answers.specs.Check.{BoundsEveryPlan}
use Rattle.local_search.specs.Descents.{plan_key}
use Rattle.local_search.specs.Ends.{end_of, IsTrail}
use Rattle.branch_search.specs.Given.{IsGiven}
use Rattle.branch_search.specs.Splits.{split_count}
use Rattle.command_rehearse.specs.declared.summary.Summary.{Summary}

-- the turns of the descent, and those of the search
abbrev pub rehearsed_turns : ℕ
rehearsed_turns = 40

-- A search without a price list that is given the end of the descent where that is feasible: its answer has the
-- certificate. This is valid, so every plan that keeps the rules has a score of at least its bound, and where the bound
-- is none, no plan keeps them.
pub record IsBounded (inst : Tables) (end : List ℕ) (answer : TreeEnd) : Type 0 where
  pub given : Option (List ℕ)
  pub is_given : IsGiven inst end given
  pub searched : IsSearched risk_base risk_value inst None given rehearsed_turns answer
  pub valid : IsValid risk_base risk_value inst answer.cert
  pub bounds : BoundsEveryPlan inst answer.cert.bound

-- A rehearsal of an instance, and what its summary says of it.
pub record IsRehearsed (inst : Tables) (summary : Summary) : Type 0 where
  -- the opening plan, which gives each intervention its least allowed start, and the changes of a descent from it: each
  -- leads to a neighbour of strictly lower key, and there are 40, or no neighbour of the last plan has a lower key
  pub opening : List ℕ
  pub changes : List Change
  pub trail : IsTrail inst rehearsed_turns opening changes
  -- a search from the last plan, which it is given where its violation is 0
  pub answer : TreeEnd
  pub bounded : IsBounded inst (end_of opening changes) answer
  pub given_at_zero : (summary.descent.violation ≡ pos 0) ↔ IsFeasible inst (map Some (end_of opening changes))
  -- the summary has the keys of the opening plan, of the last plan, and of the opening plan again after all changes
  -- were undone, each from scratch, and the number of changes
  pub opening_is : summary.opening ≡ plan_key inst opening
  pub descent_is : summary.descent ≡ plan_key inst (end_of opening changes)
  pub undone_is : summary.undone ≡ plan_key inst opening
  pub moves_are : summary.moves ≡ length changes
  -- and the bound and the number of splits of the certificate
  pub bound_is : summary.bound ≡ answer.cert.bound
  pub splits_are : summary.splits ≡ split_count answer.cert.nodes
  -- and of the instance how many interventions it has, and how many numbers were changed by rounding
  pub interventions_are : summary.interventions ≡ length inst.names
  pub rounded_are : summary.rounded ≡ inst.rounded
