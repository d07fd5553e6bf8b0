-- What a search is made over. Cited by private functions only: no part of any promise.
use Rattle.std.specs.Prelude.{ℕ, ◌-◌, ◌<ℤ◌, ◌≤◌, ◌≡◌, List, [], length, Option, Some, None}
use Rattle.instance_model.specs.Tables.{Tables}
use Rattle.lagrange_bound.specs.declared.span.Span.{Span}
use Rattle.lagrange_bound.specs.Goals.{PlanValue}
use Rattle.lagrange_bound.specs.Tabulated.{PriceRows}
use Rattle.certificate_lines.specs.declared.line.Bound.{Bound}
use Rattle.certificate_tree.specs.declared.node.Node.{Node}
use Rattle.certificate_tree.specs.Holding.{Worths}
use Rattle.certificate_tree.specs.Validity.{Claim}
use Rattle.certificate_tree.specs.PriceTables.{table_worths}
use Rattle.branch_search.specs.Splits.{split_count}

-- a goal's values, an instance, the worths of boxes by list 0 and so many others, the nodes of the tree that the search
-- goes on from, and the plan handed in, or none
pub record Task : Type 0 where
  pub value : PlanValue
  pub inst : Tables
  pub lists : ℕ
  pub worths : Worths
  pub given : List Node
  pub incumbent : Option (List ℕ)

-- how many splits the tree had at first
abbrev pub splits_before : Task → ℕ
splits_before task = split_count task.given

-- what the tree claimed at first, with a bound
abbrev pub given_claim : Task → Bound → Claim
given_claim task bound =
    record { bound = bound; lists = task.lists; worths = task.worths; nodes = task.given }

-- no worth of a box is at least the value of the plan handed in
abbrev pub IsBelowGiven : Task → List Span → Type 0
IsBelowGiven task box = (j : ℕ) (plan : List ℕ) → j ≤ task.lists → task.incumbent ≡ Some plan
    → task.worths box j <ℤ task.value task.inst plan

-- that of a search by tables
abbrev pub task_of : PlanValue → Tables → List PriceRows → List Node → Option (List ℕ) → Task
task_of value inst tables given incumbent =
    record {
      value = value;
      inst = inst;
      lists = length tables - 1;
      worths = table_worths tables;
      given = given;
      incumbent = incumbent;
    }

-- that of one box, where neither a tree nor a plan handed in is spoken of
abbrev pub free_task : PlanValue → Tables → List PriceRows → Task
free_task value inst tables = task_of value inst tables [] None

-- the same without these
abbrev pub freed : Task → Task
freed task = record task { given = []; incumbent = None }
