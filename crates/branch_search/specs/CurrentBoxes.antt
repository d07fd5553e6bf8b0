-- The current box, as it is kept. Cited by private functions only: no part of any promise.
use Rattle.std.specs.Prelude.{◌≡◌, ℕ, List, Option}
use Rattle.instance_model.specs.Tables.{Tables}
use Rattle.lagrange_bound.specs.declared.span.Span.{Span}
use Rattle.certificate_tree.specs.Trees.{IsSplit}
use Rattle.branch_search.specs.node_state.KeptLoads.{IsOver}
use Rattle.branch_search.specs.node_state.Exclusions.{index_of}
use Rattle.branch_search.specs.declared.splitting.current_box.CurrentBox.{CurrentBox}
use Rattle.branch_search.specs.declared.splitting.settling.Parts.{Parts}
use Rattle.branch_search.specs.Tasks.{Task}
use Rattle.branch_search.specs.Settled.{ArePartsOf}

-- what is kept of the box is right
pub record IsCurrentBox (inst : Tables) (current : CurrentBox) : Type 0 where
  pub over : IsOver inst current.boxes
  pub index : current.index ≡ index_of inst

-- a split of a box, and the leaves of its parts; the best plan may have become better
pub record IsPartedBy (task : Task) (box : List Span) (old new : Option (List ℕ)) (parts : Parts) : Type 0 where
  pub split : IsSplit box parts.i parts.last
  pub leaves : ArePartsOf task box parts.i parts.last old new parts.left parts.right
