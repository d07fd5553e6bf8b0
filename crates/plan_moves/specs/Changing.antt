-- Changes that can be made from a plan, and the plan and the key after them.
use Rattle.std.specs.Prelude.{ℕ, ◌<◌, List, length, map, Some, IsTrue, slice_index, slice_set}
use Rattle.std.specs.List.{swap}
use Rattle.instance_model.specs.Tables.{Tables, is_allowed}
use Rattle.instance_model.specs.Keys.{key_of}
use Rattle.instance_model.specs.declared.key.Key.{Key}
use Rattle.plan_moves.specs.declared.change.Change.{Change}
use Rattle.plan_moves.specs.declared.change.Change.TheVariants.{Move, Swap}
use Rattle.plan_moves.specs.KeptPlans.{KeptPlans, present}

-- a change can be made from a plan: it names interventions of the instance,
-- and the starts that it gives them are allowed
abbrev pub CanChange : Tables → List ℕ → Change → Type 0
CanChange inst plan (Move i s) = (i < length inst.names) × IsTrue (is_allowed inst i s)
CanChange inst plan (Swap i j) =
    (i < length inst.names) × (j < length inst.names)
    × IsTrue (is_allowed inst i (slice_index plan j)) × IsTrue (is_allowed inst j (slice_index plan i))

-- the plan after a change
abbrev pub after_change : Change → List ℕ → List ℕ
after_change (Move i s) plan = slice_set plan i s
after_change (Swap i j) plan = swap plan i j

-- the key of the present plan after a change, from scratch
abbrev pub changed_key : KeptPlans → Change → Key
changed_key kept change = key_of kept.instance (map Some (after_change change (present kept.plans)))
