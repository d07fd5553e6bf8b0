-- A list of starts, and what is kept of its broken exclusions.
use Rattle.std.specs.Prelude.{◌≡◌, ℕ, ◌<◌, Bool, false, List, [], length, map, Some, slice_index_or}
use Rattle.instance_model.specs.Tables.{Tables}
use Rattle.instance_model.specs.Plans.{AreAllowedStarts}
use Rattle.instance_model.specs.Keys.{clash_count}
use Rattle.season_exclusion.specs.Broken.{is_broken, naming_of}

-- starts by intervention, whether each exclusion is broken, how many are, and which exclusions name each intervention
pub record KeptClashes : Type 0 where
  pub starts : List ℕ
  pub broken : List Bool
  pub count : ℕ
  pub named : List (List ℕ)

-- the starts are allowed in this instance, and what is kept of its exclusions is so for these starts
pub record IsOver (inst : Tables) (v : KeptClashes) : Type 0 where
  pub starts : AreAllowedStarts inst v.starts
  pub each : length v.broken ≡ length inst.exclusion_names
  pub broken : (e : ℕ) → e < length inst.exclusion_names → slice_index_or v.broken e false ≡ is_broken inst v.starts e
  pub count : v.count ≡ clash_count inst (map Some v.starts)
  pub named_each : length v.named ≡ length inst.names
  pub named : (i : ℕ) → i < length inst.names → slice_index_or v.named i [] ≡ naming_of inst i
