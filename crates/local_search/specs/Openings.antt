-- Where a descent sets out: the least allowed starts, or the first intervention that has none.
use Rattle.std.specs.Prelude.{ℕ, ◌<◌, length, IsTrue}
use Rattle.instance_model.specs.Tables.{Tables, is_allowed}
use Rattle.instance_model.specs.Keys.{IsOpening}
use Rattle.local_search.specs.declared.opening.Opening.{Opening}
use Rattle.local_search.specs.declared.opening.Opening.TheVariants.{From, Without}

-- intervention i is the first without an allowed start
pub record IsWithoutStart (inst : Tables) (i : ℕ) : Type 0 where
  pub number : i < length inst.names
  pub none : (s : ℕ) → IsTrue (is_allowed inst i s) → ⊥
  pub first : (j : ℕ) → j < i → (s : ℕ) × IsTrue (is_allowed inst j s)

-- the plan from which a descent sets out, or the first intervention without an allowed start
abbrev pub OpensAs : Tables → Opening → Type 0
OpensAs inst (From starts) = IsOpening inst starts
OpensAs inst (Without i) = IsWithoutStart inst i
