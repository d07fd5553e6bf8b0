-- How many turns are enough.
use Rattle.std.specs.Prelude.{ℕ, ◌+◌, ◌≤◌, length}
use Rattle.instance_model.specs.Naturals.{count_product}
use Rattle.instance_model.specs.Tables.{Tables, tmax}

-- turns for a tree of single plans
abbrev pub AreEnough : Tables → ℕ → Type 0
AreEnough inst turns = count_product (length inst.names) (tmax inst) ≤ turns + 1
