-- What the tests of a refined price list tell of its parts.
use Rattle.std.specs.Prelude.{◌≡◌, ℕ, List, Option, Some}
use Rattle.instance_model.specs.Tables.{Tables, scenarios_of, rank_of}
use Rattle.refined_prices.specs.declared.group_tail.GroupTail.{GroupTail}
use Rattle.refined_prices.specs.Groups.{IsGroupTail}
use Rattle.refined_prices.specs.Offsets.{group_tail_at}

-- the tail of period t, where it has one, is in range
abbrev pub IsTailAt : Tables → List (Option GroupTail) → ℕ → Type 0
IsTailAt inst tails t =
    (tail : GroupTail) → group_tail_at tails t ≡ Some tail → IsGroupTail (scenarios_of inst t) (rank_of inst t) tail
