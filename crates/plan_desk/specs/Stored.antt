-- A file in memory.
use Rattle.std.specs.Prelude.{ℕ, Bool, List}

-- its name, its bytes, and whether it was put out by the desk or only put there
pub record Stored : Type 0 where
  pub name : List ℕ
  pub bytes : List ℕ
  pub put_out : Bool
