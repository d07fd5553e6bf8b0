-- What is left of a text on a way through its lines. No public clause cites this.
use Rattle.std.specs.Prelude.{ℕ, List}

-- what is left of a text, and how many lines were read
pub record Left : Type 0 where
  pub rest : List ℕ
  pub count : ℕ
