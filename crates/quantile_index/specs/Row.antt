-- Bounds on the steps of a row.
use Rattle.std.specs.Prelude.{ℕ, ◌≤◌}

-- a bound that does not fall as rows grow
abbrev pub Grows : (ℕ → ℕ) → Type 0
Grows bound = (m n : ℕ) → m ≤ n → bound m ≤ bound n
