-- What a run gives where its files are read and no fault rose.
--
-- `old` and `new` are what the desk shows before and after a run.
use Rattle.std.specs.Prelude.{ℕ, List, ◌∷◌}
use Rattle.plan_desk.specs.Desk.{Shown}
use Rattle.command_frame.specs.Ending.{Answer, IsOneOf, IsAnswered}

-- The status is one of these, or 11. It is that of an answer, or of want of memory, whose files were written, and whose
-- text was said.
pub record Completes (statuses : List ℕ) (Answers : Answer → Type 0) (old new : Shown) (status : ℕ) : Type 0 where
  pub one_of : IsOneOf (11 ∷ statuses) status
  pub answered : IsAnswered Answers old new status
