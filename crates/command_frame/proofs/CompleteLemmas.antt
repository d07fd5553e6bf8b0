-- A run that has an answer of its command has one of the statuses of these answers.
use Rattle.std.proofs.Common.{ℕ, inl, inr, List, ◌∷◌, refl, sym, subst}
use Rattle.plan_desk.specs.Desk.{Shown}
use Rattle.command_frame.specs.Ending.{Answer, OrMemory, IsOneOf, IsAnswered}
use Rattle.command_frame.specs.Ending.OrMemory.{answers, no_memory}
use Rattle.command_frame.specs.Completing.{Completes}

-- the answers to the bytes of the files are the command's own, whose statuses are these
pub completes : (statuses : List ℕ) (Due Own : Answer → Type 0) (old new : Shown) (status : ℕ)
    → ((a : Answer) → Due a → Own a) → ((a : Answer) → Own a → IsOneOf statuses a.status)
    → IsAnswered Due old new status → Completes statuses Own old new status
completes statuses Due Own old new status own one answered =
    record {
      one_of = subst (IsOneOf (11 ∷ statuses)) (sym answered.status_is) (status_of answered.answer answered.answers);
      answered = record {
        answer = answered.answer;
        answers = own_or_memory answered.answer answered.answers;
        status_is = answered.status_is;
        writes = answered.writes;
        says = answered.says;
      };
    }
  where
    status_of : (a : Answer) → OrMemory Due a → IsOneOf (11 ∷ statuses) a.status
    status_of a (answers b is) = inr (one b (own b is))
    status_of a no_memory = inl refl

    own_or_memory : (a : Answer) → OrMemory Due a → OrMemory Own a
    own_or_memory a (answers b is) = answers b (own b is)
    own_or_memory a no_memory = no_memory
