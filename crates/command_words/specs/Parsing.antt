-- What a parser of words owes, whatever the commands of its program are.
use Rattle.std.specs.Prelude.{◌≡◌, Option, Some, None}

-- An answer is the command that the grammar has for the words, and one that can run; without an answer the grammar has
-- none. `view` is an answer as the grammar has it.
abbrev pub Parses : {Words Command : Type 0} → (view : Words → Command) → (CanRun : Command → Type 0)
    → (grammar : Option Command) → (answer : Option Words) → Type 0
Parses view CanRun grammar None = grammar ≡ None
Parses view CanRun grammar (Some asked) = (grammar ≡ Some (view asked)) × CanRun (view asked)

-- what is made of two things, where both are there
abbrev pub of_both : {A B C : Type 0} → (A → B → C) → Option A → Option B → Option C
of_both make (Some a) (Some b) = Some (make a b)
of_both make a b = None
