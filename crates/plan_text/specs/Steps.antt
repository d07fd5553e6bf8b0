-- What reading one line changes, and what is known after some lines. No public clause cites this.
use Rattle.std.specs.Prelude.{◌≡◌, ◌⊎◌, ℕ, ◌<◌, ◌≤◌, List, [], Option, Some, None, length, take, slice_index_or}
use Rattle.std.specs.Prelude.{slice_set}
use Rattle.plan_text.specs.declared.fault.PlanFault.{PlanFault}
use Rattle.plan_text.specs.declared.fault.PlanFault.TheVariants.{BadLine, UnknownName, Twice, Memory}
use Rattle.plan_text.specs.Spelling.{AreBlanks, Gives, HasStarts, start_at}
use Rattle.plan_text.specs.FirstFault.{IsBadLine, HasUnknownName, AreFaultless}

-- the line gives name i a start
pub record GivesAt (names : List (List ℕ)) (line : List ℕ) (i start : ℕ) : Type 0 where
  pub place : i < length names
  pub gives : Gives line (slice_index_or names i []) start

-- the line gives a start to a name that has none
pub record SetsStart (names : List (List ℕ)) (line : List ℕ) (old new : List (Option ℕ)) : Type 0 where
  pub i : ℕ
  pub start : ℕ
  pub given : GivesAt names line i start
  pub free : start_at old i ≡ None
  pub set : new ≡ slice_set old i (Some start)

-- the line is blank and changes nothing, or gives a start
abbrev pub Enters : List (List ℕ) → List ℕ → List (Option ℕ) → List (Option ℕ) → Type 0
Enters names line old new = (AreBlanks line × (new ≡ old)) ⊎ SetsStart names line old new

-- the line gives a start to a name that has one
pub record IsTaken (names : List (List ℕ)) (line : List ℕ) (old : List (Option ℕ)) : Type 0 where
  pub i : ℕ
  pub start : ℕ
  pub given : GivesAt names line i start
  pub had : ℕ
  pub taken : start_at old i ≡ Some had

-- why line n is refused
abbrev pub Refuses : List (List ℕ) → List ℕ → List (Option ℕ) → ℕ → PlanFault → Type 0
Refuses names line old n (BadLine m) = (m ≡ n) × IsBadLine line
Refuses names line old n (UnknownName m) = (m ≡ n) × HasUnknownName names line
Refuses names line old n (Twice m) = (m ≡ n) × IsTaken names line old
Refuses names line old n Memory = ⊥

-- the first n lines have no fault, and gave these starts
pub record HasRead (names lines : List (List ℕ)) (n : ℕ) (plan : List (Option ℕ)) : Type 0 where
  pub within : n ≤ length lines
  pub faultless : AreFaultless names lines n
  pub starts : HasStarts names (take n lines) plan
