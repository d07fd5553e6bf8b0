-- Which fault a text has that spells no plan: that of its first line with one. Lines count from 1, and blank lines
-- count too.
use Rattle.std.specs.Prelude.{◌≡◌, ◌⊎◌, ℕ, ◌-◌, ◌<◌, ◌≤◌, List, [], length, take, Any, Contains, slice_index_or, Result}
use Rattle.std.specs.Prelude.{Err}
use Rattle.plan_text.specs.declared.fault.PlanFault.{PlanFault}
use Rattle.plan_text.specs.declared.fault.PlanFault.TheVariants.{BadLine, UnknownName, Twice, Memory}
use Rattle.plan_text.specs.Spelling.{lines_of, AreBlanks, Names}

-- one of the lines names the name
abbrev pub IsNamedIn : List (List ℕ) → List ℕ → Type 0
IsNamedIn lines name = Any (λ line. Names line name) lines

-- the line is neither blank nor a name and a start
pub record IsBadLine (line : List ℕ) : Type 0 where
  pub not_blank : AreBlanks line → ⊥
  pub gives_nothing : (name : List ℕ) → Names line name → ⊥

-- the line names what is none of the names
pub record HasUnknownName (names : List (List ℕ)) (line : List ℕ) : Type 0 where
  pub name : List ℕ
  pub named : Names line name
  pub unknown : Contains names name → ⊥

-- the line names one of the names, as an earlier line does
pub record IsRepeated (names earlier : List (List ℕ)) (line : List ℕ) : Type 0 where
  pub name : List ℕ
  pub named : Names line name
  pub known : Contains names name
  pub before : IsNamedIn earlier name

-- the line names one of the names, and no earlier line does
pub record IsNew (names earlier : List (List ℕ)) (line : List ℕ) : Type 0 where
  pub name : List ℕ
  pub named : Names line name
  pub known : Contains names name
  pub first : IsNamedIn earlier name → ⊥

-- the line has no fault, after these earlier ones
abbrev pub IsFaultless : List (List ℕ) → List (List ℕ) → List ℕ → Type 0
IsFaultless names earlier line = AreBlanks line ⊎ IsNew names earlier line

-- the first n lines have no fault
abbrev pub AreFaultless : List (List ℕ) → List (List ℕ) → ℕ → Type 0
AreFaultless names lines n = (k : ℕ) → k < n → IsFaultless names (take k lines) (slice_index_or lines k [])

-- line n is the first with a fault, and the fault is such: it is told by the earlier lines and the line
pub record IsFirstAt (names lines : List (List ℕ)) (n : ℕ) (Fails : List (List ℕ) → List ℕ → Type 0) : Type 0 where
  pub some : 0 < n
  pub within : n ≤ length lines
  pub before : AreFaultless names lines (n - 1)
  pub here : Fails (take (n - 1) lines) (slice_index_or lines (n - 1) [])

-- the fault is that of the first line that has one. Want of memory is no fault of a text.
abbrev pub HasPlanFault : List (List ℕ) → List ℕ → PlanFault → Type 0
HasPlanFault names text (BadLine n) = IsFirstAt names (lines_of text) n (λ earlier line. IsBadLine line)
HasPlanFault names text (UnknownName n) = IsFirstAt names (lines_of text) n (λ earlier line. HasUnknownName names line)
HasPlanFault names text (Twice n) = IsFirstAt names (lines_of text) n (λ earlier line. IsRepeated names earlier line)
HasPlanFault names text Memory = ⊥

-- the answer, or that memory ran out
abbrev pub Answers : {T : Type 0} → Result T PlanFault → Result T PlanFault → Type 0
Answers result answer = (result ≡ answer) ⊎ (result ≡ Err Memory)
