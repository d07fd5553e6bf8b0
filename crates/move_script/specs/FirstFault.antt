-- Which fault a text has that spells no script: that of its first line with one. Lines count from 1.
use Rattle.std.specs.Prelude.{◌≡◌, ◌≢◌, ◌⊎◌, ℕ, ◌-◌, ◌<◌, ◌≤◌, List, [], length, codes, Contains, slice_index_or}
use Rattle.std.specs.Prelude.{Result, Err}
use Rattle.text_lines.specs.Lines.{lines_of}
use Rattle.plan_moves.specs.declared.script_line.ScriptLine.{ScriptLine}
use Rattle.move_script.specs.declared.fault.ScriptFault.{ScriptFault}
use Rattle.move_script.specs.declared.fault.ScriptFault.TheVariants.{BadLine, UnknownName, Memory}
use Rattle.move_script.specs.Spelling.{MovesTo, Exchanges, Spells}

-- the line is a move or a swap that has the name
abbrev pub Names : List ℕ → List ℕ → Type 0
Names line name = ((start : ℕ) × MovesTo line name start)
    ⊎ ((other : List ℕ) × (Exchanges line name other ⊎ Exchanges line other name))

-- the line has none of the three forms
pub record IsBadLine (line : List ℕ) : Type 0 where
  pub no_move : (name : List ℕ) (start : ℕ) → MovesTo line name start → ⊥
  pub no_swap : (name other : List ℕ) → Exchanges line name other → ⊥
  pub no_undo : line ≢ codes "undo"

-- the line names what is none of the names
pub record HasUnknownName (names : List (List ℕ)) (line : List ℕ) : Type 0 where
  pub name : List ℕ
  pub named : Names line name
  pub unknown : Contains names name → ⊥

-- line n is the first that spells nothing over the names, and its fault is such
pub record IsFirstAt (names lines : List (List ℕ)) (n : ℕ) (Fails : List ℕ → Type 0) : Type 0 where
  pub some : 0 < n
  pub within : n ≤ length lines
  pub before : (k : ℕ) → k < n - 1 → (read : ScriptLine) × Spells names (slice_index_or lines k []) read
  pub here : Fails (slice_index_or lines (n - 1) [])

-- the fault is that of the first line that has one. Want of memory is no fault of a text.
abbrev pub HasScriptFault : List (List ℕ) → List ℕ → ScriptFault → Type 0
HasScriptFault names text (BadLine n) = IsFirstAt names (lines_of text) n IsBadLine
HasScriptFault names text (UnknownName n) = IsFirstAt names (lines_of text) n (HasUnknownName names)
HasScriptFault names text Memory = ⊥

-- the answer, or that memory ran out
abbrev pub Answers : {T : Type 0} → Result T ScriptFault → Result T ScriptFault → Type 0
Answers result answer = (result ≡ answer) ⊎ (result ≡ Err Memory)
