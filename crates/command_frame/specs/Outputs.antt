-- What a command that writes one file leaves of all files, and what it says where the text is too long.
--
-- `old` and `new` are what the desk shows before and after a run.
use Rattle.std.specs.Prelude.{◌≡◌, ◌≢◌, ℕ, List, [], ◌∷◌, Option, option_map, codes}
use Rattle.plan_desk.specs.Desk.{Shown}
use Rattle.command_frame.specs.Lines.{numbered_line}
use Rattle.command_frame.specs.Ending.{IsOneOf}

-- the text of the file of this word is too long
abbrev pub long_output_line : ℕ → List ℕ
long_output_line word = numbered_line (codes "refused output too long ") word

-- what the file of this name holds, where that is told
abbrev pub holding : Shown → List ℕ → Option (Option (List ℕ))
holding s name = option_map (λ holds. holds name) s.output.holds

-- every file but this one holds what it held
abbrev pub KeepsAllBut : List ℕ → (old new : Shown) → Type 0
KeepsAllBut out old new = (name : List ℕ) → name ≢ out → holding new name ≡ holding old name

-- the statuses with which the file is opened: it was written, or its writing or what is said then failed
abbrev pub Opens : ℕ → Type 0
Opens status = IsOneOf (0 ∷ 8 ∷ []) status

-- those where a plan is searched for: the other files are also written where none was found, or where there is none
abbrev pub OpensSearched : ℕ → Type 0
OpensSearched status = IsOneOf (0 ∷ 8 ∷ 9 ∷ 10 ∷ []) status
