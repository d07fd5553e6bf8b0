-- Laws of texts.
use Rattle.std.specs.Prelude.{ℕ, List}
use Rattle.plan_moves.specs.declared.script_line.ScriptLine.{ScriptLine}
use Rattle.move_script.specs.declared.fault.ScriptFault.{ScriptFault}
use Rattle.move_script.specs.Spelling.{IsScript}
use Rattle.move_script.specs.FirstFault.{HasScriptFault}

-- a text spells a script, or has a first fault: it can't be without both
abbrev pub TextsAreTold : Type 0
TextsAreTold = (names : List (List ℕ)) (text : List ℕ)
    → ((script : List ScriptLine) → IsScript names text script → ⊥)
    → ((fault : ScriptFault) → HasScriptFault names text fault → ⊥)
    → ⊥
