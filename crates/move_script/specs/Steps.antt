-- Why one line is refused. No public clause cites this.
use Rattle.std.specs.Prelude.{◌≡◌, ℕ, List}
use Rattle.move_script.specs.declared.fault.ScriptFault.{ScriptFault}
use Rattle.move_script.specs.declared.fault.ScriptFault.TheVariants.{BadLine, UnknownName, Memory}
use Rattle.move_script.specs.FirstFault.{IsBadLine, HasUnknownName}

-- why line n is refused
abbrev pub Refuses : List (List ℕ) → List ℕ → ℕ → ScriptFault → Type 0
Refuses names line n (BadLine m) = (m ≡ n) × IsBadLine line
Refuses names line n (UnknownName m) = (m ≡ n) × HasUnknownName names line
Refuses names line n Memory = ⊥
