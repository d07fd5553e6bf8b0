-- The machine's words for Rust's values inside a token. Not part of any promise: only private functions cite it.
use Rattle.std.specs.Prelude.{ℕ, ◌≤◌, ◌<◌, ◌⊎◌, List, [], ◌∷◌, cond, Option, Some, None}
use Rattle.std.specs.Char.{encode_utf8, digit_value}
use Rattle.json_grammar.specs.laws.Machine as machine
use Rattle.json_machine.specs.declared.phase.Phase.{Phase}
use Rattle.json_machine.specs.declared.phase.Phase.TheVariants.{Minus, LoneZero, Whole, Point, Fraction, Mark, Sign}
use Rattle.json_machine.specs.declared.phase.Phase.TheVariants.{Exponent}
use Rattle.json_machine.specs.declared.within.Within.{Within}
use Rattle.json_machine.specs.declared.within.Within.TheVariants.{Plain, Tails, AfterE0, AfterEd, AfterF0, AfterF4}
use Rattle.json_machine.specs.declared.within.Within.TheVariants.{Escape, Unit1, Unit2, Unit3, Unit4, Paired}
use Rattle.json_machine.specs.declared.within.Within.TheVariants.{PairedEscape, Low1, Low2, Low3, Low4}
use Rattle.json_machine.specs.declared.within.Told.{Told}
use Rattle.json_machine.specs.declared.within.Told.TheVariants.{Nothing, Byte, Character}

abbrev pub phase_of : Phase → machine.Phase
phase_of Minus = machine.Phase.minus
phase_of LoneZero = machine.Phase.lone_zero
phase_of Whole = machine.Phase.whole
phase_of Point = machine.Phase.point
phase_of Fraction = machine.Phase.fraction
phase_of Mark = machine.Phase.mark
phase_of Sign = machine.Phase.sign
phase_of Exponent = machine.Phase.exponent

abbrev pub hex_of : ℕ → Option ℕ
hex_of b = cond (machine.is_hex b) (Some (digit_value b)) None

abbrev pub within_of : Within → machine.Within
within_of Plain = machine.Within.plain
within_of (Tails n) = machine.Within.tails n
within_of AfterE0 = machine.Within.after_e0
within_of AfterEd = machine.Within.after_ed
within_of AfterF0 = machine.Within.after_f0
within_of AfterF4 = machine.Within.after_f4
within_of Escape = machine.Within.escape
within_of Unit1 = machine.Within.unit1
within_of (Unit2 v) = machine.Within.unit2 v
within_of (Unit3 v) = machine.Within.unit3 v
within_of (Unit4 v) = machine.Within.unit4 v
within_of (Paired u) = machine.Within.paired u
within_of (PairedEscape u) = machine.Within.paired_escape u
within_of (Low1 u) = machine.Within.low1 u
within_of (Low2 u) = machine.Within.low2 u
within_of (Low3 u v) = machine.Within.low3 u v
within_of (Low4 u v) = machine.Within.low4 u v

abbrev pub bytes_of : Told → List ℕ
bytes_of Nothing = []
bytes_of (Byte b) = b ∷ []
bytes_of (Character c) = encode_utf8 c

abbrev pub moved : (Within × Told) → (machine.Within × List ℕ)
moved r = (within_of r.0, bytes_of r.1)

-- the numbers that come there
abbrev pub Holds : Within → Type 0
Holds Plain = Unit {0}
Holds (Tails n) = Unit {0}
Holds AfterE0 = Unit {0}
Holds AfterEd = Unit {0}
Holds AfterF0 = Unit {0}
Holds AfterF4 = Unit {0}
Holds Escape = Unit {0}
Holds Unit1 = Unit {0}
Holds (Unit2 v) = v < 16
Holds (Unit3 v) = (v < 256) × ((v < 0xdc) ⊎ (0xdf < v))
Holds (Unit4 v) = (v < 4096) × ((v < 0xdc0) ⊎ (0xdff < v))
Holds (Paired u) = (0xd800 ≤ u) × (u ≤ 0xdbff)
Holds (PairedEscape u) = (0xd800 ≤ u) × (u ≤ 0xdbff)
Holds (Low1 u) = (0xd800 ≤ u) × (u ≤ 0xdbff)
Holds (Low2 u) = (0xd800 ≤ u) × (u ≤ 0xdbff)
Holds (Low3 u v) = (0xd800 ≤ u) × (u ≤ 0xdbff) × (0xdc ≤ v) × (v ≤ 0xdf)
Holds (Low4 u v) = (0xd800 ≤ u) × (u ≤ 0xdbff) × (0xdc0 ≤ v) × (v ≤ 0xdff)
