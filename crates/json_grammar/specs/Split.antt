-- The parts of a token that the code keeps as slices. Not part of any promise: only private functions cite it.
use Rattle.std.specs.Prelude.{ℕ, List, Bool}
use Rattle.json_grammar.specs.Grammar as grammar
use Rattle.json_grammar.specs.declared.token.Parts.{Parts}
use Rattle.json_grammar.specs.declared.token.Fraction.{Fraction}
use Rattle.json_grammar.specs.declared.token.Exponent.{Exponent}

abbrev pub parts_view : Parts → grammar.Parts
parts_view p = grammar.parts p.negative p.whole.now p.fraction.now p.shrinks p.exponent.now

abbrev pub fraction_view : Fraction → List ℕ × List ℕ
fraction_view f = (f.digits.now, f.rest.now)

abbrev pub exponent_view : Exponent → Bool × List ℕ
exponent_view e = (e.shrinks, e.digits.now)
