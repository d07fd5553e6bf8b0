use Rattle.std.proofs.Common.{◌≡◌, ◌<◌, ◌++◌, length}
use Rattle.std.specs.List.{All, AllPairs}
use Rattle.certificate_lines.specs.Spelling.{words, IsNumber}
use Rattle.certificate_lines.specs.Steps.{IsBreak}
use Rattle.certificate_lines.proofs.places.places_of.Given as goal

abbrev pub invariant-loop-rest : goal.invariant-loop-rest
invariant-loop-rest l = record {
  read : l.fn.text ≡ words l.places.items ++ l.rest;
  small : All IsNumber l.places.items;
  ascending : AllPairs (λ j k. j < k) l.places.items;
  then : IsBreak l.rest;
}

abbrev pub decreases-loop-rest : goal.decreases-loop-rest
decreases-loop-rest l = length l.rest
