-- Defines the events of numbers that are exactly counts, the spot of each of them, and what is read of it.
use Rattle.std.specs.Prelude.{◌≡◌, ℤ, List, [], ◌∷◌, ◌++◌, false, Some}
use Rattle.json_grammar.specs.Tree.{Event}
use Rattle.decimal_numbers.specs.Exact.{fixed}
use Rattle.instance_shape.specs.declared.spot.Spot.{Spot}
use Rattle.shape_walk.specs.declared.taken.Read.TheVariants.{Count}
use Rattle.shape_walk.specs.Kept.{spot_after}
use Rattle.shape_walk.specs.Reads.{read_of}

-- the event is a number, and its value is exactly the count of 10^-12
abbrev pub HasCount : Event → ℤ → Type 0
HasCount (Event.number at token) c = fixed token ≡ Some (c, false)
HasCount _ c = ⊥

-- the events are numbers, and their values are exactly these counts
abbrev pub HaveCounts : List Event → List ℤ → Type 0
HaveCounts [] [] = Unit {0}
HaveCounts [] (c ∷ cs) = ⊥
HaveCounts (e ∷ es) [] = ⊥
HaveCounts (e ∷ es) (c ∷ cs) = HasCount e c × HaveCounts es cs

-- each of some events stands at the spot, behind the events before them and those of them that come earlier
abbrev pub StandAt : Spot → (before es : List Event) → Type 0
StandAt s before [] = Unit {0}
StandAt s before (e ∷ es) = (s ≡ spot_after before e) × StandAt s (before ++ e ∷ []) es

-- each of the events is read at the spot as its count
abbrev pub AreReadAs : Spot → List Event → List ℤ → Type 0
AreReadAs s [] [] = Unit {0}
AreReadAs s [] (c ∷ cs) = ⊥
AreReadAs s (e ∷ es) [] = ⊥
AreReadAs s (e ∷ es) (c ∷ cs) = (read_of s e ≡ Count c false) × AreReadAs s es cs
