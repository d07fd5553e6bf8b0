-- Which exclusions hold on a box, and which may hold once one interval has changed.
use Rattle.std.specs.Prelude.{◌≡◌, ℕ, ◌<◌, false, List, length, slice_set, map}
use Rattle.std.specs.List.{range_with_len}
use Rattle.instance_model.specs.Tables.{Tables, exclusion_of}
use Rattle.lagrange_bound.specs.declared.span.Span.{Span}
use Rattle.certificate_tree.specs.Holding.{ExclHolds}
use Rattle.season_exclusion.specs.Broken.{is_named, naming_of}

-- the exclusions that name each intervention
abbrev pub index_of : Tables → List (List ℕ)
index_of inst = map (naming_of inst) (range_with_len 0 (length inst.names))

-- the exclusion is one of the instance, and holds on the box
pub record IsHoldingExclusion (inst : Tables) (box : List Span) (e : ℕ) : Type 0 where
  pub number : e < length inst.exclusion_names
  pub holds : ExclHolds inst box e

-- no exclusion holds on the box
abbrev pub NoExclusionHolds : Tables → List Span → Type 0
NoExclusionHolds inst box = (e : ℕ) → e < length inst.exclusion_names → ¬ ExclHolds inst box e

-- no exclusion that doesn't name intervention i holds on the box
abbrev pub NoOtherHolds : Tables → List Span → ℕ → Type 0
NoOtherHolds inst box i =
    (e : ℕ) → e < length inst.exclusion_names → is_named (exclusion_of inst e) i ≡ false → ¬ ExclHolds inst box e

-- an exclusion that doesn't name intervention i holds after a change of its interval if and only if it did before
abbrev pub OthersAreKept : Type 0
OthersAreKept =
    (inst : Tables) (box : List Span) (i : ℕ) (span : Span) (e : ℕ) → is_named (exclusion_of inst e) i ≡ false
    → (ExclHolds inst box e → ExclHolds inst (slice_set box i span) e)
    × (ExclHolds inst (slice_set box i span) e → ExclHolds inst box e)

-- where no exclusion held, none that doesn't name intervention i holds after a change of its interval
abbrev pub NoOthersArise : Type 0
NoOthersArise = (inst : Tables) (box : List Span) (i : ℕ) (span : Span) → NoExclusionHolds inst box
    → NoOtherHolds inst (slice_set box i span) i
