-- The keys that an open object has had, as they are kept. Not part of any promise: only private functions cite it.
use Rattle.std.specs.Prelude.{Bool, true, false, not, ◌||◌, List, []}
use Rattle.instance_shape.specs.declared.spot.Kind.{Kind}
use Rattle.instance_shape.specs.declared.spot.Kind.TheVariants as kind
use Rattle.instance_shape.specs.Keys.{Key}
use Rattle.instance_shape.specs.Seen.{texts_of, numbers_of}
use Rattle.instance_shape.specs.ShapeFaults.{takes_numbers}
use Rattle.shape_walk.specs.declared.seen.Seen.{Seen}
use Rattle.shape_walk.specs.declared.seen.Seen.TheVariants.{Texts, Numbers, Nothing}

-- the keys that an object has had
abbrev pub seen_of : Seen → List Key
seen_of (Texts s) = texts_of s.added.keys
seen_of (Numbers s) = numbers_of s
seen_of Nothing = []

-- the keys of an object of a kind count by their texts
abbrev pub counts_by_text : Kind → Bool
counts_by_text kind.Record = true
counts_by_text kind.Names = true
counts_by_text _ = false

-- the keys are kept as those of an object of a kind count
abbrev pub suits : Seen → Kind → Bool
suits (Texts s) kd = counts_by_text kd
suits (Numbers s) kd = takes_numbers kd
suits Nothing kd = not (counts_by_text kd || takes_numbers kd)
