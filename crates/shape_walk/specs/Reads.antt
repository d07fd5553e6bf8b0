-- Defines what is read of an event at its spot.
use Rattle.std.specs.Prelude.{ℕ, ℤ, Bool, List, Option, Some, None, cond}
use Rattle.json_grammar.specs.Tree.{Node, Event, begin, finish, key}
use Rattle.decimal_numbers.specs.Exact.{fixed, whole, millionths}
use Rattle.instance_shape.specs.declared.spot.Spot.{Spot}
use Rattle.instance_shape.specs.declared.spot.Spot.TheVariants.{Skipped}
use Rattle.instance_shape.specs.declared.spot.Kind.{Kind}
use Rattle.instance_shape.specs.declared.spot.Kind.TheVariants as kind
use Rattle.instance_shape.specs.Keys.{is_digits, number_of}
use Rattle.instance_shape.specs.Shape.{kind_of}
use Rattle.shape_walk.specs.declared.taken.Taken.{Taken}
use Rattle.shape_walk.specs.declared.taken.Read.{Read}
use Rattle.shape_walk.specs.declared.taken.Read.TheVariants.{Count, Whole, Millionths, Nothing}

abbrev pub count_read : Option (ℤ × Bool) → Read
count_read None = Nothing
count_read (Some f) = Count f.0 f.1

abbrev pub whole_read : Option ℕ → Read
whole_read None = Nothing
whole_read (Some n) = Whole n

abbrev pub millionths_read : Option ℕ → Read
millionths_read None = Nothing
millionths_read (Some n) = Millionths n

-- of a number: its count, its whole number or its millionths, by what has to stand there
abbrev pub read_of_number : Kind → List ℕ → Read
read_of_number kind.Count x = count_read (fixed x)
read_of_number kind.Whole x = whole_read (whole (Node.number x))
read_of_number kind.Quantile x = millionths_read (millionths x)
read_of_number kind.Alpha x = millionths_read (millionths x)
read_of_number _ x = Nothing

-- of a text: its whole number, where one has to stand
abbrev pub read_of_text : Kind → List ℕ → Read
read_of_text kind.Whole x = whole_read (whole (Node.text x))
read_of_text _ x = Nothing

-- of a key: its period or start
abbrev pub read_of_key : Kind → List ℕ → Read
read_of_key kind.Numbers k = cond (is_digits k) (Whole (number_of k)) Nothing
read_of_key _ k = Nothing

-- of an event at its spot
abbrev pub read_of : Spot → Event → Read
read_of s (begin at object) = Nothing
read_of s (finish at) = Nothing
read_of s (key at end k) = read_of_key (kind_of s) k
read_of s (Event.null at) = Nothing
read_of s (Event.boolean at b) = Nothing
read_of s (Event.number at x) = read_of_number (kind_of s) x
read_of s (Event.text at end x) = read_of_text (kind_of s) x

-- what is told of an event behind a fault
abbrev pub nothing_taken : Taken
nothing_taken = record { spot = Skipped; read = Nothing }
