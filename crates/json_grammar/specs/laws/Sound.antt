-- What the events of a text hold: number tokens, and texts in UTF-8. Not part of
-- any promise: only private functions cite it.
use Rattle.std.specs.Prelude.{List, [], ◌∷◌}
use Rattle.std.specs.Str.{IsUtf8}
use Rattle.json_grammar.specs.Tree.{Event, begin, finish, key}
use Rattle.json_grammar.specs.Grammar.{IsNumber}

abbrev pub IsSoundEvent : Event → Type 0
IsSoundEvent (begin at o) = Unit {0}
IsSoundEvent (finish at) = Unit {0}
IsSoundEvent (key at end x) = IsUtf8 x
IsSoundEvent (Event.null at) = Unit {0}
IsSoundEvent (Event.boolean at b) = Unit {0}
IsSoundEvent (Event.number at s) = IsNumber s
IsSoundEvent (Event.text at end x) = IsUtf8 x

abbrev pub AreSound : List Event → Type 0
AreSound [] = Unit {0}
AreSound (e ∷ es) = IsSoundEvent e × AreSound es
