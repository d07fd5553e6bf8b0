-- The event of a text that a value of Rust's type stands for, and the offset after an event's last byte.
use Rattle.std.specs.Prelude.{ℕ, ◌+◌, length, true, false}
use Rattle.json_grammar.specs.Tree as json
use Rattle.json_grammar.specs.declared.event.Event.{Event}
use Rattle.json_grammar.specs.declared.event.Event.TheVariants.{Begin, Finish, Key, Null, Bool as Boolean, Num, Text}

abbrev pub event_view : Event → json.Event
event_view (Begin at o) = json.begin at o
event_view (Finish at) = json.finish at
event_view (Key at end x) = json.key at end x
event_view (Null at) = json.Event.null at
event_view (Boolean at b) = json.Event.boolean at b
event_view (Num at s) = json.Event.number at s
event_view (Text at end x) = json.Event.text at end x

-- the offset of an event's first byte
abbrev pub event_at : json.Event → ℕ
event_at (json.begin at o) = at
event_at (json.finish at) = at
event_at (json.key at end x) = at
event_at (json.Event.null at) = at
event_at (json.Event.boolean at b) = at
event_at (json.Event.number at s) = at
event_at (json.Event.text at end x) = at

-- the offset after its last byte: a bracket, a brace, the last letter of a word, the last digit, a closing quote
abbrev pub event_end : json.Event → ℕ
event_end (json.begin at o) = at + 1
event_end (json.finish at) = at + 1
event_end (json.key at end x) = end
event_end (json.Event.null at) = at + 4
event_end (json.Event.boolean at true) = at + 4
event_end (json.Event.boolean at false) = at + 5
event_end (json.Event.number at s) = at + length s
event_end (json.Event.text at end x) = end
