-- What a buffer holds. Not part of any promise: only private functions cite it.
use Rattle.std.specs.Prelude.{ℕ, List, drop}
use Rattle.json_events.specs.declared.unread.Unread.{Unread}

-- the bytes that are not used yet
abbrev pub unread_of : Unread → List ℕ
unread_of u = drop u.used u.bytes.items
