-- Numbers that are told by their counts. Not part of any promise: only private functions cite it.
use Rattle.std.specs.Prelude.{◌≡◌, ℕ, ◌+◌, ◌≤◌, ◌<◌, ◌⊎◌, ℤ, List, [], ◌∷◌, ◌++◌, length, take, drop, get_or, Bool}
use Rattle.std.specs.Prelude.{map, not, true, false, Some}
use Rattle.std.specs.List.{prefix_len}
use Rattle.std.specs.Simd.Lanes.{mask_l}
use Rattle.decimal_numbers.specs.Decimal.{number_from}
use Rattle.decimal_numbers.specs.Exact.{fixed}
use Rattle.json_machine.specs.NumberRuns.{BeginsNumber}
use Rattle.json_events.specs.Readings.{HasTold}
use Rattle.json_grammar.specs.Tree as json
use Rattle.json_grammar.specs.laws.Machine.{Phase, is_blank}
use Rattle.json_grammar.specs.Token.{digit_count}
use Rattle.json_grammar.specs.Bytes.{is_digit}
use Rattle.json_machine.specs.declared.machine.Machine.{Machine}
use Rattle.json_events.specs.declared.unread.Unread.{Unread}

-- the first bytes, so many, are digits, and behind those of the number in front they write the value
pub record WritesDigits (front : ℕ) (bytes : List ℕ) (count value : ℕ) : Type 0 where
  pub within : count ≤ length bytes
  pub digits : count ≤ digit_count bytes
  pub value_is : value ≡ number_from front (take count bytes)

-- the first bytes, so many and at most 7, are the digits of a number before its point, and write the value
pub record IsWhole (bytes : List ℕ) (count value : ℕ) : Type 0 where
  pub writes : WritesDigits 0 bytes count value
  pub some : 0 < count
  pub few : count ≤ 7
  pub zero : get_or bytes 0 0 ≡ 48 → count ≡ 1
  pub within : count < length bytes
  pub point : get_or bytes count 0 ≡ 46

-- the first bytes, so many, are a number with a comma or a closing bracket behind it, whose value is exactly the count
-- of 10^-12
pub record IsEndedRun (bytes : List ℕ) (size : ℕ) (count : ℤ) : Type 0 where
  pub to : Phase
  pub begins : BeginsNumber bytes size to
  pub within : size < length bytes
  pub end : (get_or bytes size 0 ≡ 44) ⊎ (get_or bytes size 0 ≡ 93)
  pub exact : fixed (take size bytes) ≡ Some (count, false)

-- the first bytes, so many, are a number with a comma behind it, whose value is exactly the count of 10^-12
pub record IsCountedRun (bytes : List ℕ) (size : ℕ) (count : ℤ) : Type 0 where
  pub to : Phase
  pub begins : BeginsNumber bytes size to
  pub within : size < length bytes
  pub comma : get_or bytes size 0 ≡ 44
  pub exact : fixed (take size bytes) ≡ Some (count, false)

-- a bit for each of the first 16 bytes: 1 where the byte isn't a digit
abbrev pub other_mask : List ℕ → ℕ
other_mask bytes = mask_l (map (λ b. not (is_digit b)) (take 16 bytes))

-- the first bytes, so many, are blanks, a number whose value is exactly the count of 10^-12, and the comma behind it
pub record IsCountedItem (bytes : List ℕ) (used : ℕ) (count : ℤ) : Type 0 where
  pub blanks : ℕ
  pub size : ℕ
  pub skips : blanks ≡ prefix_len is_blank bytes
  pub run : IsCountedRun (drop blanks bytes) size count
  pub all : used ≡ blanks + size + 1

-- the first bytes, so many, are such items, one behind another, and these are their counts
pub data AreCountedRuns : List ℕ → List ℤ → ℕ → Type 0 where
  none : {bytes : List ℕ} → AreCountedRuns bytes [] 0
  more : {bytes : List ℕ} {counts : List ℤ} {used next : ℕ} {count : ℤ} → AreCountedRuns bytes counts used
      → IsCountedItem (drop used bytes) next count → AreCountedRuns bytes (counts ++ count ∷ []) (used + next)

-- the event is a number, whose value is exactly the count of 10^-12
pub record IsCounted (event : json.Event) (count : ℤ) : Type 0 where
  pub at : ℕ
  pub token : List ℕ
  pub is_number : event ≡ json.Event.number at token
  pub exact : fixed token ≡ Some (count, false)

-- each event is such a number with the count in its place
abbrev pub AreCounted : List json.Event → List ℤ → Type 0
AreCounted [] [] = Unit {0}
AreCounted (e ∷ es) (c ∷ cs) = IsCounted e c × AreCounted es cs
AreCounted [] (c ∷ cs) = ⊥
AreCounted (e ∷ es) [] = ⊥

-- the event of a bracket, where it closes what is open
abbrev pub finishes : Bool → ℕ → List json.Event
finishes true at = json.finish at ∷ []
finishes false at = []

-- a number at the place, whose value is exactly the count, was told, and these events behind it, from one
-- state of the machine and the buffer to another
pub record TellsCount (at : ℕ) (count : ℤ) (more : List json.Event) (old : Machine) (before : Unread) (new : Machine)
    (behind : Unread) : Type 0 where
  pub token : List ℕ
  pub exact : fixed token ≡ Some (count, false)
  pub tells : (stream : List ℕ) (told : List json.Event) → HasTold old before stream told
      → HasTold new behind stream (told ++ json.Event.number at token ∷ more)

-- numbers, one behind another, whose values are exactly the counts, were told, from one
-- state of the machine and the buffer to another
pub record TellsCounts (counts : List ℤ) (old : Machine) (before : Unread) (new : Machine)
    (behind : Unread) : Type 0 where
  pub events : List json.Event
  pub counted : AreCounted events counts
  pub tells : (stream : List ℕ) (told : List json.Event) → HasTold old before stream told
      → HasTold new behind stream (told ++ events)
