-- The reader as a machine that takes one byte after another. Not part of any promise: only private functions cite it.
use Rattle.std.specs.Prelude.{◌≡◌, ℕ, zero, suc, ◌+◌, ◌-◌, ◌*◌, List, [], ◌∷◌, ◌++◌, drop, Bool, true, false, cond, not}
use Rattle.std.specs.Prelude.{◌==◌, ◌&&◌, ◌||◌, nat_le, nat_lt, Option, Some, None}
use Rattle.std.specs.Char.{digit_value, encode_utf8}
use Rattle.json_grammar.specs.Tree.{Event, begin, finish, key}
pub use Rattle.json_grammar.specs.Bytes.{is_digit, is_mark}

-- where in a number
pub data Phase : Type 0 where
  minus : Phase
  lone_zero : Phase
  whole : Phase
  point : Phase
  fraction : Phase
  mark : Phase
  sign : Phase
  exponent : Phase

-- where in a string: between characters, before that many bytes of UTF-8 and one more, behind a byte
-- that narrows the next one, or in an escape
pub data Within : Type 0 where
  plain : Within
  tails : ℕ → Within
  after_e0 : Within
  after_ed : Within
  after_f0 : Within
  after_f4 : Within
  escape : Within
  unit1 : Within
  unit2 : ℕ → Within
  unit3 : ℕ → Within
  unit4 : ℕ → Within
  paired : ℕ → Within
  paired_escape : ℕ → Within
  low1 : ℕ → Within
  low2 : ℕ → Within
  low3 : ℕ → ℕ → Within
  low4 : ℕ → ℕ → Within

pub data Mode : Type 0 where
  want : Mode
  first : Mode
  first_key : Mode
  next_key : Mode
  colon : Mode
  after : Mode
  -- the next byte and those after it, and what to tell then
  literal : ℕ → List ℕ → Event → Mode
  number : (at : ℕ) → List ℕ → Phase → Mode
  string : (is_key : Bool) (at : ℕ) → List ℕ → Within → Mode

-- the open arrays (false) and objects (true), innermost first
pub record State : Type 0 where
  pub levels : List Bool
  pub mode : Mode

abbrev pub st : List Bool → Mode → State
st levels mode = record { levels = levels; mode = mode }

abbrev pub Move : Type 0
Move = Option (State × List Event)

abbrev pub go : List Bool → Mode → Move
go levels mode = Some (st levels mode, [])

abbrev pub tell : List Bool → Mode → Event → Move
tell levels mode event = Some (st levels mode, event ∷ [])

abbrev pub is_blank : ℕ → Bool
is_blank b = (b == 32) || ((b == 10) || ((b == 13) || (b == 9)))

abbrev pub is_plain : ℕ → Bool
is_plain b = (nat_le 32 b && nat_le b 127) && (not (b == 34) && not (b == 92))

unfoldable pub value_step : ℕ → List Bool → ℕ → Move
value_step k levels b =
    cond (b == 91) (tell (false ∷ levels) first (begin k false))
    (cond (b == 123) (tell (true ∷ levels) first_key (begin k true))
    (cond (b == 34) (go levels (string false k [] plain))
    (cond (b == 45) (go levels (number k (45 ∷ []) minus))
    (cond (b == 48) (go levels (number k (48 ∷ []) lone_zero))
    (cond (is_digit b) (go levels (number k (b ∷ []) whole))
    (cond (b == 110) (go levels (literal 117 (108 ∷ 108 ∷ []) (Event.null k)))
    (cond (b == 116) (go levels (literal 114 (117 ∷ 101 ∷ []) (Event.boolean k true)))
    (cond (b == 102) (go levels (literal 97 (108 ∷ 115 ∷ 101 ∷ []) (Event.boolean k false))) None))))))))

abbrev pub close : ℕ → List Bool → Move
close k levels = tell (drop 1 levels) after (finish k)

unfoldable pub after_step : ℕ → List Bool → ℕ → Move
after_step k [] b = cond (is_blank b) (go [] after) None
after_step k (false ∷ levels) b = cond (is_blank b) (go (false ∷ levels) after)
    (cond (b == 44) (go (false ∷ levels) want) (cond (b == 93) (close k (false ∷ levels)) None))
after_step k (true ∷ levels) b = cond (is_blank b) (go (true ∷ levels) after)
    (cond (b == 44) (go (true ∷ levels) next_key) (cond (b == 125) (close k (true ∷ levels)) None))

-- how a number goes on
unfoldable pub phase_step : Phase → ℕ → Option Phase
phase_step minus b = cond (b == 48) (Some lone_zero) (cond (is_digit b) (Some whole) None)
phase_step lone_zero b = cond (b == 46) (Some point) (cond (is_mark b) (Some mark) None)
phase_step whole b = cond (is_digit b) (Some whole) (cond (b == 46) (Some point) (cond (is_mark b) (Some mark) None))
phase_step point b = cond (is_digit b) (Some fraction) None
phase_step fraction b = cond (is_digit b) (Some fraction) (cond (is_mark b) (Some mark) None)
phase_step mark b = cond (is_digit b) (Some exponent) (cond ((b == 43) || (b == 45)) (Some sign) None)
phase_step sign b = cond (is_digit b) (Some exponent) None
phase_step exponent b = cond (is_digit b) (Some exponent) None

-- a number may end there
abbrev pub may_end : Phase → Bool
may_end minus = false
may_end lone_zero = true
may_end whole = true
may_end point = false
may_end fraction = true
may_end mark = false
may_end sign = false
may_end exponent = true

-- a digit does not change where in the number
abbrev pub is_within_digits : Phase → Bool
is_within_digits minus = false
is_within_digits lone_zero = false
is_within_digits whole = true
is_within_digits point = false
is_within_digits fraction = true
is_within_digits mark = false
is_within_digits sign = false
is_within_digits exponent = true

abbrev pub with_front : Event → Move → Move
with_front e None = None
with_front e (Some r) = Some (r.0, e ∷ r.1)

abbrev pub number_step : ℕ → List Bool → ℕ → List ℕ → Phase → ℕ → Option Phase → Move
number_step k levels at bytes phase b (Some next) = go levels (number at (bytes ++ b ∷ []) next)
number_step k levels at bytes phase b None =
    cond (may_end phase) (with_front (Event.number at bytes) (after_step k levels b)) None

abbrev pub literal_step : List Bool → List ℕ → Event → Move
literal_step levels [] e = tell levels after e
literal_step levels (b ∷ bs) e = go levels (literal b bs e)

-- where in the string, and the bytes that come to the text
abbrev pub Inside : Type 0
Inside = Option (Within × List ℕ)

abbrev pub is_tail : ℕ → Bool
is_tail b = nat_le 0x80 b && nat_le b 0xbf

abbrev pub between : ℕ → ℕ → ℕ → Bool
between low high b = nat_le low b && nat_le b high

abbrev pub is_hex : ℕ → Bool
is_hex b = nat_lt (digit_value b) 16

abbrev pub short_escape : ℕ → Option ℕ
short_escape b =
    cond ((b == 34) || ((b == 92) || (b == 47))) (Some b)
    (cond (b == 98) (Some 8)
    (cond (b == 102) (Some 12)
    (cond (b == 110) (Some 10) (cond (b == 114) (Some 13) (cond (b == 116) (Some 9) None)))))

abbrev pub escaped : ℕ → Option ℕ → Inside
escaped b (Some c) = Some (plain, c ∷ [])
escaped b None = cond (b == 117) (Some (unit1, [])) None

abbrev pub unit_end : ℕ → Inside
unit_end u = cond (between 0xd800 0xdbff u) (Some (paired u, [])) (Some (plain, encode_utf8 u))

unfoldable pub inside_step : Within → ℕ → Inside
inside_step plain b =
    cond (is_plain b) (Some (plain, b ∷ []))
    (cond (b == 92) (Some (escape, []))
    (cond (between 0xc2 0xdf b) (Some (tails 0, b ∷ []))
    (cond (b == 0xe0) (Some (after_e0, b ∷ []))
    (cond (b == 0xed) (Some (after_ed, b ∷ []))
    (cond (between 0xe1 0xef b) (Some (tails 1, b ∷ []))
    (cond (b == 0xf0) (Some (after_f0, b ∷ []))
    (cond (between 0xf1 0xf3 b) (Some (tails 2, b ∷ []))
    (cond (b == 0xf4) (Some (after_f4, b ∷ [])) None))))))))
inside_step (tails zero) b = cond (is_tail b) (Some (plain, b ∷ [])) None
inside_step (tails (suc n)) b = cond (is_tail b) (Some (tails n, b ∷ [])) None
inside_step after_e0 b = cond (between 0xa0 0xbf b) (Some (tails 0, b ∷ [])) None
inside_step after_ed b = cond (between 0x80 0x9f b) (Some (tails 0, b ∷ [])) None
inside_step after_f0 b = cond (between 0x90 0xbf b) (Some (tails 1, b ∷ [])) None
inside_step after_f4 b = cond (between 0x80 0x8f b) (Some (tails 1, b ∷ [])) None
inside_step escape b = escaped b (short_escape b)
inside_step unit1 b = cond (is_hex b) (Some (unit2 (digit_value b), [])) None
inside_step (unit2 v) b = cond (is_hex b)
    (cond (between 0xdc 0xdf (v * 16 + digit_value b)) None (Some (unit3 (v * 16 + digit_value b), []))) None
inside_step (unit3 v) b = cond (is_hex b) (Some (unit4 (v * 16 + digit_value b), [])) None
inside_step (unit4 v) b = cond (is_hex b) (unit_end (v * 16 + digit_value b)) None
inside_step (paired u) b = cond (b == 92) (Some (paired_escape u, [])) None
inside_step (paired_escape u) b = cond (b == 117) (Some (low1 u, [])) None
inside_step (low1 u) b = cond (digit_value b == 13) (Some (low2 u, [])) None
inside_step (low2 u) b = cond (between 12 15 (digit_value b)) (Some (low3 u (13 * 16 + digit_value b), [])) None
inside_step (low3 u v) b = cond (is_hex b) (Some (low4 u (v * 16 + digit_value b), [])) None
inside_step (low4 u v) b = cond (is_hex b)
    (Some (plain, encode_utf8 (0x10000 + (u - 0xd800) * 0x400 + (v * 16 + digit_value b - 0xdc00)))) None

-- a string may end there
abbrev pub may_close : Within → Bool
may_close plain = true
may_close _ = false

abbrev pub after_string : Bool → Mode
after_string true = colon
after_string false = after

abbrev pub string_event : Bool → ℕ → ℕ → List ℕ → Event
string_event true at end text = key at end text
string_event false at end text = Event.text at end text

abbrev pub inside_move : List Bool → Bool → ℕ → List ℕ → Inside → Move
inside_move levels is_key at text None = None
inside_move levels is_key at text (Some r) = go levels (string is_key at (text ++ r.1) r.0)

unfoldable pub step : ℕ → List Bool → Mode → ℕ → Move
step k levels want b = cond (is_blank b) (go levels want) (value_step k levels b)
step k levels first b = cond (is_blank b) (go levels first) (cond (b == 93) (close k levels) (value_step k levels b))
step k levels first_key b = cond (is_blank b) (go levels first_key)
    (cond (b == 125) (close k levels) (cond (b == 34) (go levels (string true k [] plain)) None))
step k levels next_key b =
    cond (is_blank b) (go levels next_key) (cond (b == 34) (go levels (string true k [] plain)) None)
step k levels colon b = cond (is_blank b) (go levels colon) (cond (b == 58) (go levels want) None)
step k levels after b = after_step k levels b
step k levels (literal c rest e) b = cond (b == c) (literal_step levels rest e) None
step k levels (number at bytes phase) b = number_step k levels at bytes phase b (phase_step phase b)
step k levels (string is_key at text within) b =
    cond (may_close within && (b == 34)) (tell levels (after_string is_key) (string_event is_key at (suc k) text))
    (inside_move levels is_key at text (inside_step within b))

-- what is told at the end of the bytes, where they may end
unfoldable pub ending : List Bool → Mode → Option (List Event)
ending [] after = Some []
ending [] (number at bytes phase) = cond (may_end phase) (Some (Event.number at bytes ∷ [])) None
ending [] want = None
ending [] first = None
ending [] first_key = None
ending [] next_key = None
ending [] colon = None
ending [] (literal c rest e) = None
ending [] (string is_key at text within) = None
ending (l ∷ levels) mode = None

-- from this state the bytes, from the offset on, are a whole text, and these are told
pub data Reads : ℕ → State → List ℕ → List Event → Type 0 where
  ends : {k : ℕ} {levels : List Bool} {mode : Mode} {es : List Event} → ending levels mode ≡ Some es
      → Reads k (record { levels = levels; mode = mode }) [] es
  then : {k b : ℕ} {levels : List Bool} {mode : Mode} {s : State} {bs : List ℕ} {es fs : List Event}
      → step k levels mode b ≡ Some (s, es) → Reads (suc k) s bs fs
      → Reads k (record { levels = levels; mode = mode }) (b ∷ bs) (es ++ fs)

abbrev pub run_on : List Event → Option (State × List Event) → Option (State × List Event)
run_on es None = None
run_on es (Some r) = Some (r.0, es ++ r.1)

-- the state behind the bytes, and what is told on the way
abbrev pub run_then : (State → Option (State × List Event)) → Move → Option (State × List Event)
run_then f None = None
run_then f (Some r) = run_on r.1 (f r.0)

abbrev pub run : ℕ → State → List ℕ → Option (State × List Event)
run k s [] = Some (s, [])
run k s (b ∷ bs) = run_then (λ t. run (suc k) t bs) (step k s.levels s.mode b)
