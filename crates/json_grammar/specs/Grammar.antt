-- JSON text (RFC 8259), as a relation by cases between bytes and a tree. The number is the offset of the first byte.
-- The names are those of the standard's rules. There is no limit of depth.
use Rattle.std.specs.Prelude.{◌≢◌, ℕ, suc, ◌+◌, ◌-◌, ◌*◌, ◌≤◌, ◌<◌, ◌⊎◌, List, [], ◌∷◌, ◌++◌, length, Bool, true, false}
use Rattle.std.specs.Char.{digit_value, encode_utf8}
use Rattle.json_grammar.specs.Tree.{Tree, tree, Node, Trees, no_trees, and_tree, Members, no_members, and_member}

-- section 2: space, tab, line feed, carriage return
pub data IsBlank : ℕ → Type 0 where
  tab : IsBlank 9
  line_feed : IsBlank 10
  carriage_return : IsBlank 13
  space : IsBlank 32

pub data AreBlanks : List ℕ → Type 0 where
  none : AreBlanks []
  more : {b : ℕ} {bs : List ℕ} → IsBlank b → AreBlanks bs → AreBlanks (b ∷ bs)

-- section 6: an ASCII digit
pub record IsDigit (b : ℕ) : Type 0 where
  pub low : 48 ≤ b
  pub high : b ≤ 57

pub data AreDigits : List ℕ → Type 0 where
  none : AreDigits []
  more : {b : ℕ} {bs : List ℕ} → IsDigit b → AreDigits bs → AreDigits (b ∷ bs)

-- int: 0, or digits that do not begin with 0
pub data IsInt : List ℕ → Type 0 where
  zero : IsInt (48 ∷ [])
  nonzero : {d : ℕ} {ds : List ℕ} → d ≢ 48 → IsDigit d → AreDigits ds → IsInt (d ∷ ds)

-- [ frac ], and its digits
pub data IsFrac : List ℕ → List ℕ → Type 0 where
  none : IsFrac [] []
  digits : {d : ℕ} {ds : List ℕ} → IsDigit d → AreDigits ds → IsFrac (46 ∷ d ∷ ds) (d ∷ ds)

-- the letter e of an exponent
pub data IsExponentMark : ℕ → Type 0 where
  lower : IsExponentMark 101
  upper : IsExponentMark 69

-- the sign of an exponent, and whether it is minus
pub data IsSign : ℕ → Bool → Type 0 where
  minus : IsSign 45 true
  plus : IsSign 43 false

-- [ exp ], whether its sign is minus, and its digits
pub data IsExp : List ℕ → Bool → List ℕ → Type 0 where
  none : IsExp [] false []
  plain : {e d : ℕ} {ds : List ℕ} → IsExponentMark e → IsDigit d → AreDigits ds → IsExp (e ∷ d ∷ ds) false (d ∷ ds)
  signed : {e s d : ℕ} {ds : List ℕ} {below : Bool} → IsExponentMark e → IsSign s below → IsDigit d → AreDigits ds
      → IsExp (e ∷ s ∷ d ∷ ds) below (d ∷ ds)

-- what a number token consists of: its sign, the digits before and behind its point, and its exponent's sign and digits
pub record Parts : Type 0 where
  pub negative : Bool
  pub whole : List ℕ
  pub fraction : List ℕ
  pub shrinks : Bool
  pub exponent : List ℕ

abbrev pub parts : Bool → List ℕ → List ℕ → Bool → List ℕ → Parts
parts negative whole fraction shrinks exponent =
    record { negative = negative; whole = whole; fraction = fraction; shrinks = shrinks; exponent = exponent }

-- number = [ minus ] int [ frac ] [ exp ]
pub data HasParts : List ℕ → Parts → Type 0 where
  positive : {w f e ds xs : List ℕ} {below : Bool} → IsInt w → IsFrac f ds → IsExp e below xs
      → HasParts (w ++ (f ++ e)) (parts false w ds below xs)
  negative : {w f e ds xs : List ℕ} {below : Bool} → IsInt w → IsFrac f ds → IsExp e below xs
      → HasParts (45 ∷ (w ++ (f ++ e))) (parts true w ds below xs)

-- the bytes are a number token
abbrev pub IsNumber : List ℕ → Type 0
IsNumber bytes = (p : Parts) × HasParts bytes p

-- section 7, and UTF-8 as in RFC 3629, section 4

-- an unescaped character of one byte
pub record IsPlain (b : ℕ) : Type 0 where
  pub low : 32 ≤ b
  pub high : b ≤ 127
  pub no_quote : b ≢ 34
  pub no_backslash : b ≢ 92

-- a byte of a range
pub record Between (least most b : ℕ) : Type 0 where
  pub low : least ≤ b
  pub high : b ≤ most

-- UTF8-tail
abbrev pub IsUtf8Tail : ℕ → Type 0
IsUtf8Tail = Between 0x80 0xbf

-- what a backslash and the byte stand for
pub data IsShortEscape : ℕ → ℕ → Type 0 where
  quote : IsShortEscape 34 34
  backslash : IsShortEscape 92 92
  slash : IsShortEscape 47 47
  backspace : IsShortEscape 98 8
  form_feed : IsShortEscape 102 12
  line_feed : IsShortEscape 110 10
  carriage_return : IsShortEscape 114 13
  tab : IsShortEscape 116 9

-- HEXDIG, in both cases
pub record IsHex (b : ℕ) : Type 0 where
  pub below : digit_value b < 16

-- 4HEXDIG, and their number
pub data AreFourHexDigits : List ℕ → ℕ → Type 0 where
  unit : {a b c d : ℕ} → IsHex a → IsHex b → IsHex c → IsHex d
      → AreFourHexDigits (a ∷ b ∷ c ∷ d ∷ [])
      (((digit_value a * 16 + digit_value b) * 16 + digit_value c) * 16 + digit_value d)

-- the bytes of one character in a string, and its UTF-8
pub data IsCharacter : List ℕ → List ℕ → Type 0 where
  plain : {b : ℕ} → IsPlain b → IsCharacter (b ∷ []) (b ∷ [])
  two : {a b : ℕ} → Between 0xc2 0xdf a → IsUtf8Tail b → IsCharacter (a ∷ b ∷ []) (a ∷ b ∷ [])
  three_e0 : {b c : ℕ} → Between 0xa0 0xbf b → IsUtf8Tail c → IsCharacter (0xe0 ∷ b ∷ c ∷ []) (0xe0 ∷ b ∷ c ∷ [])
  three : {a b c : ℕ} → Between 0xe1 0xef a → a ≢ 0xed → IsUtf8Tail b → IsUtf8Tail c
      → IsCharacter (a ∷ b ∷ c ∷ []) (a ∷ b ∷ c ∷ [])
  three_ed : {b c : ℕ} → Between 0x80 0x9f b → IsUtf8Tail c → IsCharacter (0xed ∷ b ∷ c ∷ []) (0xed ∷ b ∷ c ∷ [])
  four_f0 : {b c d : ℕ} → Between 0x90 0xbf b → IsUtf8Tail c → IsUtf8Tail d
      → IsCharacter (0xf0 ∷ b ∷ c ∷ d ∷ []) (0xf0 ∷ b ∷ c ∷ d ∷ [])
  four : {a b c d : ℕ} → Between 0xf1 0xf3 a → IsUtf8Tail b → IsUtf8Tail c → IsUtf8Tail d
      → IsCharacter (a ∷ b ∷ c ∷ d ∷ []) (a ∷ b ∷ c ∷ d ∷ [])
  four_f4 : {b c d : ℕ} → Between 0x80 0x8f b → IsUtf8Tail c → IsUtf8Tail d
      → IsCharacter (0xf4 ∷ b ∷ c ∷ d ∷ []) (0xf4 ∷ b ∷ c ∷ d ∷ [])
  escape : {b c : ℕ} → IsShortEscape b c → IsCharacter (92 ∷ b ∷ []) (c ∷ [])
  unit : {digits : List ℕ} {u : ℕ} → AreFourHexDigits digits u → (u < 0xd800) ⊎ (0xe000 ≤ u)
      → IsCharacter (92 ∷ 117 ∷ digits) (encode_utf8 u)
  pair : {digits more : List ℕ} {high low : ℕ} → AreFourHexDigits digits high → Between 0xd800 0xdbff high
      → AreFourHexDigits more low → Between 0xdc00 0xdfff low
      → IsCharacter (92 ∷ 117 ∷ (digits ++ (92 ∷ 117 ∷ more)))
      (encode_utf8 (0x10000 + (high - 0xd800) * 0x400 + (low - 0xdc00)))

-- the bytes between the quotes, and the text
pub data AreCharacters : List ℕ → List ℕ → Type 0 where
  none : AreCharacters [] []
  next : {c x cs text : List ℕ} → IsCharacter c x → AreCharacters cs text → AreCharacters (c ++ cs) (x ++ text)

-- string: quotation-mark *char quotation-mark, and its text
pub data IsString : List ℕ → List ℕ → Type 0 where
  quoted : {bs text : List ℕ} → AreCharacters bs text → IsString (34 ∷ (bs ++ 34 ∷ [])) text

mutual
  -- value, with the offsets of its first byte and after its last
  pub data IsValue : ℕ → List ℕ → Tree → Type 0 where
    value : {k : ℕ} {v : List ℕ} {n : Node} → IsNode k v n → IsValue k v (tree k (k + length v) n)

  -- sections 3 to 7: what kinds of values there are
  pub data IsNode : ℕ → List ℕ → Node → Type 0 where
    null : {k : ℕ} → IsNode k (110 ∷ 117 ∷ 108 ∷ 108 ∷ []) Node.null
    yes : {k : ℕ} → IsNode k (116 ∷ 114 ∷ 117 ∷ 101 ∷ []) (Node.boolean true)
    no : {k : ℕ} → IsNode k (102 ∷ 97 ∷ 108 ∷ 115 ∷ 101 ∷ []) (Node.boolean false)
    number : {k : ℕ} {s : List ℕ} → IsNumber s → IsNode k s (Node.number s)
    text : {k : ℕ} {s t : List ℕ} → IsString s t → IsNode k s (Node.text t)
    empty_list : {k : ℕ} {ws : List ℕ} → AreBlanks ws → IsNode k (91 ∷ (ws ++ 93 ∷ [])) (Node.list no_trees)
    list : {k : ℕ} {e m : List ℕ} {t : Tree} {ts : Trees} → IsElement (suc k) e t → IsMoreTrees (suc k + length e) m ts
        → IsNode k (91 ∷ (e ++ (m ++ 93 ∷ []))) (Node.list (and_tree t ts))
    empty_object : {k : ℕ} {ws : List ℕ} → AreBlanks ws → IsNode k (123 ∷ (ws ++ 125 ∷ [])) (Node.object no_members)
    object : {k at end : ℕ} {e m key : List ℕ} {t : Tree} {ms : Members} → IsMember (suc k) e at end key t
        → IsMoreMembers (suc k + length e) m ms
        → IsNode k (123 ∷ (e ++ (m ++ 125 ∷ []))) (Node.object (and_member at end key t ms))

  -- a value with blanks round it
  pub data IsElement : ℕ → List ℕ → Tree → Type 0 where
    element : {k : ℕ} {before v after : List ℕ} {t : Tree} → AreBlanks before → IsValue (k + length before) v t
        → AreBlanks after → IsElement k (before ++ (v ++ after)) t

  -- the elements from the second on, each with its comma
  pub data IsMoreTrees : ℕ → List ℕ → Trees → Type 0 where
    no_more : {k : ℕ} → IsMoreTrees k [] no_trees
    more : {k : ℕ} {e m : List ℕ} {t : Tree} {ts : Trees} → IsElement (suc k) e t → IsMoreTrees (suc k + length e) m ts
        → IsMoreTrees k (44 ∷ (e ++ m)) (and_tree t ts)

  -- member: string name-separator value, with the offsets of its opening quote and after its closing one
  pub data IsMember : ℕ → List ℕ → ℕ → ℕ → List ℕ → Tree → Type 0 where
    member : {k : ℕ} {before s between e text : List ℕ} {t : Tree} → AreBlanks before → IsString s text
        → AreBlanks between → IsElement (suc (k + length before + length s + length between)) e t
        → IsMember k (before ++ (s ++ (between ++ 58 ∷ e))) (k + length before) (k + length before + length s) text t

  -- the members from the second on, each with its comma
  pub data IsMoreMembers : ℕ → List ℕ → Members → Type 0 where
    no_more_members : {k : ℕ} → IsMoreMembers k [] no_members
    more_members : {k at end : ℕ} {e m key : List ℕ} {t : Tree} {ms : Members} → IsMember (suc k) e at end key t
        → IsMoreMembers (suc k + length e) m ms → IsMoreMembers k (44 ∷ (e ++ m)) (and_member at end key t ms)

-- JSON-text = ws value ws
abbrev pub IsText : List ℕ → Tree → Type 0
IsText bytes t = IsElement 0 bytes t
