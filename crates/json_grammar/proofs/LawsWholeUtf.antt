-- A JSON text is UTF-8.
use Rattle.std.proofs.Common.{ℕ, ◌<◌, List, [], ◌∷◌, ◌++◌, Bool, arith}
use Rattle.std.proofs.lemmas.Bool.Decides.{nat_tests}
use Rattle.std.proofs.lemmas.Str.{IsUtf8-append, IsUtf8-nil}
use Rattle.std.specs.Str.{IsUtf8}
use Rattle.json_grammar.specs.Tree.{Tree, Node, Trees, Members}
use Rattle.json_grammar.specs.Grammar.{IsBlank, AreBlanks, IsDigit, AreDigits, IsInt, IsFrac, IsExp, IsExponentMark}
use Rattle.json_grammar.specs.Grammar.{IsSign, Parts, HasParts, IsNumber, IsShortEscape, IsHex, AreFourHexDigits, unit}
use Rattle.json_grammar.specs.Grammar.{IsCharacter, AreCharacters, IsString, quoted, IsValue, value, IsNode, IsElement}
use Rattle.json_grammar.specs.Grammar.{element, IsMoreTrees, no_more, more, IsMember, member, IsMoreMembers}
use Rattle.json_grammar.specs.Grammar.{no_more_members, more_members}
use Rattle.json_grammar.proofs.LawsUtf.{utf_one, utf_character}

-- an ASCII byte before UTF-8
ascii_then : (b : ℕ) {bs : List ℕ} → b < 128 → IsUtf8 bs → IsUtf8 (b ∷ bs)
ascii_then b {bs} h u = IsUtf8-append (b ∷ []) bs (utf_one b h) u

joined : {a b : List ℕ} → IsUtf8 a → IsUtf8 b → IsUtf8 (a ++ b)
joined {a} {b} h g = IsUtf8-append a b h g

-- ---- blanks and numbers

blank_ascii : {b : ℕ} → IsBlank b → b < 128
blank_ascii IsBlank.tab = omega arith
blank_ascii IsBlank.line_feed = omega arith
blank_ascii IsBlank.carriage_return = omega arith
blank_ascii IsBlank.space = omega arith

blanks_utf : {bs : List ℕ} → AreBlanks bs → IsUtf8 bs
blanks_utf AreBlanks.none = IsUtf8-nil
blanks_utf (AreBlanks.more {b = b} h hs) = ascii_then b (blank_ascii h) (blanks_utf hs)

digit_ascii : {b : ℕ} → IsDigit b → b < 128
digit_ascii h = let i = h.high in omega arith

digits_utf : {bs : List ℕ} → AreDigits bs → IsUtf8 bs
digits_utf AreDigits.none = IsUtf8-nil
digits_utf (AreDigits.more {b = b} h hs) = ascii_then b (digit_ascii h) (digits_utf hs)

int_utf : {bs : List ℕ} → IsInt bs → IsUtf8 bs
int_utf IsInt.zero = utf_one 48 (omega arith)
int_utf (IsInt.nonzero {d = d} n h hs) = ascii_then d (digit_ascii h) (digits_utf hs)

frac_utf : {bs ds : List ℕ} → IsFrac bs ds → IsUtf8 bs
frac_utf IsFrac.none = IsUtf8-nil
frac_utf (IsFrac.digits {d = d} h hs) = ascii_then 46 (omega arith) (ascii_then d (digit_ascii h) (digits_utf hs))

mark_ascii : {b : ℕ} → IsExponentMark b → b < 128
mark_ascii IsExponentMark.lower = omega arith
mark_ascii IsExponentMark.upper = omega arith

sign_ascii : {b : ℕ} {below : Bool} → IsSign b below → b < 128
sign_ascii IsSign.minus = omega arith
sign_ascii IsSign.plus = omega arith

exp_utf : {bs ds : List ℕ} {below : Bool} → IsExp bs below ds → IsUtf8 bs
exp_utf IsExp.none = IsUtf8-nil
exp_utf (IsExp.plain {e = e} {d = d} m h hs) =
    ascii_then e (mark_ascii m) (ascii_then d (digit_ascii h) (digits_utf hs))
exp_utf (IsExp.signed {e = e} {s = s} {d = d} m g h hs) =
    ascii_then e (mark_ascii m) (ascii_then s (sign_ascii g) (ascii_then d (digit_ascii h) (digits_utf hs)))

parts_utf : {bs : List ℕ} {p : Parts} → HasParts bs p → IsUtf8 bs
parts_utf (HasParts.positive w f e) = joined (int_utf w) (joined (frac_utf f) (exp_utf e))
parts_utf (HasParts.negative w f e) =
    ascii_then 45 (omega arith) (joined (int_utf w) (joined (frac_utf f) (exp_utf e)))

number_utf : {bs : List ℕ} → IsNumber bs → IsUtf8 bs
number_utf h = parts_utf h.1

-- ---- strings

escape_ascii : {b c : ℕ} → IsShortEscape b c → b < 128
escape_ascii IsShortEscape.quote = omega arith
escape_ascii IsShortEscape.backslash = omega arith
escape_ascii IsShortEscape.slash = omega arith
escape_ascii IsShortEscape.backspace = omega arith
escape_ascii IsShortEscape.form_feed = omega arith
escape_ascii IsShortEscape.line_feed = omega arith
escape_ascii IsShortEscape.carriage_return = omega arith
escape_ascii IsShortEscape.tab = omega arith

hex_ascii : {b : ℕ} → IsHex b → b < 128
hex_ascii h = let i = h.below in grind (arith, nat_tests)

hex_utf : {bs : List ℕ} {u : ℕ} → AreFourHexDigits bs u → IsUtf8 bs
hex_utf (unit {a} {b} {c} {d} ha hb hc hd) =
    ascii_then a (hex_ascii ha) (ascii_then b (hex_ascii hb) (ascii_then c (hex_ascii hc) (utf_one d (hex_ascii hd))))

-- the bytes of a character that stands for itself are its text, and an escape is ASCII
character_utf : {bs x : List ℕ} → IsCharacter bs x → IsUtf8 bs
character_utf (IsCharacter.escape {b = b} h) = ascii_then 92 (omega arith) (utf_one b (escape_ascii h))
character_utf (IsCharacter.unit h o) = ascii_then 92 (omega arith) (ascii_then 117 (omega arith) (hex_utf h))
character_utf (IsCharacter.pair h i g j) =
    ascii_then 92 (omega arith) (ascii_then 117 (omega arith)
    (joined (hex_utf h) (ascii_then 92 (omega arith) (ascii_then 117 (omega arith) (hex_utf g)))))
character_utf (IsCharacter.plain h) = utf_character (IsCharacter.plain h)
character_utf (IsCharacter.two h g) = utf_character (IsCharacter.two h g)
character_utf (IsCharacter.three_e0 h g) = utf_character (IsCharacter.three_e0 h g)
character_utf (IsCharacter.three h n g f) = utf_character (IsCharacter.three h n g f)
character_utf (IsCharacter.three_ed h g) = utf_character (IsCharacter.three_ed h g)
character_utf (IsCharacter.four_f0 h g f) = utf_character (IsCharacter.four_f0 h g f)
character_utf (IsCharacter.four h g f i) = utf_character (IsCharacter.four h g f i)
character_utf (IsCharacter.four_f4 h g f) = utf_character (IsCharacter.four_f4 h g f)

characters_utf : {bs x : List ℕ} → AreCharacters bs x → IsUtf8 bs
characters_utf AreCharacters.none = IsUtf8-nil
characters_utf (AreCharacters.next h hs) = joined (character_utf h) (characters_utf hs)

-- an opening byte, what stands between, and a closing one
closed : (a b : ℕ) {bs : List ℕ} → a < 128 → b < 128 → IsUtf8 bs → IsUtf8 (a ∷ (bs ++ b ∷ []))
closed a b h g u = ascii_then a h (joined u (utf_one b g))

string_utf : {bs x : List ℕ} → IsString bs x → IsUtf8 bs
string_utf (quoted h) = closed 34 34 (omega arith) (omega arith) (characters_utf h)

-- ---- values

-- the first part and the others, between brackets
listed : (a b : ℕ) {e m : List ℕ} → a < 128 → b < 128 → IsUtf8 e → IsUtf8 m → IsUtf8 (a ∷ (e ++ (m ++ b ∷ [])))
listed a b h g u v = ascii_then a h (joined u (joined v (utf_one b g)))

mutual
  value_utf : {k : ℕ} {bs : List ℕ} {t : Tree} → IsValue k bs t → IsUtf8 bs
  value_utf (value n) = node_utf n

  node_utf : {k : ℕ} {bs : List ℕ} {n : Node} → IsNode k bs n → IsUtf8 bs
  node_utf IsNode.null =
      ascii_then 110 (omega arith) (ascii_then 117 (omega arith) (ascii_then 108 (omega arith)
      (utf_one 108 (omega arith))))
  node_utf IsNode.yes =
      ascii_then 116 (omega arith) (ascii_then 114 (omega arith) (ascii_then 117 (omega arith)
      (utf_one 101 (omega arith))))
  node_utf IsNode.no =
      ascii_then 102 (omega arith) (ascii_then 97 (omega arith) (ascii_then 108 (omega arith)
      (ascii_then 115 (omega arith) (utf_one 101 (omega arith)))))
  node_utf (IsNode.number h) = number_utf h
  node_utf (IsNode.text h) = string_utf h
  node_utf (IsNode.empty_list h) = closed 91 93 (omega arith) (omega arith) (blanks_utf h)
  node_utf (IsNode.list h g) = listed 91 93 (omega arith) (omega arith) (element_utf h) (trees_utf g)
  node_utf (IsNode.empty_object h) = closed 123 125 (omega arith) (omega arith) (blanks_utf h)
  node_utf (IsNode.object h g) = listed 123 125 (omega arith) (omega arith) (member_utf h) (members_utf g)

  element_utf : {k : ℕ} {bs : List ℕ} {t : Tree} → IsElement k bs t → IsUtf8 bs
  element_utf (element h g f) = joined (blanks_utf h) (joined (value_utf g) (blanks_utf f))

  trees_utf : {k : ℕ} {bs : List ℕ} {ts : Trees} → IsMoreTrees k bs ts → IsUtf8 bs
  trees_utf no_more = IsUtf8-nil
  trees_utf (more h g) = ascii_then 44 (omega arith) (joined (element_utf h) (trees_utf g))

  member_utf : {k at end : ℕ} {bs x : List ℕ} {t : Tree} → IsMember k bs at end x t → IsUtf8 bs
  member_utf (member h g f j) =
      joined (blanks_utf h) (joined (string_utf g) (joined (blanks_utf f) (ascii_then 58 (omega arith) (element_utf j))))

  members_utf : {k : ℕ} {bs : List ℕ} {ms : Members} → IsMoreMembers k bs ms → IsUtf8 bs
  members_utf no_more_members = IsUtf8-nil
  members_utf (more_members h g) = ascii_then 44 (omega arith) (joined (member_utf h) (members_utf g))

pub text_utf : (bytes : List ℕ) (t : Tree) → IsElement 0 bytes t → IsUtf8 bytes
text_utf bytes t h = element_utf h
