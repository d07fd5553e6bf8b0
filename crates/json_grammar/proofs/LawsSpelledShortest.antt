-- No text of a value is shorter than the one that is spelled.
use Rattle.std.specs.Prelude.{◌-◌, ◌*◌, ◌⊎◌}
use Rattle.std.proofs.Common.{◌≡◌, ℕ, ◌+◌, ◌<◌, ◌≤◌, List, [], ◌∷◌, ◌++◌, length, false, true, ap, arith}
use Rattle.std.proofs.Common.{inl, inr, length-append}
use Rattle.std.proofs.lemmas.Bool.{cases_Bool}
use Rattle.std.proofs.lemmas.Bool.Decides.{nat_tests}
use Rattle.std.proofs.lemmas.Str.{length-encode, len_utf8_bounds}
use Rattle.std.specs.Char.{encode_utf8, len_utf8}
use Rattle.json_grammar.specs.Tree.{Tree, Node, Trees, Members}
use Rattle.json_grammar.specs.Grammar.{IsPlain, AreFourHexDigits, IsCharacter, AreCharacters, IsString}
use Rattle.json_grammar.specs.Grammar.{IsValue, value, IsNode, IsElement, element, IsMoreTrees, no_more, more, IsMember}
use Rattle.json_grammar.specs.Grammar.{member, IsMoreMembers, no_more_members, more_members, IsText}
use Rattle.json_grammar.specs.laws.Spelling.{needs_escape, escaped, quoted, spell, spell_more_values, spell_more_fields}
use Rattle.json_grammar.specs.laws.Placed.{value_of, node_value, tree_values, member_fields}
use Rattle.json_grammar.proofs.LawsSpelledCharacters.{escaped-nil, escaped-other, escaped-escape, escaped-append}
use Rattle.json_grammar.proofs.LawsSpelledCharacters.{AreHigh}
use Rattle.json_grammar.proofs.LawsSpelledCharacters.{escaped-high}

-- an escape at most doubles a byte
one_twice : (b : ℕ) (bs : List ℕ) → (needs_escape b ≡ true) ⊎ (needs_escape b ≡ false)
    → length (escaped (b ∷ bs)) ≤ 2 + length (escaped bs)
one_twice b bs (inl e) = omega (arith, ap length (escaped-escape b bs e))
one_twice b bs (inr e) = omega (arith, ap length (escaped-other b bs e))

pub length-escaped-le : (x : List ℕ) → length (escaped x) ≤ 2 * length x
length-escaped-le [] = omega (arith, ap length escaped-nil)
length-escaped-le (b ∷ bs) = omega (arith, one_twice b bs (cases_Bool (needs_escape b)), length-escaped-le bs)

high_short : (x : List ℕ) → AreHigh x → length (escaped x) ≤ length x
high_short x h = omega (arith, ap length (escaped-high x h))

plain_short : (b : ℕ) → IsPlain b → length (escaped (b ∷ [])) ≤ 1
plain_short b h =
    let no_quote = h.no_quote in let no_backslash = h.no_backslash in
    let none : needs_escape b ≡ false = grind (arith, nat_tests) in
    omega (arith, ap length (escaped-other b [] none), ap length escaped-nil)

four_digits : {digits : List ℕ} {u : ℕ} → AreFourHexDigits digits u → (length digits ≡ 4) × (u < 65536)
four_digits (AreFourHexDigits.unit ha hb hc hd) =
    let a = ha.below in let b = hb.below in let c = hc.below in let d = hd.below in (omega arith, omega arith)

encode_short : (u : ℕ) → u < 65536 → length (encode_utf8 u) ≤ 3
encode_short u h = let few : len_utf8 u ≤ 3 = grind (arith, nat_tests) in omega (arith, length-encode u)

encode_long : (u : ℕ) → length (encode_utf8 u) ≤ 4
encode_long u = let few = len_utf8_bounds u in omega (arith, length-encode u)

character_short : {c x : List ℕ} → IsCharacter c x → length (escaped x) ≤ length c
character_short (IsCharacter.plain {b} h) = plain_short b h
character_short (IsCharacter.two h g) = let a = h.low in let b = g.low in
    high_short _ (omega arith, (omega arith, tt))
character_short (IsCharacter.three_e0 h g) = let a = h.low in let b = g.low in
    high_short _ (omega arith, (omega arith, (omega arith, tt)))
character_short (IsCharacter.three h n g f) = let a = h.low in let b = g.low in let c = f.low in
    high_short _ (omega arith, (omega arith, (omega arith, tt)))
character_short (IsCharacter.three_ed h g) = let a = h.low in let b = g.low in
    high_short _ (omega arith, (omega arith, (omega arith, tt)))
character_short (IsCharacter.four_f0 h g f) = let a = h.low in let b = g.low in let c = f.low in
    high_short _ (omega arith, (omega arith, (omega arith, (omega arith, tt))))
character_short (IsCharacter.four h g f i) =
    let a = h.low in let b = g.low in let c = f.low in let d = i.low in
    high_short _ (omega arith, (omega arith, (omega arith, (omega arith, tt))))
character_short (IsCharacter.four_f4 h g f) = let a = h.low in let b = g.low in let c = f.low in
    high_short _ (omega arith, (omega arith, (omega arith, (omega arith, tt))))
character_short (IsCharacter.escape {b} {c} h) = length-escaped-le (c ∷ [])
character_short (IsCharacter.unit {u = u} h o) =
    let four = four_digits h in omega (arith, length-escaped-le (encode_utf8 u), encode_short u four.1, four.0)
character_short (IsCharacter.pair {digits} {more = others} {high} {low} h i g j) =
    let u = 0x10000 + (high - 0xd800) * 0x400 + (low - 0xdc00) in
    let first = four_digits h in let second = four_digits g in
    omega (
      arith,
      length-escaped-le (encode_utf8 u),
      encode_long u,
      first.0,
      second.0,
      length-append digits (92 ∷ 117 ∷ others),
    )

characters_short : {cs text : List ℕ} → AreCharacters cs text → length (escaped text) ≤ length cs
characters_short AreCharacters.none = omega (arith, ap length escaped-nil)
characters_short (AreCharacters.next {c} {x} {cs} {text} h hs) =
    omega (
      arith,
      ap length (escaped-append x text),
      length-append (escaped x) (escaped text),
      length-append c cs,
      character_short h,
      characters_short hs,
    )

string_short : {s text : List ℕ} → IsString s text → length (quoted text) ≤ length s
unfolding quoted
string_short (IsString.quoted {bs} {text} h) =
    omega (arith, length-append (escaped text) (34 ∷ []), length-append bs (34 ∷ []), characters_short h)

mutual
  unfolding spell

  value_short : {k : ℕ} {v : List ℕ} {t : Tree} → IsValue k v t → length (spell (value_of t)) ≤ length v
  value_short (value n) = node_short n

  node_short : {k : ℕ} {v : List ℕ} {n : Node} → IsNode k v n → length (spell (node_value n)) ≤ length v
  node_short IsNode.null = omega arith
  node_short IsNode.yes = omega arith
  node_short IsNode.no = omega arith
  node_short (IsNode.number h) = omega arith
  node_short (IsNode.text h) = string_short h
  node_short (IsNode.empty_list {ws = ws} h) = omega (arith, length-append ws (93 ∷ []))
  node_short (IsNode.list {e = e} {m} {t} {ts} h g) =
      omega (
        arith,
        length-append e (m ++ 93 ∷ []),
        length-append m (93 ∷ []),
        element_short h,
        trees_short g,
        length-append (spell (value_of t) ++ spell_more_values (tree_values ts)) (93 ∷ []),
        length-append (spell (value_of t)) (spell_more_values (tree_values ts)),
      )
  node_short (IsNode.empty_object {ws = ws} h) = omega (arith, length-append ws (125 ∷ []))
  node_short (IsNode.object {e = e} {m} {key} {t} {ms} h g) =
      omega (
        arith,
        length-append e (m ++ 125 ∷ []),
        length-append m (125 ∷ []),
        member_short h,
        members_short g,
        length-append (quoted key ++ 58 ∷ (spell (value_of t) ++ spell_more_fields (member_fields ms))) (125 ∷ []),
        length-append (quoted key) (58 ∷ (spell (value_of t) ++ spell_more_fields (member_fields ms))),
        length-append (spell (value_of t)) (spell_more_fields (member_fields ms)),
      )

  element_short : {k : ℕ} {e : List ℕ} {t : Tree} → IsElement k e t → length (spell (value_of t)) ≤ length e
  element_short (element {before = before} {v} {after} h g f) =
      omega (arith, length-append before (v ++ after), length-append v after, value_short g)

  trees_short : {k : ℕ} {m : List ℕ} {ts : Trees} → IsMoreTrees k m ts
      → length (spell_more_values (tree_values ts)) ≤ length m
  trees_short no_more = omega arith
  trees_short (more {e = e} {m} {t} {ts} h g) =
      omega (
        arith,
        length-append e m,
        length-append (spell (value_of t)) (spell_more_values (tree_values ts)),
        element_short h,
        trees_short g,
      )

  member_short : {k at end : ℕ} {e key : List ℕ} {t : Tree} → IsMember k e at end key t
      → length (quoted key) + 1 + length (spell (value_of t)) ≤ length e
  member_short (member {before = before} {s} {between} {e} h g f j) =
      omega (
        arith,
        length-append before (s ++ (between ++ 58 ∷ e)),
        length-append s (between ++ 58 ∷ e),
        length-append between (58 ∷ e),
        string_short g,
        element_short j,
      )

  members_short : {k : ℕ} {m : List ℕ} {ms : Members} → IsMoreMembers k m ms
      → length (spell_more_fields (member_fields ms)) ≤ length m
  members_short no_more_members = omega arith
  members_short (more_members {e = e} {m} {key} {t} {ms} h g) =
      omega (
        arith,
        length-append e m,
        length-append (quoted key) (58 ∷ (spell (value_of t) ++ spell_more_fields (member_fields ms))),
        length-append (spell (value_of t)) (spell_more_fields (member_fields ms)),
        member_short h,
        members_short g,
      )

pub text_short : (bytes : List ℕ) (t : Tree) → IsText bytes t → length (spell (value_of t)) ≤ length bytes
text_short bytes t h = element_short h
