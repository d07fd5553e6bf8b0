-- Strings that the grammar allows are read.
use Rattle.std.specs.Prelude.{◌==◌, ◌&&◌, ◌-◌, ◌*◌, ◌⊎◌}
use Rattle.std.proofs.Common.{◌≡◌, ◌≢◌, ℕ, suc, ◌+◌, ◌<◌, ◌≤◌, List, [], ◌∷◌, ◌++◌, length, Bool, false, Some, refl}
use Rattle.std.proofs.Common.{sym, ◌∙◌, ap, subst, append_assoc, append-nil, length-append, arith}
use Rattle.std.proofs.lemmas.Bool.Decides.{nat_tests}
use Rattle.std.specs.Char.{digit_value, encode_utf8}
use Rattle.json_grammar.specs.Tree.{Event}
use Rattle.json_grammar.specs.Grammar.{IsPlain, Between, IsUtf8Tail, IsShortEscape, IsHex, AreFourHexDigits}
use Rattle.json_grammar.specs.Grammar.{IsCharacter, AreCharacters, IsString}
use Rattle.json_grammar.specs.laws.Machine.{string, st, go, Within, tails, after_e0, after_ed, after_f0, after_f4}
use Rattle.json_grammar.specs.laws.Machine.{unit1, unit2}
use Rattle.json_grammar.specs.laws.Machine.{unit3, unit4, paired, paired_escape, low1, low2, low3, low4, inside_step}
use Rattle.json_grammar.specs.laws.Machine.{may_close}
use Rattle.json_grammar.specs.laws.Machine.{after_string, string_event, step, Reads, then}
use Rattle.json_grammar.specs.laws.Machine as machine
use Rattle.json_grammar.proofs.LawsForward.{at_offset}

not_closing : (p : Within) (b : ℕ) (r : Within × List ℕ) → inside_step p b ≡ Some r → (may_close p && (b == 34)) ≡ false
unfolding inside_step
not_closing machine.plain b r e = grind (arith, nat_tests)
not_closing _ b r e = refl

pub string_goes : (k at b : ℕ) (levels : List Bool) (i : Bool) (text : List ℕ) (p q : Within) (xs : List ℕ)
    → inside_step p b ≡ Some (q, xs) → step k levels (string i at text p) b ≡ go levels (string i at (text ++ xs) q)
unfolding step
string_goes k at b levels i text p q xs e = rw (not_closing p b (q, xs) e, e) refl

-- one byte of a string, and then the rest of it
pub goes_on : {k at b : ℕ} {levels : List Bool} {i : Bool} {w : List ℕ} {es : List Event} (text : List ℕ) (p q : Within)
    (xs all : List ℕ) → inside_step p b ≡ Some (q, xs) → all ≡ text ++ xs
    → Reads (suc k) (st levels (string i at all q)) w es → Reads k (st levels (string i at text p)) (b ∷ w) es
goes_on {k} {at} {b} {levels} {i} {w} {es} text p q xs all e a r =
    then (string_goes k at b levels i text p q xs e) (subst (λ x. Reads (suc k) (st levels (string i at x q)) w es) a r)

plain_step : (b : ℕ) → IsPlain b → inside_step machine.plain b ≡ Some (machine.plain, b ∷ [])
unfolding inside_step
plain_step b h = grind (arith, nat_tests)

two_step : (b : ℕ) → Between 0xc2 0xdf b → inside_step machine.plain b ≡ Some (tails 0, b ∷ [])
unfolding inside_step
two_step b h = grind (arith, nat_tests)

three_step : (b : ℕ) → Between 0xe1 0xef b → b ≢ 0xed → inside_step machine.plain b ≡ Some (tails 1, b ∷ [])
unfolding inside_step
three_step b h n = grind (arith, nat_tests)

four_step : (b : ℕ) → Between 0xf1 0xf3 b → inside_step machine.plain b ≡ Some (tails 2, b ∷ [])
unfolding inside_step
four_step b h = grind (arith, nat_tests)

tail_last : (b : ℕ) → IsUtf8Tail b → inside_step (tails 0) b ≡ Some (machine.plain, b ∷ [])
unfolding inside_step
tail_last b h = grind (arith, nat_tests)

tail_more : (b n : ℕ) → IsUtf8Tail b → inside_step (tails (suc n)) b ≡ Some (tails n, b ∷ [])
unfolding inside_step
tail_more b n h = grind (arith, nat_tests)

e0_step : (b : ℕ) → Between 0xa0 0xbf b → inside_step after_e0 b ≡ Some (tails 0, b ∷ [])
unfolding inside_step
e0_step b h = grind (arith, nat_tests)

ed_step : (b : ℕ) → Between 0x80 0x9f b → inside_step after_ed b ≡ Some (tails 0, b ∷ [])
unfolding inside_step
ed_step b h = grind (arith, nat_tests)

f0_step : (b : ℕ) → Between 0x90 0xbf b → inside_step after_f0 b ≡ Some (tails 1, b ∷ [])
unfolding inside_step
f0_step b h = grind (arith, nat_tests)

f4_step : (b : ℕ) → Between 0x80 0x8f b → inside_step after_f4 b ≡ Some (tails 1, b ∷ [])
unfolding inside_step
f4_step b h = grind (arith, nat_tests)

escape_step : {b c : ℕ} → IsShortEscape b c → inside_step machine.escape b ≡ Some (machine.plain, c ∷ [])
unfolding inside_step
escape_step IsShortEscape.quote = refl
escape_step _ = refl

unit1_step : (b : ℕ) → IsHex b → inside_step unit1 b ≡ Some (unit2 (digit_value b), [])
unfolding inside_step
unit1_step b h = let f = h.below in grind (arith, nat_tests)

-- the two digits leave no lone low surrogate
unit2_step : (v b : ℕ) → IsHex b → (v * 16 + digit_value b < 0xdc) ⊎ (0xdf < v * 16 + digit_value b)
    → inside_step (unit2 v) b ≡ Some (unit3 (v * 16 + digit_value b), [])
unfolding inside_step
unit2_step v b h o = let f = h.below in grind (arith, nat_tests)

unit3_step : (v b : ℕ) → IsHex b → inside_step (unit3 v) b ≡ Some (unit4 (v * 16 + digit_value b), [])
unfolding inside_step
unit3_step v b h = let f = h.below in grind (arith, nat_tests)

unit4_step : (v b : ℕ) → IsHex b → (v * 16 + digit_value b < 0xd800) ⊎ (0xe000 ≤ v * 16 + digit_value b)
    → inside_step (unit4 v) b ≡ Some (machine.plain, encode_utf8 (v * 16 + digit_value b))
unfolding inside_step
unit4_step v b h o = let f = h.below in grind (arith, nat_tests)

unit4_pairs : (v b : ℕ) → IsHex b → Between 0xd800 0xdbff (v * 16 + digit_value b)
    → inside_step (unit4 v) b ≡ Some (paired (v * 16 + digit_value b), [])
unfolding inside_step
unit4_pairs v b h o = let f = h.below in grind (arith, nat_tests)

low1_step : (u b : ℕ) → digit_value b ≡ 13 → inside_step (low1 u) b ≡ Some (low2 u, [])
unfolding inside_step
low1_step u b h = rw h refl

low2_step : (u b : ℕ) → IsHex b → 12 ≤ digit_value b
    → inside_step (low2 u) b ≡ Some (low3 u (13 * 16 + digit_value b), [])
unfolding inside_step
low2_step u b h l = let f = h.below in grind (arith, nat_tests)

low3_step : (u v b : ℕ) → IsHex b → inside_step (low3 u v) b ≡ Some (low4 u (v * 16 + digit_value b), [])
unfolding inside_step
low3_step u v b h = let f = h.below in grind (arith, nat_tests)

low4_step : (u v b : ℕ) → IsHex b → inside_step (low4 u v) b
    ≡ Some (machine.plain, encode_utf8 (0x10000 + (u - 0xd800) * 0x400 + (v * 16 + digit_value b - 0xdc00)))
unfolding inside_step
low4_step u v b h = let f = h.below in grind (arith, nat_tests)

hex_of : {b : ℕ} → IsHex b → digit_value b < 16
hex_of h = h.below

-- the first three digits of a unit, of which two leave no lone low surrogate
unit_reads : {k at a b c : ℕ} {levels : List Bool} {i : Bool} {w : List ℕ} {es : List Event} (text : List ℕ) → IsHex a
    → IsHex b → IsHex c → (digit_value a * 16 + digit_value b < 0xdc) ⊎ (0xdf < digit_value a * 16 + digit_value b)
    → Reads (k + 3) (st levels (string i at text (unit4 ((digit_value a * 16 + digit_value b) * 16 + digit_value c)))) w
    es → Reads k (st levels (string i at text unit1)) (a ∷ b ∷ c ∷ w) es
unit_reads {a = a} {b} {c} text ha hb hc o r =
    goes_on text unit1 (unit2 (digit_value a)) [] text (unit1_step a ha) (sym (append-nil text))
    (goes_on text (unit2 (digit_value a)) (unit3 (digit_value a * 16 + digit_value b)) [] text
    (unit2_step (digit_value a) b hb o) (sym (append-nil text))
    (goes_on text (unit3 (digit_value a * 16 + digit_value b))
    (unit4 ((digit_value a * 16 + digit_value b) * 16 + digit_value c)) [] text
    (unit3_step (digit_value a * 16 + digit_value b) c hc) (sym (append-nil text))
    (at_offset (omega arith) r)))

not_low : (v c d : ℕ) → c < 16 → d < 16 → ((v * 16 + c) * 16 + d < 0xd800) ⊎ (0xe000 ≤ (v * 16 + c) * 16 + d)
    → (v < 0xdc) ⊎ (0xdf < v)
not_low v c d hc hd h = grind arith

high_not_low : (v c d : ℕ) → c < 16 → d < 16 → Between 0xd800 0xdbff ((v * 16 + c) * 16 + d) → (v < 0xdc) ⊎ (0xdf < v)
high_not_low v c d hc hd h = grind arith

low_first : (a b c d : ℕ) → a < 16 → b < 16 → c < 16 → d < 16
    → Between 0xdc00 0xdfff (((a * 16 + b) * 16 + c) * 16 + d) → (a ≡ 13) × (12 ≤ b)
low_first a b c d ha hb hc hd h = (omega arith, omega arith)

e0_lead : inside_step machine.plain 0xe0 ≡ Some (after_e0, 0xe0 ∷ [])
unfolding inside_step
e0_lead = refl

ed_lead : inside_step machine.plain 0xed ≡ Some (after_ed, 0xed ∷ [])
unfolding inside_step
ed_lead = refl

f0_lead : inside_step machine.plain 0xf0 ≡ Some (after_f0, 0xf0 ∷ [])
unfolding inside_step
f0_lead = refl

f4_lead : inside_step machine.plain 0xf4 ≡ Some (after_f4, 0xf4 ∷ [])
unfolding inside_step
f4_lead = refl

backslash_step : inside_step machine.plain 92 ≡ Some (machine.escape, [])
unfolding inside_step
backslash_step = refl

u_step : inside_step machine.escape 117 ≡ Some (unit1, [])
unfolding inside_step
u_step = refl

paired_step : (u : ℕ) → inside_step (paired u) 92 ≡ Some (paired_escape u, [])
unfolding inside_step
paired_step u = refl

paired_u : (u : ℕ) → inside_step (paired_escape u) 117 ≡ Some (low1 u, [])
unfolding inside_step
paired_u u = refl

two_tails_after : {p : Within} {k at b c d : ℕ} {levels : List Bool} {i : Bool} {w all : List ℕ} {es : List Event}
    (text : List ℕ) → inside_step p b ≡ Some (tails 1, b ∷ []) → IsUtf8Tail c → IsUtf8Tail d
    → all ≡ text ++ (b ∷ c ∷ d ∷ []) → Reads (k + 4) (st levels (string i at all machine.plain)) w es
    → Reads (suc k) (st levels (string i at text p)) (b ∷ c ∷ d ∷ w) es
two_tails_after {p} {b = b} {c} {d} {all = all} text h g f e r =
    goes_on text p (tails 1) (b ∷ []) (text ++ b ∷ []) h refl
    (goes_on (text ++ b ∷ []) (tails 1) (tails 0) (c ∷ []) ((text ++ b ∷ []) ++ c ∷ []) (tail_more c 0 g) refl
    (goes_on ((text ++ b ∷ []) ++ c ∷ []) (tails 0) machine.plain (d ∷ []) all (tail_last d f)
    (rw e (simp append_assoc)) (at_offset (omega arith) r)))

low_reads : {k at a b c d : ℕ} {levels : List Bool} {i : Bool} {w all : List ℕ} {es : List Event} (text : List ℕ)
    (u : ℕ) → IsHex a → IsHex b → IsHex c → IsHex d
    → Between 0xdc00 0xdfff (((digit_value a * 16 + digit_value b) * 16 + digit_value c) * 16 + digit_value d)
    → all ≡ text ++ encode_utf8 (0x10000 + (u - 0xd800) * 0x400
    + ((((digit_value a * 16 + digit_value b) * 16 + digit_value c) * 16 + digit_value d) - 0xdc00))
    → Reads (k + 6) (st levels (string i at all machine.plain)) w es
    → Reads k (st levels (string i at text (paired u))) (92 ∷ 117 ∷ a ∷ b ∷ c ∷ d ∷ w) es
low_reads {a = a} {b} {c} {d} {all = all} text u ha hb hc hd l e r =
    let f : (digit_value a ≡ 13) × (12 ≤ digit_value b) = low_first (digit_value a) (digit_value b) (digit_value c)
    (digit_value d) (hex_of ha) (hex_of hb) (hex_of hc) (hex_of hd) l in
    goes_on text (paired u) (paired_escape u) [] text (paired_step u) (sym (append-nil text))
    (goes_on text (paired_escape u) (low1 u) [] text (paired_u u) (sym (append-nil text))
    (goes_on text (low1 u) (low2 u) [] text (low1_step u a f.0) (sym (append-nil text))
    (goes_on text (low2 u) (low3 u (13 * 16 + digit_value b)) [] text (low2_step u b hb f.1) (sym (append-nil text))
    (goes_on text (low3 u (13 * 16 + digit_value b)) (low4 u ((13 * 16 + digit_value b) * 16 + digit_value c)) [] text
    (low3_step u (13 * 16 + digit_value b) c hc) (sym (append-nil text))
    (goes_on text (low4 u ((13 * 16 + digit_value b) * 16 + digit_value c)) machine.plain _ all
    (low4_step u ((13 * 16 + digit_value b) * 16 + digit_value c) d hd)
    (e ∙ ap (λ z. text
    ++ encode_utf8
    (0x10000 + (u - 0xd800) * 0x400 + ((((z * 16 + digit_value b) * 16 + digit_value c) * 16 + digit_value d)
    - 0xdc00))) f.0) (at_offset (omega arith) r))))))

character_reads : {c x w all : List ℕ} {k at : ℕ} {levels : List Bool} {i : Bool} {es : List Event} (text : List ℕ)
    → IsCharacter c x → all ≡ text ++ x → Reads (k + length c) (st levels (string i at all machine.plain)) w es
    → Reads k (st levels (string i at text machine.plain)) (c ++ w) es
character_reads {all = all} text (IsCharacter.plain {b} h) e r =
    goes_on text machine.plain machine.plain (b ∷ []) all (plain_step b h) e (at_offset (omega arith) r)
character_reads {all = all} text (IsCharacter.two {a} {b} h g) e r =
    goes_on text machine.plain (tails 0) (a ∷ []) (text ++ a ∷ []) (two_step a h) refl
    (goes_on (text ++ a ∷ []) (tails 0) machine.plain (b ∷ []) all (tail_last b g) (rw e (simp append_assoc))
    (at_offset (omega arith) r))
character_reads {all = all} text (IsCharacter.three_e0 {b} {c} h g) e r =
    goes_on text machine.plain after_e0 (0xe0 ∷ []) (text ++ 0xe0 ∷ []) e0_lead refl
    (goes_on (text ++ 0xe0 ∷ []) after_e0 (tails 0) (b ∷ []) ((text ++ 0xe0 ∷ []) ++ b ∷ []) (e0_step b h) refl
    (goes_on ((text ++ 0xe0 ∷ []) ++ b ∷ []) (tails 0) machine.plain (c ∷ []) all (tail_last c g)
    (rw e (simp append_assoc)) (at_offset (omega arith) r)))
character_reads {all = all} text (IsCharacter.three {a} {b} {c} h n g f) e r =
    goes_on text machine.plain (tails 1) (a ∷ []) (text ++ a ∷ []) (three_step a h n) refl
    (goes_on (text ++ a ∷ []) (tails 1) (tails 0) (b ∷ []) ((text ++ a ∷ []) ++ b ∷ []) (tail_more b 0 g) refl
    (goes_on ((text ++ a ∷ []) ++ b ∷ []) (tails 0) machine.plain (c ∷ []) all (tail_last c f)
    (rw e (simp append_assoc)) (at_offset (omega arith) r)))
character_reads {all = all} text (IsCharacter.three_ed {b} {c} h g) e r =
    goes_on text machine.plain after_ed (0xed ∷ []) (text ++ 0xed ∷ []) ed_lead refl
    (goes_on (text ++ 0xed ∷ []) after_ed (tails 0) (b ∷ []) ((text ++ 0xed ∷ []) ++ b ∷ []) (ed_step b h) refl
    (goes_on ((text ++ 0xed ∷ []) ++ b ∷ []) (tails 0) machine.plain (c ∷ []) all (tail_last c g)
    (rw e (simp append_assoc)) (at_offset (omega arith) r)))
character_reads {all = all} text (IsCharacter.four_f0 {b} {c} {d} h g f) e r =
    goes_on text machine.plain after_f0 (0xf0 ∷ []) (text ++ 0xf0 ∷ []) f0_lead refl
    (two_tails_after (text ++ 0xf0 ∷ []) (f0_step b h) g f (rw e (simp append_assoc)) r)
character_reads {all = all} text (IsCharacter.four {a} {b} {c} {d} h g f j) e r =
    goes_on text machine.plain (tails 2) (a ∷ []) (text ++ a ∷ []) (four_step a h) refl
    (two_tails_after (text ++ a ∷ []) (tail_more b 1 g) f j (rw e (simp append_assoc)) r)
character_reads {all = all} text (IsCharacter.four_f4 {b} {c} {d} h g f) e r =
    goes_on text machine.plain after_f4 (0xf4 ∷ []) (text ++ 0xf4 ∷ []) f4_lead refl
    (two_tails_after (text ++ 0xf4 ∷ []) (f4_step b h) g f (rw e (simp append_assoc)) r)
character_reads {all = all} text (IsCharacter.escape {b} {c} h) e r =
    goes_on text machine.plain machine.escape [] text backslash_step (sym (append-nil text))
    (goes_on text machine.escape machine.plain (c ∷ []) all (escape_step h) e (at_offset (omega arith) r))
character_reads {all = all} text (IsCharacter.unit (AreFourHexDigits.unit {a} {b} {c} {d} ha hb hc hd) o) e r =
    goes_on text machine.plain machine.escape [] text backslash_step (sym (append-nil text))
    (goes_on text machine.escape unit1 [] text u_step (sym (append-nil text))
    (unit_reads text ha hb hc (not_low (digit_value a * 16 + digit_value b) (digit_value c) (digit_value d)
    (hex_of hc) (hex_of hd) o)
    (goes_on text (unit4 ((digit_value a * 16 + digit_value b) * 16 + digit_value c)) machine.plain _ all
    (unit4_step ((digit_value a * 16 + digit_value b) * 16 + digit_value c) d hd o) e (at_offset (omega arith) r))))
character_reads {all = all} text (IsCharacter.pair (AreFourHexDigits.unit {a} {b} {c} {d} ha hb hc hd) h
    (AreFourHexDigits.unit {a = p} {b = q} {c = s} {d = t} hp hq hs ht) l) e r =
    let high : ℕ = ((digit_value a * 16 + digit_value b) * 16 + digit_value c) * 16 + digit_value d in
    goes_on text machine.plain machine.escape [] text backslash_step (sym (append-nil text))
    (goes_on text machine.escape unit1 [] text u_step (sym (append-nil text))
    (unit_reads text ha hb hc (high_not_low (digit_value a * 16 + digit_value b) (digit_value c) (digit_value d)
    (hex_of hc) (hex_of hd) h)
    (goes_on text (unit4 ((digit_value a * 16 + digit_value b) * 16 + digit_value c)) (paired high) [] text
    (unit4_pairs ((digit_value a * 16 + digit_value b) * 16 + digit_value c) d hd h) (sym (append-nil text))
    (low_reads text high hp hq hs ht l e (at_offset (omega arith) r)))))

characters_read : {cs x w all : List ℕ} {k at : ℕ} {levels : List Bool} {i : Bool} {es : List Event} (text : List ℕ)
    → AreCharacters cs x → all ≡ text ++ x → Reads (k + length cs) (st levels (string i at all machine.plain)) w es
    → Reads k (st levels (string i at text machine.plain)) (cs ++ w) es
characters_read {w = w} {all = all} {k} {at} {levels} {i} {es} text AreCharacters.none e r = at_offset (omega arith)
    (subst (λ x. Reads (k + 0) (st levels (string i at x machine.plain)) w es) (e ∙ append-nil text) r)
characters_read {w = w} {all = all} {k} {at} {levels} {i} {es} text
    (AreCharacters.next {c} {x} {cs} {text = xs} h hs) e r =
    subst (λ v. Reads k (st levels (string i at text machine.plain)) v es) (sym (append_assoc c cs w))
    (character_reads text h refl
    (characters_read (text ++ x) hs (rw e (simp append_assoc)) (at_offset (omega (arith, length-append c cs)) r)))

pub close_step : (k at : ℕ) (levels : List Bool) (i : Bool) (text : List ℕ)
    → step k levels (string i at text machine.plain) 34
    ≡ Some (st levels (after_string i), string_event i at (suc k) text ∷ [])
unfolding step
close_step k at levels i text = refl

-- from behind the opening quote
pub string_reads : {s x w : List ℕ} {k at : ℕ} {levels : List Bool} {i : Bool} {es : List Event} → IsString (34 ∷ s) x
    → Reads (k + length s) (st levels (after_string i)) w es
    → Reads k (st levels (string i at [] machine.plain)) (s ++ w) (string_event i at (k + length s) x ∷ es)
string_reads {w = w} {k} {at} {levels} {i} {es} (IsString.quoted {bs} {text = x} h) r =
    let end : k + length (bs ++ 34 ∷ []) ≡ suc (k + length bs) = omega (arith, length-append bs (34 ∷ [])) in
    subst (λ v. Reads k (st levels (string i at [] machine.plain)) v
    (string_event i at (k + length (bs ++ 34 ∷ [])) x ∷ es)) (sym (append_assoc bs (34 ∷ []) w))
    (characters_read [] h refl
    (subst (λ z. Reads (k + length bs) (st levels (string i at x machine.plain)) (34 ∷ w) (string_event i at z x ∷ es))
    (sym end)
    (then (close_step (k + length bs) at levels i x) (at_offset end r))))
