-- What the machine reads in a string is what the grammar allows.
use Rattle.std.specs.Prelude.{◌==◌, ◌||◌, ◌-◌, ◌*◌, ◌⊎◌}
use Rattle.std.proofs.Common.{◌≡◌, ◌≢◌, ℕ, zero, suc, ◌+◌, ◌<◌, ◌≤◌, List, ◌∷◌, ◌++◌, true, Option, Some, None, refl}
use Rattle.std.proofs.Common.{subst, inl, inr, arith}
use Rattle.std.proofs.lemmas.Bool.Decides.{nat_tests}
use Rattle.std.specs.Char.{digit_value, encode_utf8}
use Rattle.json_grammar.proofs.Choices.{branch, taken, guarded, none_some}
use Rattle.json_grammar.specs.Grammar.{Between, IsUtf8Tail, IsShortEscape, IsHex, unit, IsCharacter, AreCharacters}
use Rattle.json_grammar.specs.Grammar.{next}
use Rattle.json_grammar.specs.laws.Machine.{Within, tails, after_e0, after_ed, after_f0, after_f4, unit1, unit2, unit3}
use Rattle.json_grammar.specs.laws.Machine.{unit4}
use Rattle.json_grammar.specs.laws.Machine.{paired, paired_escape, low1, low2, low3, low4, inside_step, is_plain}
use Rattle.json_grammar.specs.laws.Machine.{between}
use Rattle.json_grammar.specs.laws.Machine.{is_tail}
use Rattle.json_grammar.specs.laws.Machine as machine

-- the bytes complete a string, up to its closing quote, and its text
pub data Completes : Within → List ℕ → List ℕ → Type 0 where
  plain : {bs x : List ℕ} → AreCharacters bs x → Completes machine.plain bs x
  last_tail : {b : ℕ} {bs x : List ℕ} → IsUtf8Tail b → AreCharacters bs x → Completes (tails 0) (b ∷ bs) (b ∷ x)
  more_tails : {n b : ℕ} {bs x : List ℕ} → IsUtf8Tail b → Completes (tails n) bs x
      → Completes (tails (suc n)) (b ∷ bs) (b ∷ x)
  e0 : {b : ℕ} {bs x : List ℕ} → Between 0xa0 0xbf b → Completes (tails 0) bs x → Completes after_e0 (b ∷ bs) (b ∷ x)
  ed : {b : ℕ} {bs x : List ℕ} → Between 0x80 0x9f b → Completes (tails 0) bs x → Completes after_ed (b ∷ bs) (b ∷ x)
  f0 : {b : ℕ} {bs x : List ℕ} → Between 0x90 0xbf b → Completes (tails 1) bs x → Completes after_f0 (b ∷ bs) (b ∷ x)
  f4 : {b : ℕ} {bs x : List ℕ} → Between 0x80 0x8f b → Completes (tails 1) bs x → Completes after_f4 (b ∷ bs) (b ∷ x)
  short : {b c : ℕ} {bs x : List ℕ} → IsShortEscape b c → AreCharacters bs x → Completes machine.escape (b ∷ bs) (c ∷ x)
  u : {bs x : List ℕ} → Completes unit1 bs x → Completes machine.escape (117 ∷ bs) x
  hex1 : {a : ℕ} {bs x : List ℕ} → IsHex a → Completes (unit2 (digit_value a)) bs x → Completes unit1 (a ∷ bs) x
  hex2 : {v a : ℕ} {bs x : List ℕ} → IsHex a → (v * 16 + digit_value a < 0xdc) ⊎ (0xdf < v * 16 + digit_value a)
      → Completes (unit3 (v * 16 + digit_value a)) bs x → Completes (unit2 v) (a ∷ bs) x
  hex3 : {v a : ℕ} {bs x : List ℕ} → IsHex a → Completes (unit4 (v * 16 + digit_value a)) bs x
      → Completes (unit3 v) (a ∷ bs) x
  hex4 : {v a : ℕ} {bs x : List ℕ} → IsHex a → (v * 16 + digit_value a < 0xd800) ⊎ (0xdbff < v * 16 + digit_value a)
      → AreCharacters bs x → Completes (unit4 v) (a ∷ bs) (encode_utf8 (v * 16 + digit_value a) ++ x)
  high : {v a : ℕ} {bs x : List ℕ} → IsHex a → Between 0xd800 0xdbff (v * 16 + digit_value a)
      → Completes (paired (v * 16 + digit_value a)) bs x → Completes (unit4 v) (a ∷ bs) x
  backslash : {u : ℕ} {bs x : List ℕ} → Completes (paired_escape u) bs x → Completes (paired u) (92 ∷ bs) x
  second_u : {u : ℕ} {bs x : List ℕ} → Completes (low1 u) bs x → Completes (paired_escape u) (117 ∷ bs) x
  lower1 : {u a : ℕ} {bs x : List ℕ} → digit_value a ≡ 13 → Completes (low2 u) bs x → Completes (low1 u) (a ∷ bs) x
  lower2 : {u a : ℕ} {bs x : List ℕ} → Between 12 15 (digit_value a) → Completes (low3 u (13 * 16 + digit_value a)) bs x
      → Completes (low2 u) (a ∷ bs) x
  lower3 : {u v a : ℕ} {bs x : List ℕ} → IsHex a → Completes (low4 u (v * 16 + digit_value a)) bs x
      → Completes (low3 u v) (a ∷ bs) x
  lower4 : {u v a : ℕ} {bs x : List ℕ} → IsHex a → AreCharacters bs x
      → Completes (low4 u v) (a ∷ bs)
      (encode_utf8 (0x10000 + (u - 0xd800) * 0x400 + (v * 16 + digit_value a - 0xdc00)) ++ x)

-- a character of several bytes
two_chars : {a : ℕ} {bs x : List ℕ} → Between 0xc2 0xdf a → Completes (tails 0) bs x → AreCharacters (a ∷ bs) (a ∷ x)
two_chars h (last_tail g r) = next (IsCharacter.two h g) r

e0_chars : {bs x : List ℕ} → Completes after_e0 bs x → AreCharacters (0xe0 ∷ bs) (0xe0 ∷ x)
e0_chars (e0 h (last_tail g r)) = next (IsCharacter.three_e0 h g) r

ed_chars : {bs x : List ℕ} → Completes after_ed bs x → AreCharacters (0xed ∷ bs) (0xed ∷ x)
ed_chars (ed h (last_tail g r)) = next (IsCharacter.three_ed h g) r

three_chars : {a : ℕ} {bs x : List ℕ} → Between 0xe1 0xef a → a ≢ 0xed → Completes (tails 1) bs x
    → AreCharacters (a ∷ bs) (a ∷ x)
three_chars h n (more_tails f (last_tail g r)) = next (IsCharacter.three h n f g) r

f0_chars : {bs x : List ℕ} → Completes after_f0 bs x → AreCharacters (0xf0 ∷ bs) (0xf0 ∷ x)
f0_chars (f0 h (more_tails f (last_tail g r))) = next (IsCharacter.four_f0 h f g) r

four_chars : {a : ℕ} {bs x : List ℕ} → Between 0xf1 0xf3 a → Completes (tails 2) bs x → AreCharacters (a ∷ bs) (a ∷ x)
four_chars h (more_tails e (more_tails f (last_tail g r))) = next (IsCharacter.four h e f g) r

f4_chars : {bs x : List ℕ} → Completes after_f4 bs x → AreCharacters (0xf4 ∷ bs) (0xf4 ∷ x)
f4_chars (f4 h (more_tails f (last_tail g r))) = next (IsCharacter.four_f4 h f g) r

hex_of : {b : ℕ} → IsHex b → digit_value b < 16
hex_of h = h.below

no_surrogate : (v c d : ℕ) → c < 16 → d < 16 → (v < 0xdc) ⊎ (0xdf < v) → ((v * 16 + c) * 16 + d < 0xd800)
    ⊎ (0xdbff < (v * 16 + c) * 16 + d) → ((v * 16 + c) * 16 + d < 0xd800) ⊎ (0xe000 ≤ (v * 16 + c) * 16 + d)
no_surrogate v c d hc hd o p = grind arith

low_range : (a b c d : ℕ) → a ≡ 13 → Between 12 15 b → c < 16 → d < 16
    → Between 0xdc00 0xdfff (((a * 16 + b) * 16 + c) * 16 + d)
low_range a b c d ha hb hc hd = record { low = omega arith; high = omega arith }

escape_chars : {bs x : List ℕ} → Completes machine.escape bs x → AreCharacters (92 ∷ bs) x
escape_chars (short h r) = next (IsCharacter.escape h) r
escape_chars (u (hex1 {a} ha (hex2 {a = b} hb o (hex3 {a = c} hc (hex4 {a = d} hd p r))))) = next
    (IsCharacter.unit (unit ha hb hc hd)
    (no_surrogate (digit_value a * 16 + digit_value b) (digit_value c) (digit_value d) (hex_of hc) (hex_of hd) o p)) r
escape_chars
    (u (hex1 {a} ha
    (hex2 {a = b} hb o
    (hex3 {a = c} hc
    (high {a = d} hd p
    (backslash
    (second_u (lower1 {a = e} he (lower2 {a = f} hf (lower3 {a = g} hg (lower4 {a = h} {bs} {x} hh r))))))))))) =
    let hex_e : IsHex e = record { below = omega arith } in
    let hex_f : IsHex f = let i = hf.high in record { below = omega arith } in
    let high : ℕ = ((digit_value a * 16 + digit_value b) * 16 + digit_value c) * 16 + digit_value d in
    subst (λ z. AreCharacters (92 ∷ 117 ∷ a ∷ b ∷ c ∷ d ∷ 92 ∷ 117 ∷ e ∷ f ∷ g ∷ h ∷ bs)
    (encode_utf8 (0x10000 + (high - 0xd800) * 0x400
    + ((((z * 16 + digit_value f) * 16 + digit_value g) * 16 + digit_value h) - 0xdc00)) ++ x)) he
    (next (IsCharacter.pair (unit ha hb hc hd) p (unit hex_e hex_f hg hh)
    (low_range (digit_value e) (digit_value f) (digit_value g) (digit_value h) he hf (hex_of hg) (hex_of hh))) r)

pub whole_chars : {bs x : List ℕ} → Completes machine.plain bs x → AreCharacters bs x
whole_chars (plain h) = h

plain_back : (b : ℕ) (bs x : List ℕ) (r : Within × List ℕ) → inside_step machine.plain b ≡ Some r → Completes r.0 bs x
    → AreCharacters (b ∷ bs) (r.1 ++ x)
unfolding inside_step
plain_back b bs x r e =
    let G : (Within × List ℕ) → Type 0 = λ r. Completes r.0 bs x → AreCharacters (b ∷ bs) (r.1 ++ x) in
    branch G (is_plain b) _ _ r e
    (λ t f. taken G _ r f
    (λ c. next
    (IsCharacter.plain (record {
      low = grind (arith, nat_tests);
      high = grind (arith, nat_tests);
      no_quote = grind (arith, nat_tests);
      no_backslash = grind (arith, nat_tests);
    })) (whole_chars c)))
    (λ n0 f0. branch G (b == 92) _ _ r f0
    (λ t f. taken G _ r f (λ c. let i : b ≡ 92 = grind (arith, nat_tests) in rw i (escape_chars c)))
    (λ n1 f1. branch G (between 0xc2 0xdf b) _ _ r f1
    (λ t f. taken G _ r f
    (λ c. two_chars (record { low = grind (arith, nat_tests); high = grind (arith, nat_tests) }) c))
    (λ n2 f2. branch G (b == 0xe0) _ _ r f2
    (λ t f. taken G _ r f (λ c. let i : b ≡ 0xe0 = grind (arith, nat_tests) in rw i (e0_chars c)))
    (λ n3 f3. branch G (b == 0xed) _ _ r f3
    (λ t f. taken G _ r f (λ c. let i : b ≡ 0xed = grind (arith, nat_tests) in rw i (ed_chars c)))
    (λ n4 f4. branch G (between 0xe1 0xef b) _ _ r f4
    (λ t f. taken G _ r f
    (λ c. three_chars (record { low = grind (arith, nat_tests); high = grind (arith, nat_tests) })
    (grind (arith, nat_tests)) c))
    (λ n5 f5. branch G (b == 0xf0) _ _ r f5
    (λ t f. taken G _ r f (λ c. let i : b ≡ 0xf0 = grind (arith, nat_tests) in rw i (f0_chars c)))
    (λ n6 f6. branch G (between 0xf1 0xf3 b) _ _ r f6
    (λ t f. taken G _ r f
    (λ c. four_chars (record { low = grind (arith, nat_tests); high = grind (arith, nat_tests) }) c))
    (λ n7 f7. branch G (b == 0xf4) _ _ r f7
    (λ t f. taken G _ r f (λ c. let i : b ≡ 0xf4 = grind (arith, nat_tests) in rw i (f4_chars c)))
    (λ n8 f8. absurd (none_some r f8))))))))))

short_is : (b c : ℕ) → machine.short_escape b ≡ Some c → IsShortEscape b c
short_is b c e =
    let G : ℕ → Type 0 = λ c. IsShortEscape b c in
    branch G ((b == 34) || ((b == 92) || (b == 47))) _ _ c e (λ t f. taken G _ c f (quoting t))
    (λ n0 f0. branch G (b == 98) _ _ c f0
    (λ t f. taken G _ c f (let i : b ≡ 98 = grind (arith, nat_tests) in rw i IsShortEscape.backspace))
    (λ n1 f1. branch G (b == 102) _ _ c f1
    (λ t f. taken G _ c f (let i : b ≡ 102 = grind (arith, nat_tests) in rw i IsShortEscape.form_feed))
    (λ n2 f2. branch G (b == 110) _ _ c f2
    (λ t f. taken G _ c f (let i : b ≡ 110 = grind (arith, nat_tests) in rw i IsShortEscape.line_feed))
    (λ n3 f3. branch G (b == 114) _ _ c f3
    (λ t f. taken G _ c f (let i : b ≡ 114 = grind (arith, nat_tests) in rw i IsShortEscape.carriage_return))
    (λ n4 f4. branch G (b == 116) _ _ c f4
    (λ t f. taken G _ c f (let i : b ≡ 116 = grind (arith, nat_tests) in rw i IsShortEscape.tab))
    (λ n5 f5. absurd (none_some c f5)))))))
  where
    quoting : ((b == 34) || ((b == 92) || (b == 47))) ≡ true → IsShortEscape b b
    quoting t =
        let o : (b ≡ 34) ⊎ ((b ≡ 92) ⊎ (b ≡ 47)) = grind (arith, nat_tests) in
        elim o [
          | inl i ↦ rw i IsShortEscape.quote
          | inr p ↦
              elim p [ inl i ↦ rw i IsShortEscape.backslash | inr i ↦ rw i IsShortEscape.slash ]
        ]

escape_back : (b : ℕ) (bs x : List ℕ) (o : Option ℕ) (r : Within × List ℕ) → machine.short_escape b ≡ o
    → machine.escaped b o ≡ Some r → Completes r.0 bs x → Completes machine.escape (b ∷ bs) (r.1 ++ x)
escape_back b bs x (Some c) r s e = taken (λ r. Completes r.0 bs x → Completes machine.escape (b ∷ bs) (r.1 ++ x)) _ r e
    (λ q. short (short_is b c s) (whole_chars q))
escape_back b bs x None r s e =
    let G : (Within × List ℕ) → Type 0 = λ r. Completes r.0 bs x → Completes machine.escape (b ∷ bs) (r.1 ++ x) in
    branch G (b == 117) _ _ r e (λ t f. taken G _ r f (λ c. let i : b ≡ 117 = grind (arith, nat_tests) in rw i (u c)))
    (λ n f. absurd (none_some r f))

is_hex : (b : ℕ) → machine.is_hex b ≡ true → IsHex b
is_hex b t = record { below = grind (arith, nat_tests) }

between_is : (l m b : ℕ) → between l m b ≡ true → Between l m b
between_is l m b t = record { low = grind (arith, nat_tests); high = grind (arith, nat_tests) }

tail_is : (b : ℕ) → is_tail b ≡ true → IsUtf8Tail b
tail_is b t = between_is 0x80 0xbf b t

-- a test behind which there is nothing else
abbrev Back : Within → ℕ → List ℕ → List ℕ → (Within × List ℕ) → Type 0
Back p b bs x r = Completes r.0 bs x → Completes p (b ∷ bs) (r.1 ++ x)

unit2_back : (v b : ℕ) (bs x : List ℕ) (r : Within × List ℕ) → inside_step (unit2 v) b ≡ Some r
    → Back (unit2 v) b bs x r
unfolding inside_step
unit2_back v b bs x r e =
    branch (Back (unit2 v) b bs x) (machine.is_hex b) _ _ r e
    (λ t f. branch (Back (unit2 v) b bs x) (between 0xdc 0xdf (v * 16 + digit_value b)) _ _ r f
    (λ t2 f2. absurd (none_some r f2))
    (λ t2 f2. taken (Back (unit2 v) b bs x) _ r f2 (λ c. hex2 (is_hex b t) (grind (arith, nat_tests)) c)))
    (λ n f. absurd (none_some r f))

unit4_back : (v b : ℕ) (bs x : List ℕ) (r : Within × List ℕ) → inside_step (unit4 v) b ≡ Some r
    → Back (unit4 v) b bs x r
unfolding inside_step
unit4_back v b bs x r e =
    branch (Back (unit4 v) b bs x) (machine.is_hex b) _ _ r e
    (λ t f. branch (Back (unit4 v) b bs x) (between 0xd800 0xdbff (v * 16 + digit_value b)) _ _ r f
    (λ t2 f2. taken (Back (unit4 v) b bs x) _ r f2
    (λ c. high (is_hex b t) (between_is 0xd800 0xdbff (v * 16 + digit_value b) t2) c))
    (λ t2 f2. taken (Back (unit4 v) b bs x) _ r f2 (λ c. hex4 (is_hex b t) (grind (arith, nat_tests)) (whole_chars c))))
    (λ n f. absurd (none_some r f))

pub inside_back : (p : Within) (b : ℕ) (bs x : List ℕ) (r : Within × List ℕ)
    → inside_step p b ≡ Some r → Back p b bs x r
unfolding inside_step
inside_back machine.plain b bs x r e = λ c. plain (plain_back b bs x r e c)
inside_back (tails zero) b bs x r e =
    guarded (Back (tails 0) b bs x) (is_tail b) _ r e (λ t c. last_tail (tail_is b t) (whole_chars c))
inside_back (tails (suc n)) b bs x r e =
    guarded (Back (tails (suc n)) b bs x) (is_tail b) _ r e (λ t c. more_tails (tail_is b t) c)
inside_back after_e0 b bs x r e =
    guarded (Back after_e0 b bs x) (between 0xa0 0xbf b) _ r e (λ t c. e0 (between_is 0xa0 0xbf b t) c)
inside_back after_ed b bs x r e =
    guarded (Back after_ed b bs x) (between 0x80 0x9f b) _ r e (λ t c. ed (between_is 0x80 0x9f b t) c)
inside_back after_f0 b bs x r e =
    guarded (Back after_f0 b bs x) (between 0x90 0xbf b) _ r e (λ t c. f0 (between_is 0x90 0xbf b t) c)
inside_back after_f4 b bs x r e =
    guarded (Back after_f4 b bs x) (between 0x80 0x8f b) _ r e (λ t c. f4 (between_is 0x80 0x8f b t) c)
inside_back machine.escape b bs x r e = escape_back b bs x (machine.short_escape b) r refl e
inside_back unit1 b bs x r e = guarded (Back unit1 b bs x) (machine.is_hex b) _ r e (λ t c. hex1 (is_hex b t) c)
inside_back (unit2 v) b bs x r e = unit2_back v b bs x r e
inside_back (unit3 v) b bs x r e = guarded (Back (unit3 v) b bs x) (machine.is_hex b) _ r e (λ t c. hex3 (is_hex b t) c)
inside_back (unit4 v) b bs x r e = unit4_back v b bs x r e
inside_back (paired v) b bs x r e = guarded (Back (paired v) b bs x) (b == 92) _ r e
    (λ t c. let i : b ≡ 92 = grind (arith, nat_tests) in rw i (backslash c))
inside_back (paired_escape v) b bs x r e = guarded (Back (paired_escape v) b bs x) (b == 117) _ r e
    (λ t c. let i : b ≡ 117 = grind (arith, nat_tests) in rw i (second_u c))
inside_back (low1 v) b bs x r e =
    guarded (Back (low1 v) b bs x) (digit_value b == 13) _ r e (λ t c. lower1 (grind (arith, nat_tests)) c)
inside_back (low2 v) b bs x r e = guarded (Back (low2 v) b bs x) (between 12 15 (digit_value b)) _ r e
    (λ t c. lower2 (between_is 12 15 (digit_value b) t) c)
inside_back (low3 o v) b bs x r e =
    guarded (Back (low3 o v) b bs x) (machine.is_hex b) _ r e (λ t c. lower3 (is_hex b t) c)
inside_back (low4 o v) b bs x r e =
    guarded (Back (low4 o v) b bs x) (machine.is_hex b) _ r e (λ t c. lower4 (is_hex b t) (whole_chars c))
