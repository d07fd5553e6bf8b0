-- Between its quotes a text in UTF-8 without control bytes is read as itself.
use Rattle.std.specs.Prelude.{◌⊎◌, ◌/◌, ◌%◌, All, cond}
use Rattle.std.proofs.Common.{◌≡◌, ◌≢◌, ℕ, ◌+◌, ◌<◌, ◌≤◌, List, [], ◌∷◌, ◌++◌, true, false, refl, sym, ◌∙◌, ap}
use Rattle.std.proofs.Common.{subst, inl, inr, arith}
use Rattle.std.proofs.lemmas.Bool.{cases_lt, cases_eq, cases_Bool, and_parts}
use Rattle.std.proofs.lemmas.Bool.Decides.{nat_tests}
use Rattle.std.proofs.lemmas.List.Elements.{All-head, All-tail}
use Rattle.std.proofs.lemmas.Str.{encode_ascii}
use Rattle.std.specs.Char.{encode_utf8}
use lib.Utf8.{scalar, scalars, encodes, scalar_cases}
use Rattle.json_grammar.specs.Grammar.{Between, IsUtf8Tail, IsShortEscape, IsCharacter, AreCharacters, IsString}
use Rattle.json_grammar.specs.laws.Spelling.{needs_escape, escaped, quoted}
use Rattle.json_grammar.specs.laws.Spellable.{IsSpellableText}

pub escaped-nil : escaped [] ≡ []
unfolding escaped
escaped-nil = refl

-- a byte that is no quote and no backslash stays as it is
pub escaped-other : (b : ℕ) (bs : List ℕ) → needs_escape b ≡ false → escaped (b ∷ bs) ≡ b ∷ escaped bs
unfolding escaped
escaped-other b bs e = rw e refl

-- a quote or a backslash gets a backslash
pub escaped-escape : (b : ℕ) (bs : List ℕ) → needs_escape b ≡ true → escaped (b ∷ bs) ≡ 92 ∷ b ∷ escaped bs
unfolding escaped
escaped-escape b bs e = rw e refl

pub escaped-append : (a b : List ℕ) → escaped (a ++ b) ≡ escaped a ++ escaped b
unfolding escaped
escaped-append [] b = refl
escaped-append (x ∷ a) b = elim (needs_escape x) as
    (λ t. cond t (92 ∷ x ∷ escaped (a ++ b)) (x ∷ escaped (a ++ b))
    ≡ cond t (92 ∷ x ∷ escaped a) (x ∷ escaped a) ++ escaped b)
    [ true ↦ ap (λ z. 92 ∷ x ∷ z) (escaped-append a b) | false ↦ ap (λ z. x ∷ z) (escaped-append a b) ]

-- none of the bytes is ASCII
abbrev pub AreHigh : List ℕ → Type 0
AreHigh [] = Unit {0}
AreHigh (b ∷ bs) = (128 ≤ b) × AreHigh bs

high_needs_no_escape : (b : ℕ) → 128 ≤ b → needs_escape b ≡ false
high_needs_no_escape b h = grind (arith, nat_tests)

pub escaped-high : (x : List ℕ) → AreHigh x → escaped x ≡ x
escaped-high [] h = escaped-nil
escaped-high (b ∷ bs) h =
    escaped-other b bs (high_needs_no_escape b h.0) ∙ ap (λ z. b ∷ z) (escaped-high bs h.1)

-- the bytes are one character, which is read as themselves once it is escaped
abbrev IsReadBack : List ℕ → Type 0
IsReadBack x = IsCharacter (escaped x) x

high_back : (x : List ℕ) → AreHigh x → IsCharacter x x → IsReadBack x
high_back x h c = subst (λ z. IsCharacter z x) (sym (escaped-high x h)) c

-- a character of one byte
escape_back : (b : ℕ) → (b ≡ 34) ⊎ (b ≡ 92) → IsCharacter (92 ∷ b ∷ []) (b ∷ [])
escape_back b (inl e) =
    subst (λ z. IsCharacter (92 ∷ z ∷ []) (z ∷ [])) (sym e) (IsCharacter.escape IsShortEscape.quote)
escape_back b (inr e) =
    subst (λ z. IsCharacter (92 ∷ z ∷ []) (z ∷ [])) (sym e) (IsCharacter.escape IsShortEscape.backslash)

one_by : (b : ℕ) → 32 ≤ b → b < 128 → (needs_escape b ≡ true) ⊎ (needs_escape b ≡ false) → IsReadBack (b ∷ [])
one_by b low high (inl e) = subst (λ z. IsCharacter z (b ∷ []))
    (sym (escaped-escape b [] e ∙ ap (λ z. 92 ∷ b ∷ z) escaped-nil)) (escape_back b (grind (arith, nat_tests)))
one_by b low high (inr e) = subst (λ z. IsCharacter z (b ∷ []))
    (sym (escaped-other b [] e ∙ ap (λ z. b ∷ z) escaped-nil))
    (IsCharacter.plain (record {
      low = low;
      high = omega arith;
      no_quote = grind (arith, nat_tests);
      no_backslash = grind (arith, nat_tests);
    }))

one_back : (b : ℕ) → 32 ≤ b → b < 128 → IsReadBack (b ∷ [])
one_back b low high = one_by b low high (cases_Bool (needs_escape b))

-- the bytes behind the first one of a character
tail_is : (n : ℕ) → IsUtf8Tail (128 + n % 64)
tail_is n = record { low = omega arith; high = omega arith }

-- a character of two bytes
two_bytes : (c : ℕ) → 128 ≤ c → c < 2048 → encode_utf8 c ≡ (192 + c / 64) ∷ (128 + c % 64) ∷ []
unfolding encode_utf8
two_bytes c low high = grind (arith, nat_tests)

two_back : (c : ℕ) → 128 ≤ c → c < 2048 → IsReadBack (encode_utf8 c)
two_back c low high = subst IsReadBack (sym (two_bytes c low high))
    (high_back _ (omega arith, (omega arith, tt))
    (IsCharacter.two (record { low = omega arith; high = omega arith }) (tail_is c)))

-- a character of three bytes
three_bytes : (c : ℕ) → 2048 ≤ c → c < 65536
    → encode_utf8 c ≡ (224 + c / 4096) ∷ (128 + c / 64 % 64) ∷ (128 + c % 64) ∷ []
unfolding encode_utf8
three_bytes c low high = grind (arith, nat_tests)

three_by : (a b c : ℕ) → Between 0xe0 0xef a → (a ≡ 0xe0 → 0xa0 ≤ b) → (a ≡ 0xed → b ≤ 0x9f) → IsUtf8Tail b
    → IsUtf8Tail c → (a ≡ 0xe0) ⊎ (a ≢ 0xe0) → (a ≡ 0xed) ⊎ (a ≢ 0xed) → IsCharacter (a ∷ b ∷ c ∷ []) (a ∷ b ∷ c ∷ [])
three_by a b c range least most h g (inl e) _ = subst (λ z. IsCharacter (z ∷ b ∷ c ∷ []) (z ∷ b ∷ c ∷ [])) (sym e)
    (IsCharacter.three_e0 (record { low = least e; high = h.high }) g)
three_by a b c range least most h g (inr n) (inl e) =
    subst (λ z. IsCharacter (z ∷ b ∷ c ∷ []) (z ∷ b ∷ c ∷ [])) (sym e)
    (IsCharacter.three_ed (record { low = h.low; high = most e }) g)
three_by a b c range least most h g (inr n) (inr m) =
    let low = range.low in
    IsCharacter.three (record { low = grind arith; high = range.high }) m h g

three_back : (c : ℕ) → 2048 ≤ c → c < 65536 → scalar c ≡ true → IsReadBack (encode_utf8 c)
three_back c low high s =
    let sides = scalar_cases c s in
    subst IsReadBack (sym (three_bytes c low high))
    (high_back _ (omega arith, (omega arith, (omega arith, tt)))
    (three_by (224 + c / 4096) (128 + c / 64 % 64) (128 + c % 64) (record { low = omega arith; high = omega arith })
    (λ e. omega arith) (λ e. grind arith) (tail_is (c / 64)) (tail_is c) (cases_eq _ _) (cases_eq _ _)))

-- a character of four bytes
four_bytes : (c : ℕ) → 65536 ≤ c
    → encode_utf8 c ≡ (240 + c / 262144) ∷ (128 + c / 4096 % 64) ∷ (128 + c / 64 % 64) ∷ (128 + c % 64) ∷ []
unfolding encode_utf8
four_bytes c low = grind (arith, nat_tests)

four_by : (a b c d : ℕ) → Between 0xf0 0xf4 a → (a ≡ 0xf0 → 0x90 ≤ b) → (a ≡ 0xf4 → b ≤ 0x8f) → IsUtf8Tail b
    → IsUtf8Tail c → IsUtf8Tail d → (a ≡ 0xf0) ⊎ (a ≢ 0xf0) → (a ≡ 0xf4) ⊎ (a ≢ 0xf4)
    → IsCharacter (a ∷ b ∷ c ∷ d ∷ []) (a ∷ b ∷ c ∷ d ∷ [])
four_by a b c d range least most h g f (inl e) _ =
    subst (λ z. IsCharacter (z ∷ b ∷ c ∷ d ∷ []) (z ∷ b ∷ c ∷ d ∷ [])) (sym e)
    (IsCharacter.four_f0 (record { low = least e; high = h.high }) g f)
four_by a b c d range least most h g f (inr n) (inl e) =
    subst (λ z. IsCharacter (z ∷ b ∷ c ∷ d ∷ []) (z ∷ b ∷ c ∷ d ∷ [])) (sym e)
    (IsCharacter.four_f4 (record { low = h.low; high = most e }) g f)
four_by a b c d range least most h g f (inr n) (inr m) =
    let low = range.low in let high = range.high in
    IsCharacter.four (record { low = grind arith; high = grind arith }) h g f

four_back : (c : ℕ) → 65536 ≤ c → scalar c ≡ true → IsReadBack (encode_utf8 c)
four_back c low s =
    let sides = scalar_cases c s in
    let high : c < 1114112 = grind arith in
    subst IsReadBack (sym (four_bytes c low))
    (high_back _ (omega arith, (omega arith, (omega arith, (omega arith, tt))))
    (four_by (240 + c / 262144) (128 + c / 4096 % 64) (128 + c / 64 % 64) (128 + c % 64)
    (record { low = omega arith; high = omega arith }) (λ e. omega arith) (λ e. omega arith) (tail_is (c / 4096))
    (tail_is (c / 64)) (tail_is c) (cases_eq _ _) (cases_eq _ _)))

-- a character is read back as its own bytes, unless it is a control character
back_by : (c : ℕ) → scalar c ≡ true → (c < 128 → 32 ≤ c) → (c < 128) ⊎ (128 ≤ c) → (c < 2048) ⊎ (2048 ≤ c)
    → (c < 65536) ⊎ (65536 ≤ c) → IsReadBack (encode_utf8 c)
back_by c s printable (inl h) _ _ = subst IsReadBack (sym (encode_ascii c h)) (one_back c (printable h) h)
back_by c s printable (inr h) (inl g) _ = two_back c h g
back_by c s printable (inr h) (inr g) (inl f) = three_back c g f s
back_by c s printable (inr h) (inr g) (inr f) = four_back c f s

first_printable : (c : ℕ) (bs : List ℕ) → All (λ b. 32 ≤ b) (encode_utf8 c ++ bs) → c < 128 → 32 ≤ c
first_printable c bs h low = All-head (λ b. 32 ≤ b) c bs
    (subst (λ z. All (λ b. 32 ≤ b) (z ++ bs)) (encode_ascii c low) h)

All-behind : (P : ℕ → Type 0) (a b : List ℕ) → All P (a ++ b) → All P b
All-behind P [] b h = h
All-behind P (x ∷ a) b h = All-behind P a b (All-tail P x (a ++ b) h)

characters : (cs : List ℕ) → scalars cs ≡ true → All (λ b. 32 ≤ b) (encodes cs)
    → AreCharacters (escaped (encodes cs)) (encodes cs)
characters [] s h = subst (λ z. AreCharacters z []) (sym escaped-nil) AreCharacters.none
characters (c ∷ cs) s h =
    let parts = and_parts (scalar c) (scalars cs) s in
    subst (λ z. AreCharacters z (encode_utf8 c ++ encodes cs)) (sym (escaped-append (encode_utf8 c) (encodes cs)))
    (AreCharacters.next
    (back_by c parts.0 (first_printable c (encodes cs) h) (cases_lt _ _) (cases_lt _ _) (cases_lt _ _))
    (characters cs parts.1 (All-behind (λ b. 32 ≤ b) (encode_utf8 c) (encodes cs) h)))

-- what stands between the quotes is read as the text
pub escaped_is_read : (s : List ℕ) → IsSpellableText s → AreCharacters (escaped s) s
escaped_is_read s h =
    let utf = h.utf8 in
    subst (λ z. AreCharacters (escaped z) z) utf.1.1
    (characters utf.0 utf.1.0 (subst (All (λ b. 32 ≤ b)) (sym utf.1.1) h.printable))

pub quoted_is_read : (s : List ℕ) → IsSpellableText s → IsString (quoted s) s
unfolding quoted
quoted_is_read s h = IsString.quoted (escaped_is_read s h)
