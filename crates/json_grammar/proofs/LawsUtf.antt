-- The text of a string is UTF-8.
use Rattle.std.specs.Prelude.{◌-◌, ◌*◌, ◌⊎◌, ◌/◌, ◌%◌}
use Rattle.std.proofs.Common.{◌≡◌, ◌≢◌, ℕ, ◌+◌, ◌<◌, ◌≤◌, List, [], ◌∷◌, true, refl, subst, inl, inr, arith}
use Rattle.std.proofs.lemmas.Bool.Decides.{nat_tests}
use Rattle.std.specs.Str.{IsUtf8}
use Rattle.std.specs.Char.{encode_utf8}
use Rattle.std.proofs.lemmas.Str.{IsUtf8-append, IsUtf8-nil, IsUtf8-encode, encode_ascii}
use lib.Utf8.{scalar}
use Rattle.json_grammar.specs.Grammar.{Between, IsUtf8Tail, IsShortEscape, IsCharacter, AreCharacters, none, next}

two_is : (c a b : ℕ) → c ≡ (a - 192) * 64 + (b - 128) → Between 0xc2 0xdf a → IsUtf8Tail b → encode_utf8 c ≡ a ∷ b ∷ []
unfolding encode_utf8
two_is c a b e h g =
    let l = h.low in let m = h.high in let n = g.low in let o = g.high in
    let x : 192 + c / 64 ≡ a = omega arith in
    let y : 128 + c % 64 ≡ b = omega arith in
    grind (arith, nat_tests)

three_is : (w a b c : ℕ) → w ≡ ((a - 224) * 64 + (b - 128)) * 64 + (c - 128) → 2048 ≤ w → Between 0xe0 0xef a
    → IsUtf8Tail b → IsUtf8Tail c → encode_utf8 w ≡ a ∷ b ∷ c ∷ []
unfolding encode_utf8
three_is w a b c e least h g f =
    let l = h.low in let m = h.high in let n = g.low in let o = g.high in let p = f.low in let q = f.high in
    let x : 224 + w / 4096 ≡ a = omega arith in
    let y : 128 + w / 64 % 64 ≡ b = omega arith in
    let z : 128 + w % 64 ≡ c = omega arith in
    grind (arith, nat_tests)

four_is : (w a b c d : ℕ) → w ≡ (((a - 240) * 64 + (b - 128)) * 64 + (c - 128)) * 64 + (d - 128) → 65536 ≤ w
    → Between 0xf0 0xf4 a → IsUtf8Tail b → IsUtf8Tail c → IsUtf8Tail d → encode_utf8 w ≡ a ∷ b ∷ c ∷ d ∷ []
unfolding encode_utf8
four_is w a b c d e least h g f i =
    let l = h.low in let m = h.high in let n = g.low in let o = g.high in let p = f.low in let q = f.high in
    let r = i.low in let s = i.high in
    let x : 240 + w / 262144 ≡ a = omega arith in
    let y : 128 + w / 4096 % 64 ≡ b = omega arith in
    let z : 128 + w / 64 % 64 ≡ c = omega arith in
    let v : 128 + w % 64 ≡ d = omega arith in
    grind (arith, nat_tests)

scalar_is : (c : ℕ) → (c < 0xd800) ⊎ ((0xe000 ≤ c) × (c < 0x11_0000)) → scalar c ≡ true
scalar_is c o = grind (arith, nat_tests)

pub utf_one : (b : ℕ) → b < 128 → IsUtf8 (b ∷ [])
utf_one b h = subst IsUtf8 (encode_ascii b h) (IsUtf8-encode b (scalar_is b (inl (omega arith))))

utf_two : (a b : ℕ) → Between 0xc2 0xdf a → IsUtf8Tail b → IsUtf8 (a ∷ b ∷ [])
utf_two a b h g =
    let w : ℕ = (a - 192) * 64 + (b - 128) in
    let m = h.high in let o = g.high in
    let small : w < 0xd800 = omega arith in
    subst IsUtf8 (two_is w a b refl h g) (IsUtf8-encode w (scalar_is w (inl small)))

utf_three : (a b c : ℕ) → Between 0xe0 0xef a → IsUtf8Tail b → IsUtf8Tail c → (0xe1 ≤ a) ⊎ (0xa0 ≤ b)
    → (a ≢ 0xed) ⊎ (b < 0xa0) → IsUtf8 (a ∷ b ∷ c ∷ [])
utf_three a b c h g f p q =
    let w : ℕ = ((a - 224) * 64 + (b - 128)) * 64 + (c - 128) in
    let l = h.low in let m = h.high in let n = g.low in let o = g.high in let r = f.low in let s = f.high in
    let least : 2048 ≤ w = omega arith in
    let sides : (w < 0xd800) ⊎ ((0xe000 ≤ w) × (w < 0x11_0000)) = grind arith in
    subst IsUtf8 (three_is w a b c refl least h g f) (IsUtf8-encode w (scalar_is w sides))

utf_four : (a b c d : ℕ) → Between 0xf0 0xf4 a → IsUtf8Tail b → IsUtf8Tail c → IsUtf8Tail d → (0xf1 ≤ a) ⊎ (0x90 ≤ b)
    → (a < 0xf4) ⊎ (b < 0x90) → IsUtf8 (a ∷ b ∷ c ∷ d ∷ [])
utf_four a b c d h g f i p q =
    let w : ℕ = (((a - 240) * 64 + (b - 128)) * 64 + (c - 128)) * 64 + (d - 128) in
    let l = h.low in let m = h.high in let n = g.low in let o = g.high in let r = f.low in let s = f.high in
    let t = i.low in let u = i.high in
    let least : 65536 ≤ w = omega arith in
    let most : w < 0x11_0000 = omega arith in
    subst IsUtf8 (four_is w a b c d refl least h g f i) (IsUtf8-encode w (scalar_is w (inr (omega arith, most))))

tail : (l m b : ℕ) → 0x80 ≤ l → m ≤ 0xbf → Between l m b → IsUtf8Tail b
tail l m b p q h = let i = h.low in let j = h.high in record { low = omega arith; high = omega arith }

wide : (l m x y a : ℕ) → x ≤ l → m ≤ y → Between l m a → Between x y a
wide l m x y a p q h = let i = h.low in let j = h.high in record { low = omega arith; high = omega arith }

utf_short : {b c : ℕ} → IsShortEscape b c → IsUtf8 (c ∷ [])
utf_short {c = c} IsShortEscape.quote = utf_one 34 (omega arith)
utf_short {c = c} _ = utf_one c (omega arith)

pair_scalar : (high low : ℕ) → Between 0xd800 0xdbff high → Between 0xdc00 0xdfff low
    → scalar (0x10000 + (high - 0xd800) * 0x400 + (low - 0xdc00)) ≡ true
pair_scalar high low h g =
    let i = h.low in let j = h.high in let k = g.low in let l = g.high in
    scalar_is (0x10000 + (high - 0xd800) * 0x400 + (low - 0xdc00)) (inr (omega arith, omega arith))

unit_small : {ds : List ℕ} {u : ℕ} → Rattle.json_grammar.specs.Grammar.AreFourHexDigits ds u → u < 0x11_0000
unit_small (Rattle.json_grammar.specs.Grammar.unit ha hb hc hd) = let a = ha.below in let b = hb.below in
    let c = hc.below in let d = hd.below in omega arith

pub utf_character : {c x : List ℕ} → IsCharacter c x → IsUtf8 x
utf_character (IsCharacter.plain {b} h) = let i = h.high in utf_one b (omega arith)
utf_character (IsCharacter.two {a} {b} h g) = utf_two a b h g
utf_character (IsCharacter.three_e0 {b} {c} h g) = utf_three 0xe0 b c (record { low = omega arith; high = omega arith })
    (tail 0xa0 0xbf b (omega arith) (omega arith) h) g (inr h.low) (inl (grind arith))
utf_character (IsCharacter.three {a} {b} {c} h n g f) =
    utf_three a b c (wide 0xe1 0xef 0xe0 0xef a (omega arith) (omega arith) h) g f (inl h.low) (inl n)
utf_character (IsCharacter.three_ed {b} {c} h g) = utf_three 0xed b c (record { low = omega arith; high = omega arith })
    (tail 0x80 0x9f b (omega arith) (omega arith) h) g (inl (omega arith)) (inr (let i = h.high in omega arith))
utf_character (IsCharacter.four_f0 {b} {c} {d} h g f) = utf_four 0xf0 b c d
    (record { low = omega arith; high = omega arith }) (tail 0x90 0xbf b (omega arith) (omega arith) h) g f
    (inr h.low) (inl (omega arith))
utf_character (IsCharacter.four {a} {b} {c} {d} h g f i) = utf_four a b c d
    (wide 0xf1 0xf3 0xf0 0xf4 a (omega arith) (omega arith) h) g f i (inl h.low) (inl (let j = h.high in omega arith))
utf_character (IsCharacter.four_f4 {b} {c} {d} h g f) = utf_four 0xf4 b c d
    (record { low = omega arith; high = omega arith }) (tail 0x80 0x8f b (omega arith) (omega arith) h) g f
    (inl (omega arith)) (inr (let j = h.high in omega arith))
utf_character (IsCharacter.escape h) = utf_short h
utf_character (IsCharacter.unit {u = u} h o) = let s = unit_small h in IsUtf8-encode u (scalar_is u (grind arith))
utf_character (IsCharacter.pair {high = high} {low} h i g j) = IsUtf8-encode _ (pair_scalar high low i j)

pub utf_characters : {cs x : List ℕ} → AreCharacters cs x → IsUtf8 x
utf_characters AreCharacters.none = IsUtf8-nil
utf_characters (AreCharacters.next {x = x} {text = xs} h hs) = IsUtf8-append x xs (utf_character h) (utf_characters hs)
