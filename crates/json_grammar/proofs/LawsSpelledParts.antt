-- Values and fields from lists: each is sound and nested at most so deep where the parts are. ASCII texts, and strings.
use Rattle.std.specs.Prelude.{All, ◌&&◌, nat_le, nat_lt}
use Rattle.std.proofs.Common.{◌≡◌, ℕ, zero, suc, ◌≤◌, ◌<◌, List, [], ◌∷◌, Bool, true, arith}
use Rattle.std.proofs.lemmas.Bool.{and_parts}
use Rattle.std.proofs.lemmas.Bool.Decides.{nat_tests}
use Rattle.std.proofs.lemmas.List.Elements.{All-nil, All-cons, All-head, All-tail}
use Rattle.std.proofs.lemmas.Str.{IsUtf8-from_ascii, IsUtf8-string_bytes}
use Rattle.std.specs.Prelude.{string_bytes}
use Rattle.std.specs.declared.string.String.{String}
use Rattle.std.specs.Str.{IsAscii}
use Rattle.json_grammar.specs.laws.Value.{Value, Field, values_of, fields_of, depth, values_depth, fields_depth}
use Rattle.json_grammar.specs.laws.Spellable.{IsSpellableText, IsSound, AreSound, AreSoundFields}

pub AreSound-values_of : (vs : List Value) → All IsSound vs → AreSound (values_of vs)
AreSound-values_of [] h = tt
AreSound-values_of (v ∷ vs) h = (All-head IsSound v vs h, AreSound-values_of vs (All-tail IsSound v vs h))

-- the key and the value of a field are sound
pub record IsSoundField (f : Field) : Type 0 where
  pub key : IsSpellableText f.key
  pub value : IsSound f.value

pub AreSoundFields-fields_of : (fs : List Field) → All IsSoundField fs → AreSoundFields (fields_of fs)
AreSoundFields-fields_of [] h = tt
AreSoundFields-fields_of (f ∷ fs) h =
    let first = All-head IsSoundField f fs h in
    (first.key, first.value, AreSoundFields-fields_of fs (All-tail IsSoundField f fs h))

pub values_depth-values_of : (n : ℕ) (vs : List Value) → All (λ v. depth v ≤ n) vs → values_depth (values_of vs) ≤ n
values_depth-values_of n [] h = omega arith
values_depth-values_of n (v ∷ vs) h =
    let first = All-head (λ v. depth v ≤ n) v vs h in
    let rest = values_depth-values_of n vs (All-tail (λ v. depth v ≤ n) v vs h) in
    omega arith

pub fields_depth-fields_of : (n : ℕ) (fs : List Field) → All (λ f. depth f.value ≤ n) fs
    → fields_depth (fields_of fs) ≤ n
fields_depth-fields_of n [] h = omega arith
fields_depth-fields_of n (f ∷ fs) h =
    let first = All-head (λ f. depth f.value ≤ n) f fs h in
    let rest = fields_depth-fields_of n fs (All-tail (λ f. depth f.value ≤ n) f fs h) in
    omega arith

-- a byte of ASCII that is no control byte
abbrev pub is_printable : ℕ → Bool
is_printable b = nat_le 32 b && nat_lt b 128

-- each byte is
abbrev pub are_printable : List ℕ → Bool
are_printable [] = true
are_printable (b ∷ bs) = is_printable b && are_printable bs

printable_parts : (b : ℕ) (bs : List ℕ) → are_printable (b ∷ bs) ≡ true
    → (32 ≤ b) × (b < 128) × (are_printable bs ≡ true)
printable_parts b bs h =
    let both = and_parts (is_printable b) (are_printable bs) h in
    let ends = and_parts (nat_le 32 b) (nat_lt b 128) both.0 in
    (grind (arith, nat_tests), grind (arith, nat_tests), both.1)

printable_ascii : (bs : List ℕ) → are_printable bs ≡ true → IsAscii bs
printable_ascii [] h i = omega arith
printable_ascii (b ∷ bs) h zero = (printable_parts b bs h).1
printable_ascii (b ∷ bs) h (suc i) = printable_ascii bs (printable_parts b bs h).2 i

printable_all : (bs : List ℕ) → are_printable bs ≡ true → All (λ b. 32 ≤ b) bs
printable_all [] h = All-nil (λ b. 32 ≤ b)
printable_all (b ∷ bs) h =
    let parts = printable_parts b bs h in
    All-cons (λ b. 32 ≤ b) b bs parts.0 (printable_all bs parts.2)

-- a text in ASCII, where it is written out: by refl
pub IsSpellableText-from_ascii : (bs : List ℕ) → are_printable bs ≡ true → IsSpellableText bs
IsSpellableText-from_ascii bs h =
    record { utf8 = IsUtf8-from_ascii bs (printable_ascii bs h); printable = printable_all bs h }

-- the bytes of a string
pub IsSpellableText-string_bytes : {Z : Type 0} (s : String Z) → All (λ b. 32 ≤ b) (string_bytes s)
    → IsSpellableText (string_bytes s)
IsSpellableText-string_bytes s h = record { utf8 = IsUtf8-string_bytes s; printable = h }
