-- The names with numbers.
use Rattle.std.proofs.Common.{arith, ◌≡◌, ◌≢◌, ℕ, ◌+◌, ◌%◌, ◌^◌, ◌<◌, ◌≤◌, ◌∙◌, ap, sym, refl}
use Rattle.std.proofs.Common.{Bool, true, false, ◌||◌, List, [], ◌∷◌, ◌++◌, map, length, get_or, All}
use Rattle.std.proofs.Common.{bytes_eq, string_bytes, decimal, length-append}
use Rattle.std.specs.Prelude.{string_eq, if◌then◌else◌}
use Rattle.std.specs.List.{list_any}
use Rattle.std.specs.declared.string.String.{String}
use Rattle.std.proofs.lemmas.List.{map-append, append_cancel_left}
use Rattle.std.proofs.lemmas.List.FromFn.{map-range_with_len_more, get_or-map-range_with_len, length-map-range_with_len}
use Rattle.std.proofs.lemmas.List.Folds.{list_any_none}
use Rattle.std.proofs.lemmas.List.Elements.{All-nil, All-cons, All-push, All-append}
use Rattle.std.proofs.lemmas.Slice.Eq.{bytes_eq-Decides}
use Rattle.std.proofs.lemmas.Fmt.{decimal_injective, decimal_by_steps, length-decimal-le}
use Rattle.instance_model.specs.Fitting.{AreNames, IsName}
use Rattle.instance_gen.specs.Drawn.{numbered_names}

-- ---- one more name in a set

has_name : {Y : Type 0} (ks : List (String Y)) (k : String Y)
    → list_any (string_eq k) ks ≡ list_any (bytes_eq (string_bytes k)) (map string_bytes ks)
has_name [] k = refl
has_name (j ∷ ks) k = ap (λ b. string_eq k j || b) (has_name ks k)

apart : (letter : List ℕ) (m n : ℕ) → m < n → n < 2 ^ 64 → letter ++ decimal n ≢ letter ++ decimal m
apart letter m n less small e =
    let same = decimal_injective n m small (omega arith) (append_cancel_left letter (decimal n) (decimal m) e) in
    absurd (omega (arith, same))

differs : (a b : List ℕ) → a ≢ b → bytes_eq a b ≡ false
differs a b h = by (bytes_eq a b) refl
  where
    by : (r : Bool) → bytes_eq a b ≡ r → bytes_eq a b ≡ false
    by true e = absurd (h ((bytes_eq-Decides a b).0 e))
    by false e = e

pub name_at : (letter : List ℕ) (n k : ℕ) (d : List ℕ) → k < n
    → get_or (numbered_names letter n) k d ≡ letter ++ decimal (1 + k)
unfolding numbered_names
name_at letter n k d h = get_or-map-range_with_len (λ j. letter ++ decimal j) 1 n k (1 + k) d h refl

pub length-names : (letter : List ℕ) (n : ℕ) → length (numbered_names letter n) ≡ n
unfolding numbered_names
length-names letter n = length-map-range_with_len (λ k. letter ++ decimal k) 1 n

new_name : (letter : List ℕ) (n : ℕ) → n + 1 < 2 ^ 64
    → list_any (bytes_eq (letter ++ decimal (n + 1))) (numbered_names letter n) ≡ false
new_name letter n small =
    list_any_none (bytes_eq (letter ++ decimal (n + 1))) (numbered_names letter n) (λ k d l.
    let within : k < n = omega (arith, l, length-names letter n) in
    rw (name_at letter n k d within)
    (differs (letter ++ decimal (n + 1)) (letter ++ decimal (1 + k)) (apart letter (1 + k) (n + 1) (omega arith)
    small)))

names-more : (letter : List ℕ) (n : ℕ)
    → numbered_names letter (n + 1) ≡ numbered_names letter n ++ (letter ++ decimal (n + 1)) ∷ []
unfolding numbered_names
names-more letter n = map-range_with_len_more (λ k. letter ++ decimal k) 1 n (n + 1) (omega arith)

pub name_added : {Y : Type 0} (ks : List (String Y)) (k : String Y) (letter : List ℕ) (n : ℕ) → n + 1 < 2 ^ 64
    → map string_bytes ks ≡ numbered_names letter n
    → string_bytes k ≡ letter ++ decimal (n + 1)
    → map string_bytes (if list_any (string_eq k) ks then ks else ks ++ k ∷ []) ≡ numbered_names letter (n + 1)
name_added ks k letter n small e f =
    let new : list_any (string_eq k) ks ≡ false =
    has_name ks k
    ∙ ap (λ (b : List ℕ). list_any (bytes_eq b) (map string_bytes ks)) f
    ∙ ap (λ (bs : List (List ℕ)). list_any (bytes_eq (letter ++ decimal (n + 1))) bs) e
    ∙ new_name letter n small in
    ap (λ (b : Bool). map string_bytes (if b then ks else ks ++ k ∷ [])) new
    ∙ map-append string_bytes ks (k ∷ [])
    ∙ ap (λ (bs : List (List ℕ)). bs ++ string_bytes k ∷ []) e
    ∙ ap (λ (b : List ℕ). numbered_names letter n ++ b ∷ []) f
    ∙ sym (names-more letter n)

-- ---- they fit

-- no blank and no control byte
abbrev pub IsPrinted : ℕ → Type 0
IsPrinted b = (32 < b) × (b < 127)

-- one such byte
pub record IsLetter (letter : List ℕ) : Type 0 where
  pub one : length letter ≡ 1
  pub printed : All IsPrinted letter

digits_printed : (n : ℕ) → n < 2 ^ 64 → All IsPrinted (decimal n)
digits_printed n small =
    decimal_by_steps (λ m ds. All IsPrinted ds)
    (λ m l. All-cons IsPrinted (48 + m) [] (omega arith, omega arith) (All-nil IsPrinted))
    (λ m ds l h. All-push IsPrinted ds (48 + m % 10) h (omega arith, omega arith)) n small

pub name_printed : (letter : List ℕ) (n : ℕ) → IsLetter letter → n < 2 ^ 64
    → All IsPrinted (letter ++ decimal n)
name_printed letter n h small =
    All-append IsPrinted letter (decimal n) h.printed (digits_printed n small)

name_fits : (letter : List ℕ) (n : ℕ) → IsLetter letter → n < 1000 → IsName (letter ++ decimal n)
name_fits letter n h small =
    let long = length-append letter (decimal n) in
    let some = h.one in
    let short = length-decimal-le 3 n (omega arith) (omega arith) (omega arith) in
    let printed = name_printed letter n h (omega arith) in
    record {
      some = omega (arith, long, some);
      short = omega (arith, long, some, short);
      printed = λ k d l. (let p = printed k d l in (p.0, λ e. omega (arith, p.1, e)));
    }

pub names_fit : (letter : List ℕ) (limit n : ℕ) → IsLetter letter → n ≤ limit → n < 900
    → AreNames limit (numbered_names letter n)
names_fit letter limit n h few small =
    let many = length-names letter n in
    record {
      few = omega (arith, many);
      shaped = λ k d l.
          let within : k < n = omega (arith, l, many) in
          rw (name_at letter n k d within) (name_fits letter (1 + k) h (omega arith));
      apart = λ i j d l m.
          let within : j < n = omega (arith, m, many) in
          rw (name_at letter n i d (omega arith), name_at letter n j d within)
          (λ e. apart letter (1 + i) (1 + j) (omega arith) (omega arith) (sym e));
    }
