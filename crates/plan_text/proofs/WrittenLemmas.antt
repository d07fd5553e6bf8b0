-- The text that is written for some starts spells them.
use Rattle.std.proofs.Common.{◌≡◌, ◌≢◌, ℕ, zero, suc, ◌-◌, ◌^◌, ◌<◌, ◌≤◌, inr, ⊎_elim, List, [], ◌∷◌, ◌++◌, length, map}
use Rattle.std.proofs.Common.{get_or, slice_index, slice_index_or, Option, Some, None, refl, sym, ◌∙◌, ap, subst, arith}
use Rattle.std.proofs.Common.{decimal}
use Rattle.std.specs.List.{All, AllPairs, zip}
use Rattle.std.specs.Char.{digit_value}
use Rattle.std.specs.Str.Lines.{strip_carriage_return}
use Rattle.std.specs.Str.Parse.{IsNumeral, digits_value}
use Rattle.std.proofs.lemmas.Bool.{cases_lt}
use Rattle.std.proofs.lemmas.Bool.Decides.{nat_tests}
use Rattle.std.proofs.lemmas.Fmt.{decimal_is_IsNumeral, length-decimal-le}
use Rattle.std.proofs.lemmas.List.{append_assoc, append-nil, nil_from_length, length-map, get_or-map, get_or_past}
use Rattle.std.proofs.lemmas.List.{get_or_default}
use Rattle.std.proofs.lemmas.List.Elements.{All-nil, All-cons, All-head, All-tail, All-append, All-weaker}
use Rattle.std.proofs.lemmas.List.Elements.{Contains-get_or}
use Rattle.instance_model.specs.Fitting.{AreNames}
use Rattle.plan_text.specs.Spelling.{lines_of, Gives, start_at, IsPlan, plan_text}
use Rattle.text_lines.proofs.LineLemmas.{lines_of-more}
use Rattle.text_lines.proofs.DigitLemmas.{IsDigit, digit_bytes, digits-each}
use Rattle.plan_text.proofs.LawLemmas.{gives_once, names_once}
use Rattle.text_lines.proofs.NameLemmas.{same_place}
use Rattle.plan_text.proofs.StepLemmas.{some_same}

-- a line that is written, without its line feed
given_line : List ℕ → ℕ → List ℕ
given_line name start = name ++ (32 ∷ []) ++ decimal start

-- the digits of a start
start_digits : (start : ℕ) → start < 10 ^ 9 → IsNumeral 10 (decimal start) × (digits_value 10 (decimal start) ≡ start)
start_digits start h = decimal_is_IsNumeral start (omega arith)

-- no byte of a written line is below a blank
abbrev Above : ℕ → Type 0
Above b = 32 ≤ b

given_line-above : (name : List ℕ) (start : ℕ) → All (λ b. 32 < b) name → start < 10 ^ 9
    → All Above (given_line name start)
unfolding given_line
given_line-above name start printed small =
    let blank : All Above (32 ∷ []) = All-cons Above 32 [] (omega arith) (All-nil Above) in
    let digits : All Above (decimal start) = All-weaker (λ b. digit_value b < 10) Above
    (λ b h. let d : IsDigit b = digit_bytes b h in omega (arith, d.from)) (decimal start)
    (digits-each (decimal start) (start_digits start small).0.1) in
    All-append Above (name ++ (32 ∷ [])) (decimal start)
    (All-append Above name (32 ∷ []) (All-weaker (λ b. 32 < b) Above (λ b h. omega (arith, h)) name printed) blank)
    digits

-- a line without carriage returns is kept whole
strip-above : (line : List ℕ) → All Above line → strip_carriage_return line ≡ line
strip-above line h =
    ⊎_elim (λ some. let last : 32 ≤ slice_index line (length line - 1) = h (length line - 1) 0 (omega arith) in
    grind (arith, nat_tests))
    (λ none. let e : line ≡ [] = nil_from_length line (omega arith) in
    subst (λ xs. strip_carriage_return xs ≡ xs) (sym e) refl)
    (cases_lt 0 (length line))

-- the lines that are written
given_lines : List (List ℕ) → List ℕ → List (List ℕ)
given_lines names starts = map (λ given. given_line given.0 given.1) (zip names starts)

lines_of-plan_text : (names : List (List ℕ)) (starts : List ℕ) → All (λ name. All (λ b. 32 < b) name) names
    → All (λ start. start < 10 ^ 9) starts → lines_of (plan_text names starts) ≡ given_lines names starts
unfolding given_line given_lines
lines_of-plan_text [] starts printed small = refl
lines_of-plan_text (name ∷ names) [] printed small = refl
lines_of-plan_text (name ∷ names) (start ∷ starts) printed small =
    let line : List ℕ = given_line name start in
    let above : All Above line = given_line-above name start
    (All-head (λ name. All (λ b. 32 < b) name) name names printed) (All-head (λ s. s < 10 ^ 9) start starts small) in
    let unbroken : All (λ b. b ≢ 10) line = All-weaker Above (λ b. b ≢ 10) (λ b h e. omega (arith, h, e)) line above in
    ap lines_of (append_assoc line (10 ∷ []) (plan_text names starts))
    ∙ ap (map strip_carriage_return) (lines_of-more line (plan_text names starts) unbroken)
    ∙ ap (λ x. x ∷ lines_of (plan_text names starts)) (strip-above line above)
    ∙ ap (λ xs. line ∷ xs)
    (lines_of-plan_text names starts (All-tail (λ name. All (λ b. 32 < b) name) name names printed)
    (All-tail (λ s. s < 10 ^ 9) start starts small))

length-given_lines : (names : List (List ℕ)) (starts : List ℕ) → length starts ≡ length names
    → length (given_lines names starts) ≡ length names
unfolding given_lines
length-given_lines [] starts e = refl
length-given_lines (name ∷ names) [] e = absurd (omega (arith, e))
length-given_lines (name ∷ names) (start ∷ starts) e = let more = length-given_lines names starts (omega (arith, e)) in
    cc

get_or-given_lines : (names : List (List ℕ)) (starts : List ℕ) (k : ℕ) (d : List ℕ) → length starts ≡ length names
    → k < length names → get_or (given_lines names starts) k d ≡ given_line (get_or names k []) (get_or starts k 0)
unfolding given_lines
get_or-given_lines [] starts k d e l = absurd (omega (arith, l))
get_or-given_lines (name ∷ names) [] k d e l = absurd (omega (arith, e))
get_or-given_lines (name ∷ names) (start ∷ starts) zero d e l = refl
get_or-given_lines (name ∷ names) (start ∷ starts) (suc k) d e l =
    get_or-given_lines names starts k d (omega (arith, e)) (omega (arith, l))

-- a written line gives its name its start
given_line_gives : (name : List ℕ) (start : ℕ) → 0 < length name → All (λ b. 32 < b) name → start < 10 ^ 9
    → Gives (given_line name start) name start
unfolding given_line
given_line_gives name start some printed small =
    let digits = start_digits start small in
    record {
      gap = 32 ∷ [];
      digits = decimal start;
      rest = [];
      spelled = sym (append-nil (name ++ (32 ∷ []) ++ decimal start));
      some_name = some;
      unbroken = All-weaker (λ b. 32 < b) (λ b. b ≢ 32) (λ b h e. omega (arith, h, e)) name printed;
      some_gap = omega arith;
      gap_blank = All-cons (λ b. b ≡ 32) 32 [] refl (All-nil (λ b. b ≡ 32));
      numeral = digits.0;
      few_digits = length-decimal-le 9 start (omega arith) small (omega arith);
      value = digits.1;
      rest_blank = All-nil (λ b. b ≡ 32);
    }

-- the text that is written for names of printed bytes, no two of them the same, spells the starts
spells : (names : List (List ℕ)) (starts : List ℕ) → All (λ name. 0 < length name) names
    → All (λ name. All (λ b. 32 < b) name) names → AllPairs (λ a b. a ≢ b) names → length starts ≡ length names
    → All (λ start. start < 10 ^ 9) starts → IsPlan names (plan_text names starts) (map Some starts)
spells names starts some printed apart each small =
    let lines : List (List ℕ) = lines_of (plan_text names starts) in
    let written : lines ≡ given_lines names starts = lines_of-plan_text names starts printed small in
    let count : length lines ≡ length names = ap length written ∙ length-given_lines names starts each in
    let gives : (k : ℕ) (d : List ℕ) → k < length names → Gives (slice_index_or lines k d) (slice_index_or names k
    []) (slice_index starts k) = λ k d l.
    subst (λ line. Gives line (slice_index_or names k []) (slice_index starts k))
    (sym (ap (λ xs. slice_index_or xs k d) written ∙ get_or-given_lines names starts k d each l))
    (given_line_gives (slice_index_or names k []) (slice_index starts k) (some k [] l) (printed k [] l)
    (small k 0 (omega (arith, each)))) in
    record {
      told = λ k d l. let lk : k < length names = omega (arith, count) in
          inr (slice_index_or names k [], (slice_index starts k, gives k d lk), Contains-get_or names k [] lk);
      once = λ i j d l lj both.
          let nj : j < length names = omega (arith, count) in
          let ni : i < length names = omega (arith, l) in
          let a = names_once (slice_index_or lines i d) both.0 (slice_index_or names i []) both.1
          (slice_index starts i, gives i d ni) in
          let b = names_once (slice_index_or lines j d) both.0 (slice_index_or names j []) both.2
          (slice_index starts j, gives j d nj) in
          apart i j [] l nj (sym a ∙ b);
      starts = record {
        each = length-map {B = Option ℕ} starts Some ∙ each;
        given = λ i start li h.
            let lk : h.0 < length names = omega (arith, count, h.2) in
            let both = gives_once h.1 (slice_index_or names i []) (slice_index_or names h.0 []) start
            (slice_index starts h.0) h.4
            (subst (λ line. Gives line (slice_index_or names h.0 []) (slice_index starts h.0))
            h.3 (gives h.0 h.1 lk)) in
            let e : i ≡ h.0 = same_place names i h.0 apart li lk both.0 in
            get_or-map Some starts i 0 None (omega (arith, each)) ∙ ap (λ k. Some (slice_index starts k)) e
            ∙ ap Some (sym both.1);
        only = λ i start h.
            let li : i < length starts =
            ⊎_elim (λ l. l) (λ past. absurd (none_past i start past h)) (cases_lt i (length starts)) in
            let e : slice_index starts i ≡ start = some_same (sym (get_or-map Some starts i 0 None li) ∙ h) in
            let ni : i < length names = omega (arith, each) in (
              i,
              slice_index_or lines i [],
              omega (arith, count),
              get_or_default lines i (slice_index_or lines i []) [] (omega (arith, count)),
              subst (λ s. Gives (slice_index_or lines i []) (slice_index_or names i []) s) e (gives i [] ni),
            );
      };
    } where
      none_past : (i start : ℕ) → length starts ≤ i → start_at (map Some starts) i ≡ Some start → ⊥
      none_past i start past h = let none : start_at (map Some starts) i ≡ None =
          get_or_past (map Some starts) i None (omega (arith, length-map {B = Option ℕ} starts Some)) in cc

-- the same for names as an instance has them
pub plan_text_spells : (limit : ℕ) (names : List (List ℕ)) (starts : List ℕ) → AreNames limit names
    → length starts ≡ length names → All (λ start. start < 10 ^ 9) starts
    → IsPlan names (plan_text names starts) (map Some starts)
plan_text_spells limit names starts are each small =
    spells names starts (λ k d l. (are.shaped k d l).some)
    (λ k d l. All-weaker (λ b. (32 < b) × (b ≢ 127)) (λ b. 32 < b) (λ b h. h.0) (slice_index_or names k d)
    (are.shaped k d l).printed)
    are.apart each small
