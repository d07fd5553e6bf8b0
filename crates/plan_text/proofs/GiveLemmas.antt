-- What a line gives is found by its runs: a name, blanks, digits, blanks.
use Rattle.std.proofs.Common.{◌≡◌, ◌≢◌, ℕ, ◌<◌, ◌≤◌, List, [], ◌∷◌, ◌++◌, length, slice_index, refl, sym, ◌∙◌, ap}
use Rattle.std.proofs.Common.{subst, arith}
use Rattle.std.specs.Char.{digit_value}
use Rattle.std.specs.Str.Parse.{IsNumeral, digits_value}
use Rattle.std.proofs.lemmas.List.{append_assoc, length-append}
use Rattle.text_lines.proofs.DigitLemmas.{IsDigit, digit_bytes, digits-each}
use Rattle.plan_text.specs.Spelling.{AreBlanks, Gives}
use Rattle.plan_text.specs.Runs.{IsSplit, EndsInStart}
use Rattle.plan_text.proofs.RunLemmas.{split_once}

-- a blank is no digit
pub blank_not_digit : (b : ℕ) → digit_value b < 10 → b ≡ 32 → ⊥
blank_not_digit b h e = let d : IsDigit b = digit_bytes b h in omega (arith, d.from, e)

-- a text that ends in a start is cut after its digits
pub cut_start : (text digits rest : List ℕ) (start : ℕ) → IsSplit (λ b. digit_value b < 10) text digits rest
    → (t : EndsInStart text start) → (digits ≡ t.digits) × (rest ≡ t.rest)
cut_start text digits rest start s t =
    split_once (λ b. digit_value b < 10) text digits rest t.digits t.rest s t.spelled (digits-each t.digits t.numeral.1)
    (λ some h. blank_not_digit (slice_index t.rest 0) h (t.rest_blank 0 0 some))

-- a cut text ends in a start, where its digits are 1 to 9 and its rest is blank
pub joined_start : (text digits rest : List ℕ) (start : ℕ) → IsSplit (λ b. digit_value b < 10) text digits rest
    → IsNumeral 10 digits → length digits ≤ 9 → AreBlanks rest → digits_value 10 digits ≡ start → EndsInStart text start
joined_start text digits rest start s numeral few blank e = record {
  digits = digits;
  rest = rest;
  spelled = s.joined;
  numeral = numeral;
  few_digits = few;
  value = e;
  rest_blank = blank;
}

-- a line that gives a name a start is the name, blanks, and a text that ends in the start
pub record GiveCut (line name gap start_text : List ℕ) (start : ℕ) : Type 0 where
  pub spelled : line ≡ name ++ (gap ++ start_text)
  pub ends : EndsInStart start_text start

pub give_cut : (line name : List ℕ) (start : ℕ) → (g : Gives line name start)
    → GiveCut line name g.gap (g.digits ++ g.rest) start
give_cut line name start g = record {
  spelled = g.spelled ∙ append_assoc (name ++ g.gap) g.digits g.rest ∙ append_assoc name g.gap (g.digits ++ g.rest);
  ends = record {
    digits = g.digits;
    rest = g.rest;
    spelled = refl;
    numeral = g.numeral;
    few_digits = g.few_digits;
    value = g.value;
    rest_blank = g.rest_blank;
  };
}

-- a front with an element shows it first
pub first_of_front : (a b : List ℕ) → 0 < length a → slice_index (a ++ b) 0 ≡ slice_index a 0
first_of_front [] b l = absurd (omega (arith, l))
first_of_front (x ∷ a) b l = refl

-- a digit begins a start, and a blank a gap
pub digit_head : (digits rest : List ℕ) → IsNumeral 10 digits → digit_value (slice_index (digits ++ rest) 0) < 10
digit_head digits rest n =
    subst (λ b. digit_value b < 10) (sym (first_of_front digits rest n.0)) (digits-each digits n.1 0 0 n.0)

pub gap_head : (gap text : List ℕ) → 0 < length gap → AreBlanks gap → slice_index (gap ++ text) 0 ≡ 32
gap_head gap text some blank = first_of_front gap text some ∙ blank 0 0 some

-- a line that gives a name a start is cut into the name, blanks and the start
pub cut_line : (line name rest gap text name' : List ℕ) (start : ℕ) → IsSplit (λ b. b ≢ 32) line name rest
    → IsSplit (λ b. b ≡ 32) rest gap text → Gives line name' start → (name ≡ name') × EndsInStart text start
cut_line line name rest gap text name' start s t g =
    let cut = give_cut line name' start g in
    let start_text : List ℕ = g.digits ++ g.rest in
    let outer = split_once (λ b. b ≢ 32) line name rest name' (g.gap ++ start_text) s cut.spelled g.unbroken
    (λ some ne. ne (gap_head g.gap start_text g.some_gap g.gap_blank)) in
    let inner = split_once (λ b. b ≡ 32) rest gap text g.gap start_text t outer.1 g.gap_blank
    (λ some e. blank_not_digit (slice_index start_text 0) (digit_head g.digits g.rest g.numeral) e) in
    (outer.0, subst (λ xs. EndsInStart xs start) (sym inner.1) cut.ends)

-- the blanks before a start are some, where they follow a name
some_gap : (rest gap text : List ℕ) (start : ℕ) → rest ≡ gap ++ text → EndsInStart text start
    → (0 < length rest → slice_index rest 0 ≢ 32 → ⊥) → 0 < length gap
some_gap rest [] text start e t ends =
    let digit : digit_value (slice_index text 0) < 10 = subst (λ b. digit_value b < 10)
    (sym (ap (λ xs. slice_index xs 0) t.spelled)) (digit_head t.digits t.rest t.numeral) in
    let long : 0 < length rest = omega (arith, ap length (e ∙ t.spelled), length-append t.digits t.rest, t.numeral.0) in
    absurd (ends long
    (λ blank. blank_not_digit (slice_index text 0) digit (sym (ap (λ xs. slice_index xs 0) e) ∙ blank)))
some_gap rest (b ∷ gap) text start e t ends = omega arith

-- a line that is cut into a name, blanks and a start gives it
pub joined_line : (line name rest gap text : List ℕ) (start : ℕ) → IsSplit (λ b. b ≢ 32) line name rest
    → IsSplit (λ b. b ≡ 32) rest gap text → 0 < length name → EndsInStart text start → Gives line name start
joined_line line name rest gap text start s t some e = record {
  gap = gap;
  digits = e.digits;
  rest = e.rest;
  spelled = s.joined ∙ ap (λ xs. name ++ xs) (t.joined ∙ ap (λ xs. gap ++ xs) e.spelled)
      ∙ sym (append_assoc name gap (e.digits ++ e.rest)) ∙ sym (append_assoc (name ++ gap) e.digits e.rest);
  some_name = some;
  unbroken = s.front_all;
  some_gap = some_gap rest gap text start t.joined e s.ends;
  gap_blank = t.front_all;
  numeral = e.numeral;
  few_digits = e.few_digits;
  value = e.value;
  rest_blank = e.rest_blank;
}

-- no start ends a text that is cut after too few digits or too many, or before a rest that is not blank
pub no_start : (text digits rest : List ℕ) → IsSplit (λ b. digit_value b < 10) text digits rest
    → (IsNumeral 10 digits → length digits ≤ 9 → AreBlanks rest → ⊥) → (start : ℕ) → EndsInStart text start → ⊥
no_start text digits rest s none start t =
    let cut = cut_start text digits rest start s t in
    none (subst (IsNumeral 10) (sym cut.0) t.numeral) (omega (arith, ap length cut.0, t.few_digits))
    (subst AreBlanks (sym cut.1) t.rest_blank)

-- no line gives a name where its name is empty
pub no_name : (line name rest : List ℕ) → IsSplit (λ b. b ≢ 32) line name rest → length name ≡ 0
    → (other : List ℕ) (start : ℕ) → Gives line other start → ⊥
no_name line name rest s none other start g =
    let cut = give_cut line other start g in
    let outer = split_once (λ b. b ≢ 32) line name rest other (g.gap ++ (g.digits ++ g.rest)) s cut.spelled g.unbroken
    (λ some ne. ne (gap_head g.gap (g.digits ++ g.rest) g.some_gap g.gap_blank)) in
    omega (arith, ap length outer.0, g.some_name)
