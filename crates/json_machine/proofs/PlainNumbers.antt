-- Numbers that stand whole in a buffer are what the machine reads of their bytes.
use Rattle.std.specs.Prelude.{◌-◌, ◌⊎◌}
use Rattle.std.proofs.Common.{◌≡◌, ◌≢◌, cond, ℕ, zero, suc, ◌+◌, ◌≤◌, ◌<◌, List, [], ◌∷◌, ◌++◌, length, take, drop}
use Rattle.std.proofs.Common.{get_or, Bool, true, false, Some, None, inl, inr, refl, sym, ◌∙◌, ap, subst, append_assoc}
use Rattle.std.proofs.Common.{append-nil, arith, length-drop}
use Rattle.std.proofs.Math.Seq.{take-add}
use Rattle.std.proofs.lemmas.List.{take_all}
use Rattle.std.proofs.lemmas.Bool.Decides.{nat_tests}
use Rattle.json_machine.specs.Machines.{mode_of}
use Rattle.json_machine.specs.declared.machine.Mode as modes
use Rattle.json_machine.specs.declared.machine.Mode.TheVariants.{Want, First}
use Rattle.json_machine.specs.NumberRuns.{GoesOn, EndsNumber, BeginsNumber, TakesNumber, TakesWithEnd}
use Rattle.json_machine.proofs.Runs.{digits_taken}
use Rattle.json_grammar.specs.Tree.{Event}
use Rattle.json_grammar.specs.Grammar.{IsDigit}
use Rattle.json_grammar.specs.Token.{digit_count}
use Rattle.json_grammar.specs.laws.Machine.{State, st, Move, close, Phase, Mode, next_key, want, first, after, number}
use Rattle.json_grammar.specs.laws.Machine.{go}
use Rattle.json_grammar.specs.laws.Machine.{may_end, step, value_step}
use Rattle.json_grammar.specs.laws.Machine.{after_step, phase_step, is_within_digits, is_digit, run, run_then}
use Rattle.json_grammar.proofs.LawsForward.{number_goes, AfterWhole, minus_digit, minus_zero, may_fraction, point_digit}
use Rattle.json_grammar.proofs.LawsForward.{number_stops}
use Rattle.json_grammar.proofs.Digits.{digit as digit_of}
use Rattle.json_grammar.proofs.LawsReach.{run_append}

-- what follows the first bytes, as a slice has it
pub behind : (n : ℕ) (bs : List ℕ) → take (length bs - n) (drop n bs) ≡ drop n bs
behind n bs = take_all (length bs - n) (drop n bs) (omega (arith, length-drop n bs))

pub goes_none : (p : Phase) (bs : List ℕ) → GoesOn p bs 0 p
goes_none p bs = record {
  within = omega arith;
  runs = λ k at levels token. ap (λ z. Some (st levels (number at z p), [])) (sym (append-nil token));
}

pub goes_one : (p q : Phase) (b : ℕ) (bs : List ℕ) → phase_step p b ≡ Some q → GoesOn p (b ∷ bs) 1 q
goes_one p q b bs e = record {
  within = omega arith;
  runs = λ k at levels token. rw (number_goes k at b levels token p q e) refl;
}

pub goes_digits : (p : Phase) (n : ℕ) (bs : List ℕ) → is_within_digits p ≡ true → n ≡ digit_count bs
    → n ≤ length bs → GoesOn p bs n p
goes_digits p n bs h e l = record {
  within = l;
  runs = λ k at levels token. rw e (digits_taken k at levels token p bs h);
}

-- one run behind another
pub goes_then : (p q r : Phase) (bs : List ℕ) (a b : ℕ) → GoesOn p bs a q → GoesOn q (drop a bs) b r
    → GoesOn p bs (a + b) r
goes_then p q r bs a b g h = record {
  within = let i = g.within in let j = h.within in omega (arith, length-drop a bs);
  runs = λ k at levels token.
      let s = st levels (number at token p) in
      let t = st levels (number at (token ++ take a bs) q) in
      let u = st levels (number at ((token ++ take a bs) ++ take b (drop a bs)) r) in
      ap (run k s) (take-add a b bs)
      ∙ run_append (take a bs) (take b (drop a bs)) k s t u [] [] (g.runs k at levels token)
      (h.runs (k + length (take a bs)) at levels (token ++ take a bs))
      ∙ ap (λ z. Some (st levels (number at z r), []))
      (append_assoc token (take a bs) (take b (drop a bs)) ∙ ap (λ z. token ++ z) (sym (take-add a b bs)));
}

-- digits in front
digits_first : (b : ℕ) (bs : List ℕ) → 0 < digit_count (b ∷ bs) → is_digit b ≡ true
digits_first b bs h = by_test (is_digit b) refl h
  where
    by_test : (t : Bool) → is_digit b ≡ t → 0 < cond t (suc (digit_count bs)) 0 → is_digit b ≡ true
    by_test true e h = e
    by_test false e h = absurd (omega arith)

digits_count : (b : ℕ) (bs : List ℕ) → is_digit b ≡ true → digit_count (b ∷ bs) ≡ suc (digit_count bs)
digits_count b bs e = rw e refl

-- a first byte to another place, and then digits
first_then : (p q : Phase) (b n : ℕ) (bs : List ℕ) → phase_step p b ≡ Some q → is_within_digits q ≡ true
    → is_digit b ≡ true → n ≡ digit_count (b ∷ bs) → n ≤ length (b ∷ bs) → GoesOn p (b ∷ bs) n q
first_then p q b n bs e h d c l =
    let m : n ≡ suc (digit_count bs) = c ∙ digits_count b bs d in
    let all : 1 + digit_count bs ≡ n = omega arith in
    subst (λ z. GoesOn p (b ∷ bs) z q) all (goes_then p q q (b ∷ bs) 1 (digit_count bs) (goes_one p q b bs e)
    (goes_digits q (digit_count bs) bs h refl (omega arith)))

pub whole_begins : (bs : List ℕ) (n : ℕ) → n ≡ digit_count bs → n ≤ length bs → 0 < n → get_or bs 0 0 ≢ 48
    → BeginsNumber bs n Phase.whole
whole_begins [] n e l h z = absurd (omega arith)
whole_begins (b ∷ bs) n e l h z =
    let d = digits_first b bs (omega arith) in
    let digit = digit_of b d in
    record {
      number = record {
        goes_on = first_then Phase.minus Phase.whole b n bs (minus_digit b z digit) refl d e l;
        ends = refl;
      };
      some = h;
      first = digit;
    }

pub zero_begins : (bs : List ℕ) (n : ℕ) → n ≡ digit_count bs → 0 < n → get_or bs 0 0 ≡ 48
    → BeginsNumber bs 1 Phase.lone_zero
zero_begins [] n e h z = absurd (omega arith)
zero_begins (b ∷ bs) n e h z = record {
  number = record {
    goes_on = goes_one Phase.minus Phase.lone_zero b bs (ap (phase_step Phase.minus) z ∙ minus_zero);
    ends = refl;
  };
  some = omega arith;
  first = digit_of b (digits_first b bs (omega arith));
}

point_run : (ds : List ℕ) (n : ℕ) → n ≡ digit_count ds → n ≤ length ds → 0 < n → GoesOn Phase.point ds n Phase.fraction
point_run [] n e l h = absurd (omega arith)
point_run (d ∷ ds) n e l h =
    let t = digits_first d ds (omega arith) in
    first_then Phase.point Phase.fraction d n ds (point_digit d (digit_of d t)) refl t e l

-- a point, and digits
pub fraction_ends : (p : Phase) (bs : List ℕ) (n : ℕ) → AfterWhole p → 0 < length bs → get_or bs 0 0 ≡ 46
    → n ≡ digit_count (drop 1 bs) → n ≤ length (drop 1 bs) → 0 < n → EndsNumber p bs (1 + n) Phase.fraction
fraction_ends p [] n a s b e l h = absurd (omega arith)
fraction_ends p (c ∷ bs) n a s b e l h = record {
  goes_on = goes_then p Phase.point Phase.fraction (c ∷ bs) 1 n
      (goes_one p Phase.point c bs (ap (phase_step p) b ∙ may_fraction a)) (point_run bs n e l h);
  ends = refl;
}

ends_whole : {p : Phase} → AfterWhole p → may_end p ≡ true
ends_whole AfterWhole.zero = refl
ends_whole AfterWhole.whole = refl

pub nothing_ends : (p : Phase) (bs : List ℕ) → AfterWhole p → EndsNumber p bs 0 p
nothing_ends p bs a = record { goes_on = goes_none p bs; ends = ends_whole a }

pub number_then : (p q : Phase) (bs : List ℕ) (a b : ℕ) → BeginsNumber bs a p → EndsNumber p (drop a bs) b q
    → BeginsNumber bs (a + b) q
number_then p q bs a b g h = record {
  number = record { goes_on = goes_then Phase.minus p q bs a b g.number.goes_on h.goes_on; ends = h.ends };
  some = let i = g.some in omega arith;
  first = g.first;
}

-- a digit begins a number in both modes in which a value may come
value_digit : (k d : ℕ) (levels : List Bool) (mode : Mode) → (mode ≡ want) ⊎ (mode ≡ first) → IsDigit d
    → step k levels mode d ≡ step k levels (number k [] Phase.minus) d
unfolding step value_step phase_step
value_digit k d levels mode (inl e) h = rw e (let f = h.low in let g = h.high in grind (arith, nat_tests))
value_digit k d levels mode (inr e) h = rw e (let f = h.low in let g = h.high in grind (arith, nat_tests))

value_run : (bs : List ℕ) (n k : ℕ) (levels : List Bool) (mode : Mode) → (mode ≡ want) ⊎ (mode ≡ first) → 0 < n
    → IsDigit (get_or bs 0 0) → n ≤ length bs
    → run k (st levels mode) (take n bs) ≡ run k (st levels (number k [] Phase.minus)) (take n bs)
value_run [] n k levels mode m h d l = absurd (omega arith)
value_run (b ∷ bs) zero k levels mode m h d l = absurd (omega arith)
value_run (b ∷ bs) (suc n) k levels mode m h d l =
    ap (run_then (λ t. run (suc k) t (take n bs))) (value_digit k b levels mode m d)

after_is : (k b : ℕ) (levels : List Bool) → step k levels after b ≡ after_step k levels b
unfolding step
after_is k b levels = refl

-- a number and the byte behind it
pub number_ended : (k n b : ℕ) (levels : List Bool) (mode : Mode) (new : State) (more : List Event) (bs token : List ℕ)
    (to : Phase) → (mode ≡ want) ⊎ (mode ≡ first) → BeginsNumber bs n to → n < length bs → get_or bs n 0 ≡ b
    → after_step (k + n) levels b ≡ Some (new, more) → length new.levels ≤ length levels → token ≡ take n bs
    → TakesWithEnd k (st levels mode) bs n (Event.number k token ∷ more) new
number_ended k n b levels mode new more bs token to m begins within byte moves no_deeper same =
    let inside = st levels (number k token to) in
    let number_run : run k (st levels (number k [] Phase.minus)) (take n bs) ≡ Some (inside, []) =
    begins.number.goes_on.runs k k levels [] ∙ ap (λ z. Some (st levels (number k z to), [])) (sym same) in
    let tells : step (k + n) levels (number k token to) b ≡ Some (new, Event.number k token ∷ more) =
    number_stops (k + n) k b levels token to new more begins.number.ends
    (after_is (k + n) b levels ∙ moves) in
    record {
      inside = inside;
      runs = value_run bs n k levels mode m begins.some begins.first (omega arith) ∙ number_run;
      within = within;
      tells = rw byte tells;
      no_deeper = no_deeper;
    }

-- a number and the comma behind it
pub number_taken : (k n : ℕ) (levels : List Bool) (mode next : Mode) (bs token : List ℕ) (to : Phase)
    → (mode ≡ want) ⊎ (mode ≡ first) → BeginsNumber bs n to → n < length bs → get_or bs n 0 ≡ 44
    → after_step (k + n) levels 44 ≡ go levels next → token ≡ take n bs
    → TakesNumber k (st levels mode) bs n (Event.number k token) (st levels next)
number_taken k n levels mode next bs token to m begins within comma moves same =
    let is = number_ended k n 44 levels mode (st levels next) [] bs token to m begins within comma moves
    (omega arith) same in
    record { inside = is.inside; runs = is.runs; within = is.within; tells = is.tells; same_levels = refl }

pub with_end : {k n : ℕ} {old new : State} {bs : List ℕ} {event : Event} → TakesNumber k old bs n event new
    → TakesWithEnd k old bs n (event ∷ []) new
with_end is = record {
  inside = is.inside;
  runs = is.runs;
  within = is.within;
  tells = is.tells;
  no_deeper = omega (arith, ap length is.same_levels);
}

-- where another item may come behind a comma, a bracket closes the list
pub list_closes : (levels : List Bool) → ((k : ℕ) → after_step k levels 44 ≡ go levels want) → (k : ℕ)
    → after_step k levels 93 ≡ close k levels
unfolding after_step
list_closes [] comma k = absurd (let e = comma 0 in cc)
list_closes (false ∷ levels) comma k = refl
list_closes (true ∷ levels) comma k = let e : next_key ≡ want = ap behind_move (comma 0) in absurd cc
  where
    behind_move : Move → Mode
    behind_move None = want
    behind_move (Some r) = r.0.mode

-- the modes in which a value may come
pub value_mode : (mode : modes.Mode) (at : ℕ) (token : List ℕ) → (mode ≡ Want) ⊎ (mode ≡ First)
    → (mode_of mode at token ≡ want) ⊎ (mode_of mode at token ≡ first)
value_mode mode at token (inl e) = inl (ap (λ (m : modes.Mode). mode_of m at token) e)
value_mode mode at token (inr e) = inr (ap (λ (m : modes.Mode). mode_of m at token) e)
