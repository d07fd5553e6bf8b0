-- What the grammar allows is read, with the events of its tree.
use Rattle.std.specs.Prelude.{◌==◌, ◌||◌}
use Rattle.std.proofs.Common.{◌≡◌, ◌≢◌, ℕ, suc, ◌+◌, List, [], ◌∷◌, ◌++◌, length, Bool, true, false, cond, Some, None}
use Rattle.std.proofs.Common.{refl, sym, ◌∙◌, ap, subst, append_assoc, append-nil, arith}
use Rattle.std.proofs.lemmas.Bool.Decides.{nat_tests}
use Rattle.json_grammar.specs.Tree.{Event}
use Rattle.json_grammar.proofs.Digits.{digit_is}
use Rattle.json_grammar.specs.Grammar.{IsBlank, tab, AreBlanks, IsDigit, AreDigits, IsInt, IsFrac, IsExp}
use Rattle.json_grammar.specs.Grammar.{IsExponentMark, IsSign}
use Rattle.json_grammar.specs.laws.Machine.{Phase, Mode, want, first, first_key, next_key, colon, after, number, State}
use Rattle.json_grammar.specs.laws.Machine.{st, go}
use Rattle.json_grammar.specs.laws.Machine.{is_blank, step, after_step, phase_step, may_end, ending, Reads, ends, then}

pub at_offset : {j k : ℕ} {s : State} {w : List ℕ} {es : List Event} → j ≡ k → Reads j s w es → Reads k s w es
at_offset {j} {k} {s} {w} {es} e r = subst (λ i. Reads i s w es) e r

-- the modes in which a blank changes nothing
pub data Waits : Mode → Type 0 where
  in_want : Waits want
  in_first : Waits first
  in_first_key : Waits first_key
  in_next_key : Waits next_key
  in_colon : Waits colon
  in_after : Waits after

pub blank_is : {b : ℕ} → IsBlank b → is_blank b ≡ true
blank_is tab = refl
blank_is _ = refl

pub after_waits : (b k : ℕ) (levels : List Bool) → is_blank b ≡ true → after_step k levels b ≡ go levels after
unfolding after_step
after_waits b k [] e = ap (λ x. cond x (go [] after) None) e
after_waits b k (false ∷ levels) e = rw e refl
after_waits b k (true ∷ levels) e = rw e refl

pub waits : {m : Mode} (b k : ℕ) (levels : List Bool) → Waits m → is_blank b ≡ true → step k levels m b ≡ go levels m
unfolding step
waits b k levels in_after e = after_waits b k levels e
waits b k levels _ e = rw e refl

pub skip : {m : Mode} {ws : List ℕ} {k : ℕ} {levels : List Bool} {w : List ℕ} {es : List Event} → Waits m → AreBlanks ws
    → Reads (k + length ws) (st levels m) w es → Reads k (st levels m) (ws ++ w) es
skip {k = k} m AreBlanks.none r = at_offset (omega arith) r
skip {k = k} {levels = levels} m (AreBlanks.more {b} h bs) r =
    then (waits b k levels m (blank_is h)) (skip m bs (at_offset (omega arith) r))

pub same : {j k : ℕ} {s : State} {v w : List ℕ} {es fs : List Event} → j ≡ k → v ≡ w → es ≡ fs
    → Reads j s v es → Reads k s w fs
same {j} {k} {s} {v} {w} {es} {fs} p q h r =
    subst (λ x. Reads k s w x) h (subst (λ x. Reads k s x es) q (subst (λ x. Reads x s v es) p r))

-- numbers

-- a byte that may follow a value
abbrev is_stop : ℕ → Bool
is_stop b = is_blank b || ((b == 44) || ((b == 93) || (b == 125)))

pub stop_is : (b k : ℕ) (levels : List Bool) (r : State × List Event)
    → after_step k levels b ≡ Some r → is_stop b ≡ true
unfolding after_step
stop_is b k [] r e = grind (arith, nat_tests)
stop_is b k (false ∷ levels) r e = grind (arith, nat_tests)
stop_is b k (true ∷ levels) r e = grind (arith, nat_tests)

stops : (p : Phase) (b : ℕ) → may_end p ≡ true → is_stop b ≡ true → phase_step p b ≡ None
unfolding phase_step
stops Phase.minus b h e = cc
stops Phase.lone_zero b h e = grind (arith, nat_tests)
stops Phase.whole b h e = grind (arith, nat_tests)
stops Phase.point b h e = cc
stops Phase.fraction b h e = grind (arith, nat_tests)
stops Phase.mark b h e = cc
stops Phase.sign b h e = cc
stops Phase.exponent b h e = grind (arith, nat_tests)

number_ending : (at : ℕ) (levels : List Bool) (bytes : List ℕ) (p : Phase) (fs : List Event) → may_end p ≡ true
    → ending levels after ≡ Some fs → ending levels (number at bytes p) ≡ Some (Event.number at bytes ∷ fs)
unfolding ending
number_ending at [] bytes p fs h e = grind arith
number_ending at (l ∷ levels) bytes p fs h e = cc

pub number_stops : (k at b : ℕ) (levels : List Bool) (bytes : List ℕ) (p : Phase) (s : State) (es : List Event)
    → may_end p ≡ true → step k levels after b ≡ Some (s, es)
    → step k levels (number at bytes p) b ≡ Some (s, Event.number at bytes ∷ es)
unfolding step
number_stops k at b levels bytes p s es h e = rw (stops p b h (stop_is b k levels (s, es) e), h, e) refl

pub finish_number : {k at : ℕ} {levels : List Bool} {bytes w : List ℕ} {fs : List Event} (p : Phase) → may_end p ≡ true
    → Reads k (st levels after) w fs → Reads k (st levels (number at bytes p)) w (Event.number at bytes ∷ fs)
finish_number {at = at} {levels = levels} {bytes = bytes} p h (ends {es} e) =
    ends (number_ending at levels bytes p es h e)
finish_number {k = k} {at = at} {levels = levels} {bytes = bytes} p h (then {b} {s} {es} e r) =
    then (number_stops k at b levels bytes p s es h e) r

pub number_goes : (k at b : ℕ) (levels : List Bool) (bytes : List ℕ) (p q : Phase) → phase_step p b ≡ Some q
    → step k levels (number at bytes p) b ≡ go levels (number at (bytes ++ b ∷ []) q)
unfolding step
number_goes k at b levels bytes p q e = rw e refl

-- one byte of a number, and then the rest of it
pub goes_on : {k at b : ℕ} {levels : List Bool} {w : List ℕ} {es : List Event} (p q : Phase) (bytes : List ℕ)
    → phase_step p b ≡ Some q → Reads (suc k) (st levels (number at (bytes ++ b ∷ []) q)) w es
    → Reads k (st levels (number at bytes p)) (b ∷ w) es
goes_on {k} {at} {b} {levels} p q bytes e r = then (number_goes k at b levels bytes p q e) r

digits : {ds : List ℕ} {k at : ℕ} {levels : List Bool} {w : List ℕ} {es : List Event} (p : Phase) (bytes : List ℕ)
    → ((b : ℕ) → IsDigit b → phase_step p b ≡ Some p) → AreDigits ds
    → ((all : List ℕ) → all ≡ bytes ++ ds → Reads (k + length ds) (st levels (number at all p)) w es)
    → Reads k (st levels (number at bytes p)) (ds ++ w) es
digits p bytes goes AreDigits.none r = at_offset (omega arith) (r bytes (simp append-nil))
digits p bytes goes (AreDigits.more {b} {bs} h ds) r = goes_on p p bytes (goes b h)
    (digits p (bytes ++ b ∷ []) goes ds (λ all e. at_offset (omega arith) (r all (e ∙ append_assoc bytes (b ∷ []) bs))))

named : {k at : ℕ} {s : State} {w bytes tok : List ℕ} {fs : List Event} → bytes ≡ tok
    → Reads k s w (Event.number at bytes ∷ fs) → Reads k s w (Event.number at tok ∷ fs)
named {k} {at} {s} {w} {bytes} {tok} {fs} e r = subst (λ x. Reads k s w (Event.number at x ∷ fs)) e r

mark_digit : (b : ℕ) → IsDigit b → phase_step Phase.mark b ≡ Some Phase.exponent
unfolding phase_step
mark_digit b h = rw (digit_is h) refl

mark_sign : (b : ℕ) {below : Bool} → IsSign b below → phase_step Phase.mark b ≡ Some Phase.sign
unfolding phase_step
mark_sign b IsSign.minus = refl
mark_sign b IsSign.plus = refl

sign_digit : (b : ℕ) → IsDigit b → phase_step Phase.sign b ≡ Some Phase.exponent
unfolding phase_step
sign_digit b h = rw (digit_is h) refl

exponent_digit : (b : ℕ) → IsDigit b → phase_step Phase.exponent b ≡ Some Phase.exponent
unfolding phase_step
exponent_digit b h = rw (digit_is h) refl

pub point_digit : (b : ℕ) → IsDigit b → phase_step Phase.point b ≡ Some Phase.fraction
unfolding phase_step
point_digit b h = rw (digit_is h) refl

fraction_digit : (b : ℕ) → IsDigit b → phase_step Phase.fraction b ≡ Some Phase.fraction
unfolding phase_step
fraction_digit b h = rw (digit_is h) refl

whole_digit : (b : ℕ) → IsDigit b → phase_step Phase.whole b ≡ Some Phase.whole
unfolding phase_step
whole_digit b h = rw (digit_is h) refl

-- where a fraction, or an exponent, may come
pub data AfterWhole : Phase → Type 0 where
  zero : AfterWhole Phase.lone_zero
  whole : AfterWhole Phase.whole

data BeforeExponent : Phase → Type 0 where
  zero : BeforeExponent Phase.lone_zero
  whole : BeforeExponent Phase.whole
  fraction : BeforeExponent Phase.fraction

may_exponent : {p : Phase} (b : ℕ) → BeforeExponent p → IsExponentMark b → phase_step p b ≡ Some Phase.mark
unfolding phase_step
may_exponent b BeforeExponent.zero IsExponentMark.lower = refl
may_exponent b BeforeExponent.zero IsExponentMark.upper = refl
may_exponent b BeforeExponent.whole IsExponentMark.lower = refl
may_exponent b BeforeExponent.whole IsExponentMark.upper = refl
may_exponent b BeforeExponent.fraction IsExponentMark.lower = refl
may_exponent b BeforeExponent.fraction IsExponentMark.upper = refl

ends_there : {p : Phase} → BeforeExponent p → may_end p ≡ true
ends_there BeforeExponent.zero = refl
ends_there _ = refl

exponent_reads : {e w tok xs : List ℕ} {below : Bool} {k at : ℕ} {levels : List Bool} {fs : List Event} (p : Phase)
    (bytes : List ℕ) → BeforeExponent p → IsExp e below xs → tok ≡ bytes ++ e
    → Reads (k + length e) (st levels after) w fs
    → Reads k (st levels (number at bytes p)) (e ++ w) (Event.number at tok ∷ fs)
exponent_reads p bytes before IsExp.none t r =
    named (sym (t ∙ append-nil bytes)) (finish_number p (ends_there before) (at_offset (omega arith) r))
exponent_reads p bytes before (IsExp.plain {e} {d} {ds} m h hs) t r =
    goes_on p Phase.mark bytes (may_exponent e before m)
    (goes_on Phase.mark Phase.exponent (bytes ++ e ∷ []) (mark_digit d h)
    (digits Phase.exponent ((bytes ++ e ∷ []) ++ d ∷ []) exponent_digit hs
    (λ all q. named (rw (q, t) (simp append_assoc)) (finish_number Phase.exponent refl (at_offset (omega arith) r)))))
exponent_reads p bytes before (IsExp.signed {e} {s} {d} {ds} m g h hs) t r =
    goes_on p Phase.mark bytes (may_exponent e before m)
    (goes_on Phase.mark Phase.sign (bytes ++ e ∷ []) (mark_sign s g)
    (goes_on Phase.sign Phase.exponent ((bytes ++ e ∷ []) ++ s ∷ []) (sign_digit d h)
    (digits Phase.exponent (((bytes ++ e ∷ []) ++ s ∷ []) ++ d ∷ []) exponent_digit hs
    (λ all q. named (rw (q, t) (simp append_assoc)) (finish_number Phase.exponent refl (at_offset (omega arith) r))))))

pub may_fraction : {p : Phase} → AfterWhole p → phase_step p 46 ≡ Some Phase.point
unfolding phase_step
may_fraction AfterWhole.zero = refl
may_fraction AfterWhole.whole = refl

no_fraction : {p : Phase} → AfterWhole p → BeforeExponent p
no_fraction AfterWhole.zero = BeforeExponent.zero
no_fraction AfterWhole.whole = BeforeExponent.whole

fraction_reads : {f e w tok gs xs : List ℕ} {below : Bool} {k at : ℕ} {levels : List Bool} {fs : List Event} (p : Phase)
    (bytes : List ℕ) → AfterWhole p → IsFrac f gs → IsExp e below xs → tok ≡ bytes ++ (f ++ e)
    → Reads (k + length f + length e) (st levels after) w fs
    → Reads k (st levels (number at bytes p)) (f ++ (e ++ w)) (Event.number at tok ∷ fs)
fraction_reads p bytes before IsFrac.none x t r =
    exponent_reads p bytes (no_fraction before) x t (at_offset (omega arith) r)
fraction_reads p bytes before (IsFrac.digits {d} {ds} h hs) x t r =
    goes_on p Phase.point bytes (may_fraction before)
    (goes_on Phase.point Phase.fraction (bytes ++ 46 ∷ []) (point_digit d h)
    (digits Phase.fraction ((bytes ++ 46 ∷ []) ++ d ∷ []) fraction_digit hs
    (λ all q. exponent_reads Phase.fraction all BeforeExponent.fraction x (rw (t, q) (simp append_assoc))
    (at_offset (omega arith) r))))

pub minus_zero : phase_step Phase.minus 48 ≡ Some Phase.lone_zero
unfolding phase_step
minus_zero = refl

pub minus_digit : (b : ℕ) → b ≢ 48 → IsDigit b → phase_step Phase.minus b ≡ Some Phase.whole
unfolding phase_step
minus_digit b n h = grind (arith, nat_tests, digit_is h)

-- a number without its sign
pub unsigned_reads : {i f e w tok gs xs : List ℕ} {below : Bool} {k at : ℕ} {levels : List Bool} {fs : List Event}
    (bytes : List ℕ) → IsInt i → IsFrac f gs → IsExp e below xs → tok ≡ bytes ++ (i ++ (f ++ e))
    → Reads (k + length i + length f + length e) (st levels after) w fs
    → Reads k (st levels (number at bytes Phase.minus)) (i ++ (f ++ (e ++ w))) (Event.number at tok ∷ fs)
unsigned_reads bytes IsInt.zero x y t r = goes_on Phase.minus Phase.lone_zero bytes minus_zero
    (fraction_reads Phase.lone_zero (bytes ++ 48 ∷ []) AfterWhole.zero x y (rw t (simp append_assoc))
    (at_offset (omega arith) r))
unsigned_reads bytes (IsInt.nonzero {d} {ds} n h hs) x y t r =
    goes_on Phase.minus Phase.whole bytes (minus_digit d n h)
    (digits Phase.whole (bytes ++ d ∷ []) whole_digit hs
    (λ all q. fraction_reads Phase.whole all AfterWhole.whole x y (rw (t, q) (simp append_assoc))
    (at_offset (omega arith) r)))
