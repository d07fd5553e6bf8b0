-- What the machine reads of a number is what the grammar allows.
use Rattle.std.specs.Prelude.{◌==◌, ◌||◌, ◌⊎◌}
use Rattle.std.proofs.Common.{◌≡◌, ◌≢◌, ℕ, List, [], ◌∷◌, ◌++◌, Bool, true, false, Some, refl, inl, inr, arith}
use Rattle.std.proofs.lemmas.Bool.Decides.{nat_tests}
use Rattle.json_grammar.proofs.Digits.{digit, mark_of}
use Rattle.json_grammar.specs.Grammar.{IsDigit, AreDigits, IsInt, IsFrac, IsExp, IsExponentMark, IsSign, HasParts}
use Rattle.json_grammar.specs.Grammar.{IsNumber}
use Rattle.json_grammar.specs.laws.Machine.{Phase, lone_zero, whole, point, fraction, mark, sign, exponent, phase_step}
use Rattle.json_grammar.specs.laws.Machine.{may_end}
use Rattle.json_grammar.specs.laws.Machine.{is_digit, is_mark}
use Rattle.json_grammar.proofs.Choices.{branch, taken, guarded}

-- the bytes complete a number from there
pub data Rest : Phase → List ℕ → Type 0 where
  in_exponent : {ds : List ℕ} → AreDigits ds → Rest exponent ds
  in_sign : {d : ℕ} {ds : List ℕ} → IsDigit d → AreDigits ds → Rest sign (d ∷ ds)
  in_mark : {d : ℕ} {ds : List ℕ} → IsDigit d → AreDigits ds → Rest mark (d ∷ ds)
  in_mark_signed : {s d : ℕ} {ds : List ℕ} {below : Bool} → IsSign s below → IsDigit d → AreDigits ds
      → Rest mark (s ∷ d ∷ ds)
  in_fraction : {ds e xs : List ℕ} {below : Bool} → AreDigits ds → IsExp e below xs → Rest fraction (ds ++ e)
  in_point : {d : ℕ} {ds e xs : List ℕ} {below : Bool} → IsDigit d → AreDigits ds → IsExp e below xs
      → Rest point (d ∷ (ds ++ e))
  in_whole : {ds f e gs xs : List ℕ} {below : Bool} → AreDigits ds → IsFrac f gs → IsExp e below xs
      → Rest whole (ds ++ (f ++ e))
  in_zero : {f e gs xs : List ℕ} {below : Bool} → IsFrac f gs → IsExp e below xs → Rest lone_zero (f ++ e)
  in_minus : {w f e gs xs : List ℕ} {below : Bool} → IsInt w → IsFrac f gs → IsExp e below xs
      → Rest Phase.minus (w ++ (f ++ e))

abbrev Back : Phase → ℕ → List ℕ → Phase → Type 0
Back p b bs q = Rest q bs → Rest p (b ∷ bs)

sign_of : (b : ℕ) → ((b == 43) || (b == 45)) ≡ true → (below : Bool) × IsSign b below
sign_of b t =
    let o : (b ≡ 43) ⊎ (b ≡ 45) = grind (arith, nat_tests) in
    elim o [ inl i ↦ (false, rw i IsSign.plus) | inr i ↦ (true, rw i IsSign.minus) ]

exponent_rest : {b : ℕ} {bs : List ℕ} → IsDigit b → Rest exponent bs → AreDigits (b ∷ bs)
exponent_rest h (in_exponent hs) = AreDigits.more h hs

mark_rest : {b : ℕ} {bs : List ℕ} → IsExponentMark b → Rest mark bs → (below : Bool) × (xs : List ℕ)
    × IsExp (b ∷ bs) below xs
mark_rest m (in_mark h hs) = (_, _, IsExp.plain m h hs)
mark_rest m (in_mark_signed s h hs) = (_, _, IsExp.signed m s h hs)

-- a fraction and an exponent
record PointRest (bs : List ℕ) : Type 0 where
  front : List ℕ
  back : List ℕ
  front_digits : List ℕ
  below : Bool
  back_digits : List ℕ
  frac : IsFrac front front_digits
  exp : IsExp back below back_digits
  is : 46 ∷ bs ≡ front ++ back

point_rest : {bs : List ℕ} → Rest point bs → PointRest bs
point_rest (in_point {d} {ds} {e} h hs x) = record {
  front = 46 ∷ d ∷ ds;
  back = e;
  front_digits = _;
  below = _;
  back_digits = _;
  frac = IsFrac.digits h hs;
  exp = x;
  is = refl;
}

point_in : (b : ℕ) (bs : List ℕ) → b ≡ 46 → Rest point bs → Rest lone_zero (b ∷ bs)
point_in b bs i r = let p : PointRest bs = point_rest r in rw (i, p.is) (in_zero p.frac p.exp)

point_in_whole : (b : ℕ) (bs : List ℕ) → b ≡ 46 → Rest point bs → Rest whole (b ∷ bs)
point_in_whole b bs i r = let p : PointRest bs = point_rest r in
    rw (i, p.is) (in_whole {ds = []} AreDigits.none p.frac p.exp)

whole_more : {b : ℕ} {bs : List ℕ} → IsDigit b → Rest whole bs → Rest whole (b ∷ bs)
whole_more h (in_whole hs f e) = in_whole (AreDigits.more h hs) f e

fraction_more : {b : ℕ} {bs : List ℕ} → IsDigit b → Rest fraction bs → Rest fraction (b ∷ bs)
fraction_more h (in_fraction hs e) = in_fraction (AreDigits.more h hs) e

point_more : {b : ℕ} {bs : List ℕ} → IsDigit b → Rest fraction bs → Rest point (b ∷ bs)
point_more h (in_fraction hs e) = in_point h hs e

minus_zero : {bs : List ℕ} → Rest lone_zero bs → Rest Phase.minus (48 ∷ bs)
minus_zero (in_zero f e) = in_minus IsInt.zero f e

minus_whole : {b : ℕ} {bs : List ℕ} → b ≢ 48 → IsDigit b → Rest whole bs → Rest Phase.minus (b ∷ bs)
minus_whole n h (in_whole hs f e) = in_minus (IsInt.nonzero n h hs) f e

mark_digit : {b : ℕ} {bs : List ℕ} → IsDigit b → Rest exponent bs → Rest mark (b ∷ bs)
mark_digit h (in_exponent hs) = in_mark h hs

mark_sign : {b : ℕ} {bs : List ℕ} {below : Bool} → IsSign b below → Rest sign bs → Rest mark (b ∷ bs)
mark_sign s (in_sign h hs) = in_mark_signed s h hs

sign_digit : {b : ℕ} {bs : List ℕ} → IsDigit b → Rest exponent bs → Rest sign (b ∷ bs)
sign_digit h (in_exponent hs) = in_sign h hs

pub phase_back : (p : Phase) (b : ℕ) (bs : List ℕ) (q : Phase) → phase_step p b ≡ Some q → Back p b bs q
unfolding phase_step
phase_back Phase.minus b bs q e =
    branch (Back Phase.minus b bs) (b == 48) _ _ q e
    (λ t f. taken (Back Phase.minus b bs) _ q f (λ r. let i : b ≡ 48 = grind (arith, nat_tests) in
    rw i (minus_zero r)))
    (λ n f. guarded (Back Phase.minus b bs) (is_digit b) _ q f
    (λ t r. minus_whole (grind (arith, nat_tests)) (digit b t) r))
phase_back lone_zero b bs q e =
    branch (Back lone_zero b bs) (b == 46) _ _ q e
    (λ t f. taken (Back lone_zero b bs) _ q f (λ r. point_in b bs (grind (arith, nat_tests)) r))
    (λ n f. guarded (Back lone_zero b bs) (is_mark b) _ q f
    (λ t r. in_zero {f = []} IsFrac.none (mark_rest (mark_of b t) r).2))
phase_back whole b bs q e =
    branch (Back whole b bs) (is_digit b) _ _ q e (λ t f. taken (Back whole b bs) _ q f (λ r. whole_more (digit b t) r))
    (λ n0 f0. branch (Back whole b bs) (b == 46) _ _ q f0
    (λ t f. taken (Back whole b bs) _ q f (λ r. point_in_whole b bs (grind (arith, nat_tests)) r))
    (λ n f. guarded (Back whole b bs) (is_mark b) _ q f
    (λ t r. in_whole {ds = []} {f = []} AreDigits.none IsFrac.none (mark_rest (mark_of b t) r).2)))
phase_back point b bs q e = guarded (Back point b bs) (is_digit b) _ q e (λ t r. point_more (digit b t) r)
phase_back fraction b bs q e =
    branch (Back fraction b bs) (is_digit b) _ _ q e
    (λ t f. taken (Back fraction b bs) _ q f (λ r. fraction_more (digit b t) r))
    (λ n f. guarded (Back fraction b bs) (is_mark b) _ q f
    (λ t r. in_fraction {ds = []} AreDigits.none (mark_rest (mark_of b t) r).2))
phase_back mark b bs q e =
    branch (Back mark b bs) (is_digit b) _ _ q e (λ t f. taken (Back mark b bs) _ q f (λ r. mark_digit (digit b t) r))
    (λ n f. guarded (Back mark b bs) ((b == 43) || (b == 45)) _ q f (λ t r. mark_sign (sign_of b t).1 r))
phase_back sign b bs q e = guarded (Back sign b bs) (is_digit b) _ q e (λ t r. sign_digit (digit b t) r)
phase_back exponent b bs q e =
    guarded (Back exponent b bs) (is_digit b) _ q e (λ t r. in_exponent (exponent_rest (digit b t) r))

pub phase_end : (p : Phase) → may_end p ≡ true → Rest p []
phase_end Phase.minus e = absurd cc
phase_end lone_zero e = in_zero {f = []} IsFrac.none IsExp.none
phase_end whole e = in_whole {ds = []} {f = []} AreDigits.none IsFrac.none IsExp.none
phase_end point e = absurd cc
phase_end fraction e = in_fraction {ds = []} AreDigits.none IsExp.none
phase_end mark e = absurd cc
phase_end sign e = absurd cc
phase_end exponent e = in_exponent AreDigits.none

pub after_minus : {bs : List ℕ} → Rest Phase.minus bs → IsNumber (45 ∷ bs)
after_minus (in_minus w f e) = (_, HasParts.negative w f e)

pub after_digit : {b : ℕ} {bs : List ℕ} → b ≢ 48 → IsDigit b → Rest whole bs → IsNumber (b ∷ bs)
after_digit n h (in_whole hs f e) = (_, HasParts.positive (IsInt.nonzero n h hs) f e)

pub after_zero : {bs : List ℕ} → Rest lone_zero bs → IsNumber (48 ∷ bs)
after_zero (in_zero f e) = (_, HasParts.positive IsInt.zero f e)
