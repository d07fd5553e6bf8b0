-- A number token is taken apart as the grammar says, and in one way alone.
use Rattle.std.specs.Prelude.{◌==◌, ◌&&◌, nat_lt}
use Rattle.std.proofs.Common.{◌≡◌, ℕ, suc, ◌<◌, ◌≤◌, List, [], ◌∷◌, ◌++◌, length, Bool, true, false, cond, Option, Some}
use Rattle.std.proofs.Common.{None, refl, sym, ◌∙◌, ap, subst, arith, drop, take}
use Rattle.std.proofs.Math.Seq.{take-append_seam, drop-append_seam}
use Rattle.std.proofs.lemmas.List.{take-append-drop, length-take-le}
use Rattle.std.proofs.lemmas.Bool.{cond-true}
use Rattle.std.proofs.lemmas.Bool.Decides.{nat_tests}
use Rattle.json_grammar.specs.Grammar.{IsDigit, AreDigits, IsInt, IsFrac, IsExp, IsExponentMark, IsSign, Parts, parts}
use Rattle.json_grammar.specs.Grammar.{HasParts}
use Rattle.json_grammar.specs.Bytes.{is_digit, is_mark}
use Rattle.json_grammar.specs.Token.{digit_count, may_be_int, exponent_digits, signed_exponent, exponent_of}
use Rattle.json_grammar.specs.Token.{behind_point, fraction_of, with_exponent, with_fraction, unsigned_parts, parts_of}
use Rattle.json_grammar.proofs.Choices.{branch, guarded}
use Rattle.json_grammar.proofs.Digits.{digit, mark_of}
use Rattle.json_grammar.proofs.Digits.{digit_is}

-- digits before something that begins with none
counted : {ds : List ℕ} → AreDigits ds → (rest : List ℕ) → digit_count rest ≡ 0 → digit_count (ds ++ rest) ≡ length ds
counted AreDigits.none rest e = e
counted (AreDigits.more h hs) rest e = rw (digit_is h) (ap suc (counted hs rest e))

all_counted : {ds : List ℕ} → AreDigits ds → digit_count ds ≡ length ds
all_counted AreDigits.none = refl
all_counted (AreDigits.more h hs) = rw (digit_is h) (ap suc (all_counted hs))

no_digit_exp : {e xs : List ℕ} {below : Bool} → IsExp e below xs → digit_count e ≡ 0
no_digit_exp IsExp.none = refl
no_digit_exp (IsExp.plain IsExponentMark.lower h hs) = refl
no_digit_exp (IsExp.plain IsExponentMark.upper h hs) = refl
no_digit_exp (IsExp.signed IsExponentMark.lower g h hs) = refl
no_digit_exp (IsExp.signed IsExponentMark.upper g h hs) = refl

no_digit_frac : {f e ds xs : List ℕ} {below : Bool} → IsFrac f ds → IsExp e below xs → digit_count (f ++ e) ≡ 0
no_digit_frac IsFrac.none x = no_digit_exp x
no_digit_frac (IsFrac.digits h hs) x = refl

int_digits : {w : List ℕ} → IsInt w → AreDigits w
int_digits IsInt.zero = AreDigits.more (record { low = omega arith; high = omega arith }) AreDigits.none
int_digits (IsInt.nonzero n h hs) = AreDigits.more h hs

int_may : {w : List ℕ} → IsInt w → may_be_int w ≡ true
int_may IsInt.zero = refl
int_may (IsInt.nonzero {d} n h AreDigits.none) = refl
int_may (IsInt.nonzero {d} n h (AreDigits.more g gs)) = grind (arith, nat_tests)

digits_found : (below : Bool) (d : ℕ) (ds : List ℕ) → AreDigits (d ∷ ds)
    → exponent_digits below (d ∷ ds) ≡ Some (below, d ∷ ds)
digits_found below d ds h =
    let e = all_counted h in
    let t : (nat_lt 0 (length (d ∷ ds)) && (digit_count (d ∷ ds) == length (d ∷ ds))) ≡ true =
    grind (arith, nat_tests) in
    cond-true _ _ _ t

not_signs : (d : ℕ) → IsDigit d → ((d == 45) ≡ false) × ((d == 43) ≡ false)
not_signs d h = let l = h.low in (grind (arith, nat_tests), grind (arith, nat_tests))

plain_found : (d : ℕ) (ds : List ℕ) → IsDigit d → AreDigits ds → signed_exponent (d ∷ ds) ≡ Some (false, d ∷ ds)
plain_found d ds h hs = let n = not_signs d h in rw (n.0, n.1) (digits_found false d ds (AreDigits.more h hs))

signed_found : {s d : ℕ} {ds : List ℕ} {below : Bool} → IsSign s below → IsDigit d → AreDigits ds
    → signed_exponent (s ∷ d ∷ ds) ≡ Some (below, d ∷ ds)
signed_found {d = d} {ds} IsSign.minus h hs = digits_found true d ds (AreDigits.more h hs)
signed_found {d = d} {ds} IsSign.plus h hs = digits_found false d ds (AreDigits.more h hs)

exp_found : {e xs : List ℕ} {below : Bool} → IsExp e below xs → exponent_of e ≡ Some (below, xs)
exp_found IsExp.none = refl
exp_found (IsExp.plain {d = d} {ds} IsExponentMark.lower h hs) = plain_found d ds h hs
exp_found (IsExp.plain {d = d} {ds} IsExponentMark.upper h hs) = plain_found d ds h hs
exp_found (IsExp.signed IsExponentMark.lower g h hs) = signed_found g h hs
exp_found (IsExp.signed IsExponentMark.upper g h hs) = signed_found g h hs

-- the list falls apart at the count of its digits
apart : (a rest : List ℕ) (n : ℕ) → n ≡ length a → (take n (a ++ rest) ≡ a) × (drop n (a ++ rest) ≡ rest)
apart a rest n e =
    (ap (λ z. take z (a ++ rest)) e ∙ take-append_seam a rest, ap (λ z. drop z (a ++ rest)) e ∙ drop-append_seam a rest)

frac_found : {f e ds xs : List ℕ} {below : Bool} → IsFrac f ds → IsExp e below xs → fraction_of (f ++ e) ≡ Some (ds, e)
frac_found IsFrac.none IsExp.none = refl
frac_found IsFrac.none (IsExp.plain IsExponentMark.lower h hs) = refl
frac_found IsFrac.none (IsExp.plain IsExponentMark.upper h hs) = refl
frac_found IsFrac.none (IsExp.signed IsExponentMark.lower g h hs) = refl
frac_found IsFrac.none (IsExp.signed IsExponentMark.upper g h hs) = refl
frac_found {e = e} (IsFrac.digits {d} {ds} h hs) x =
    let c : digit_count ((d ∷ ds) ++ e) ≡ length (d ∷ ds) = counted (AreDigits.more h hs) e (no_digit_exp x) in
    let a = apart (d ∷ ds) e (digit_count ((d ∷ ds) ++ e)) c in
    let t : nat_lt 0 (digit_count ((d ∷ ds) ++ e)) ≡ true = grind (arith, nat_tests) in
    cond-true _ _ _ t ∙ rw (a.0, a.1) refl

unsigned_found : {w f e ds xs : List ℕ} {below : Bool} (negative : Bool) → IsInt w → IsFrac f ds → IsExp e below xs
    → unsigned_parts negative (w ++ (f ++ e)) ≡ Some (parts negative w ds below xs)
unsigned_found {w} {f} {e} negative i g x =
    let c : digit_count (w ++ (f ++ e)) ≡ length w = counted (int_digits i) (f ++ e) (no_digit_frac g x) in
    let a = apart w (f ++ e) (digit_count (w ++ (f ++ e))) c in
    rw (a.0, a.1, int_may i, frac_found g x, exp_found x) refl

first_digit : {w : List ℕ} (negative : Bool) (tail : List ℕ) (p : Option Parts) → IsInt w
    → unsigned_parts false (w ++ tail) ≡ p → parts_of (w ++ tail) ≡ p
unfolding parts_of
first_digit negative tail p IsInt.zero e = e
first_digit negative tail p (IsInt.nonzero {d} n h hs) e = rw (not_signs d h).0 e

-- the grammar's parts are found
pub parts_found : {s : List ℕ} {p : Parts} → HasParts s p → parts_of s ≡ Some p
unfolding parts_of
parts_found (HasParts.positive {f = f} {e} i g x) = first_digit false (f ++ e) _ i (unsigned_found false i g x)
parts_found (HasParts.negative i g x) = unsigned_found true i g x

-- a token has one list of parts
pub one_parts : {s : List ℕ} {p q : Parts} → HasParts s p → HasParts s q → p ≡ q
one_parts h g = let e = parts_found h in let f = parts_found g in cc

-- the other way: what is found is what the grammar says
all_by_test : (b : ℕ) (bs : List ℕ) (t : Bool) → is_digit b ≡ t → cond t (suc (digit_count bs)) 0 ≡ suc (length bs)
    → (digit_count bs ≡ length bs → AreDigits bs) → AreDigits (b ∷ bs)
all_by_test b bs true f e more = AreDigits.more (digit b f) (more (omega arith))
all_by_test b bs false f e more = absurd (omega arith)

all_digits : (bs : List ℕ) → digit_count bs ≡ length bs → AreDigits bs
all_digits [] e = AreDigits.none
all_digits (b ∷ bs) e = all_by_test b bs (is_digit b) refl e (all_digits bs)

first_by_test : (b : ℕ) (bs : List ℕ) (t : Bool) → is_digit b ≡ t → AreDigits (take (digit_count bs) bs)
    → AreDigits (take (cond t (suc (digit_count bs)) 0) (b ∷ bs))
first_by_test b bs true f h = AreDigits.more (digit b f) h
first_by_test b bs false f h = AreDigits.none

first_digits : (bs : List ℕ) → AreDigits (take (digit_count bs) bs)
first_digits [] = AreDigits.none
first_digits (b ∷ bs) = first_by_test b bs (is_digit b) refl (first_digits bs)

-- the bytes are the digits of an exponent
record Digits (below : Bool) (bs : List ℕ) (x : Bool × List ℕ) : Type 0 where
  first : ℕ
  rest : List ℕ
  bytes : bs ≡ first ∷ rest
  is : x ≡ (below, first ∷ rest)
  one : IsDigit first
  others : AreDigits rest

split_digits : (d : ℕ) (ds : List ℕ) → AreDigits (d ∷ ds) → IsDigit d × AreDigits ds
split_digits d ds (AreDigits.more h hs) = (h, hs)

digits_sound : (below : Bool) (bs : List ℕ) (x : Bool × List ℕ) → exponent_digits below bs ≡ Some x → Digits below bs x
digits_sound below [] x e = absurd cc
digits_sound below (d ∷ ds) x e =
    guarded (λ y. Digits below (d ∷ ds) y) (nat_lt 0 (length (d ∷ ds)) && (digit_count (d ∷ ds) == length (d ∷ ds)))
    (below, d ∷ ds) x e
    (λ t. let h = split_digits d ds (all_digits (d ∷ ds) (grind (arith, nat_tests))) in
    record { first = d; rest = ds; bytes = refl; is = refl; one = h.0; others = h.1 })

exp_of : {e s : ℕ} {bs : List ℕ} {below : Bool} {x : Bool × List ℕ} → IsExponentMark e → IsSign s below
    → Digits below bs x → IsExp (e ∷ s ∷ bs) x.0 x.1
exp_of {e} {s} {x = x} m g d = subst (λ z. IsExp (e ∷ s ∷ z) x.0 x.1) (sym d.bytes)
    (subst (λ (y : Bool × List ℕ). IsExp (e ∷ s ∷ d.first ∷ d.rest) y.0 y.1) (sym d.is)
    (IsExp.signed m g d.one d.others))

plain_of : {e : ℕ} {bs : List ℕ} {x : Bool × List ℕ} → IsExponentMark e → Digits false bs x → IsExp (e ∷ bs) x.0 x.1
plain_of {e} {x = x} m d = subst (λ z. IsExp (e ∷ z) x.0 x.1) (sym d.bytes)
    (subst (λ (y : Bool × List ℕ). IsExp (e ∷ d.first ∷ d.rest) y.0 y.1) (sym d.is) (IsExp.plain m d.one d.others))

signed_sound : (e : ℕ) (bs : List ℕ) (x : Bool × List ℕ) → IsExponentMark e → signed_exponent bs ≡ Some x
    → IsExp (e ∷ bs) x.0 x.1
signed_sound e [] x m f = absurd cc
signed_sound e (s ∷ bs) x m f =
    branch (λ (y : Bool × List ℕ). IsExp (e ∷ s ∷ bs) y.0 y.1) (s == 45) _ _ x f
    (λ t g. let i : s ≡ 45 = grind (arith, nat_tests) in
    subst (λ z. IsExp (e ∷ z ∷ bs) x.0 x.1) (sym i) (exp_of m IsSign.minus (digits_sound true bs x g)))
    (λ n g. branch (λ (y : Bool × List ℕ). IsExp (e ∷ s ∷ bs) y.0 y.1) (s == 43) _ _ x g
    (λ t h. let i : s ≡ 43 = grind (arith, nat_tests) in
    subst (λ z. IsExp (e ∷ z ∷ bs) x.0 x.1) (sym i) (exp_of m IsSign.plus (digits_sound false bs x h)))
    (λ o h. plain_of m (digits_sound false (s ∷ bs) x h)))

exp_sound : (bs : List ℕ) (x : Bool × List ℕ) → exponent_of bs ≡ Some x → IsExp bs x.0 x.1
exp_sound [] x f = let e : ◌≡◌ {A = Bool × List ℕ} (false, []) x = cc in
    subst (λ (y : Bool × List ℕ). IsExp [] y.0 y.1) e IsExp.none
exp_sound (e ∷ bs) x f = when (is_mark e) refl f
  where
    when : (t : Bool) → is_mark e ≡ t → cond t (signed_exponent bs) None ≡ Some x → IsExp (e ∷ bs) x.0 x.1
    when true m g = signed_sound e bs x (mark_of e m) g
    when false m g = absurd cc

within : (bs : List ℕ) → digit_count bs ≤ length bs
within [] = omega arith
within (b ∷ bs) = by_test (is_digit b) (digit_count bs) (length bs) (within bs)
  where
    by_test : (t : Bool) (n m : ℕ) → n ≤ m → cond t (suc n) 0 ≤ suc m
    by_test true n m h = omega arith
    by_test false n m h = omega arith

-- a fraction, and what comes behind it
record Front (bs : List ℕ) (x : List ℕ × List ℕ) : Type 0 where
  front : List ℕ
  bytes : bs ≡ front ++ x.1
  frac : IsFrac front x.0

some_digits : (ds : List ℕ) → AreDigits ds → 0 < length ds → IsFrac (46 ∷ ds) ds
some_digits [] h l = absurd (omega arith)
some_digits (d ∷ ds) (AreDigits.more h hs) l = IsFrac.digits h hs

point_sound : (bs : List ℕ) (x : List ℕ × List ℕ) → behind_point bs ≡ Some x → Front (46 ∷ bs) x
point_sound bs x e =
    guarded (λ (y : List ℕ × List ℕ). Front (46 ∷ bs) y) (nat_lt 0 (digit_count bs))
    (take (digit_count bs) bs, drop (digit_count bs) bs) x e
    (λ t. record {
      front = 46 ∷ take (digit_count bs) bs;
      bytes = ap (λ z. 46 ∷ z) (sym (take-append-drop (digit_count bs) bs));
      frac = some_digits (take (digit_count bs) bs) (first_digits bs)
          (let l = length-take-le (digit_count bs) bs (within bs) in
          let p : 0 < digit_count bs = grind (arith, nat_tests) in omega arith);
    })

frac_sound : (bs : List ℕ) (x : List ℕ × List ℕ) → fraction_of bs ≡ Some x → Front bs x
frac_sound [] x f = let e : ◌≡◌ {A = List ℕ × List ℕ} ([], []) x = cc in
    subst (λ (y : List ℕ × List ℕ). Front [] y) e (record { front = []; bytes = refl; frac = IsFrac.none })
frac_sound (b ∷ bs) x f =
    branch (λ (y : List ℕ × List ℕ). Front (b ∷ bs) y) (b == 46) _ _ x f
    (λ t g. let i : b ≡ 46 = grind (arith, nat_tests) in subst (λ z. Front (z ∷ bs) x) (sym i) (point_sound bs x g))
    (λ n g. let e : ◌≡◌ {A = List ℕ × List ℕ} ([], b ∷ bs) x = cc in
    subst (λ (y : List ℕ × List ℕ). Front (b ∷ bs) y) e (record { front = []; bytes = refl; frac = IsFrac.none }))

int_of : (ds : List ℕ) → AreDigits ds → may_be_int ds ≡ true → IsInt ds
int_of [] h e = absurd cc
int_of (d ∷ []) (AreDigits.more h hs) e = when (d == 48) refl
  where
    when : (t : Bool) → (d == 48) ≡ t → IsInt (d ∷ [])
    when true f = let i : d ≡ 48 = grind (arith, nat_tests) in subst (λ z. IsInt (z ∷ [])) (sym i) IsInt.zero
    when false f = IsInt.nonzero (grind (arith, nat_tests)) h AreDigits.none
int_of (d ∷ c ∷ ds) (AreDigits.more h hs) e = IsInt.nonzero (grind (arith, nat_tests)) h hs

-- the parts behind a sign
record Unsigned (negative : Bool) (bs : List ℕ) (p : Parts) : Type 0 where
  w : List ℕ
  f : List ℕ
  e : List ℕ
  ds : List ℕ
  below : Bool
  xs : List ℕ
  bytes : bs ≡ w ++ (f ++ e)
  is : p ≡ parts negative w ds below xs
  int : IsInt w
  frac : IsFrac f ds
  exp : IsExp e below xs

with_exponent_sound : (negative : Bool) (bs w f e ds : List ℕ) (o : Option (Bool × List ℕ)) (p : Parts)
    → exponent_of e ≡ o → with_exponent negative w ds o ≡ Some p → bs ≡ w ++ (f ++ e) → IsInt w → IsFrac f ds
    → Unsigned negative bs p
with_exponent_sound negative bs w f e ds None p i j b g h = absurd cc
with_exponent_sound negative bs w f e ds (Some x) p i j b g h =
    record {
      w = w;
      f = f;
      e = e;
      ds = ds;
      below = x.0;
      xs = x.1;
      bytes = b;
      is = (let k : parts negative w ds x.0 x.1 ≡ p = cc in sym k);
      int = g;
      frac = h;
      exp = exp_sound e x i;
    }

with_fraction_sound : (negative : Bool) (bs w r : List ℕ) (o : Option (List ℕ × List ℕ)) (p : Parts) → fraction_of r ≡ o
    → with_fraction negative w o ≡ Some p → bs ≡ w ++ r → IsInt w → Unsigned negative bs p
with_fraction_sound negative bs w r None p i j b g = absurd cc
with_fraction_sound negative bs w r (Some x) p i j b g = let h = frac_sound r x i in
    with_exponent_sound negative bs w h.front x.1 x.0 (exponent_of x.1) p refl j (b ∙ ap (λ z. w ++ z) h.bytes) g h.frac

unsigned_sound : (negative : Bool) (bs : List ℕ) (p : Parts) → unsigned_parts negative bs ≡ Some p
    → Unsigned negative bs p
unsigned_sound negative bs p e = when (may_be_int (take (digit_count bs) bs)) refl e
  where
    when : (t : Bool) → may_be_int (take (digit_count bs) bs) ≡ t
        → cond t (with_fraction negative (take (digit_count bs) bs) (fraction_of (drop (digit_count bs) bs))) None
        ≡ Some p → Unsigned negative bs p
    when true f g = with_fraction_sound negative bs (take (digit_count bs) bs) (drop (digit_count bs) bs)
        (fraction_of (drop (digit_count bs) bs)) p refl g (sym (take-append-drop (digit_count bs) bs))
        (int_of (take (digit_count bs) bs) (first_digits bs) f)
    when false f g = absurd cc

positive_of : {bs : List ℕ} {p : Parts} → Unsigned false bs p → HasParts bs p
positive_of {p = p} u = subst (λ z. HasParts z p) (sym u.bytes)
    (subst (λ z. HasParts (u.w ++ (u.f ++ u.e)) z) (sym u.is) (HasParts.positive u.int u.frac u.exp))

negative_of : {bs : List ℕ} {p : Parts} → Unsigned true bs p → HasParts (45 ∷ bs) p
negative_of {p = p} u = subst (λ z. HasParts (45 ∷ z) p) (sym u.bytes)
    (subst (λ z. HasParts (45 ∷ (u.w ++ (u.f ++ u.e))) z) (sym u.is) (HasParts.negative u.int u.frac u.exp))

-- what is found is the grammar's
pub parts_sound : (s : List ℕ) (p : Parts) → parts_of s ≡ Some p → HasParts s p
unfolding parts_of
parts_sound [] p e = absurd cc
parts_sound (b ∷ bs) p e =
    branch (λ (q : Parts). HasParts (b ∷ bs) q) (b == 45) _ _ p e
    (λ t f. let i : b ≡ 45 = grind (arith, nat_tests) in
    subst (λ z. HasParts (z ∷ bs) p) (sym i) (negative_of (unsigned_sound true bs p f)))
    (λ n f. positive_of (unsigned_sound false (b ∷ bs) p f))
