-- What is read of a number token, by its relation and by its function.
use Rattle.std.specs.Prelude.{◌*◌, ◌^◌, ◌==◌, ◌&&◌, ◌||◌, not, nat_lt, nat_le, ℤ, unsigned_abs, ◌⊎◌, IfSome, IfOk}
use Rattle.std.specs.Prelude.{OnErr, MatchResult, Result, Ok, Err}
use Rattle.std.proofs.Common.{◌≡◌, ◌≢◌, ℕ, zero, suc, ◌+◌, ◌<◌, ◌≤◌, List, Option, Some, None, Bool, true, false, cond}
use Rattle.std.proofs.Common.{inl, inr, refl, sym, ◌∙◌, ap, subst, arith}
use Rattle.std.proofs.Math.Nat.{mul-le-mul_right, div-eq_of_lt-le, le-div_iff_mul-le, div-lt_iff_lt-mul}
use Rattle.std.proofs.lemmas.Bool.{cond-true, cond-false}
use Rattle.std.proofs.lemmas.Bool.Decides.{nat_tests}
use Rattle.json_grammar.specs.Tree.{Node}
use Rattle.json_grammar.specs.Grammar.{Parts, HasParts, IsNumber}
use Rattle.decimal_numbers.specs.Decimal.{numerator, denominator, distance, IsNearest, signed, IsFixedOf, IsTooLarge}
use Rattle.decimal_numbers.specs.Decimal.{IsExactly, IsWholeOf, of_number, of_text, IsMillionthsOf}
use Rattle.decimal_numbers.specs.Scaling.{IsRounded, Rounds, counted_size, unrounded_size}
use Rattle.decimal_numbers.specs.Exact.{nearest, is_exact, fixed_parts, fixed, exact_size, exact_parts, exactly, whole}
use Rattle.decimal_numbers.specs.Exact.{millionths}
use Rattle.json_grammar.specs.Token.{parts_of}
use Rattle.decimal_numbers.proofs.Rounding.{only, ten_positive}
use Rattle.decimal_numbers.proofs.Tallying.{exact_rounds}
use Rattle.json_grammar.proofs.Choices.{guarded}
use Rattle.json_grammar.proofs.Tokens.{parts_found, parts_sound, one_parts}

step_up : (b k n : ℕ) → k < n → k * b + b ≤ n * b
step_up b k n h = let e : suc k * b ≡ k * b + b = grind arith in
    let f : suc k * b ≤ n * b = mul-le-mul_right b (omega arith) in omega arith

-- the pair of bounds says that no whole number is nearer, and no greater one as near
apart_from : (a b x y : ℕ) → 2 * x ≤ 2 * a + b → 2 * a + b < 2 * (x + b) → (y ≡ x) ⊎ ((y + b ≤ x) ⊎ (x + b ≤ y))
    → distance a x ≤ distance a y
apart_from a b x y l h o = elim o [ inl e ↦ omega arith | inr p ↦ elim p [ inl e ↦ omega arith | inr e ↦ omega arith ] ]

order : (c d : ℕ) → (d ≡ c) ⊎ ((d < c) ⊎ (c < d))
order c d = grind arith

placed : (b c d : ℕ) → (d * b ≡ c * b) ⊎ ((d * b + b ≤ c * b) ⊎ (c * b + b ≤ d * b))
placed b c d = elim (order c d) [
  | inl e ↦ inl (ap (λ z. z * b) e)
  | inr p ↦
      elim p [ inl l ↦ inr (inl (step_up b d c l)) | inr l ↦ inr (inr (step_up b c d l)) ]
]

more_by_one : (b c : ℕ) → (c + 1) * b ≡ c * b + b
more_by_one b c = grind arith

not_greater : (a b x y : ℕ) → 0 < b → 2 * a + b < 2 * (x + b) → x + b ≤ y → distance a y ≡ distance a x → ⊥
not_greater a b x y p h l e = omega arith

pub is_nearest : (a b c : ℕ) → 0 < b → IsRounded a b c → IsNearest a b c
is_nearest a b c positive r =
    let high : 2 * a + b < 2 * (c * b + b) = subst (λ z. 2 * a + b < 2 * z) (more_by_one b c) r.high in
    record {
      near = λ d. apart_from a b (c * b) (d * b) r.low high (placed b c d);
      greater = λ d e. no_greater d e high (order c d);
    }
  where
    no_greater : (d : ℕ) → distance a (d * b) ≡ distance a (c * b) → 2 * a + b < 2 * (c * b + b)
        → (d ≡ c) ⊎ ((d < c) ⊎ (c < d)) → d ≤ c
    no_greater d e h (inl f) = omega arith
    no_greater d e h (inr (inl f)) = omega arith
    no_greater d e h (inr (inr f)) = absurd (not_greater a b (c * b) (d * b) positive h (step_up b c d f) e)

nearer : (a b x : ℕ) → 0 < b → distance a x ≤ distance a (x + b) → distance a (x + b) ≢ distance a x
    → 2 * a + b < 2 * (x + b)
nearer a b x p l n = omega arith

nearer_below : (a b x : ℕ) → 0 < b → distance a (x + b) ≤ distance a x → 2 * (x + b) ≤ 2 * a + b
nearer_below a b x p l = omega arith

pub bounds : (a b c : ℕ) → 0 < b → IsNearest a b c → IsRounded a b c
bounds a b c p n = record { low = low c n; high = high }
  where
    low : (c : ℕ) → IsNearest a b c → 2 * (c * b) ≤ 2 * a + b
    low zero n = (let z : 0 * b ≡ 0 = grind arith in omega arith)
    low (suc c) n =
        (let e : suc c * b ≡ c * b + b = grind arith in let m : distance a (c * b + b) ≤ distance a (c * b) =
        subst (λ z. distance a z ≤ distance a (c * b)) e (n.near c) in let k = nearer_below a b (c * b) p m in
        omega arith)

    high : 2 * a + b < 2 * ((c + 1) * b)
    high =
        let e = more_by_one b c in
        let near : distance a (c * b) ≤ distance a (c * b + b) =
        subst (λ z. distance a (c * b) ≤ distance a z) e (n.near (c + 1)) in
        let other : distance a (c * b + b) ≢ distance a (c * b) =
        λ f. (let g : c + 1 ≤ c = n.greater (c + 1) (ap (distance a) e ∙ f) in omega arith) in
        let h = nearer a b (c * b) p near other in omega arith

-- the function of the nearest whole number
double_bounds : (a b c : ℕ) → IsRounded a b c → (c * (2 * b) ≤ 2 * a + b) × (2 * a + b < (c + 1) * (2 * b))
double_bounds a b c r = let l = r.low in let h = r.high in (
  let e : c * (2 * b) ≡ 2 * (c * b) = grind arith in omega arith,
  let e : (c + 1) * (2 * b) ≡ 2 * ((c + 1) * b) = grind arith in omega arith,
)

pub nearest_is : (a b c : ℕ) → IsRounded a b c → nearest a b ≡ c
nearest_is a b c r = let d = double_bounds a b c r in div-eq_of_lt-le (2 * b) d.0 d.1

nearest_bounds : (a b : ℕ) → 0 < b → IsRounded a b (nearest a b)
nearest_bounds a b h =
    let d : 0 < 2 * b = omega arith in
    let l : nearest a b * (2 * b) ≤ 2 * a + b = (le-div_iff_mul-le d).0 (omega arith) in
    let g : 2 * a + b < (nearest a b + 1) * (2 * b) = (div-lt_iff_lt-mul d).0 (omega arith) in
    bounds_back a b (nearest a b) l g
  where
    bounds_back : (a b c : ℕ) → c * (2 * b) ≤ 2 * a + b → 2 * a + b < (c + 1) * (2 * b) → IsRounded a b c
    bounds_back a b c l g = record {
      low = (let e : c * (2 * b) ≡ 2 * (c * b) = grind arith in omega arith);
      high = (let e : (c + 1) * (2 * b) ≡ 2 * ((c + 1) * b) = grind arith in omega arith);
    }

pub positive : (p : Parts) → 0 < denominator p
positive p = ten_positive _

size_of_sign : (negative : Bool) (size : ℕ) → unsigned_abs (signed negative size) ≡ size
size_of_sign true zero = refl
size_of_sign true (suc n) = refl
size_of_sign false size = refl

-- the count of a token is one
pub one_count : {token : List ℕ} {c d : ℤ} {b e : Bool} → IsFixedOf token c b → IsFixedOf token d e → (c ≡ d) × (b ≡ e)
one_count {token} {c} {d} {b} {e} f g =
    let p : g.parts ≡ f.parts = one_parts g.token_parts f.token_parts in
    let n : IsNearest (numerator f.parts 12) (denominator f.parts) g.size =
    subst (λ q. IsNearest (numerator q 12) (denominator q) g.size) p g.nearest in
    let s : f.size ≡ g.size =
    only (numerator f.parts 12) (denominator f.parts) f.size g.size (bounds (numerator f.parts 12)
    (denominator f.parts) f.size (positive f.parts) f.nearest) (bounds (numerator f.parts 12) (denominator f.parts)
    g.size (positive f.parts) n) in (
      f.count_is ∙ ap (λ z. signed f.parts.negative z) s
          ∙ ap (λ (q : Parts). signed q.negative g.size) (sym p) ∙ sym g.count_is,
      f.differs_is ∙ ap (λ z. not (z * denominator f.parts == numerator f.parts 12)) s
          ∙ ap (λ (q : Parts). not (g.size * denominator q == numerator q 12)) (sym p) ∙ sym g.differs_is,
    )

-- the parts' count, by the nearest size
fixed_at : {token : List ℕ} (p : Parts) → HasParts token p
    → IsFixedOf token (signed p.negative (nearest (numerator p 12) (denominator p)))
    (not (nearest (numerator p 12) (denominator p) * denominator p == numerator p 12))
fixed_at p h = record {
  parts = p;
  token_parts = h;
  size = nearest (numerator p 12) (denominator p);
  nearest = is_nearest (numerator p 12) (denominator p) (nearest (numerator p 12) (denominator p)) (positive p)
      (nearest_bounds (numerator p 12) (denominator p) (positive p));
  count_is = refl;
  differs_is = refl;
}

pub fixed_sound : (token : List ℕ) (count : ℤ) (differs : Bool) → fixed token ≡ Some (count, differs)
    → IsFixedOf token count differs
unfolding fixed
fixed_sound token count differs e = of_parts (parts_of token) refl e
  where
    of_parts : (o : Option Parts) → parts_of token ≡ o → fixed_parts o ≡ Some (count, differs)
        → IsFixedOf token count differs
    of_parts None f g = absurd cc
    of_parts (Some p) f g =
        guarded (λ (r : ℤ × Bool). IsFixedOf token r.0 r.1)
        (nat_lt (nearest (numerator p 12) (denominator p)) (10 ^ 20)) _ (count, differs) g
        (λ _. fixed_at p (parts_sound token p f))

pub fixed_none : (token : List ℕ) → IsNumber token → fixed token ≡ None → IsTooLarge token
unfolding fixed
fixed_none token n e =
    let p = n.0 in
    let size = nearest (numerator p 12) (denominator p) in
    let none : fixed_parts (Some p) ≡ None = ap fixed_parts (sym (parts_found n.1)) ∙ e in
    let large : 10 ^ 20 ≤ size = by_test (ℤ × Bool) _ size (nat_lt size (10 ^ 20)) refl none in
    record {
      count = _;
      differs = _;
      fixed = fixed_at p n.1;
      large = (let z = size_of_sign p.negative size in omega arith);
    }
  where
    by_test : (A : Type 0) (x : A) (n : ℕ) (t : Bool) → nat_lt n (10 ^ 20) ≡ t
        → cond t (Some x) None ≡ None → 10 ^ 20 ≤ n
    by_test A x n true f g = absurd cc
    by_test A x n false f g = grind (arith, nat_tests)

-- what the code rounds is what the functions say
pub counted_is : (p : Parts) (size : Option ℕ) (differs : Bool) → Rounds (numerator p 12) (denominator p) size differs
    → counted_size p.negative size differs ≡ fixed_parts (Some p)
counted_is p None differs r =
    let n : nearest (numerator p 12) (denominator p) ≡ r.c =
    nearest_is (numerator p 12) (denominator p) r.c r.rounded in
    let l = r.size_is in
    let t : nat_lt (nearest (numerator p 12) (denominator p)) (10 ^ 20) ≡ false = not_below n l in
    sym (cond-false _ _ _ t)
  where
    not_below : {x c : ℕ} → x ≡ c → 10 ^ 20 ≤ c → nat_lt x (10 ^ 20) ≡ false
    not_below e l = grind (arith, nat_tests)
counted_is p (Some size) differs r =
    let n : nearest (numerator p 12) (denominator p) ≡ r.c =
    nearest_is (numerator p 12) (denominator p) r.c r.rounded in
    let s : size ≡ nearest (numerator p 12) (denominator p) = r.size_is.0 ∙ sym n in
    let t : nat_lt (nearest (numerator p 12) (denominator p)) (10 ^ 20) ≡ true = is_below s r.size_is.1 in
    let d : differs ≡ not (is_exact p 12 (nearest (numerator p 12) (denominator p))) =
    r.differs_is ∙ ap (λ z. not (is_exact p 12 z)) (sym n) in
    ap (λ z. Some (signed p.negative z, differs)) s
    ∙ ap (λ z. Some (signed p.negative (nearest (numerator p 12) (denominator p)), z)) d ∙ sym (cond-true _ _ _ t)
  where
    is_below : {x c : ℕ} → x ≡ c → x < 10 ^ 20 → nat_lt c (10 ^ 20) ≡ true
    is_below e l = grind (arith, nat_tests)

pub unrounded_is : (p : Parts) (places most : ℕ) (size : Option ℕ) (differs : Bool) → most < 10 ^ 20
    → Rounds (numerator p places) (denominator p) size differs
    → unrounded_size p.negative size differs most ≡ exact_parts places most (Some p)
unrounded_is p places most None differs m r =
    let n : nearest (numerator p places) (denominator p) ≡ r.c =
    nearest_is (numerator p places) (denominator p) r.c r.rounded in
    let l = r.size_is in
    let t : (is_exact p places (nearest (numerator p places) (denominator p))
    && (nat_le (nearest (numerator p places) (denominator p)) most
    && (not p.negative || (nearest (numerator p places) (denominator p) == 0)))) ≡ false = not_most
    (is_exact p places (nearest (numerator p places) (denominator p)))
    (not p.negative || (nearest (numerator p places) (denominator p) == 0)) n l m in
    sym (cond-false _ _ _ t)
  where
    not_most : {x c most : ℕ} (a b : Bool) → x ≡ c → 10 ^ 20 ≤ c → most < 10 ^ 20 → (a && (nat_le x most && b)) ≡ false
    not_most {x} {c} {most} a b e l m = let f : nat_le x most ≡ false = grind (arith, nat_tests) in rw f (and_false a)
      where
        and_false : (a : Bool) → (a && false) ≡ false
        and_false true = refl
        and_false false = refl
unrounded_is p places most (Some size) differs m r =
    let n : nearest (numerator p places) (denominator p) ≡ r.c =
    nearest_is (numerator p places) (denominator p) r.c r.rounded in
    let s : size ≡ nearest (numerator p places) (denominator p) = r.size_is.0 ∙ sym n in
    let d : not differs ≡ is_exact p places (nearest (numerator p places) (denominator p)) =
    ap not r.differs_is ∙ twice _ ∙ ap (λ z. is_exact p places z) (sym n) in
    ap (λ z. cond (not differs && (nat_le z most && (not p.negative || (z == 0)))) (Some z) None) s
    ∙ ap (λ z. cond
    (z && (nat_le (nearest (numerator p places) (denominator p)) most
    && (not p.negative || (nearest (numerator p places) (denominator p) == 0))))
    (Some (nearest (numerator p places) (denominator p))) None) d
  where
    twice : (a : Bool) → not (not a) ≡ a
    twice true = refl
    twice false = refl

exact_at : {token : List ℕ} (p : Parts) (places most n size : ℕ) → HasParts token p
    → exact_size p places most size ≡ Some n → IsExactly token places n × (n ≤ most)
exact_at {token} p places most n size h e =
    guarded (λ x. IsExactly token places x × (x ≤ most))
    (is_exact p places size && (nat_le size most && (not p.negative || (size == 0)))) size n e
    (λ t. let s = split (is_exact p places size) (nat_le size most) (not p.negative || (size == 0)) t in (
      record {
        parts = p;
        token_parts = h;
        exact = (let f = s.0 in grind (arith, nat_tests));
        sign = signs p.negative size s.2;
      },
      let f = s.1 in grind (arith, nat_tests),
    ))
  where
    split : (a b c : Bool) → (a && (b && c)) ≡ true → (a ≡ true) × (b ≡ true) × (c ≡ true)
    split true true c e = (refl, refl, e)
    split true false c e = absurd cc
    split false b c e = absurd cc

    signs : (b : Bool) (size : ℕ) → (not b || (size == 0)) ≡ true → b ≡ true → size ≡ 0
    signs true size f g = grind (arith, nat_tests)
    signs false size f g = absurd cc

pub exactly_sound : (places most : ℕ) (token : List ℕ) (n : ℕ) → exactly places most token ≡ Some n
    → IsExactly token places n × (n ≤ most)
unfolding exactly
exactly_sound places most token n e = of_parts (parts_of token) refl e
  where
    of_parts : (o : Option Parts) → parts_of token ≡ o → exact_parts places most o ≡ Some n
        → IsExactly token places n × (n ≤ most)
    of_parts None f g = absurd cc
    of_parts (Some p) f g = exact_at p places most n _ (parts_sound token p f) g

exact_rounded : (a b n : ℕ) → 0 < b → n * b ≡ a → IsRounded a b n
exact_rounded a b n h e = subst (λ z. IsRounded z b n) e (exact_rounds n b h)

pub exactly_found : (places most : ℕ) (token : List ℕ) (n : ℕ) → IsExactly token places n → n ≤ most
    → exactly places most token ≡ Some n
unfolding exactly
exactly_found places most token n x m =
    let p = x.parts in
    let s : nearest (numerator p places) (denominator p) ≡ n = nearest_is (numerator p places) (denominator p) n
    (exact_rounded (numerator p places) (denominator p) n (positive p) x.exact) in
    let e = x.exact in
    let t : (is_exact p places n && (nat_le n most && (not p.negative || (n == 0)))) ≡ true =
    tests (is_exact p places n) p.negative (grind (arith, nat_tests)) x.sign in
    ap (exact_parts places most) (parts_found x.token_parts)
    ∙ ap (λ z. exact_size p places most z) s ∙ cond-true _ _ _ t
  where
    tests : (a b : Bool) → a ≡ true → (b ≡ true → n ≡ 0) → (a && (nat_le n most && (not b || (n == 0)))) ≡ true
    tests a true f g = let z = g refl in rw f (grind (arith, nat_tests))
    tests a false f g = rw f (grind (arith, nat_tests))

pub whole_sound : (x : Node) (n : ℕ) → whole x ≡ Some n → IsWholeOf x n
unfolding whole
whole_sound (Node.number token) n e = let s = exactly_sound 0 999_999_999 token n e in of_number s.0 s.1
whole_sound (Node.text token) n e = let s = exactly_sound 0 999_999_999 token n e in of_text s.0 s.1
whole_sound Node.null n e = absurd cc
whole_sound (Node.boolean b) n e = absurd cc
whole_sound (Node.list ts) n e = absurd cc
whole_sound (Node.object ms) n e = absurd cc

pub whole_found : (x : Node) (n : ℕ) → IsWholeOf x n → whole x ≡ Some n
unfolding whole
whole_found _ n (of_number {token} x m) = exactly_found 0 999_999_999 token n x m
whole_found _ n (of_text {token} x m) = exactly_found 0 999_999_999 token n x m

pub millionths_sound : (token : List ℕ) (n : ℕ) → millionths token ≡ Some n → IsMillionthsOf token n
unfolding millionths
millionths_sound token n e = let s = exactly_sound 6 1_000_000 token n e in record { exactly = s.0; most = s.1 }

pub millionths_found : (token : List ℕ) (n : ℕ) → IsMillionthsOf token n → millionths token ≡ Some n
unfolding millionths
millionths_found token n h = exactly_found 6 1_000_000 token n h.exactly h.most

-- a result that a function gives, by what holds of its values
pub if_some : {A : Type 0} (P : A → Type 0) (f o : Option A) → o ≡ f → ((x : A) → f ≡ Some x → P x) → IfSome o P
if_some P f None e h = tt
if_some P f (Some x) e h = h x (sym e)

pub if_ok : {A E : Type 0} (P : A → Type 0) (f : Option A) (r : Result A E)
    → MatchResult r (λ x. Some x ≡ f) (λ _. None ≡ f) → ((x : A) → f ≡ Some x → P x) → IfOk r P
if_ok P f (Ok x) e h = h x (sym e)
if_ok P f (Err y) e h = tt

pub on_err : {A E : Type 0} (Q : Type 0) (f : Option A) (r : Result A E)
    → MatchResult r (λ x. Some x ≡ f) (λ _. None ≡ f) → (f ≡ None → Q) → OnErr r Q
on_err Q f (Ok x) e h = tt
on_err Q f (Err y) e h = h (sym e)

pub turned : {A E : Type 0} (f g : Option A) (r : Result A E) → MatchResult r (λ x. Some x ≡ f) (λ _. None ≡ f) → f ≡ g
    → MatchResult r (λ x. g ≡ Some x) (λ _. g ≡ None)
turned f g (Ok x) e h = sym (e ∙ h)
turned f g (Err y) e h = sym (e ∙ h)
