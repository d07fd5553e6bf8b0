-- The flags of a season after one period more.
use Rattle.std.proofs.Common.{◌≡◌, ◌≢◌, ℕ, zero, suc, ◌+◌, ◌-◌, ◌<◌, ◌≤◌, ◌==◌, ◌||◌, ◌⊎◌, inl, inr, Bool, true, false}
use Rattle.std.proofs.Common.{cond, List, [], ◌∷◌, ◌++◌, length, get_or, set, Option, Some, None, refl, sym, ◌∙◌, ap}
use Rattle.std.proofs.Common.{arith, length-append, length-set, get_or-set_other, get_or-set_same, is_some}
use Rattle.std.specs.Prelude.{position, replicate}
use Rattle.std.specs.Option.{option_or}
use Rattle.std.proofs.lemmas.Bool.Decides.{nat_tests}
use Rattle.std.proofs.lemmas.Iterator.Adapters.{position_from-zero}
use Rattle.std.proofs.lemmas.List.{ext_get_or}
use Rattle.std.proofs.Math.Nat.{eq-or-lt_of_le}
use Rattle.instance_shape.specs.FileTables.{lists_below}
use Rattle.instance_rows.specs.RowTables.{in_season}
use Rattle.instance_rows.proofs.GridLemmas.{position_more}

-- ---- lists of one element each

length-ones : {A : Type 0} (f : ℕ → A) (n : ℕ) → length (lists_below n (λ u. f u ∷ [])) ≡ n
length-ones f zero = refl
length-ones f (suc n) = length-append (lists_below n (λ u. f u ∷ [])) (f n ∷ []) ∙ omega (arith, length-ones f n)

front : {A : Type 0} (xs ys : List A) (k : ℕ) (d : A) → k < length xs → get_or (xs ++ ys) k d ≡ get_or xs k d
front [] ys k d h = absurd (omega arith)
front (x ∷ xs) ys zero d h = refl
front (x ∷ xs) ys (suc k) d h = front xs ys k d (omega arith)

last : {A : Type 0} (xs : List A) (x d : A) (k : ℕ) → k ≡ length xs → get_or (xs ++ x ∷ []) k d ≡ x
last [] x d k h = ap (λ i. get_or (x ∷ []) i d) h
last (y ∷ xs) x d zero h = absurd (omega arith)
last (y ∷ xs) x d (suc k) h = last xs x d k (omega arith)

one_at : {A : Type 0} (f : ℕ → A) (n k : ℕ) (d : A) → k < n → get_or (lists_below n (λ u. f u ∷ [])) k d ≡ f k
one_at f zero k d h = absurd (omega arith)
one_at f (suc n) k d h = by (eq-or-lt_of_le h) (one_at f n k d)
  where
    by : (suc k ≡ suc n) ⊎ (suc k < suc n) → (k < n → get_or (lists_below n (λ u. f u ∷ [])) k d ≡ f k)
        → get_or (lists_below n (λ u. f u ∷ []) ++ f n ∷ []) k d ≡ f k
    by (inl e) r = let same : k ≡ n = omega arith in
        last (lists_below n (λ u. f u ∷ [])) (f n) d k (omega (arith, same, length-ones f n)) ∙ ap f (sym same)
    by (inr l) r =
        front (lists_below n (λ u. f u ∷ [])) (f n ∷ []) k d (omega (arith, length-ones f n)) ∙ r (omega arith)

-- ---- flags

abbrev flag : List ℕ → ℕ → Bool
flag ps u = is_some (position (λ n. n == u + 1) ps)

flag_more : (ps : List ℕ) (p u : ℕ) → flag (ps ++ p ∷ []) u ≡ flag ps u || (p == u + 1)
flag_more ps p u =
    ap is_some (position_from-zero (λ n. n == u + 1) (ps ++ p ∷ []) ∙ position_more (λ n. n == u + 1) 0 ps p
    ∙ ap (λ o. option_or o (cond (p == u + 1) (Some (0 + length ps)) None))
    (sym (position_from-zero (λ n. n == u + 1) ps)))
    ∙ by (position (λ n. n == u + 1) ps) (p == u + 1)
  where
    by : (o : Option ℕ) (b : Bool) → is_some (option_or o (cond b (Some (0 + length ps)) None)) ≡ is_some o || b
    by None true = refl
    by None false = refl
    by (Some x) b = refl

or_true : (b : Bool) → b || true ≡ true
or_true true = refl
or_true false = refl

or_false : (b : Bool) → b || false ≡ b
or_false true = refl
or_false false = refl

equal : (a b : ℕ) → a ≡ b → (a == b) ≡ true
equal a b h = grind (arith, nat_tests)

unequal : (a b : ℕ) → (a ≡ b → ⊥) → (a == b) ≡ false
unequal a b h = grind (arith, nat_tests)

pub season_put : (n : ℕ) (ps : List ℕ) (p : ℕ) → 1 ≤ p → p ≤ n → set (lists_below n (in_season ps)) (p - 1) true
    ≡ lists_below n (in_season (ps ++ p ∷ []))
season_put n ps p l h =
    let size : length (lists_below n (in_season ps)) ≡ n = length-ones (flag ps) n in
    let same : length (set (lists_below n (in_season ps)) (p - 1) true) ≡ n =
    length-set (lists_below n (in_season ps)) (p - 1) true ∙ size in
    ext_get_or false _ _ (same ∙ sym (length-ones (flag (ps ++ p ∷ [])) n)) (λ i k.
    by i (omega (arith, same)) (i == p - 1) refl
    ∙ sym (one_at (flag (ps ++ p ∷ [])) n i false (omega (arith, same)) ∙ flag_more ps p i))
  where
    equal_so : (a b : ℕ) → (a == b) ≡ true → a ≡ b
    equal_so a b h = grind (arith, nat_tests)

    other_so : (a b : ℕ) → (a == b) ≡ false → a ≢ b
    other_so a b h = grind (arith, nat_tests)

    by : (i : ℕ) → i < n → (b : Bool) → (i == p - 1) ≡ b
        → get_or (set (lists_below n (in_season ps)) (p - 1) true) i false ≡ flag ps i || (p == i + 1)
    by i k true e =
        let at : i ≡ p - 1 = equal_so i (p - 1) e in
        ap (λ q. get_or (set (lists_below n (in_season ps)) (p - 1) true) q false) at
        ∙ get_or-set_same (lists_below n (in_season ps)) (p - 1) true false (omega (arith, length-ones (flag ps) n))
        ∙ sym (ap (λ q. flag ps i || q) (equal p (i + 1) (omega (arith, at))) ∙ or_true (flag ps i))
    by i k false e =
        let at : i ≢ p - 1 = other_so i (p - 1) e in
        get_or-set_other (lists_below n (in_season ps)) (p - 1) i true false at ∙ one_at (flag ps) n i false k
        ∙ sym (ap (λ q. flag ps i || q) (unequal p (i + 1) (λ q. at (omega (arith, q)))) ∙ or_false (flag ps i))

pub season_skip : (n : ℕ) (ps : List ℕ) (p : ℕ) → (1 ≤ p → p ≤ n → ⊥)
    → lists_below n (in_season ps) ≡ lists_below n (in_season (ps ++ p ∷ []))
season_skip n ps p out =
    ext_get_or false _ _ (length-ones (flag ps) n ∙ sym (length-ones (flag (ps ++ p ∷ [])) n)) (λ i k.
    let l : i < n = omega (arith, length-ones (flag ps) n) in
    one_at (flag ps) n i false l
    ∙ sym
    (one_at (flag (ps ++ p ∷ [])) n i false l ∙ flag_more ps p i
    ∙ ap (λ q. flag ps i || q) (unequal p (i + 1) (λ q. out (omega (arith, q)) (omega (arith, q, l))))
    ∙ or_false (flag ps i)))

length-replicate : {A : Type 0} (n : ℕ) (x : A) → length (replicate n x) ≡ n
length-replicate zero x = refl
length-replicate (suc n) x = ap suc (length-replicate n x)

replicate_at : (n k : ℕ) → get_or (replicate n false) k false ≡ false
replicate_at zero k = refl
replicate_at (suc n) zero = refl
replicate_at (suc n) (suc k) = replicate_at n k

pub season_none : (n : ℕ) → replicate n false ≡ lists_below n (in_season [])
season_none n = ext_get_or false _ _ (length-replicate n false ∙ sym (length-ones (flag []) n)) (λ i k.
    replicate_at n i ∙ sym (one_at (flag []) n i false (omega (arith, length-replicate n false))))

pub length-flags : (n : ℕ) (ps : List ℕ) → length (lists_below n (in_season ps)) ≡ n
length-flags n ps = length-ones (flag ps) n
