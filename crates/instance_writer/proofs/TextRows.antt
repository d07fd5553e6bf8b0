-- The rows of tables, one after another, are the table; names are found at their places, and periods among a season's.
use Rattle.std.proofs.Common.{◌≡◌, ◌≢◌, ℕ, zero, suc, ◌+◌, ◌*◌, ◌<◌, ◌≤◌, Bool, true, false, cond, ◌&&◌, ◌||◌, not}
use Rattle.std.proofs.Common.{List, [], ◌∷◌, ◌++◌, map, length, get_or, Option, Some, None, refl, sym, ◌∙◌, ap}
use Rattle.std.proofs.Common.{arith, ℤ, pos, bytes_eq, position, is_some, nat_lt, inl, inr, unwrap_or}
use Rattle.std.specs.Prelude.{AllPairs, ◌==◌, ◌⊎◌, slice_index_or}
use Rattle.std.specs.List.{position_or_len}
use Rattle.std.proofs.lemmas.Bool.{cases_order, cond-true, lt-ltb, le-ltb, false_from_ne_true, eq-eqb, ne_eqb}
use Rattle.std.proofs.lemmas.Bool.Decides.{nat_tests}
use Rattle.std.proofs.lemmas.List.{take_all}
use Rattle.std.proofs.lemmas.List.Sums.{position_or_len_is}
use Rattle.std.proofs.lemmas.Slice.Eq.{bytes_eq-Decides}
use Rattle.std.proofs.Math.Nat.{mul-le-mul_right}
use Rattle.json_grammar.specs.laws.Value.{Value, Field, field}
use Rattle.fixed_num.specs.Sums.{list_of}
use Rattle.instance_model.specs.Naturals.{count_sum}
use Rattle.instance_shape.specs.FileTables.{lists_below, number_among}
use Rattle.instance_writer.specs.text.Written.{named}
use Rattle.instance_writer.proofs.TextListed.{slices, slice_of, singles_of}
use Rattle.instance_writer.proofs.TextRead.{map-lists_below}

-- ---- rows

rows_sum : (n m : ℕ) → count_sum n (λ k. m) ≡ n * m
unfolding count_sum
rows_sum zero m = omega arith
rows_sum (suc n) m =
    let more : suc n * m ≡ n * m + m = grind arith in
    omega (arith, rows_sum n m, more)

row_within : (c r n : ℕ) → c < r → c * n + n ≤ r * n
row_within c r n h =
    let whole : (c + 1) * n ≤ r * n = mul-le-mul_right n (omega arith) in
    omega (arith, whole)

-- rows of n counts each
pub rows_are : (xs : List ℤ) (r n : ℕ) (f : ℕ → ℕ → ℤ) → length xs ≡ r * n
    → ((c k : ℕ) → c < r → k < n → f c k ≡ get_or xs (c * n + k) (pos 0))
    → lists_below r (λ c. list_of n (f c)) ≡ xs
rows_are xs r n f long h =
    slices xs 0 r (λ k. n) (λ c. list_of n (f c))
    (λ c l. slice_of xs (0 + count_sum c (λ k. n)) n (f c)
    (omega (arith, rows_sum c n, row_within c r n l, long))
    (λ k m. let place : c * n + k ≡ 0 + count_sum c (λ k. n) + k = omega (arith, rows_sum c n) in
    h c k l m ∙ ap (λ p. get_or xs p (pos 0)) place))
    ∙ take_all (count_sum r (λ k. n)) xs (omega (arith, rows_sum r n, long))

-- rows of n flags each
pub flags_are : (xs : List Bool) (r n : ℕ) (f : ℕ → ℕ → Bool) → length xs ≡ r * n
    → ((c k : ℕ) → c < r → k < n → f c k ≡ get_or xs (c * n + k) false)
    → lists_below r (λ c. lists_below n (λ k. f c k ∷ [])) ≡ xs
flags_are xs r n f long h =
    slices xs 0 r (λ k. n) (λ c. lists_below n (λ k. f c k ∷ []))
    (λ c l. singles_of xs (0 + count_sum c (λ k. n)) n (f c) false
    (omega (arith, rows_sum c n, row_within c r n l, long))
    (λ k m. let place : c * n + k ≡ 0 + count_sum c (λ k. n) + k = omega (arith, rows_sum c n) in
    h c k l m ∙ ap (λ p. get_or xs p false) place))
    ∙ take_all (count_sum r (λ k. n)) xs (omega (arith, rows_sum r n, long))

-- the elements one by one
pub singles_all : {A : Type 0} (xs : List A) (n : ℕ) (f : ℕ → A) (d : A) → length xs ≡ n
    → ((k : ℕ) → k < n → f k ≡ get_or xs k d) → lists_below n (λ k. f k ∷ []) ≡ xs
singles_all xs n f d long h =
    singles_of xs 0 n f d (omega (arith, long))
    (λ k l. let place : k ≡ 0 + k = omega arith in h k l ∙ ap (λ p. get_or xs p d) place)
    ∙ take_all n xs (omega (arith, long))

-- ---- names

pub keys_named : (names : List (List ℕ)) (v : ℕ → Value) → map (λ f. f.key) (named names (λ c. Some (v c))) ≡ names
keys_named names v =
    map-lists_below (λ (f : Field). f.key) (length names) (λ c. field (slice_index_or names c []) (v c) ∷ [])
    ∙ singles_all names (length names) (λ c. slice_index_or names c []) [] refl (λ k l. refl)

-- a name is found at its place
pub place_of_name : (names : List (List ℕ)) (i : ℕ) → AllPairs (λ a b. a ≢ b) names → i < length names
    → position (bytes_eq (slice_index_or names i [])) names ≡ Some i
place_of_name names i apart l =
    let p = bytes_eq (slice_index_or names i []) in
    let at : position_or_len p names ≡ i = position_or_len_is p names i [] (omega arith)
    (λ k m. false_from_ne_true (p (get_or names k []))
    (λ e. apart k i [] m l (sym ((bytes_eq-Decides (slice_index_or names i []) (get_or names k [])).0 e))))
    (λ m. (bytes_eq-Decides (slice_index_or names i []) (get_or names i [])).1 refl) in
    ap (λ n. cond (nat_lt n (length names)) (Some n) None) at
    ∙ cond-true (nat_lt i (length names)) (Some i) None (lt-ltb i (length names) l)

pub number_of_name : (names : List (List ℕ)) (i : ℕ) → AllPairs (λ a b. a ≢ b) names → i < length names
    → number_among names (slice_index_or names i []) ≡ i
number_of_name names i apart l = ap (λ (o : Option ℕ). unwrap_or o 0) (place_of_name names i apart l)

pub name_among : (names : List (List ℕ)) (i : ℕ) → AllPairs (λ a b. a ≢ b) names → i < length names
    → is_some (position (bytes_eq (slice_index_or names i [])) names) ≡ true
name_among names i apart l = ap (λ (o : Option ℕ). is_some o) (place_of_name names i apart l)

-- ---- seasons

any_of : {A : Type 0} → (A → Bool) → List A → Bool
any_of p [] = false
any_of p (x ∷ xs) = p x || any_of p xs

some_within : (a b : ℕ) → is_some (cond (nat_lt a b) (Some a) None) ≡ nat_lt a b
some_within a b = by (nat_lt a b)
  where
    by : (t : Bool) → is_some (cond t (Some a) None) ≡ t
    by true = refl
    by false = refl

shorter : (a b : ℕ) → nat_lt (1 + a) (suc b) ≡ nat_lt a b
shorter a b = grind (arith, nat_tests)

some_place : {A : Type 0} (p : A → Bool) (xs : List A) → is_some (position p xs) ≡ any_of p xs
unfolding any_of
some_place p [] = some_within 0 0
some_place p (x ∷ xs) = by (p x) (some_place p xs)
  where
    by : (b : Bool) → is_some (position p xs) ≡ any_of p xs
        → is_some (cond (nat_lt (cond (not b) (1 + position_or_len p xs) 0) (suc (length xs)))
        (Some (cond (not b) (1 + position_or_len p xs) 0)) None) ≡ b || any_of p xs
    by true e = some_within 0 (suc (length xs)) ∙ lt-ltb 0 (suc (length xs)) (omega arith)
    by false e = some_within (1 + position_or_len p xs) (suc (length xs))
        ∙ shorter (position_or_len p xs) (length xs) ∙ sym (some_within (position_or_len p xs) (length xs)) ∙ e

any_append : {A : Type 0} (p : A → Bool) (xs ys : List A) → any_of p (xs ++ ys) ≡ any_of p xs || any_of p ys
unfolding any_of
any_append p [] ys = refl
any_append p (x ∷ xs) ys = by (p x) (any_append p xs ys)
  where
    by : (b : Bool) → any_of p (xs ++ ys) ≡ any_of p xs || any_of p ys
        → b || any_of p (xs ++ ys) ≡ (b || any_of p xs) || any_of p ys
    by true e = refl
    by false e = e

any_last : (b : ℕ → Bool) (n u : ℕ) → any_of (λ m. m == u + 1) (cond (b (n + 1)) ((n + 1) ∷ []) [])
    ≡ b (n + 1) && (n == u)
unfolding any_of
any_last b n u = by (b (n + 1))
  where
    same : (n + 1 == u + 1) || false ≡ (n == u)
    same = grind (arith, nat_tests)

    by : (t : Bool) → any_of (λ m. m == u + 1) (cond t ((n + 1) ∷ []) []) ≡ t && (n == u)
    by true = same
    by false = refl

no_period : (p : ℕ → Bool) → any_of p [] ≡ false
unfolding any_of
no_period p = refl

one_later : (b : ℕ → Bool) (n u : ℕ) → (u ≡ n) ⊎ ((u < n) ⊎ (n < u))
    → (nat_lt u n && b (u + 1)) || (b (n + 1) && (n == u)) ≡ nat_lt u (suc n) && b (u + 1)
one_later b n u (inl e) =
    ap (λ k. (nat_lt k n && b (k + 1)) || (b (n + 1) && (n == k))) e
    ∙ rw (le-ltb n n (omega arith), eq-eqb n n refl) (kept (b (n + 1)))
    ∙ sym (ap (λ t. t && b (n + 1)) (lt-ltb n (suc n) (omega arith)))
    ∙ ap (λ k. nat_lt k (suc n) && b (k + 1)) (sym e)
  where
    kept : (t : Bool) → t && true ≡ t
    kept true = refl
    kept false = refl
one_later b n u (inr (inl l)) =
    rw (lt-ltb u n l, ne_eqb n u (λ e. omega (arith, e, l)), lt-ltb u (suc n) (omega arith))
    (kept (b (u + 1)) (b (n + 1)))
  where
    kept : (s t : Bool) → s || (t && false) ≡ s
    kept true t = refl
    kept false true = refl
    kept false false = refl
one_later b n u (inr (inr g)) =
    rw (le-ltb u n (omega arith), ne_eqb n u (λ e. omega (arith, e, g)), le-ltb u (suc n) (omega arith))
    (none (b (n + 1)))
  where
    none : (t : Bool) → t && false ≡ false
    none true = refl
    none false = refl

any_period : (b : ℕ → Bool) (n u : ℕ)
    → any_of (λ m. m == u + 1) (lists_below n (λ k. cond (b (k + 1)) ((k + 1) ∷ []) []))
    ≡ nat_lt u n && b (u + 1)
any_period b zero u =
    no_period (λ m. m == u + 1) ∙ sym (ap (λ t. t && b (u + 1)) (le-ltb u 0 (omega arith)))
any_period b (suc n) u =
    any_append (λ m. m == u + 1) (lists_below n (λ k. cond (b (k + 1)) ((k + 1) ∷ []) []))
    (cond (b (n + 1)) ((n + 1) ∷ []) [])
    ∙ ap (λ t. t || any_of (λ m. m == u + 1) (cond (b (n + 1)) ((n + 1) ∷ []) [])) (any_period b n u)
    ∙ ap (λ t. (nat_lt u n && b (u + 1)) || t) (any_last b n u) ∙ one_later b n u (cases_order u n)

-- whether a period is among those of which a test says so
pub season_flag : (b : ℕ → Bool) (n u : ℕ) → u < n
    → is_some (position (λ m. m == u + 1) (lists_below n (λ k. cond (b (k + 1)) ((k + 1) ∷ []) []))) ≡ b (u + 1)
season_flag b n u l =
    some_place (λ m. m == u + 1) (lists_below n (λ k. cond (b (k + 1)) ((k + 1) ∷ []) []))
    ∙ any_period b n u ∙ ap (λ t. t && b (u + 1)) (lt-ltb u n l)
