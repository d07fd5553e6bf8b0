-- Where the members of two lists are near each other, place by place, so are their m-th smallest.
use Rattle.std.proofs.Common.{◌≡◌, ℕ, zero, suc, ◌+◌, ◌*◌, ◌<◌, ◌≤◌, refl, sym, ◌∙◌, ap, arith, ℤ, pos, negsuc, ◌-ℤ◌}
use Rattle.std.proofs.Common.{◌*ℤ◌, ◌<ℤ◌, ◌≤ℤ◌, unsigned_abs, cond, Bool, true, false, [], ◌∷◌, ◌++◌, ◌⊎◌, inl, inr}
use Rattle.std.proofs.Common.{count_by, sum_by, int_lt, int_le}
use Rattle.std.proofs.lemmas.List.Sums.{sum_by-append, sum_by-cons}
use Rattle.std.proofs.lemmas.List.FromFn.{length-map-range_with_len}
use Rattle.std.proofs.lemmas.Int.{by_lt_z}
use borrow.Author.Differences.{up, down, at_most_in, below_in, le_out, lt_out, le-true, true_is_lt}
use Rattle.fixed_num.specs.Sums.{list_of}
use Rattle.fixed_num.specs.Rank.{count_below, count_upto, mth_smallest, IsMthSmallest}
use Rattle.fixed_num.proofs.SignedLemmas.{signed_arith}
use Rattle.fixed_num.proofs.SumLemmas.{list_of_more}
use Rattle.fixed_num.proofs.RankLemmas.{IsMthSmallest-mth_smallest}
use Rattle.instance_model.specs.Naturals.{count_sum}
use Rattle.instance_model.proofs.DeviationLemmas.{off, Near, scale_mono}

abbrev flag : Bool → ℕ
flag b = cond b 1 0

count_by-list_of : (p : ℤ → Bool) (n : ℕ) (g : ℕ → ℤ) → count_by p (list_of n g) ≡ count_sum n (λ k. flag (p (g k)))
unfolding count_sum
count_by-list_of p zero g = refl
count_by-list_of p (suc n) g =
    let e = count_by-list_of p n g in
    let more : list_of (suc n) g ≡ list_of n g ++ g n ∷ [] =
    sym (ap (λ (m : ℕ). list_of m g) (next n)) ∙ list_of_more n g in
    ap (count_by p) more ∙ sum_by-append (λ x. cond (p x) 1 0) (list_of n g) (g n ∷ [])
    ∙ ap (λ (m : ℕ). m + sum_by (λ x. cond (p x) 1 0) (g n ∷ [])) e
    ∙ ap (λ (m : ℕ). count_sum n (λ k. flag (p (g k))) + m) last
  where
    next : (m : ℕ) → m + 1 ≡ suc m
    next m = omega arith

    plus_zero : (m : ℕ) → m + 0 ≡ m
    plus_zero m = omega arith

    last : sum_by (λ x. cond (p x) 1 0) (g n ∷ []) ≡ flag (p (g n))
    last = sum_by-cons (λ x. cond (p x) 1 0) (g n) [] ∙ plus_zero (flag (p (g n)))

count_sum_mono : (n : ℕ) (f g : ℕ → ℕ) → ((k : ℕ) → k < n → f k ≤ g k) → count_sum n f ≤ count_sum n g
unfolding count_sum
count_sum_mono zero f g h = omega arith
count_sum_mono (suc n) f g h = omega (arith, count_sum_mono n f g (λ k l. h k (omega arith)), h n (omega arith))

flag_mono : (a b : Bool) → (a ≡ true → b ≡ true) → flag a ≤ flag b
flag_mono true b h = rw (h refl) (omega arith)
flag_mono false b h = omega arith

-- q has fewer than m below it in one list, r has at least m at most it in the other: then not all
-- members at most r lie below q in the first
apart : (m n : ℕ) (g h : ℕ → ℤ) (q r : ℤ) → count_below q (list_of n g) < m → m ≤ count_upto r (list_of n h)
    → ((k : ℕ) → k < n → h k ≤ℤ r → g k <ℤ q) → ⊥
apart m n g h q r below upto f =
    let a = count_by-list_of (λ x. int_lt x q) n g in
    let b = count_by-list_of (λ x. int_le x r) n h in
    let c = count_sum_mono n (λ k. flag (int_le (h k) r)) (λ k. flag (int_lt (g k) q))
    (λ k l. flag_mono (int_le (h k) r) (int_lt (g k) q)
    (λ e. sym (true_is_lt (g k) q (lt_out (g k) q (f k l (at_most_in (h k) r (le-true (h k) r e))))))) in
    omega (arith, a, b, c, below, upto)

up_far : (b : ℕ) (x q p s : ℤ) → 2 * unsigned_abs (x -ℤ p) ≤ b → p ≤ℤ s
    → b + 2 * down (q -ℤ s) < 2 * up (q -ℤ s) → x <ℤ q
up_far b x q p s h l far = below_in x q (omega (arith, signed_arith, h, far, le_out p s l))

down_far : (b : ℕ) (x q p s : ℤ) → 2 * unsigned_abs (x -ℤ p) ≤ b → x ≤ℤ q
    → b + 2 * up (q -ℤ s) < 2 * down (q -ℤ s) → p <ℤ s
down_far b x q p s h l far = below_in p s (omega (arith, signed_arith, h, far, le_out x q l))

scale_reflect : (f : ℕ) (a b : ℤ) → (pos f *ℤ a) <ℤ (pos f *ℤ b) → a <ℤ b
scale_reflect f a b l = by_lt_z a b (λ h. h) (λ h. absurd (no (pos f *ℤ a) (pos f *ℤ b) l (scale_mono f b a h)))
  where
    no : (x y : ℤ) → x <ℤ y → y ≤ℤ x → ⊥
    no x y h k = omega (arith, lt_out x y h, le_out y x k)

twice_in : (z : ℤ) (b : ℕ) → 2 * up z ≤ b + 2 * down z → 2 * down z ≤ b + 2 * up z → 2 * unsigned_abs z ≤ b
twice_in (pos n) b h k = omega (arith, h, k)
twice_in (negsuc n) b h k = omega (arith, h, k)

order : (a b : ℕ) → (a ≤ b) ⊎ (b < a)
order a b = grind arith

-- the m-th smallest of two lists whose members are near each other, place by place
pub mth_smallest-near : (f d n m : ℕ) (g h : ℕ → ℤ) → 1 ≤ m → m ≤ n → ((k : ℕ) → k < n → Near f d (g k) (h k))
    → Near f d (mth_smallest m (list_of n g)) (mth_smallest m (list_of n h))
mth_smallest-near f d n m g h one few near =
    let q = mth_smallest m (list_of n g) in
    let r = mth_smallest m (list_of n h) in
    let a : IsMthSmallest m (list_of n g) q =
    IsMthSmallest-mth_smallest m (list_of n g) one (omega (arith, few, length-map-range_with_len g 0 n)) in
    let b : IsMthSmallest m (list_of n h) r =
    IsMthSmallest-mth_smallest m (list_of n h) one (omega (arith, few, length-map-range_with_len h 0 n)) in
    record {
      near = twice_in (off f q r) (f * d)
          (high q r a b (order (2 * up (off f q r)) (f * d + 2 * down (off f q r))))
          (low q r a b (order (2 * down (off f q r)) (f * d + 2 * up (off f q r))));
    }
  where
    high : (q r : ℤ) → IsMthSmallest m (list_of n g) q → IsMthSmallest m (list_of n h) r
        → (2 * up (off f q r) ≤ f * d + 2 * down (off f q r)) ⊎ (f * d + 2 * down (off f q r) < 2 * up (off f q r))
        → 2 * up (off f q r) ≤ f * d + 2 * down (off f q r)
    high q r a b (inl l) = l
    high q r a b (inr far) = absurd
        (apart m n g h q r a.below b.upto
        (λ k l e. up_far (f * d) (g k) q (pos f *ℤ h k) (pos f *ℤ r) (near k l).near (scale_mono f (h k) r e) far))

    low : (q r : ℤ) → IsMthSmallest m (list_of n g) q → IsMthSmallest m (list_of n h) r
        → (2 * down (off f q r) ≤ f * d + 2 * up (off f q r)) ⊎ (f * d + 2 * up (off f q r) < 2 * down (off f q r))
        → 2 * down (off f q r) ≤ f * d + 2 * up (off f q r)
    low q r a b (inl l) = l
    low q r a b (inr far) = absurd
        (apart m n h g r q b.below a.upto
        (λ k l e. scale_reflect f (h k) r (down_far (f * d) (g k) q (pos f *ℤ h k) (pos f *ℤ r) (near k l).near e far)))
