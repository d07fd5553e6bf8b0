-- How far a number, of which f make one count, is from a count.
use Rattle.std.proofs.Common.{◌≡◌, ℕ, zero, suc, ◌+◌, ◌*◌, ◌<◌, ◌≤◌, sym, ◌∙◌, ap, arith, ℤ, pos, negsuc, ◌+ℤ◌, ◌-ℤ◌}
use Rattle.std.proofs.Common.{◌*ℤ◌, ◌≤ℤ◌, unsigned_abs}
use Rattle.std.specs.Int.{int_max}
use Rattle.std.proofs.Math.Nat.{mul_comm, mul_left_comm, add-mul, mul-le-mul_left}
use Rattle.std.proofs.lemmas.Int.{unsigned_abs-mul, by_lt_z}
use borrow.Author.Differences.{up, down, same_in, at_most_in, le_out, product_is}
use Rattle.fixed_num.specs.Sums.{sum_below}
use Rattle.fixed_num.proofs.SignedLemmas.{signed_arith}
use Rattle.fixed_num.proofs.SumLemmas.{sum_below-zero, sum_below-suc, abs-sum, *ℤ-+ℤ}
use Rattle.instance_model.specs.Naturals.{count_sum}

-- how far x is above c counts
abbrev pub off : ℕ → ℤ → ℤ → ℤ
off f x c = x -ℤ pos f *ℤ c

-- twice that is at most d counts, up or down
pub record Near (f d : ℕ) (x c : ℤ) : Type 0 where
  pub near : 2 * unsigned_abs (off f x c) ≤ f * d

regroup : (a b p q : ℤ) → (a +ℤ b) -ℤ (p +ℤ q) ≡ (a -ℤ p) +ℤ (b -ℤ q)
regroup a b p q = omega (arith, signed_arith)

off-add : (f : ℕ) (x y c d : ℤ) → off f (x +ℤ y) (c +ℤ d) ≡ off f x c +ℤ off f y d
off-add f x y c d = rw (*ℤ-+ℤ (pos f) c d) (regroup x y (pos f *ℤ c) (pos f *ℤ d))

pub mul-add : (f d e : ℕ) → f * (d + e) ≡ f * d + f * e
mul-add f d e = mul_comm f (d + e) ∙ add-mul d e f ∙ ap (λ (n : ℕ). n + e * f) (mul_comm d f)
    ∙ ap (λ (n : ℕ). f * d + n) (mul_comm e f)

pub Near-add : (f d e : ℕ) (x y c g : ℤ) → Near f d x c → Near f e y g → Near f (d + e) (x +ℤ y) (c +ℤ g)
Near-add f d e x y c g h k =
    let s = abs-sum (off f x c) (off f y g) in
    let m = mul-add f d e in
    let a = h.near in
    let b = k.near in
    record { near = rw (off-add f x y c g, m) (omega (arith, s, a, b)) }

off-zero : (f : ℕ) → off f (pos 0) (pos 0) ≡ pos 0
off-zero f = same_in (off f (pos 0) (pos 0)) (pos 0) (omega (arith, signed_arith, product_is (pos f) (pos 0)))

pub Near-zero : (f : ℕ) → Near f 0 (pos 0) (pos 0)
Near-zero f = record { near = rw (off-zero f) (omega arith) }

pub Near-sum : (f n : ℕ) (e : ℕ → ℕ) (x c : ℕ → ℤ) → ((k : ℕ) → k < n → Near f (e k) (x k) (c k))
    → Near f (count_sum n e) (sum_below n x) (sum_below n c)
unfolding count_sum
Near-sum f zero e x c h = rw (sum_below-zero x, sum_below-zero c) (Near-zero f)
Near-sum f (suc n) e x c h = rw (sum_below-suc n x, sum_below-suc n c)
    (Near-add f (count_sum n e) (e n) (sum_below n x) (x n) (sum_below n c) (c n)
    (Near-sum f n e x c (λ k l. h k (omega arith))) (h n (omega arith)))

-- ---- a multiple
swap_factor : (f n : ℕ) (c : ℤ) → pos n *ℤ (pos f *ℤ c) ≡ pos f *ℤ (pos n *ℤ c)
swap_factor f n c =
    let p = product_is (pos f) c in
    let q = product_is (pos n) c in
    let pu = ap (λ (t : ℕ). n * t) p.0 in
    let pd = ap (λ (t : ℕ). n * t) p.1 in
    let qu = ap (λ (t : ℕ). f * t) q.0 in
    let qd = ap (λ (t : ℕ). f * t) q.1 in
    same_in (pos n *ℤ (pos f *ℤ c)) (pos f *ℤ (pos n *ℤ c))
    (omega (
      arith,
      product_is (pos n) (pos f *ℤ c),
      product_is (pos f) (pos n *ℤ c),
      pu,
      pd,
      qu,
      qd,
      mul_left_comm n f (up c),
      mul_left_comm n f (down c),
    ))

pub distribute : (n : ℕ) (a b : ℤ) → pos n *ℤ (a -ℤ b) ≡ (pos n *ℤ a) -ℤ (pos n *ℤ b)
distribute n a b =
    let s : a ≡ (a -ℤ b) +ℤ b = omega (arith, signed_arith) in
    let d : pos n *ℤ a ≡ pos n *ℤ (a -ℤ b) +ℤ pos n *ℤ b = ap (λ (z : ℤ). pos n *ℤ z) s ∙ *ℤ-+ℤ (pos n) (a -ℤ b) b in
    back (pos n *ℤ (a -ℤ b)) (pos n *ℤ a) (pos n *ℤ b) d
  where
    back : (x y z : ℤ) → y ≡ x +ℤ z → x ≡ y -ℤ z
    back x y z e = omega (arith, signed_arith, e)

off-scale : (f n : ℕ) (x c : ℤ) → off f (pos n *ℤ x) (pos n *ℤ c) ≡ pos n *ℤ off f x c
off-scale f n x c = ap (λ (z : ℤ). (pos n *ℤ x) -ℤ z) (sym (swap_factor f n c)) ∙ sym (distribute n x (pos f *ℤ c))

pub Near-scale : (f d n : ℕ) (x c : ℤ) → Near f d x c → Near f (n * d) (pos n *ℤ x) (pos n *ℤ c)
Near-scale f d n x c h =
    let e : unsigned_abs (off f (pos n *ℤ x) (pos n *ℤ c)) ≡ n * unsigned_abs (off f x c) =
    ap unsigned_abs (off-scale f n x c) ∙ unsigned_abs-mul (pos n) (off f x c) in
    let two : 2 * (n * unsigned_abs (off f x c)) ≡ n * (2 * unsigned_abs (off f x c)) =
    mul_left_comm 2 n (unsigned_abs (off f x c)) in
    let more : n * (2 * unsigned_abs (off f x c)) ≤ n * (f * d) = mul-le-mul_left n h.near in
    let m : n * (f * d) ≡ f * (n * d) = mul_left_comm n f d in
    record { near = rw e (omega (arith, two, more, m)) }

-- ---- a difference, and the greater of 0 and a number
regroup_less : (a b p q : ℤ) → (a -ℤ b) -ℤ (p -ℤ q) ≡ (a -ℤ p) -ℤ (b -ℤ q)
regroup_less a b p q = omega (arith, signed_arith)

off-less : (f : ℕ) (x y c g : ℤ) → off f (x -ℤ y) (c -ℤ g) ≡ off f x c -ℤ off f y g
off-less f x y c g = rw (distribute f c g) (regroup_less x y (pos f *ℤ c) (pos f *ℤ g))

abs_in : (z : ℤ) (b : ℕ) → up z ≤ b + down z → down z ≤ b + up z → unsigned_abs z ≤ b
abs_in (pos n) b h k = omega (arith, h, k)
abs_in (negsuc n) b h k = omega (arith, h, k)

abs-less : (a b : ℤ) → unsigned_abs (a -ℤ b) ≤ unsigned_abs a + unsigned_abs b
abs-less a b =
    abs_in (a -ℤ b) (unsigned_abs a + unsigned_abs b) (omega (arith, signed_arith)) (omega (arith, signed_arith))

pub Near-less : (f d e : ℕ) (x y c g : ℤ) → Near f d x c → Near f e y g → Near f (d + e) (x -ℤ y) (c -ℤ g)
Near-less f d e x y c g h k =
    let s = abs-less (off f x c) (off f y g) in
    let m = mul-add f d e in
    let a = h.near in
    let b = k.near in
    record { near = rw (off-less f x y c g, m) (omega (arith, s, a, b)) }

pub scale_mono : (f : ℕ) (a b : ℤ) → a ≤ℤ b → (pos f *ℤ a) ≤ℤ (pos f *ℤ b)
scale_mono f a b h =
    let l : f * (up a + down b) ≤ f * (up b + down a) = mul-le-mul_left f (le_out a b h) in
    at_most_in (pos f *ℤ a) (pos f *ℤ b)
    (omega
    (arith, l, product_is (pos f) a, product_is (pos f) b, mul-add f (up a) (down b), mul-add f (up b) (down a)))

scale-zero : (f : ℕ) → pos f *ℤ pos 0 ≡ pos 0
scale-zero f = same_in (pos f *ℤ pos 0) (pos 0) (omega (arith, product_is (pos f) (pos 0)))

pub scale-max : (f : ℕ) (d : ℤ) → pos f *ℤ int_max (pos 0) d ≡ int_max (pos 0) (pos f *ℤ d)
scale-max f d = by_lt_z d (pos 0)
    (λ l. let low : d ≤ℤ pos 0 = omega (arith, signed_arith, l) in
    let e : int_max (pos 0) d ≡ pos 0 = omega (arith, signed_arith, l) in
    let m = scale_mono f d (pos 0) low in
    let z = scale-zero f in
    ap (λ (x : ℤ). pos f *ℤ x) e ∙ z ∙ zero_max (pos f *ℤ d) (rw z at m))
    (λ l. let e : int_max (pos 0) d ≡ d = omega (arith, signed_arith, l) in
    let m = scale_mono f (pos 0) d l in
    let z = scale-zero f in
    ap (λ (x : ℤ). pos f *ℤ x) e ∙ self_max (pos f *ℤ d) (rw z at m))
  where
    zero_max : (x : ℤ) → x ≤ℤ pos 0 → pos 0 ≡ int_max (pos 0) x
    zero_max x h = omega (arith, signed_arith, h)

    self_max : (x : ℤ) → pos 0 ≤ℤ x → x ≡ int_max (pos 0) x
    self_max x h = omega (arith, signed_arith, h)

abs-max : (a b : ℤ) → unsigned_abs (int_max (pos 0) a -ℤ int_max (pos 0) b) ≤ unsigned_abs (a -ℤ b)
abs-max a b = abs_in (int_max (pos 0) a -ℤ int_max (pos 0) b) (unsigned_abs (a -ℤ b)) (omega (arith, signed_arith))
    (omega (arith, signed_arith))

pub Near-max : (f d : ℕ) (x c : ℤ) → Near f d x c → Near f d (int_max (pos 0) x) (int_max (pos 0) c)
Near-max f d x c h =
    let m = abs-max x (pos f *ℤ c) in
    let a = h.near in
    record { near = rw (scale-max f c) (omega (arith, m, a)) }

-- ---- a wider bound
pub Near-wider : (f d e : ℕ) (x c : ℤ) → d ≤ e → Near f d x c → Near f e x c
Near-wider f d e x c l h =
    let m : f * d ≤ f * e = mul-le-mul_left f l in
    let a = h.near in
    record { near = omega (arith, m, a) }
