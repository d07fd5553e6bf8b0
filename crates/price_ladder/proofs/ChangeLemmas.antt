-- What a changed number does to the prices of starts, and to what the prices add whatever the starts are.
use Rattle.std.proofs.Common.{◌≡◌, ℕ, zero, suc, ◌+◌, ◌-◌, ◌*◌, ◌<◌, ◌≤◌, ◌⊎◌, inl, inr, refl, sym, ◌∙◌, ap, arith, ℤ}
use Rattle.std.proofs.Common.{pos}
use Rattle.std.proofs.Common.{◌+ℤ◌, ◌-ℤ◌, ◌*ℤ◌, List, length, get_or, set, Bool, true, false, cond, Some, Option}
use Rattle.std.proofs.lemmas.Bool.{cases_lt}
use Rattle.std.proofs.lemmas.List.{get_or-set_same, get_or-set_other}
use Rattle.std.proofs.lemmas.Nat.{same_from_place}
use borrow.Author.Differences.{up, down, same_in, product_is, sum_is_lem}
use Rattle.fixed_num.specs.Sums.{sum_below}
use Rattle.fixed_num.proofs.SignedLemmas.{signed_arith}
use Rattle.fixed_num.proofs.SumLemmas.{sum_below-suc, sum_below_same}
use Rattle.instance_model.specs.Tables.{Tables, in_run, exclusion_of, upper_of, lower_of}
use Rattle.instance_model.specs.Plans.{load_at}
use Rattle.lagrange_bound.specs.declared.tail.Tail.{Tail}
use Rattle.lagrange_bound.specs.Prices.{PriceList, IsPriceList, up_of, lo_of, ex_of}
use Rattle.lagrange_bound.specs.Changes.{with_up, with_lo, IsExSet, IsBandPlace}
use Rattle.lagrange_bound.specs.Goals.{risk_base}
use Rattle.lagrange_bound.specs.Worth.{band_share, band_part, limit_share, fixed_part, ex_share, ex_part, ex_total}
use Rattle.lagrange_bound.specs.Worth.{price_of, times_named}
use Rattle.lagrange_bound.proofs.ExSetLemmas.{price_at as price_here}
use Rattle.lagrange_bound.proofs.ExCountLemmas.{ex_part-sum_by}
use Rattle.lagrange_bound.proofs.LimitLemmas.{ex_total-sum_by}
use Rattle.price_ladder.specs.declared.place.Place.{Place}
use Rattle.price_ladder.specs.declared.place.Place.TheVariants.{Upper, Lower, Excluded}
use Rattle.price_ladder.specs.Places.{IsPlace, value_at, IsWithValue}
use Rattle.price_ladder.specs.Weights.{price_at, times_at, weight_of, fixed_weight}
use Rattle.price_ladder.proofs.ExMaps.{Rising-from, ArePositive-from, sum-changed}
use Rattle.price_ladder.proofs.PlaceLemmas.{band_within}

-- ---- whole numbers

spread : (a b z : ℤ) → (a +ℤ b) *ℤ z ≡ a *ℤ z +ℤ b *ℤ z
spread a b z =
    let s = sum_is_lem a b in
    let u = ap (λ (t : ℕ). t * up z) s in
    let d = ap (λ (t : ℕ). t * down z) s in
    same_in ((a +ℤ b) *ℤ z) (a *ℤ z +ℤ b *ℤ z)
    (omega (arith, u, d, product_is (a +ℤ b) z, product_is a z, product_is b z, sum_is_lem (a *ℤ z) (b *ℤ z)))

-- the product of a number and of one with the other sign
turned : (a z : ℤ) → a *ℤ (pos 0 -ℤ z) ≡ (pos 0 -ℤ a) *ℤ z
turned a z =
    let n : up (pos 0 -ℤ z) + up z ≡ down (pos 0 -ℤ z) + down z = negative z in
    let m : up (pos 0 -ℤ a) + up a ≡ down (pos 0 -ℤ a) + down a = negative a in
    let u = ap (λ (t : ℕ). up a * t) n in
    let d = ap (λ (t : ℕ). down a * t) n in
    let v = ap (λ (t : ℕ). t * up z) m in
    let w = ap (λ (t : ℕ). t * down z) m in
    same_in (a *ℤ (pos 0 -ℤ z)) ((pos 0 -ℤ a) *ℤ z)
    (omega (arith, u, d, v, w, product_is a (pos 0 -ℤ z), product_is (pos 0 -ℤ a) z))
  where
    negative : (x : ℤ) → up (pos 0 -ℤ x) + up x ≡ down (pos 0 -ℤ x) + down x
    negative x =
        let e : (pos 0 -ℤ x) +ℤ x ≡ pos 0 = omega (arith, signed_arith) in
        omega (arith, sum_is_lem (pos 0 -ℤ x) x, ap up e, ap down e)

-- a price times a load, where the price on the upper limit, or that on the lower one, is another
upper_moved : (u v l : ℕ) (z : ℤ)
    → (pos v -ℤ pos l) *ℤ z ≡ (pos u -ℤ pos l) *ℤ z +ℤ (pos v -ℤ pos u) *ℤ z
upper_moved u v l z =
    let e : pos v -ℤ pos l ≡ (pos u -ℤ pos l) +ℤ (pos v -ℤ pos u) = omega (arith, signed_arith) in
    ap (λ (x : ℤ). x *ℤ z) e ∙ spread (pos u -ℤ pos l) (pos v -ℤ pos u) z

lower_moved : (u l v : ℕ) (z : ℤ)
    → (pos u -ℤ pos v) *ℤ z ≡ (pos u -ℤ pos l) *ℤ z +ℤ (pos v -ℤ pos l) *ℤ (pos 0 -ℤ z)
lower_moved u l v z =
    let e : pos u -ℤ pos v ≡ (pos u -ℤ pos l) +ℤ (pos 0 -ℤ (pos v -ℤ pos l)) = omega (arith, signed_arith) in
    ap (λ (x : ℤ). x *ℤ z) e ∙ spread (pos u -ℤ pos l) (pos 0 -ℤ (pos v -ℤ pos l)) z
    ∙ ap (λ (x : ℤ). (pos u -ℤ pos l) *ℤ z +ℤ x) (sym (turned (pos v -ℤ pos l) z))

-- what limits are worth, where one of the two prices is another
upper_limit_moved : (u v l : ℕ) (y z : ℤ) → (pos l *ℤ y) -ℤ (pos v *ℤ z)
    ≡ ((pos l *ℤ y) -ℤ (pos u *ℤ z)) +ℤ (pos v -ℤ pos u) *ℤ (pos 0 -ℤ z)
upper_limit_moved u v l y z =
    let e : pos v ≡ pos u +ℤ (pos v -ℤ pos u) = omega (arith, signed_arith) in
    let p : pos v *ℤ z ≡ pos u *ℤ z +ℤ (pos v -ℤ pos u) *ℤ z = ap (λ (x : ℤ). x *ℤ z) e ∙ spread (pos u)
    (pos v -ℤ pos u) z in
    let m : pos 0 -ℤ (pos v -ℤ pos u) ≡ pos u -ℤ pos v = omega (arith, signed_arith) in
    let n : (pos v -ℤ pos u) *ℤ (pos 0 -ℤ z) ≡ (pos u -ℤ pos v) *ℤ z = turned (pos v -ℤ pos u) z
    ∙ ap (λ (x : ℤ). x *ℤ z) m in
    let q : (pos v -ℤ pos u) *ℤ z +ℤ (pos u -ℤ pos v) *ℤ z ≡ pos 0 = sym (spread (pos v -ℤ pos u) (pos u -ℤ pos v) z)
    ∙ ap (λ (x : ℤ). x *ℤ z) (none u v) ∙ no_times z in
    together (pos l *ℤ y) (pos v *ℤ z) (pos u *ℤ z) ((pos v -ℤ pos u) *ℤ z) ((pos u -ℤ pos v) *ℤ z)
    ((pos v -ℤ pos u) *ℤ (pos 0 -ℤ z)) p n q
  where
    none : (u v : ℕ) → (pos v -ℤ pos u) +ℤ (pos u -ℤ pos v) ≡ pos 0
    none u v = omega (arith, signed_arith)

    no_times : (z : ℤ) → pos 0 *ℤ z ≡ pos 0
    no_times z = same_in (pos 0 *ℤ z) (pos 0) (omega (arith, product_is (pos 0) z))

    together : (a b c d e f : ℤ) → b ≡ c +ℤ d → f ≡ e → d +ℤ e ≡ pos 0 → a -ℤ b ≡ (a -ℤ c) +ℤ f
    together a b c d e f p n q = omega (arith, signed_arith, p, n, q)

lower_limit_moved : (u l v : ℕ) (y z : ℤ) → (pos v *ℤ y) -ℤ (pos u *ℤ z)
    ≡ ((pos l *ℤ y) -ℤ (pos u *ℤ z)) +ℤ (pos v -ℤ pos l) *ℤ y
lower_limit_moved u l v y z =
    let e : pos v ≡ pos l +ℤ (pos v -ℤ pos l) = omega (arith, signed_arith) in
    let p : pos v *ℤ y ≡ pos l *ℤ y +ℤ (pos v -ℤ pos l) *ℤ y = ap (λ (x : ℤ). x *ℤ y) e ∙ spread (pos l)
    (pos v -ℤ pos l) y in
    together (pos v *ℤ y) (pos l *ℤ y) ((pos v -ℤ pos l) *ℤ y) (pos u *ℤ z) p
  where
    together : (a b c d : ℤ) → a ≡ b +ℤ c → a -ℤ d ≡ (b -ℤ d) +ℤ c
    together a b c d p = omega (arith, signed_arith, p)

-- ---- sums with one changed term

sum_below-one : (n j : ℕ) (f g : ℕ → ℤ) (d : ℤ) → j < n → g j ≡ f j +ℤ d
    → ((k : ℕ) → k < n → (k ≡ j → ⊥) → g k ≡ f k) → sum_below n g ≡ sum_below n f +ℤ d
sum_below-one zero j f g d h here rest = absurd (omega (arith, h))
sum_below-one (suc n) j f g d h here rest =
    at (cases_lt j n) (λ l. sum_below-one n j f g d l here (λ k m. rest k (omega (arith, m))))
  where
    inside : (a b c x y : ℤ) → a ≡ b +ℤ c → x ≡ y → a +ℤ x ≡ (b +ℤ y) +ℤ c
    inside a b c x y p q = omega (arith, signed_arith, p, q)

    last : (a b c x y : ℤ) → a ≡ b → x ≡ y +ℤ c → a +ℤ x ≡ (b +ℤ y) +ℤ c
    last a b c x y p q = omega (arith, signed_arith, p, q)

    at : (j < n) ⊎ (n ≤ j) → (j < n → sum_below n g ≡ sum_below n f +ℤ d)
        → sum_below (suc n) g ≡ sum_below (suc n) f +ℤ d
    at (inl l) more =
        let ih : sum_below n g ≡ sum_below n f +ℤ d = more l in
        let e : g n ≡ f n = rest n (omega arith) (λ q. omega (arith, l, q)) in
        rw (sum_below-suc n f, sum_below-suc n g) (inside (sum_below n g) (sum_below n f) d (g n) (f n) ih e)
    at (inr l) more =
        let e : j ≡ n = omega (arith, h, l) in
        let ih : sum_below n g ≡ sum_below n f =
        sum_below_same n g f (λ k m. rest k (omega (arith, m)) (λ q. omega (arith, m, q, e))) in
        let here' : g n ≡ f n +ℤ d = rw (sym e) here in
        rw (sum_below-suc n f, sum_below-suc n g) (last (sum_below n g) (sum_below n f) d (g n) (f n) ih here')

sum_below-two : (m n i j : ℕ) (f g : ℕ → ℕ → ℤ) (d : ℤ) → i < m → j < n → g i j ≡ f i j +ℤ d
    → ((c u : ℕ) → c < m → u < n → (c ≡ i → u ≡ j → ⊥) → g c u ≡ f c u)
    → sum_below m (λ c. sum_below n (λ u. g c u)) ≡ sum_below m (λ c. sum_below n (λ u. f c u)) +ℤ d
sum_below-two m n i j f g d h l here rest =
    sum_below-one m i (λ c. sum_below n (λ u. f c u)) (λ c. sum_below n (λ u. g c u)) d h
    (sum_below-one n j (λ u. f i u) (λ u. g i u) d l here (λ u k apart. rest i u h k (λ _ q. apart q)))
    (λ c k apart. sum_below_same n (λ u. g c u) (λ u. f c u) (λ u o. rest c u k o (λ q _. apart q)))

-- ---- one place of a list by resource, then period

read_other : (xs : List ℕ) (n c u d v x : ℕ) → u < n → v < n → (d ≡ c → v ≡ u → ⊥)
    → get_or (set xs (c * n + u) x) (d * n + v) 0 ≡ get_or xs (d * n + v) 0
read_other xs n c u d v x h k apart =
    get_or-set_other xs (c * n + u) (d * n + v) x 0
    (λ e. let w = same_from_place d v c u n k h e in apart w.0 w.1)

-- what was said of period t, of the period behind t - 1
behind : (f g : ℕ → ℤ) (t : ℕ) (d : ℤ) → 1 ≤ t → g t ≡ f t +ℤ d → g ((t - 1) + 1) ≡ f ((t - 1) + 1) +ℤ d
behind f g t d one e = let q : (t - 1) + 1 ≡ t = omega (arith, one) in rw q e

-- ---- the prices on limits

upper_bands : (inst : Tables) (old : PriceList) (c t v i s : ℕ) → IsPriceList inst old → IsBandPlace inst c t
    → band_part inst (with_up inst old c t v) i s
    ≡ band_part inst old i s +ℤ (pos v -ℤ pos (up_of inst old c t)) *ℤ load_at inst c t i (Some s)
unfolding band_part
upper_bands inst old c t v i s h w =
    let f = λ (d u : ℕ). band_share inst old i s d (u + 1) in
    let g = λ (d u : ℕ). band_share inst (with_up inst old c t v) i s d (u + 1) in
    let read : up_of inst (with_up inst old c t v) c t ≡ v = get_or-set_same old.up (c * inst.periods + (t - 1)) v 0
    (band_within inst c t (length old.up) w h.up_each) in
    sum_below-two (length inst.resource_names) inst.periods c (t - 1) f g
    ((pos v -ℤ pos (up_of inst old c t)) *ℤ load_at inst c t i (Some s)) w.resource (omega (arith, w.from, w.to))
    (behind (λ u. band_share inst old i s c u) (λ u. band_share inst (with_up inst old c t v) i s c u) t
    ((pos v -ℤ pos (up_of inst old c t)) *ℤ load_at inst c t i (Some s)) w.from
    (ap (λ (n : ℕ). (pos n -ℤ pos (lo_of inst old c t)) *ℤ load_at inst c t i (Some s)) read
    ∙ upper_moved (up_of inst old c t) v (lo_of inst old c t) (load_at inst c t i (Some s))))
    (λ d u k l apart. ap (λ (n : ℕ). (pos n -ℤ pos (lo_of inst old d (u + 1))) *ℤ load_at inst d (u + 1) i (Some s))
    (read_other old.up inst.periods c (t - 1) d ((u + 1) - 1) v (omega (arith, w.from, w.to)) (omega (arith, l))
    (λ p q. apart p (omega (arith, q)))))

lower_bands : (inst : Tables) (old : PriceList) (c t v i s : ℕ) → IsPriceList inst old → IsBandPlace inst c t
    → band_part inst (with_lo inst old c t v) i s
    ≡ band_part inst old i s +ℤ (pos v -ℤ pos (lo_of inst old c t)) *ℤ (pos 0 -ℤ load_at inst c t i (Some s))
unfolding band_part
lower_bands inst old c t v i s h w =
    let f = λ (d u : ℕ). band_share inst old i s d (u + 1) in
    let g = λ (d u : ℕ). band_share inst (with_lo inst old c t v) i s d (u + 1) in
    let read : lo_of inst (with_lo inst old c t v) c t ≡ v = get_or-set_same old.lo (c * inst.periods + (t - 1)) v 0
    (band_within inst c t (length old.lo) w h.lo_each) in
    sum_below-two (length inst.resource_names) inst.periods c (t - 1) f g
    ((pos v -ℤ pos (lo_of inst old c t)) *ℤ (pos 0 -ℤ load_at inst c t i (Some s))) w.resource
    (omega (arith, w.from, w.to))
    (behind (λ u. band_share inst old i s c u) (λ u. band_share inst (with_lo inst old c t v) i s c u) t
    ((pos v -ℤ pos (lo_of inst old c t)) *ℤ (pos 0 -ℤ load_at inst c t i (Some s))) w.from
    (ap (λ (n : ℕ). (pos (up_of inst old c t) -ℤ pos n) *ℤ load_at inst c t i (Some s)) read
    ∙ lower_moved (up_of inst old c t) (lo_of inst old c t) v (load_at inst c t i (Some s))))
    (λ d u k l apart. ap (λ (n : ℕ). (pos (up_of inst old d (u + 1)) -ℤ pos n) *ℤ load_at inst d (u + 1) i (Some s))
    (read_other old.lo inst.periods c (t - 1) d ((u + 1) - 1) v (omega (arith, w.from, w.to)) (omega (arith, l))
    (λ p q. apart p (omega (arith, q)))))

-- what all limits are worth
abbrev limits : Tables → PriceList → ℤ
limits inst prices =
    sum_below (length inst.resource_names) (λ c. sum_below inst.periods (λ u. limit_share inst prices c (u + 1)))

upper_limits : (inst : Tables) (old : PriceList) (c t v : ℕ) → IsPriceList inst old → IsBandPlace inst c t
    → limits inst (with_up inst old c t v)
    ≡ limits inst old +ℤ (pos v -ℤ pos (up_of inst old c t)) *ℤ (pos 0 -ℤ upper_of inst c t)
upper_limits inst old c t v h w =
    let f = λ (d u : ℕ). limit_share inst old d (u + 1) in
    let g = λ (d u : ℕ). limit_share inst (with_up inst old c t v) d (u + 1) in
    let read : up_of inst (with_up inst old c t v) c t ≡ v = get_or-set_same old.up (c * inst.periods + (t - 1)) v 0
    (band_within inst c t (length old.up) w h.up_each) in
    sum_below-two (length inst.resource_names) inst.periods c (t - 1) f g
    ((pos v -ℤ pos (up_of inst old c t)) *ℤ (pos 0 -ℤ upper_of inst c t)) w.resource (omega (arith, w.from, w.to))
    (behind (λ u. limit_share inst old c u) (λ u. limit_share inst (with_up inst old c t v) c u) t
    ((pos v -ℤ pos (up_of inst old c t)) *ℤ (pos 0 -ℤ upper_of inst c t)) w.from
    (ap (λ (n : ℕ). (pos (lo_of inst old c t) *ℤ lower_of inst c t) -ℤ (pos n *ℤ upper_of inst c t)) read
    ∙ upper_limit_moved (up_of inst old c t) v (lo_of inst old c t) (lower_of inst c t) (upper_of inst c t)))
    (λ d u k l apart. ap
    (λ (n : ℕ). (pos (lo_of inst old d (u + 1)) *ℤ lower_of inst d (u + 1)) -ℤ (pos n *ℤ upper_of inst d (u + 1)))
    (read_other old.up inst.periods c (t - 1) d ((u + 1) - 1) v (omega (arith, w.from, w.to)) (omega (arith, l))
    (λ p q. apart p (omega (arith, q)))))

lower_limits : (inst : Tables) (old : PriceList) (c t v : ℕ) → IsPriceList inst old → IsBandPlace inst c t
    → limits inst (with_lo inst old c t v)
    ≡ limits inst old +ℤ (pos v -ℤ pos (lo_of inst old c t)) *ℤ lower_of inst c t
lower_limits inst old c t v h w =
    let f = λ (d u : ℕ). limit_share inst old d (u + 1) in
    let g = λ (d u : ℕ). limit_share inst (with_lo inst old c t v) d (u + 1) in
    let read : lo_of inst (with_lo inst old c t v) c t ≡ v = get_or-set_same old.lo (c * inst.periods + (t - 1)) v 0
    (band_within inst c t (length old.lo) w h.lo_each) in
    sum_below-two (length inst.resource_names) inst.periods c (t - 1) f g
    ((pos v -ℤ pos (lo_of inst old c t)) *ℤ lower_of inst c t) w.resource (omega (arith, w.from, w.to))
    (behind (λ u. limit_share inst old c u) (λ u. limit_share inst (with_lo inst old c t v) c u) t
    ((pos v -ℤ pos (lo_of inst old c t)) *ℤ lower_of inst c t) w.from
    (ap (λ (n : ℕ). (pos n *ℤ lower_of inst c t) -ℤ (pos (up_of inst old c t) *ℤ upper_of inst c t)) read
    ∙ lower_limit_moved (up_of inst old c t) (lo_of inst old c t) v (lower_of inst c t) (upper_of inst c t)))
    (λ d u k l apart. ap
    (λ (n : ℕ). (pos n *ℤ lower_of inst d (u + 1)) -ℤ (pos (up_of inst old d (u + 1)) *ℤ upper_of inst d (u + 1)))
    (read_other old.lo inst.periods c (t - 1) d ((u + 1) - 1) v (omega (arith, w.from, w.to)) (omega (arith, l))
    (λ p q. apart p (omega (arith, q)))))

-- ---- the prices of exclusions

ex_share-here : (inst : Tables) (e t n i s : ℕ) → ex_share inst (price_here e t n) i s ≡ n * times_at inst e t i s
unfolding ex_share times_at
ex_share-here inst e t n i s = at (in_run inst i s t)
  where
    at : (b : Bool) → cond b (n * times_named (exclusion_of inst e) i) 0
        ≡ n * cond b (times_named (exclusion_of inst e) i) 0
    at true = refl
    at false = omega arith

ex_parts : (inst : Tables) (old new : PriceList) (e t v i s : ℕ) → IsPriceList inst old → IsPriceList inst new
    → IsExSet old new e t v
    → ex_part inst new.ex i s + ex_of old.ex e t * times_at inst e t i s
    ≡ ex_part inst old.ex i s + v * times_at inst e t i s
ex_parts inst old new e t v i s h k a =
    let m = sum-changed (λ x. ex_share inst x i s) e t v old.ex new.ex (Rising-from old.ex h.ex_ascend)
    (Rising-from new.ex k.ex_ascend) (ArePositive-from inst old.ex h.ex) (ArePositive-from inst new.ex k.ex)
    (ex_share-here inst e t 0 i s ∙ none (times_at inst e t i s)) a.ex in
    omega (
      arith,
      m,
      ex_part-sum_by inst old.ex i s,
      ex_part-sum_by inst new.ex i s,
      ex_share-here inst e t (ex_of old.ex e t) i s,
      ex_share-here inst e t v i s,
    )
  where
    none : (n : ℕ) → 0 * n ≡ 0
    none n = omega arith

ex_totals : (inst : Tables) (old new : PriceList) (e t v : ℕ) → IsPriceList inst old → IsPriceList inst new
    → IsExSet old new e t v → ex_total new.ex + ex_of old.ex e t ≡ ex_total old.ex + v
ex_totals inst old new e t v h k a =
    let m = sum-changed (λ x. x.value) e t v old.ex new.ex (Rising-from old.ex h.ex_ascend)
    (Rising-from new.ex k.ex_ascend) (ArePositive-from inst old.ex h.ex) (ArePositive-from inst new.ex k.ex) refl
    a.ex in
    omega (arith, m, ex_total-sum_by old.ex, ex_total-sum_by new.ex)

product_pos : (v w : ℕ) → pos v *ℤ pos w ≡ pos (v * w)
product_pos v w = same_in (pos v *ℤ pos w) (pos (v * w)) (omega (arith, product_is (pos v) (pos w)))

-- a product of a difference and a natural number
difference_times : (v u w : ℕ) → (pos v -ℤ pos u) *ℤ pos w ≡ pos (v * w) -ℤ pos (u * w)
difference_times v u w =
    let e : pos v ≡ pos u +ℤ (pos v -ℤ pos u) = omega (arith, signed_arith) in
    let p : pos (v * w) ≡ pos (u * w) +ℤ (pos v -ℤ pos u) *ℤ pos w = sym (product_pos v w)
    ∙ ap (λ (x : ℤ). x *ℤ pos w) e ∙ spread (pos u) (pos v -ℤ pos u) (pos w)
    ∙ ap (λ (x : ℤ). x +ℤ (pos v -ℤ pos u) *ℤ pos w) (product_pos u w) in
    apart (pos (v * w)) (pos (u * w)) ((pos v -ℤ pos u) *ℤ pos w) p
  where
    apart : (a b c : ℤ) → a ≡ b +ℤ c → c ≡ a -ℤ b
    apart a b c q = omega (arith, signed_arith, q)

ex_moved : (x y u v w : ℕ) → y + u * w ≡ x + v * w
    → pos (1_000_000_000_000 * y)
    ≡ pos (1_000_000_000_000 * x) +ℤ (pos v -ℤ pos u) *ℤ pos (1_000_000_000_000 * w)
ex_moved x y u v w e =
    let a : v * (1_000_000_000_000 * w) ≡ 1_000_000_000_000 * (v * w) = omega arith in
    let b : u * (1_000_000_000_000 * w) ≡ 1_000_000_000_000 * (u * w) = omega arith in
    rw (difference_times v u (1_000_000_000_000 * w)) (linear x y (u * w) (v * w)
    (v * (1_000_000_000_000 * w)) (u * (1_000_000_000_000 * w)) e a b)
  where
    linear : (x y p q r t : ℕ) → y + p ≡ x + q → r ≡ 1_000_000_000_000 * q → t ≡ 1_000_000_000_000 * p
        → pos (1_000_000_000_000 * y) ≡ pos (1_000_000_000_000 * x) +ℤ (pos r -ℤ pos t)
    linear x y p q r t e a b = omega (arith, signed_arith, e, a, b)

total_moved : (z : ℤ) (x y u v : ℕ) → y + u ≡ x + v
    → z -ℤ pos (1_000_000_000_000 * y)
    ≡ (z -ℤ pos (1_000_000_000_000 * x)) +ℤ (pos v -ℤ pos u) *ℤ (pos 0 -ℤ pos 1_000_000_000_000)
total_moved z x y u v e =
    linear z x y u v e
    ∙ ap (λ (t : ℤ). (z -ℤ pos (1_000_000_000_000 * x)) +ℤ t)
    (sym (turned (pos v -ℤ pos u) (pos 1_000_000_000_000)
    ∙ ap (λ (t : ℤ). t *ℤ pos 1_000_000_000_000) (back u v) ∙ difference_times u v 1_000_000_000_000))
  where
    back : (u v : ℕ) → pos 0 -ℤ (pos v -ℤ pos u) ≡ pos u -ℤ pos v
    back u v = omega (arith, signed_arith)

    linear : (z : ℤ) (x y u v : ℕ) → y + u ≡ x + v → z -ℤ pos (1_000_000_000_000 * y)
        ≡ (z -ℤ pos (1_000_000_000_000 * x))
        +ℤ (pos (u * 1_000_000_000_000) -ℤ pos (v * 1_000_000_000_000))
    linear z x y u v e = omega (arith, signed_arith, e)

only_ex : (old new : PriceList) (e t v : ℕ) → IsExSet old new e t v → new ≡ record old { ex = new.ex }
only_ex old new e t v a =
    ap (λ (xs : List ℕ). record new { up = xs }) a.up ∙ ap (λ (xs : List ℕ). record new { up = old.up; lo = xs }) a.lo
    ∙ ap (λ (xs : List (Option Tail)). record new { up = old.up; lo = old.lo; tails = xs }) a.tails

-- ---- all places

-- the price of each start
pub price_changed : (inst : Tables) (old new : PriceList) (place : Place) (v i s : ℕ) → IsPriceList inst old
    → IsPriceList inst new → IsPlace inst place → IsWithValue inst old new place v
    → price_at inst new i s
    ≡ price_at inst old i s +ℤ (pos v -ℤ pos (value_at inst old place)) *ℤ weight_of inst place i s
unfolding price_of weight_of band_part
price_changed inst old new (Upper c t) v i s h k w a =
    ap (λ (p : PriceList). price_at inst p i s) a
    ∙ inside (risk_base inst old i s) (band_part inst old i s) _ (pos (1_000_000_000_000 * ex_part inst old.ex i s)) _
    (upper_bands inst old c t v i s h w)
  where
    inside : (a b c d e : ℤ) → c ≡ b +ℤ e → (a +ℤ c) +ℤ d ≡ ((a +ℤ b) +ℤ d) +ℤ e
    inside a b c d e q = omega (arith, signed_arith, q)
price_changed inst old new (Lower c t) v i s h k w a =
    ap (λ (p : PriceList). price_at inst p i s) a
    ∙ inside (risk_base inst old i s) (band_part inst old i s) _ (pos (1_000_000_000_000 * ex_part inst old.ex i s)) _
    (lower_bands inst old c t v i s h w)
  where
    inside : (a b c d e : ℤ) → c ≡ b +ℤ e → (a +ℤ c) +ℤ d ≡ ((a +ℤ b) +ℤ d) +ℤ e
    inside a b c d e q = omega (arith, signed_arith, q)
price_changed inst old new (Excluded e t) v i s h k w a =
    ap (λ (p : PriceList). price_at inst p i s) (only_ex old new e t v a)
    ∙ last (risk_base inst old i s +ℤ band_part inst old i s) _ _ _
    (ex_moved (ex_part inst old.ex i s) (ex_part inst new.ex i s) (ex_of old.ex e t) v (times_at inst e t i s)
    (ex_parts inst old new e t v i s h k a))
  where
    last : (a b c d : ℤ) → b ≡ c +ℤ d → a +ℤ b ≡ (a +ℤ c) +ℤ d
    last a b c d q = omega (arith, signed_arith, q)

-- what the prices add whatever the starts are
pub fixed_changed : (inst : Tables) (old new : PriceList) (place : Place) (v : ℕ) → IsPriceList inst old
    → IsPriceList inst new → IsPlace inst place → IsWithValue inst old new place v
    → fixed_part inst new
    ≡ fixed_part inst old +ℤ (pos v -ℤ pos (value_at inst old place)) *ℤ fixed_weight inst place
unfolding fixed_part fixed_weight
fixed_changed inst old new (Upper c t) v h k w a =
    ap (fixed_part inst) a
    ∙ inside (limits inst old) _ (pos (1_000_000_000_000 * ex_total old.ex)) _ (upper_limits inst old c t v h w)
  where
    inside : (a b c d : ℤ) → b ≡ a +ℤ d → b -ℤ c ≡ (a -ℤ c) +ℤ d
    inside a b c d q = omega (arith, signed_arith, q)
fixed_changed inst old new (Lower c t) v h k w a =
    ap (fixed_part inst) a
    ∙ inside (limits inst old) _ (pos (1_000_000_000_000 * ex_total old.ex)) _ (lower_limits inst old c t v h w)
  where
    inside : (a b c d : ℤ) → b ≡ a +ℤ d → b -ℤ c ≡ (a -ℤ c) +ℤ d
    inside a b c d q = omega (arith, signed_arith, q)
fixed_changed inst old new (Excluded e t) v h k w a =
    ap (fixed_part inst) (only_ex old new e t v a)
    ∙ total_moved (limits inst old) (ex_total old.ex) (ex_total new.ex) (ex_of old.ex e t) v
    (ex_totals inst old new e t v h k a)
