-- The greatest base of an intervention, as the code finds it.
use Rattle.std.proofs.Common.{◌≡◌, ℕ, zero, suc, ◌+◌, ◌-◌, ◌<◌, ◌≤◌, ◌⊎◌, inl, inr, refl, sym, ◌∙◌, ap, subst, arith, ℤ}
use Rattle.std.proofs.Common.{◌≤ℤ◌, Bool, true, false, cond, int_lt, List, [], ◌∷◌, length, map, fold, filter}
use Rattle.std.proofs.Common.{unsigned_abs, ◌^◌}
use Rattle.std.specs.List.{range_with_len, AllByRecursion}
use Rattle.std.specs.Int.{int_max}
use Rattle.std.proofs.lemmas.Bool.{cases_lt}
use borrow.Author.Differences.{same_in, at_most_in, lt-true, lt-false, le_out}
use Rattle.instance_model.specs.Tables.{Tables, tmax, is_allowed}
use Rattle.lagrange_bound.specs.Boxes.{span_of, starts_in}
use Rattle.lagrange_bound.proofs.WorthLemmas.{in_starts}
use Rattle.certificate_tree.specs.Trees.{root_box}
use Rattle.certificate_tree.specs.Loads.{greatest_over}
use Rattle.certificate_tree.proofs.RootLemmas.{root_at}
use Rattle.certificate_tree.proofs.StartLemmas.{greatest_over_ge}
use Rattle.price_ladder.specs.Raised.{root_starts}

-- z is the value of f at a place from 1 to m that passes, and no place before n that passes has a greater one
pub record IsGreatestTo (f : ℕ → ℤ) (p : ℕ → Bool) (m n : ℕ) (z : ℤ) : Type 0 where
  pub place : ℕ
  pub from : 1 ≤ place
  pub to : place ≤ m
  pub passes : p place ≡ true
  pub value : z ≡ f place
  pub bound : (s : ℕ) → 1 ≤ s → s < n → p s ≡ true → f s ≤ℤ z

pub greatest_none : (f : ℕ → ℤ) (p : ℕ → Bool) (m s : ℕ) (z : ℤ) → 1 ≤ s → s ≤ m → p s ≡ true → z ≡ f s
    → IsGreatestTo f p m 1 z
greatest_none f p m s z from to h e =
    record { place = s; from = from; to = to; passes = h; value = e; bound = λ u l k q. absurd (omega (arith, l, k)) }

pub greatest_passed : (f : ℕ → ℤ) (p : ℕ → Bool) (m n : ℕ) (z : ℤ) → IsGreatestTo f p m n z → p n ≡ false
    → IsGreatestTo f p m (n + 1) z
greatest_passed f p m n z h q = record {
  place = h.place;
  from = h.from;
  to = h.to;
  passes = h.passes;
  value =
      h.value;
  bound = λ s l k t. at s l k t (cases_lt s n);
}
  where
    at : (s : ℕ) → 1 ≤ s → s < n + 1 → p s ≡ true → (s < n) ⊎ (n ≤ s) → f s ≤ℤ z
    at s l k t (inl b) = h.bound s l b t
    at s l k t (inr b) =
        let e : s ≡ n = omega (arith, k, b) in
        absurd (unequal (p n) q (subst (λ (u : ℕ). p u ≡ true) e t))
      where
        unequal : (b : Bool) → b ≡ false → b ≡ true → ⊥
        unequal b x y = cc

pub greatest_taken : (f : ℕ → ℤ) (p : ℕ → Bool) (m n : ℕ) (z w r : ℤ) → IsGreatestTo f p m n z → 1 ≤ n → n ≤ m
    → p n ≡ true → w ≡ f n → r ≡ int_max z w → IsGreatestTo f p m (n + 1) r
greatest_taken f p m n z w r h from to q e d = at (int_lt w z) refl
  where
    last : (y : ℤ) → ((s : ℕ) → 1 ≤ s → s < n → p s ≡ true → f s ≤ℤ y) → f n ≤ℤ y → (s : ℕ) → 1 ≤ s → s < n + 1
        → p s ≡ true → f s ≤ℤ y
    last y below here s l k t = by (cases_lt s n)
      where
        by : (s < n) ⊎ (n ≤ s) → f s ≤ℤ y
        by (inl b) = below s l b t
        by (inr b) = let i : n ≡ s = omega (arith, k, b) in subst (λ (u : ℕ). f u ≤ℤ y) i here

    at : (b : Bool) → int_lt w z ≡ b → IsGreatestTo f p m (n + 1) r
    at true t =
        let is : r ≡ z = d ∙ ap (λ (b : Bool). cond b z w) t in
        let l = lt-true w z t in
        let here : f n ≤ℤ z = subst (λ (x : ℤ). x ≤ℤ z) e (at_most_in w z (omega (arith, l))) in
        subst (IsGreatestTo f p m (n + 1)) (sym is) (record {
          place = h.place;
          from = h.from;
          to = h.to;
          passes =
              h.passes;
          value = h.value;
          bound = last z h.bound here;
        })
    at false t =
        let is : r ≡ w = d ∙ ap (λ (b : Bool). cond b z w) t in
        let l = lt-false w z t in
        let here : f n ≤ℤ w = subst (λ (x : ℤ). x ≤ℤ w) e (at_most_in w w (omega arith)) in
        subst (IsGreatestTo f p m (n + 1)) (sym is) (record {
          place = n;
          from = from;
          to = to;
          passes = q;
          value =
              e;
          bound = last w (λ s a b c. at_most_in (f s) w (omega (arith, l, le_out (f s) z (h.bound s a b c)))) here;
        })

-- ---- the greatest over a list

max_below : (a b z : ℤ) → a ≤ℤ z → b ≤ℤ z → int_max a b ≤ℤ z
max_below a b z h k = at (int_lt b a)
  where
    at : (t : Bool) → cond t a b ≤ℤ z
    at true = h
    at false = k

fold_below : (z a : ℤ) (xs : List ℤ) → a ≤ℤ z → AllByRecursion (λ x. x ≤ℤ z) xs → fold int_max a xs ≤ℤ z
fold_below z a [] h k = h
fold_below z a (x ∷ xs) h k = fold_below z (int_max a x) xs (max_below a x z h k.0) k.1

greatest_below : (f : ℕ → ℤ) (ks : List ℕ) (z : ℤ) → 0 < length ks → AllByRecursion (λ x. x ≤ℤ z) (map f ks)
    → greatest_over f ks ≤ℤ z
unfolding greatest_over
greatest_below f [] z h k = absurd (omega (arith, h))
greatest_below f (i ∷ ks) z h k = fold_below z (f i) (map f ks) k.0 k.1

each_below : (f : ℕ → ℤ) (p : ℕ → Bool) (z : ℤ) (a n : ℕ) → ((s : ℕ) → a ≤ s → s < a + n → p s ≡ true → f s ≤ℤ z)
    → AllByRecursion (λ x. x ≤ℤ z) (map f (filter p (range_with_len a n)))
each_below f p z a zero h = tt
each_below f p z a (suc n) h =
    at (p a) refl (each_below f p z (a + 1) n (λ s l k t. h s (omega (arith, l)) (omega (arith, k)) t))
  where
    at : (b : Bool) → p a ≡ b → AllByRecursion (λ x. x ≤ℤ z) (map f (filter p (range_with_len (a + 1) n)))
        → AllByRecursion (λ x. x ≤ℤ z)
        (map f (cond b (a ∷ filter p (range_with_len (a + 1) n)) (filter p (range_with_len (a + 1) n))))
    at true e rest = (h a (omega arith) (omega arith) e, rest)
    at false e rest = rest

-- the greatest to the last start is the greatest over the allowed starts
pub greatest_is : (inst : Tables) (f : ℕ → ℤ) (i n : ℕ) (z : ℤ) → i < length inst.names → n ≡ tmax inst i + 1
    → IsGreatestTo f (is_allowed inst i) (tmax inst i) n z → z ≡ greatest_over f (root_starts inst i)
unfolding starts_in
greatest_is inst f i n z l e h =
    let at = root_at inst i l in
    let c = in_starts inst i h.place (span_of (root_box inst) i) h.passes (rw at h.from) (rw at h.to) in
    let some : 0 < length (root_starts inst i) = omega (arith, c.1) in
    let a = le_out z (greatest_over f (root_starts inst i))
    (subst (λ (x : ℤ). x ≤ℤ greatest_over f (root_starts inst i)) (sym h.value)
    (greatest_over_ge f (root_starts inst i) h.place c)) in
    let from : (span_of (root_box inst) i).from ≡ 1 = ap (λ s. s.from) at in
    let to : (span_of (root_box inst) i).to ≡ tmax inst i = ap (λ s. s.to) at in
    let each = each_below f (is_allowed inst i) z (span_of (root_box inst) i).from
    ((span_of (root_box inst) i).to + 1 - (span_of (root_box inst) i).from)
    (λ s u v t. h.bound s (omega (arith, u, from)) (omega (arith, v, from, to, e)) t) in
    let b = le_out (greatest_over f (root_starts inst i)) z (greatest_below f (root_starts inst i) z some each) in
    same_in z (greatest_over f (root_starts inst i)) (omega (arith, a, b))

pub max_small : (a b r : ℤ) → unsigned_abs a < 10 ^ 30 → unsigned_abs b < 10 ^ 30 → r ≡ int_max a b
    → unsigned_abs r < 10 ^ 30
max_small a b r h k e = rw e (at (int_lt b a))
  where
    at : (t : Bool) → unsigned_abs (cond t a b) < 10 ^ 30
    at true = h
    at false = k
