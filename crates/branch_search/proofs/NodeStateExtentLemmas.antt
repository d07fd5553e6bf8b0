-- Extents over starts that come one after another.
use Rattle.std.proofs.Common.{◌≡◌, ℕ, suc, ◌+◌, ◌-◌, ◌<◌, ◌≤◌, refl, sym, ◌∙◌, ap, subst, arith, ℤ, pos}
use Rattle.std.proofs.Common.{inl, inr, Bool, true, false, cond, List, [], ◌∷◌, ◌++◌, length, map, fold, filter}
use Rattle.std.proofs.Common.{nat_lt}
use Rattle.std.specs.Prelude.{◌==◌}
use Rattle.std.specs.List.{range_with_len}
use Rattle.std.specs.Int.{int_min, int_max}
use Rattle.std.proofs.lemmas.Bool.Decides.{nat_tests}
use Rattle.std.proofs.lemmas.List.{map-append, map-id, append-nil, length-append}
use Rattle.std.proofs.lemmas.List.Sums.{fold-append}
use Rattle.std.proofs.lemmas.List.FromFn.{filter_of_map_range_with_len_more}
use Rattle.fixed_num.proofs.SignedLemmas.{signed_arith}
use Rattle.instance_model.specs.Tables.{Tables, is_allowed}
use Rattle.lagrange_bound.specs.declared.span.Span.{Span}
use Rattle.lagrange_bound.specs.Boxes.{starts_in}
use Rattle.lagrange_bound.specs.Least.{least_over}
use Rattle.certificate_lines.specs.declared.line.Side.{Side}
use Rattle.certificate_lines.specs.declared.line.Side.TheVariants.{Over, Under}
use Rattle.certificate_tree.specs.Loads.{greatest_over}
use Rattle.certificate_tree.specs.Extremes.{extreme, extreme_over}
use Rattle.branch_search.specs.declared.node_state.extent.Extent.{Extent}
use Rattle.branch_search.specs.node_state.Extents.{no_extent, end_of, end_to, end_with, taken, IsExtentOf, IsTaken}

-- ---- the extreme over one place more
extreme_over-none : (side : Side) (f : ℕ → ℤ) → extreme_over side f [] ≡ pos 0
unfolding least_over greatest_over
extreme_over-none Over f = refl
extreme_over-none Under f = refl

extreme_over-one : (side : Side) (f : ℕ → ℤ) (k : ℕ) → extreme_over side f (k ∷ []) ≡ f k
unfolding least_over greatest_over
extreme_over-one Over f k = refl
extreme_over-one Under f k = refl

extreme_over-more : (side : Side) (f : ℕ → ℤ) (j : ℕ) (js : List ℕ) (k : ℕ)
    → extreme_over side f ((j ∷ js) ++ k ∷ []) ≡ extreme side (extreme_over side f (j ∷ js)) (f k)
unfolding least_over greatest_over
extreme_over-more Over f j js k =
    ap (fold int_min (f j)) (map-append f js (k ∷ [])) ∙ fold-append int_min (f j) (map f js) (f k ∷ [])
extreme_over-more Under f j js k =
    ap (fold int_max (f j)) (map-append f js (k ∷ [])) ∙ fold-append int_max (f j) (map f js) (f k ∷ [])

-- ---- one start more
not_first : (n : ℕ) (a b : ℤ) → 0 < n → cond (n == 0) a b ≡ b
not_first n a b l = let some : (n == 0) ≡ false = grind (arith, nat_tests) in rw some refl

end_with-is : (side : Side) (f : ℕ → ℤ) (ks : List ℕ) (k : ℕ) (e : Extent)
    → end_to side e (length ks) ≡ extreme_over side f ks
    → end_with side e (length ks) (f k) ≡ extreme_over side f (ks ++ k ∷ [])
end_with-is side f [] k e h = sym (extreme_over-one side f k)
end_with-is side f (j ∷ js) k e h =
    not_first (suc (length js)) (f k) (extreme side (end_to side e (length (j ∷ js))) (f k)) (omega arith)
    ∙ ap (λ (z : ℤ). extreme side z (f k)) h ∙ sym (extreme_over-more side f j js k)

-- a load of 0 behind loads that end there already changes nothing
zero_again : (side : Side) (b : Bool) (z : ℤ)
    → extreme side (cond b (extreme side z (pos 0)) z) (pos 0) ≡ extreme side z (pos 0)
zero_again Over true z = omega (arith, signed_arith)
zero_again Over false z = refl
zero_again Under true z = omega (arith, signed_arith)
zero_again Under false z = refl

zero_twice : (side : Side) → extreme side (pos 0) (pos 0) ≡ pos 0
zero_twice Over = refl
zero_twice Under = refl

end_passed : (side : Side) (f : ℕ → ℤ) (ks : List ℕ) (k : ℕ) (e : Extent) → e.counted ≤ length ks
    → end_to side e (length ks) ≡ extreme_over side f ks → f k ≡ pos 0
    → extreme side (end_of side e) (pos 0) ≡ extreme_over side f (ks ++ k ∷ [])
end_passed side f [] k e l h z =
    let first : nat_lt e.counted 0 ≡ false = grind (arith, nat_tests) in
    let was : end_of side e ≡ pos 0 = rw first at h ∙ extreme_over-none side f in
    ap (λ (x : ℤ). extreme side x (pos 0)) was ∙ zero_twice side ∙ sym z ∙ sym (extreme_over-one side f k)
end_passed side f (j ∷ js) k e l h z =
    sym (zero_again side (nat_lt e.counted (length (j ∷ js))) (end_of side e))
    ∙ ap (λ (x : ℤ). extreme side x (pos 0)) h
    ∙ ap (λ (x : ℤ). extreme side (extreme_over side f (j ∷ js)) x) (sym z)
    ∙ sym (extreme_over-more side f j js k)

-- at the start that was taken last
end_to-taken : (side : Side) (e : Extent) (n m : ℕ) (z : ℤ) → m ≡ n + 1
    → end_to side (taken e n z) m ≡ end_with side e n z
end_to-taken Over e n m z l = let last : nat_lt (n + 1) m ≡ false = grind (arith, nat_tests) in rw last refl
end_to-taken Under e n m z l = let last : nat_lt (n + 1) m ≡ false = grind (arith, nat_tests) in rw last refl

-- behind it
end_to-behind : (side : Side) (e : Extent) (m : ℕ) → e.counted < m
    → end_to side e m ≡ extreme side (end_of side e) (pos 0)
end_to-behind side e m l = let past : nat_lt e.counted m ≡ true = grind (arith, nat_tests) in rw past refl

pub IsExtentOf-none : (f : ℕ → ℤ) → IsExtentOf f [] no_extent
IsExtentOf-none f = record { counted = omega arith; ends = λ side. at side }
  where
    at : (side : Side) → end_to side no_extent 0 ≡ extreme_over side f []
    at Over = sym (extreme_over-none Over f)
    at Under = sym (extreme_over-none Under f)

pub IsExtentOf-more : (f : ℕ → ℤ) (ks : List ℕ) (k n : ℕ) (z : ℤ) (old new : Extent) → IsExtentOf f ks old
    → n ≡ length ks → z ≡ f k → IsTaken n z old new → IsExtentOf f (ks ++ k ∷ []) new
IsExtentOf-more f ks k n z old new h d q (inl e) =
    let more : length (ks ++ k ∷ []) ≡ length ks + 1 = length-append ks (k ∷ []) in
    let is : new ≡ taken old (length ks) (f k) =
    e ∙ ap (λ (m : ℕ). taken old m z) d ∙ ap (taken old (length ks)) q in
    subst (IsExtentOf f (ks ++ k ∷ [])) (sym is)
    (record {
      counted = omega (arith, more);
      ends = λ side. end_to-taken side old (length ks) (length (ks ++ k ∷ [])) (f k) more
          ∙ end_with-is side f ks k old (h.ends side);
    })
IsExtentOf-more f ks k n z old new h d q (inr (e, none)) =
    let more : length (ks ++ k ∷ []) ≡ length ks + 1 = length-append ks (k ∷ []) in
    let few = h.counted in
    subst (IsExtentOf f (ks ++ k ∷ [])) (sym e)
    (record {
      counted = omega (arith, more, few);
      ends = λ side. end_to-behind side old (length (ks ++ k ∷ [])) (omega (arith, more, few))
          ∙ end_passed side f ks k old few (h.ends side) (sym q ∙ none);
    })

-- ---- the allowed starts so far
starts_more : (p : ℕ → Bool) (a n j : ℕ) → a + n ≡ j
    → filter p (range_with_len a (n + 1)) ≡ filter p (range_with_len a n) ++ cond (p j) (j ∷ []) []
starts_more p a n j e = ap (filter p) (sym (map-id (range_with_len a (n + 1))))
    ∙ filter_of_map_range_with_len_more p (λ i. i) a n j e
    ∙ ap (λ (xs : List ℕ). filter p xs ++ cond (p j) (j ∷ []) []) (map-id (range_with_len a n))

pub starts_taken : (p : ℕ → Bool) (a s : ℕ) → a ≤ s → p s ≡ true
    → filter p (range_with_len a (s + 1 - a)) ≡ filter p (range_with_len a (s - a)) ++ s ∷ []
starts_taken p a s l t =
    let n : s + 1 - a ≡ s - a + 1 = omega (arith, l) in
    let m : a + (s - a) ≡ s = omega (arith, l) in
    rw n (starts_more p a (s - a) s m
    ∙ ap (λ (b : Bool). filter p (range_with_len a (s - a)) ++ cond b (s ∷ []) []) t)

pub starts_passed : (p : ℕ → Bool) (a s : ℕ) → a ≤ s → p s ≡ false
    → filter p (range_with_len a (s + 1 - a)) ≡ filter p (range_with_len a (s - a))
starts_passed p a s l t =
    let n : s + 1 - a ≡ s - a + 1 = omega (arith, l) in
    let m : a + (s - a) ≡ s = omega (arith, l) in
    rw n (starts_more p a (s - a) s m
    ∙ ap (λ (b : Bool). filter p (range_with_len a (s - a)) ++ cond b (s ∷ []) []) t
    ∙ append-nil (filter p (range_with_len a (s - a))))

pub starts_all : (inst : Tables) (i : ℕ) (span : Span) (n : ℕ) → n ≡ span.to + 1 - span.from
    → filter (is_allowed inst i) (range_with_len span.from n) ≡ starts_in inst i span
unfolding starts_in
starts_all inst i span n e = ap (λ (m : ℕ). filter (is_allowed inst i) (range_with_len span.from m)) e
