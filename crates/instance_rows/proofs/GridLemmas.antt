-- The grid after one list more.
use Rattle.std.proofs.Common.{◌≡◌, ◌≢◌, ℕ, zero, suc, ◌+◌, ◌-◌, ◌*◌, ◌<◌, ◌≤◌, ◌==◌, ◌&&◌, Bool, true, false, cond}
use Rattle.std.proofs.Common.{List, [], ◌∷◌, ◌++◌, length, get_or, set, Option, Some, None, refl, sym, ◌∙◌, ap, arith}
use Rattle.std.proofs.Common.{nat_lt, get_or-set_other, get_or-set_same, length-set}
use Rattle.std.specs.Prelude.{if◌then◌else◌, is_none, replicate}
use Rattle.std.specs.List.{position_from}
use Rattle.std.specs.Option.{option_or}
use Rattle.std.proofs.lemmas.Bool.Decides.{nat_tests}
use Rattle.std.proofs.Math.Nat.{mul-le-mul_right}
use Rattle.instance_model.specs.RiskLists.{RiskRow}
use Rattle.instance_rows.specs.RowFaults.{is_list_at}
use Rattle.instance_rows.specs.Grid.{place_of, HasPlaces}

-- where the first one is, in a list with one element more
pub position_more : {A : Type 0} (p : A → Bool) (n : ℕ) (xs : List A) (x : A)
    → position_from p n (xs ++ x ∷ []) ≡ option_or (position_from p n xs) (cond (p x) (Some (n + length xs)) None)
position_more p n [] x = let e : n + 0 ≡ n = omega arith in ap (λ k. cond (p x) (Some k) None) (sym e)
position_more p n (y ∷ xs) x = by (p y) (position_more p (n + 1) xs x)
  where
    by : (b : Bool) → position_from p (n + 1) (xs ++ x ∷ []) ≡ option_or (position_from p (n + 1) xs) (cond (p x)
        (Some (n + 1 + length xs)) None)
        → cond b (Some n) (position_from p (n + 1) (xs ++ x ∷ []))
        ≡ option_or (cond b (Some n) (position_from p (n + 1) xs)) (cond (p x) (Some (n + suc (length xs))) None)
    by true h = refl
    by false h = let e : n + 1 + length xs ≡ n + suc (length xs) = omega arith in
        h ∙ ap (λ k. option_or (position_from p (n + 1) xs) (cond (p x) (Some k) None)) e

-- two places that are the same have the same start and period
one_place : (p s t u v : ℕ) → t < p → v < p → s * p + t ≡ u * p + v → (s ≡ u) × (t ≡ v)
one_place p s t u v h l e = by (nat_lt s u) (nat_lt u s) refl refl
  where
    by : (a b : Bool) → nat_lt s u ≡ a → nat_lt u s ≡ b → (s ≡ u) × (t ≡ v)
    by true b x y = let k : s + 1 ≤ u = grind (arith, nat_tests) in
        absurd (omega (arith, mul-le-mul_right {m = s + 1} {n = u} p k))
    by false true x y = let k : u + 1 ≤ s = grind (arith, nat_tests) in
        absurd (omega (arith, mul-le-mul_right {m = u + 1} {n = s} p k))
    by false false x y = let k : s ≡ u = grind (arith, nat_tests) in (k, omega (arith, ap (λ n. n * p) k))

-- a list at a start and a period, and where it is put
pub record IsPlaced (starts periods : ℕ) (r : RiskRow) (place : ℕ) : Type 0 where
  pub start : 1 ≤ r.start
  pub to : r.start ≤ starts
  pub period : 1 ≤ r.period
  pub last : r.period ≤ periods
  pub place_is : place ≡ (r.start - 1) * periods + (r.period - 1)

-- a grid where a number was put at a place that had none
abbrev pub filled : List (Option ℕ) → ℕ → ℕ → List (Option ℕ)
filled g place k = if is_none (get_or g place None) then set g place (Some k) else g

here : (s t : ℕ) (r : RiskRow) → is_list_at (t + 1) (s + 1) r ≡ true → (r.start ≡ s + 1) × (r.period ≡ t + 1)
here s t r h = by (r.period == t + 1) (r.start == s + 1) refl refl h
  where
    same : (a b : ℕ) → (a == b) ≡ true → a ≡ b
    same a b h = grind (arith, nat_tests)

    by : (a b : Bool) → (r.period == t + 1) ≡ a → (r.start == s + 1) ≡ b → a && b ≡ true
        → (r.start ≡ s + 1) × (r.period ≡ t + 1)
    by true true x y h = (same r.start (s + 1) y, same r.period (t + 1) x)
    by true false x y h = cc
    by false b x y h = cc

there : (s t : ℕ) (r : RiskRow) → r.start ≡ s + 1 → r.period ≡ t + 1 → is_list_at (t + 1) (s + 1) r ≡ true
there s t r h k = ap (λ q. q && (r.start == s + 1)) (same r.period (t + 1) k) ∙ same r.start (s + 1) h
  where
    same : (a b : ℕ) → a ≡ b → (a == b) ≡ true
    same a b h = grind (arith, nat_tests)

pub grid_in : (starts periods : ℕ) (g : List (Option ℕ)) (rs : List RiskRow) (r : RiskRow) (place k : ℕ)
    → IsPlaced starts periods r place → place < length g → k ≡ length rs
    → HasPlaces starts periods g rs → HasPlaces starts periods (filled g place k) (rs ++ r ∷ [])
grid_in starts periods g rs r place k i l n a s t m h =
    by (is_list_at (t + 1) (s + 1) r) refl ∙ sym (position_more (is_list_at (t + 1) (s + 1)) 0 rs r)
  where
    put : (o : Option ℕ) → get_or g place None ≡ o → (b : Bool) → (is_list_at (t + 1) (s + 1) r ≡ b)
        → (b ≡ true → s * periods + t ≡ place) → (b ≡ false → s * periods + t ≢ place)
        → place_of rs (s + 1) (t + 1) ≡ get_or g (s * periods + t) None
        → get_or (if is_none o then set g place (Some k) else g) (s * periods + t) None
        ≡ option_or (place_of rs (s + 1) (t + 1)) (cond b (Some (0 + length rs)) None)
    put None e true x y z w =
        let at : s * periods + t ≡ place = y refl in let z : 0 + length rs ≡ k = omega (arith, n) in
        ap (λ q. get_or (set g place (Some k)) q None) at ∙ get_or-set_same g place (Some k) None l
        ∙ ap Some (sym z) ∙ sym (ap (λ q. option_or q (Some (0 + length rs))) (w ∙ ap (λ q. get_or g q None) at ∙ e))
    put None e false x y z w = get_or-set_other g place (s * periods + t) (Some k) None (z refl) ∙ sym w
        ∙ by_option (place_of rs (s + 1) (t + 1))
      where
        by_option : (o : Option ℕ) → o ≡ option_or o None
        by_option None = refl
        by_option (Some x) = refl
    put (Some m) e true x y z w =
        let at : s * periods + t ≡ place = y refl in
        ap (λ q. get_or g q None) at ∙ e
        ∙ sym (ap (λ q. option_or q (Some (0 + length rs))) (w ∙ ap (λ q. get_or g q None) at ∙ e))
    put (Some m) e false x y z w = sym w ∙ by_option (place_of rs (s + 1) (t + 1))
      where
        by_option : (o : Option ℕ) → o ≡ option_or o None
        by_option None = refl
        by_option (Some x) = refl

    at_place : (b : Bool) → is_list_at (t + 1) (s + 1) r ≡ b → b ≡ true → s * periods + t ≡ place
    at_place b e x =
        let w = here s t r (e ∙ x) in
        let u : s ≡ r.start - 1 = omega (arith, w.0) in let v : t ≡ r.period - 1 = omega (arith, w.1) in
        ap (λ q. q * periods + t) u ∙ ap (λ q. (r.start - 1) * periods + q) v ∙ sym i.place_is

    elsewhere : (b : Bool) → is_list_at (t + 1) (s + 1) r ≡ b → b ≡ false → s * periods + t ≢ place
    elsewhere b e x = λ q.
        let w =
        one_place periods s t (r.start - 1) (r.period - 1) h (omega (arith, i.period, i.last)) (q ∙ i.place_is) in
        let yes : is_list_at (t + 1) (s + 1) r ≡ true =
        there s t r (omega (arith, w.0, i.start)) (omega (arith, w.1, i.period)) in
        clash (sym yes ∙ e ∙ x)
      where
        clash : true ≡ false → ⊥
        clash h = cc

    by : (b : Bool) → is_list_at (t + 1) (s + 1) r ≡ b → get_or (filled g place k) (s * periods + t) None
        ≡ option_or (place_of rs (s + 1) (t + 1)) (cond (is_list_at (t + 1) (s + 1) r) (Some (0 + length rs)) None)
    by b e = put (get_or g place None) refl b e (at_place b e) (elsewhere b e) (sym (a s t m h))
        ∙ ap (λ q. option_or (place_of rs (s + 1) (t + 1)) (cond q (Some (0 + length rs)) None)) (sym e)

pub grid_out : (starts periods : ℕ) (g : List (Option ℕ)) (rs : List RiskRow) (r : RiskRow)
    → (1 ≤ r.start → r.start ≤ starts → 1 ≤ r.period → r.period ≤ periods → ⊥) → HasPlaces starts periods g rs
    → HasPlaces starts periods g (rs ++ r ∷ [])
grid_out starts periods g rs r out a s t m h = a s t m h ∙ by (is_list_at (t + 1) (s + 1) r) refl (place_of rs (s + 1)
    (t + 1)) ∙ sym (position_more (is_list_at (t + 1) (s + 1)) 0 rs r)
  where
    by : (b : Bool) → is_list_at (t + 1) (s + 1) r ≡ b → (o : Option ℕ)
        → o ≡ option_or o (cond (is_list_at (t + 1) (s + 1) r) (Some (0 + length rs)) None)
    by true e o = let w = here s t r e in
        absurd (out (omega (arith, w.0)) (omega (arith, w.0, m)) (omega (arith, w.1)) (omega (arith, w.1, h)))
    by false e o = by_option o ∙ ap (λ q. option_or o (cond q (Some (0 + length rs)) None)) (sym e)
      where
        by_option : (o : Option ℕ) → o ≡ option_or o None
        by_option None = refl
        by_option (Some x) = refl

none_at : (n i : ℕ) → get_or (replicate n None) i None ≡ (let o : Option ℕ = None in o)
none_at zero i = refl
none_at (suc n) zero = refl
none_at (suc n) (suc i) = none_at n i

pub grid_empty : (starts periods n : ℕ) → HasPlaces starts periods (replicate n None) []
grid_empty starts periods n s t m h = none_at n (s * periods + t)

pub length-filled : (g : List (Option ℕ)) (place k : ℕ) → length (filled g place k) ≡ length g
length-filled g place k = by (is_none (get_or g place None))
  where
    by : (b : Bool) → length (if b then set g place (Some k) else g) ≡ length g
    by true = length-set g place (Some k)
    by false = refl
