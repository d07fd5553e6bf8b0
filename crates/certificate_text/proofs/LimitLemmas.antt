-- The lines of the prices on limits.
use Rattle.std.proofs.Common.{◌≡◌, ℕ, zero, suc, ◌+◌, ◌*◌, ◌/◌, ◌%◌, ◌<◌, ◌≤◌, refl, sym, ◌∙◌, ap, subst, arith, Bool}
use Rattle.std.proofs.Common.{true, false, cond, List, [], ◌∷◌, ◌++◌, length, get_or, set, ◌==◌}
use Rattle.std.proofs.lemmas.Bool.Decides.{nat_tests}
use Rattle.std.proofs.lemmas.Nat.{div-add-mod'}
use Rattle.certificate_lines.specs.declared.line.CertificateLine.{CertificateLine}
use Rattle.certificate_text.specs.Text.{limit_lines}

-- the line of place k
abbrev pub limit_line : (ℕ → ℕ → ℕ → CertificateLine) → (n k v : ℕ) → CertificateLine
limit_line form n k v = form (k / n + 1) (k % n + 1) v

pub not_zero : (v : ℕ) → 0 < v → (v == 0) ≡ false
not_zero v h = grind (arith, nat_tests)

pub is_zero : (v : ℕ) → v ≡ 0 → (v == 0) ≡ true
is_zero v h = grind (arith, nat_tests)

pub zero_of : (v : ℕ) → (v == 0) ≡ true → v ≡ 0
zero_of v e = grind (arith, nat_tests)

pub some_of : (v : ℕ) → (v == 0) ≡ false → 1 ≤ v
some_of v e = grind (arith, nat_tests)

module _ (form : ℕ → ℕ → ℕ → CertificateLine) (n : ℕ) where
  -- zeros have no lines
  pub none_left : (k : ℕ) (vs : List ℕ) → ((i : ℕ) → get_or vs i 0 ≡ 0) → limit_lines form n k vs ≡ []
  unfolding limit_lines
  none_left k [] h = refl
  none_left k (v ∷ vs) h = rw (is_zero v (h 0), none_left (k + 1) vs (λ i. h (suc i))) refl

  -- the lines of a table are those of its parts
  pub limits_append : (k : ℕ) (xs ys : List ℕ)
      → limit_lines form n k (xs ++ ys) ≡ limit_lines form n k xs ++ limit_lines form n (k + length xs) ys
  unfolding limit_lines
  limits_append k [] ys = let e : k ≡ k + 0 = omega arith in ap (λ (j : ℕ). limit_lines form n j ys) e
  limits_append k (x ∷ xs) ys = at (x == 0)
      (limits_append (k + 1) xs ys ∙ ap (λ (j : ℕ). limit_lines form n (k + 1) xs ++ limit_lines form n j ys) e)
    where
      e : k + 1 + length xs ≡ k + length (x ∷ xs)
      e = omega arith

      at : (b : Bool) → limit_lines form n (k + 1) (xs ++ ys) ≡ limit_lines form n (k + 1) xs ++ limit_lines form n (k
          + length (x ∷ xs)) ys
          → cond b (limit_lines form n (k + 1) (xs ++ ys))
          (limit_line form n k x ∷ limit_lines form n (k + 1) (xs ++ ys))
          ≡ cond b (limit_lines form n (k + 1) xs) (limit_line form n k x ∷ limit_lines form n (k + 1) xs)
          ++ limit_lines form n (k + length (x ∷ xs)) ys
      at true w = w
      at false w = ap (λ (ls : List CertificateLine). limit_line form n k x ∷ ls) w

  -- a price behind all others has its line at the end
  pub limits_grow : (k : ℕ) (vs : List ℕ) (p v : ℕ) → p < length vs → 1 ≤ v → ((i : ℕ) → p ≤ i → get_or vs i 0 ≡ 0)
      → limit_lines form n k (set vs p v) ≡ limit_lines form n k vs ++ limit_line form n (k + p) v ∷ []
  unfolding limit_lines
  limits_grow k [] p v h some zeros = absurd (omega (arith, h))
  limits_grow k (x ∷ vs) zero v h some zeros =
      let none = none_left (k + 1) vs (λ i. zeros (suc i) (omega arith)) in
      let e : k ≡ k + 0 = omega arith in
      rw (not_zero v (omega (arith, some)), is_zero x (zeros 0 (omega arith)), none)
      (ap (λ (j : ℕ). limit_line form n j v ∷ []) e)
  limits_grow k (x ∷ vs) (suc p) v h some zeros =
      let w = limits_grow (k + 1) vs p v (omega (arith, h)) some (λ i l. zeros (suc i) (omega (arith, l))) in
      let e : k + 1 + p ≡ k + suc p = omega arith in
      let w' = subst (λ (j : ℕ). limit_lines form n (k + 1) (set vs p v) ≡ limit_lines form n (k + 1) vs
      ++ limit_line form n j v ∷ []) e w in
      at (x == 0) w'
    where
      at : (b : Bool) → limit_lines form n (k + 1) (set vs p v) ≡ limit_lines form n (k + 1) vs ++ limit_line form n (k
          + suc p) v ∷ []
          → cond b (limit_lines form n (k + 1) (set vs p v)) (limit_line form n k x
          ∷ limit_lines form n (k + 1) (set vs p v)) ≡ cond b (limit_lines form n (k + 1) vs) (limit_line form n k x
          ∷ limit_lines form n (k + 1) vs) ++ limit_line form n (k + suc p) v ∷ []
      at true w = w
      at false w = ap (λ (ls : List CertificateLine). limit_line form n k x ∷ ls) w

  -- the first line is that of a place from k on
  pub first_limit : (k : ℕ) (vs : List ℕ) (line : CertificateLine) (lines : List CertificateLine)
      → limit_lines form n k vs ≡ line ∷ lines → (j : ℕ) × (v : ℕ) × (k ≤ j) × (line ≡ limit_line form n j v)
  unfolding limit_lines
  first_limit k [] line lines e = absurd (let z : ⊥ = cc in z)
  first_limit k (x ∷ xs) line lines e = at (x == 0) e (λ f. first_limit (k + 1) xs line lines f)
    where
      at : (b : Bool) → cond b (limit_lines form n (k + 1) xs) (limit_line form n k x ∷ limit_lines form n (k + 1) xs)
          ≡ line ∷ lines → (limit_lines form n (k + 1) xs ≡ line ∷ lines → (j : ℕ) × (v : ℕ) × (k + 1 ≤ j)
          × (line ≡ limit_line form n j v)) → (j : ℕ) × (v : ℕ) × (k ≤ j) × (line ≡ limit_line form n j v)
      at true e ih = let w = ih e in (w.0, w.1, omega (arith, w.2), w.3)
      at false e ih = (k, x, omega arith, cc)

  module _ (one : (a b v c d w : ℕ) → form a b v ≡ form c d w → (a ≡ c) × (b ≡ d) × (v ≡ w)) where
    -- two lines that are the same are of one place and one price
    same_place : (j k v w : ℕ) → limit_line form n j v ≡ limit_line form n k w → (j ≡ k) × (v ≡ w)
    same_place j k v w e =
        let h = one (j / n + 1) (j % n + 1) v (k / n + 1) (k % n + 1) w e in
        let row : j / n ≡ k / n = let f = h.0 in omega (arith, f) in
        let product : j / n * n ≡ k / n * n = ap (λ q. q * n) row in
        let column = h.1 in
        (omega (arith, product, column, div-add-mod' j n, div-add-mod' k n), h.2)

    -- two tables of one length that have the same lines are the same
    pub limits_tell : (k : ℕ) (xs ys : List ℕ) → length xs ≡ length ys
        → limit_lines form n k xs ≡ limit_lines form n k ys → xs ≡ ys
    unfolding limit_lines
    limits_tell k [] [] l e = refl
    limits_tell k [] (y ∷ ys) l e = absurd (omega (arith, l))
    limits_tell k (x ∷ xs) [] l e = absurd (omega (arith, l))
    limits_tell k (x ∷ xs) (y ∷ ys) l e =
        at (x == 0) refl (y == 0) refl e (λ f. limits_tell (k + 1) xs ys (omega (arith, l)) f)
      where
        at : (a : Bool) → (x == 0) ≡ a → (b : Bool) → (y == 0) ≡ b
            → cond a (limit_lines form n (k + 1) xs) (limit_line form n k x ∷ limit_lines form n (k + 1) xs)
            ≡ cond b (limit_lines form n (k + 1) ys) (limit_line form n k y ∷ limit_lines form n (k + 1) ys)
            → (limit_lines form n (k + 1) xs ≡ limit_lines form n (k + 1) ys → xs ≡ ys) → x ∷ xs ≡ y ∷ ys
        at true p true q e ih =
            ap (λ (v : ℕ). v ∷ xs) (zero_of x p ∙ sym (zero_of y q)) ∙ ap (λ (vs : List ℕ). y ∷ vs) (ih e)
        at false p false q e ih =
            let head : limit_line form n k x ≡ limit_line form n k y = cc in
            let same = same_place k k x y head in
            ap (λ (v : ℕ). v ∷ xs) same.1 ∙ ap (λ (vs : List ℕ). y ∷ vs) (ih cc)
        at true p false q e ih =
            let w = first_limit (k + 1) xs (limit_line form n k y) (limit_lines form n (k + 1) ys) e in
            let same = same_place k w.0 y w.1 w.3 in
            absurd (omega (arith, w.2, same.0))
        at false p true q e ih =
            let w = first_limit (k + 1) ys (limit_line form n k x) (limit_lines form n (k + 1) xs) (sym e) in
            let same = same_place k w.0 x w.1 w.3 in
            absurd (omega (arith, w.2, same.0))
