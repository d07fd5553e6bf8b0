-- The order of keys, and the keys of places in a table of limits.
use Rattle.std.proofs.Common.{◌≡◌, ◌⊎◌, inl, inr, ℕ, zero, suc, ◌+◌, ◌-◌, ◌*◌, ◌/◌, ◌%◌, ◌<◌, ◌≤◌, refl, ◌∙◌, ap, arith}
use Rattle.std.proofs.Math.Nat.{eq-or-lt_of_le}
use Rattle.std.proofs.lemmas.Nat.{div-add-mod', div-mul-add, mod-mul-add, le-div, div_below, mod_below}
use Rattle.certificate_text.specs.Grammar.{EntryKey, KeyBelow}

-- the key of a kind
abbrev pub key : ℕ → ℕ → ℕ → EntryKey
key kind a b = record { kind = kind; first = a; second = b }

pub key_trans : (a b c : EntryKey) → KeyBelow a b → KeyBelow b c → KeyBelow a c
key_trans a b c (inl h) (inl k) = inl (omega arith)
key_trans a b c (inl h) (inr (e, k)) = inl (omega arith)
key_trans a b c (inr (e, h)) (inl k) = inl (omega arith)
key_trans a b c (inr (e, inl h)) (inr (f, inl k)) = inr (e ∙ f, inl (omega arith))
key_trans a b c (inr (e, inl h)) (inr (f, inr (g, k))) = inr (e ∙ f, inl (omega arith))
key_trans a b c (inr (e, inr (g, h))) (inr (f, inl k)) = inr (e ∙ f, inl (omega arith))
key_trans a b c (inr (e, inr (g, h))) (inr (f, inr (i, k))) = inr (e ∙ f, inr (g ∙ i, omega arith))

-- no key is below itself
pub key_apart : (a b : EntryKey) → KeyBelow a b → a.kind ≡ b.kind → a.first ≡ b.first → a.second ≡ b.second → ⊥
key_apart a b (inl h) e f g = omega arith
key_apart a b (inr (_, inl h)) e f g = omega arith
key_apart a b (inr (_, inr (_, h))) e f g = omega arith

-- the kind never falls
pub kind_rises : (a b : EntryKey) → KeyBelow a b → a.kind ≤ b.kind
kind_rises a b (inl h) = omega arith
kind_rises a b (inr (e, h)) = omega arith

-- ---- places: place k is that of the resource k / n and the period k % n + 1, where there are n periods
abbrev pub place_key : (kind n k : ℕ) → EntryKey
place_key kind n k = key kind (k / n + 1) (k % n + 1)

pub place_order : (kind n j k : ℕ) → 0 < n → j < k → KeyBelow (place_key kind n j) (place_key kind n k)
place_order kind n j k some h = at (eq-or-lt_of_le rows)
  where
    rows : j / n ≤ k / n
    rows = le-div (j / n) k n some (omega (arith, div-add-mod' j n))

    at : (j / n ≡ k / n) ⊎ (j / n < k / n) → KeyBelow (place_key kind n j) (place_key kind n k)
    at (inl e) =
        let f : j / n * n ≡ k / n * n = ap (λ q. q * n) e in
        inr (refl, inr (ap (λ q. q + 1) e, omega (arith, div-add-mod' j n, div-add-mod' k n, f)))
    at (inr l) = inr (refl, inl (omega (arith, l)))

pub place_row : (n c t : ℕ) → 1 ≤ t → t ≤ n → (c * n + (t - 1)) / n ≡ c
place_row n c t from to = div-mul-add c n (t - 1) (omega arith)

pub place_column : (n c t : ℕ) → 1 ≤ t → t ≤ n → (c * n + (t - 1)) % n + 1 ≡ t
place_column n c t from to = let e = mod-mul-add c n (t - 1) (omega arith) in omega (arith, e)

-- the place of a row and a column
pub place_is : (n k : ℕ) → k / n * n + (k % n + 1 - 1) ≡ k
place_is n k = let e = div-add-mod' k n in omega (arith, e)

pub place_within : (r n k : ℕ) → 0 < n → k < r * n → k / n < r
place_within r n k some h = div_below k n r some h

pub column_within : (n k : ℕ) → 0 < n → k % n + 1 ≤ n
column_within n k some = let e = mod_below k n some in omega (arith, e)

-- a key of a resource and a period is that of their place
pub key_of_place : (kind n c t : ℕ) → 1 ≤ t → t ≤ n → place_key kind n (c * n + (t - 1)) ≡ key kind (c + 1) t
key_of_place kind n c t from to =
    ap (λ q. key kind (q + 1) ((c * n + (t - 1)) % n + 1)) (place_row n c t from to)
    ∙ ap (key kind (c + 1)) (place_column n c t from to)

-- ---- numbers
pub less_one : (n : ℕ) → n + 1 - 1 ≡ n
less_one n = omega arith

pub below_or_not : (m n : ℕ) → (m < n) ⊎ (n ≤ m)
below_or_not zero zero = inr (omega arith)
below_or_not zero (suc n) = inl (omega arith)
below_or_not (suc m) zero = inr (omega arith)
below_or_not (suc m) (suc n) = at (below_or_not m n)
  where
    at : (m < n) ⊎ (n ≤ m) → (suc m < suc n) ⊎ (suc n ≤ suc m)
    at (inl h) = inl (omega arith)
    at (inr h) = inr (omega arith)

-- a table with a place has a column
pub some_columns : (r n k : ℕ) → k < r * n → 0 < n
some_columns r zero k h = absurd (omega (arith, h))
some_columns r (suc n) k h = omega arith
