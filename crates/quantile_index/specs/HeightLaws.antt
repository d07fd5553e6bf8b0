-- For the law that the bound of a tree's steps does not fall: height limits rise. The lemmas stand here, since what an
-- impl gives as a law may not come from proofs/.
use Rattle.std.proofs.Common.{◌≡◌, ℕ, zero, suc, ◌+◌, ◌*◌, ◌^◌, ◌<◌, ◌≤◌, Bool, true, false, cond, leb, refl, inl, inr}
use Rattle.std.proofs.Common.{arith}
use Rattle.std.proofs.Math.Nat.{mul-le-mul, pow-suc}
use Rattle.std.proofs.lemmas.Bool.{cases_lt, leb-true, leb-false}
use Rattle.quantile_index.specs.HeightLimit.{greatest_exponent, height_limit}

below_power : (n : ℕ) → n < 2 ^ n
below_power zero = omega arith
below_power (suc n) = let h = below_power n in let e = pow-suc 2 n in omega arith

-- one step of the search: what is allowed up to suc f is at most what the search finds
step_greatest : (x f h g : ℕ) (b : Bool) → leb (2 ^ suc f) x ≡ b → 2 ^ h ≤ x → h ≤ suc f
    → (h ≤ f → h ≤ g) → h ≤ cond b (suc f) g
step_greatest x f h g true e p q k = q
step_greatest x f h g false e p q k =
    let above : x < 2 ^ suc f = leb-false (2 ^ suc f) x e in
    elim (cases_lt f h) [
      | inl more ↦ let same : h ≡ suc f = omega arith in let r = rw same at p in absurd (omega arith)
      | inr less ↦ k less
    ]

exponent_greatest : (x f h : ℕ) → 2 ^ h ≤ x → h ≤ f → h ≤ greatest_exponent x f
unfolding greatest_exponent
exponent_greatest x zero h p q = q
exponent_greatest x (suc f) h p q =
    step_greatest x f h (greatest_exponent x f) (leb (2 ^ suc f) x) refl p q (λ r. exponent_greatest x f h p r)

step_allowed : (x f g : ℕ) (b : Bool) → leb (2 ^ suc f) x ≡ b → 2 ^ g ≤ x → 2 ^ (cond b (suc f) g) ≤ x
step_allowed x f g true e p = leb-true (2 ^ suc f) x e
step_allowed x f g false e p = p

exponent_allowed : (x f : ℕ) → 1 ≤ x → 2 ^ greatest_exponent x f ≤ x
unfolding greatest_exponent
exponent_allowed x zero p = p
exponent_allowed x (suc f) p =
    step_allowed x f (greatest_exponent x f) (leb (2 ^ suc f) x) refl (exponent_allowed x f p)

-- a height that the entries allow is at most the limit
pub height_limit_greatest : (h n : ℕ) → 2 ^ h ≤ (n + 1) * (n + 1) → h ≤ height_limit n
unfolding height_limit
height_limit_greatest h n p = exponent_greatest ((n + 1) * (n + 1)) ((n + 1) * (n + 1)) h p (let q = below_power h in
    omega arith)

-- the limit itself is allowed
pub height_limit_allowed : (n : ℕ) → 2 ^ height_limit n ≤ (n + 1) * (n + 1)
unfolding height_limit
height_limit_allowed n =
    let s : 1 * 1 ≤ (n + 1) * (n + 1) =
    mul-le-mul {n₁ = 1} {m₁ = 1} {n₂ = n + 1} {m₂ = n + 1} (omega arith) (omega arith) in
    exponent_allowed ((n + 1) * (n + 1)) ((n + 1) * (n + 1)) (omega arith)

pub height_limit_grows : (m n : ℕ) → m ≤ n → height_limit m ≤ height_limit n
height_limit_grows m n h =
    let s : (m + 1) * (m + 1) ≤ (n + 1) * (n + 1) =
    mul-le-mul {n₁ = m + 1} {m₁ = m + 1} {n₂ = n + 1} {m₂ = n + 1} (omega arith) (omega arith) in
    let a = height_limit_allowed m in
    height_limit_greatest (height_limit m) n (omega arith)

-- the bound of a row that is a tree does not fall
pub tree_bound_grows : (m n : ℕ) → m ≤ n → 4 * height_limit m + 4 ≤ 4 * height_limit n + 4
tree_bound_grows m n h = let g = height_limit_grows m n h in omega arith
