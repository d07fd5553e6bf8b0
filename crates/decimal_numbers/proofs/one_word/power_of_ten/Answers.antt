use Rattle.std.proofs.Common.{◌≡◌, ◌∙◌, ap, refl, ℕ, zero, suc, ◌<◌, List, [], ◌∷◌, get_or, arith, sym}
use Rattle.std.specs.Prelude.{◌*◌, ◌^◌}
use Rattle.std.proofs.Math.Nat.{pow-suc}
use Rattle.decimal_numbers.specs.declared.one_word.TheConstants.{POWERS_OF_TEN}
use Rattle.decimal_numbers.proofs.one_word.power_of_ten.Goals as goal

-- so many powers of ten, from one on
powers : ℕ → ℕ → List ℕ
powers zero v = []
powers (suc n) v = v ∷ powers n (v * 10)

regroup : (v t : ℕ) → v * 10 * t ≡ v * (t * 10)
regroup v t = grind arith

powers_at : (n k v : ℕ) → k < n → get_or (powers n v) k 0 ≡ v * 10 ^ k
unfolding powers
powers_at zero k v h = absurd (omega arith)
powers_at (suc n) zero v h = omega arith
powers_at (suc n) (suc k) v h =
    powers_at n k (v * 10) (omega arith) ∙ regroup v (10 ^ k) ∙ ap (λ z. v * z) (sym (pow-suc 10 k))

table : POWERS_OF_TEN ≡ powers 20 1
unfolding powers
table = refl

pub returns : goal.returns
returns c =
    let f = powers_at 20 c.args.exponent 1 c.requires in
    let g : get_or POWERS_OF_TEN c.args.exponent 0 ≡ get_or (powers 20 1) c.args.exponent 0 =
    ap (λ xs. get_or xs c.args.exponent 0) table in
    omega (arith, f, g)
