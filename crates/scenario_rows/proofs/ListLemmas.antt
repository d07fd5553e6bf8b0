-- Lists of scenario sums, and what was read in a list.
use Rattle.std.proofs.Common.{◌≡◌, ℕ, ◌*◌, ◌<◌, ◌≤◌, ◌^◌, ◌∙◌, arith, ℤ, List, length, get_or, All, unsigned_abs}
use Rattle.std.proofs.lemmas.List.{get_or_default}
use Rattle.fixed_num.specs.Sums.{total}
use Rattle.instance_model.specs.Plans.{IsSmallSum}
use Rattle.instance_model.proofs.ScoreSizeLemmas.{total_size}

-- how large the sum of a list of scenario sums can be
pub total_small : (xs : List ℤ) → length xs ≤ 1024 → All IsSmallSum xs → unsigned_abs (total xs) ≤ 1024 * 1024 * 10 ^ 20
total_small xs few all = let r = total_size xs all in omega (arith, r, few)

-- what was read at a place
pub read_at : {X : Type 0} (xs : List X) (i : ℕ) (x : X) → (d : X) → i < length xs
    → x ≡ get_or xs i x → x ≡ get_or xs i d
read_at xs i x d h e = e ∙ get_or_default xs i x d h
