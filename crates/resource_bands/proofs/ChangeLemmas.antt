-- Loads by period and resource, and how a run changes them.
use Rattle.std.proofs.Common.{◌≡◌, ℕ, ◌+◌, ◌-◌, ◌*◌, ◌<◌, ◌≤◌, ◌∙◌, refl, sym, ap, arith, ℤ, pos, ◌+ℤ◌, ◌-ℤ◌}
use Rattle.std.proofs.Common.{List, [], length, get_or, set, unsigned_abs}
use Rattle.std.specs.Int.{int_max}
use Rattle.fixed_num.specs.Sums.{sum_below}
use Rattle.fixed_num.proofs.SumLemmas.{sum_below_more, sum_below-set, abs-sum}
use Rattle.fixed_num.proofs.SignedLemmas.{signed_arith}
use Rattle.instance_model.specs.Tables.{Tables, upper_of, lower_of}
use Rattle.resource_bands.specs.Gaps.{gap_at, row_gap, rows_gap}

-- one step of a loop that adds up: the sum so far, what is added, and the new sum
pub sum_more : (n : ℕ) (f : ℕ → ℤ) (s r t : ℤ) → s ≡ sum_below n f → r ≡ f n → t ≡ s +ℤ r → t ≡ sum_below (n + 1) f
sum_more n f s r t e d p = p ∙ ap (λ x. x +ℤ r) e ∙ ap (λ x. sum_below n f +ℤ x) d ∙ sym (sum_below_more n f)

pub small_more : (n b : ℕ) (s r t : ℤ) → unsigned_abs s ≤ n * b → unsigned_abs r ≤ b → t ≡ s +ℤ r
    → unsigned_abs t ≤ (n + 1) * b
small_more n b s r t h k p = rw p (omega (arith, abs-sum s r, h, k))

-- how far a load is outside its limits, from its two parts
pub gap_at-parts : (inst : Tables) (c t : ℕ) (load upper lower above below gap : ℤ) → upper ≡ upper_of inst c t
    → lower ≡ lower_of inst c t → above ≡ int_max (pos 0) (load -ℤ upper) → below ≡ int_max (pos 0) (lower -ℤ load)
    → gap ≡ above +ℤ below → gap ≡ gap_at inst c t load
unfolding gap_at
gap_at-parts inst c t load upper lower above below gap u l a b g = rw (g, a, b, u, l) refl

-- one load of a row is changed
pub row_gap-set : (inst : Tables) (c t : ℕ) (row : List ℤ) (load : ℤ) → length row ≡ inst.periods → 1 ≤ t
    → t ≤ inst.periods → row_gap inst c (set row (t - 1) load) ≡ row_gap inst c row +ℤ (gap_at inst c t load
    -ℤ gap_at inst c t (get_or row (t - 1) (pos 0)))
unfolding row_gap
row_gap-set inst c t row load each one few =
    let d : t - 1 + 1 ≡ t = omega arith in
    rw d at (sum_below-set inst.periods (t - 1) row load (pos 0) (λ u x. gap_at inst c (u + 1) x)
    (omega arith) (omega (arith, each)))

-- ---- all rows, resource by resource
pub rows_gap-set : (inst : Tables) (c : ℕ) (rows : List (List ℤ)) (row : List ℤ)
    → length rows ≡ length inst.resource_names → c < length inst.resource_names
    → rows_gap inst (set rows c row) ≡ rows_gap inst rows +ℤ (row_gap inst c row -ℤ row_gap inst c (get_or rows c []))
unfolding rows_gap
rows_gap-set inst c rows row each l =
    sum_below-set (length inst.resource_names) c rows row [] (row_gap inst) l (omega (arith, each))

pub rows_gap-more : (inst : Tables) (c : ℕ) (rows : List (List ℤ)) (row : List ℤ) (start further r t : ℤ)
    → length rows ≡ length inst.resource_names → c < length inst.resource_names
    → row_gap inst c row ≡ row_gap inst c (get_or rows c []) +ℤ r → rows_gap inst rows ≡ start +ℤ further
    → t ≡ further +ℤ r → rows_gap inst (set rows c row) ≡ start +ℤ t
rows_gap-more inst c rows row start further r t each l p q d =
    rw (rows_gap-set inst c rows row each l, p, q, d) (omega (arith, signed_arith))
