-- The least or the greatest load, by the side of a band. Cited by private functions only: no part of any promise.
use Rattle.std.specs.Prelude.{ℕ, ℤ, List, [], ◌∷◌, length, Option, Some, None}
use Rattle.std.specs.Int.{int_min, int_max}
use Rattle.fixed_num.specs.Sums.{sum_below}
use Rattle.instance_model.specs.Tables.{Tables}
use Rattle.lagrange_bound.specs.declared.span.Span.{Span}
use Rattle.lagrange_bound.specs.Least.{least_over}
use Rattle.lagrange_bound.specs.Boxes.{span_of, starts_in}
use Rattle.certificate_lines.specs.declared.line.Side.{Side}
use Rattle.certificate_lines.specs.declared.line.Side.TheVariants.{Over, Under}
use Rattle.certificate_tree.specs.Loads.{greatest_over, load_by_start}

-- the less of two for loads that are to be over their limit, the greater for those that are to be under it
abbrev pub extreme : Side → ℤ → ℤ → ℤ
extreme Over a b = int_min a b
extreme Under a b = int_max a b

-- that of some or none and one more
abbrev pub extreme_with : Side → Option ℤ → ℤ → ℤ
extreme_with side None b = b
extreme_with side (Some a) b = extreme side a b

-- that of f over the places
abbrev pub extreme_over : Side → (ℕ → ℤ) → List ℕ → ℤ
extreme_over Over f ks = least_over f ks
extreme_over Under f ks = greatest_over f ks

-- none where there is no place
abbrev pub some_extreme : Side → (ℕ → ℤ) → List ℕ → Option ℤ
some_extreme side f [] = None
some_extreme side f (k ∷ ks) = Some (extreme_over side f (k ∷ ks))

-- the sum of the loads of resource c in period t, over the allowed starts of each interval
abbrev pub extreme_load : Tables → List Span → ℕ → ℕ → Side → ℤ
extreme_load inst box c t side =
    sum_below (length inst.names) (λ i. extreme_over side (load_by_start inst c t i) (starts_in inst i (span_of box i)))
