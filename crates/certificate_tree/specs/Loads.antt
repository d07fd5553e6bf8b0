-- The least and the greatest load of a box.
use Rattle.std.specs.Prelude.{ℕ, ℤ, pos, List, [], ◌∷◌, length, map, fold, Some}
use Rattle.std.specs.Int.{int_max}
use Rattle.fixed_num.specs.Sums.{sum_below}
use Rattle.instance_model.specs.Tables.{Tables}
use Rattle.instance_model.specs.Plans.{load_at}
use Rattle.lagrange_bound.specs.declared.span.Span.{Span}
use Rattle.lagrange_bound.specs.Least.{least_over}
use Rattle.lagrange_bound.specs.Boxes.{span_of, starts_in}

-- the greatest of f over the places: 0 where there is none
unfoldable pub greatest_over : (ℕ → ℤ) → List ℕ → ℤ
greatest_over f [] = pos 0
greatest_over f (k ∷ ks) = fold int_max (f k) (map f ks)

-- the load of resource c in period t by start: 0 where the run doesn't hold t
abbrev pub load_by_start : Tables → ℕ → ℕ → ℕ → ℕ → ℤ
load_by_start inst c t i s = load_at inst c t i (Some s)

-- the sum of the least loads of resource c in period t over the allowed starts of each interval
unfoldable pub least_load : Tables → List Span → ℕ → ℕ → ℤ
least_load inst box c t =
    sum_below (length inst.names) (λ i. least_over (load_by_start inst c t i) (starts_in inst i (span_of box i)))

-- the sum of the greatest ones
unfoldable pub greatest_load : Tables → List Span → ℕ → ℕ → ℤ
greatest_load inst box c t =
    sum_below (length inst.names) (λ i. greatest_over (load_by_start inst c t i) (starts_in inst i (span_of box i)))
