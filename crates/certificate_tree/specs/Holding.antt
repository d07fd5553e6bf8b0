-- When a leaf holds on its box.
use Rattle.std.specs.Prelude.{◌≡◌, ℕ, zero, suc, ◌<◌, ◌≤◌, ℤ, ◌<ℤ◌, ◌≤ℤ◌, List, length, map, Some, IsTrue}
use Rattle.std.specs.Prelude.{slice_index_or}
use Rattle.instance_model.specs.Tables.{Tables, in_run, upper_of, lower_of, in_season_of, exclusion_of}
use Rattle.instance_model.specs.Rules.{IsFeasible}
use Rattle.duration_calendar.specs.Calendar.{IsAllowedIn}
use Rattle.lagrange_bound.specs.declared.span.Span.{Span}
use Rattle.lagrange_bound.specs.Prices.{PriceList, zero_list}
use Rattle.lagrange_bound.specs.Goals.{Bases, PlanValue}
use Rattle.lagrange_bound.specs.Boxes.{span_of, HasStarts}
use Rattle.lagrange_bound.specs.Worth.{worth_of}
use Rattle.certificate_lines.specs.declared.line.Bound.{Bound}
use Rattle.certificate_lines.specs.declared.line.Bound.TheVariants.{NoPlan, Least}
use Rattle.certificate_lines.specs.declared.line.Side.{Side}
use Rattle.certificate_lines.specs.declared.line.Side.TheVariants.{Over, Under}
use Rattle.certificate_tree.specs.declared.node.Node.{Node}
use Rattle.certificate_tree.specs.declared.node.Node.TheVariants.{Split, Cost, Point, Band, Excl, Empty}
use Rattle.certificate_tree.specs.Loads.{least_load, greatest_load}

-- the bound is a number, and z is at least it
abbrev pub IsAtLeast : Bound → ℤ → Type 0
IsAtLeast NoPlan z = ⊥
IsAtLeast (Least b) z = b ≤ℤ z

-- s is an allowed start of the interval of i
abbrev pub IsStartIn : Tables → List Span → ℕ → ℕ → Type 0
IsStartIn inst box i s = IsAllowedIn inst i (span_of box i).from (span_of box i).to s

-- ---- cost

-- price list j of a certificate, where list 0 is the list of zeros
unfoldable pub list_at : Tables → List PriceList → ℕ → PriceList
list_at inst lists zero = zero_list inst
list_at inst lists (suc j) = slice_index_or lists j (zero_list inst)

-- the worth of a box by the number of a price list
abbrev pub Worths : Type 0
Worths = List Span → ℕ → ℤ

-- that by the lists of a certificate
abbrev pub worth_by : Bases → Tables → List PriceList → Worths
worth_by base inst lists box j = worth_of (base inst (list_at inst lists j)) inst (list_at inst lists j) box

-- of the numbers 0 to n, j has the greatest worth, and is the least of those that have it
pub record IsGreatest (worths : ℕ → ℤ) (n j : ℕ) : Type 0 where
  pub number : j ≤ n
  pub greatest : (k : ℕ) → k ≤ n → worths k ≤ℤ worths j
  pub least : (k : ℕ) → k < j → worths k <ℤ worths j

-- each interval has an allowed start, and the worth by list j is at least the bound
pub record CostHolds (inst : Tables) (bound : Bound) (worths : Worths) (box : List Span) (j : ℕ) : Type 0 where
  pub starts : HasStarts inst box
  pub worth : IsAtLeast bound (worths box j)

-- ---- point

-- each interval is a single start
abbrev pub IsSingle : List Span → Type 0
IsSingle box = (i : ℕ) → i < length box → (span_of box i).from ≡ (span_of box i).to

-- the first start of each interval
abbrev pub first_starts : List Span → List ℕ
first_starts box = map (λ span. span.from) box

-- each interval is a single start, and if the plan of these starts is feasible, its value is at least the bound
pub record PointHolds (value : PlanValue) (inst : Tables) (bound : Bound) (box : List Span) : Type 0 where
  pub single : IsSingle box
  pub bounded : IsFeasible inst (map Some (first_starts box)) → IsAtLeast bound (value inst (first_starts box))

-- ---- band

-- the least load of the box is above the upper limit, or its greatest one below the lower limit
abbrev pub IsOffLimit : Tables → List Span → ℕ → ℕ → Side → Type 0
IsOffLimit inst box c t Over = upper_of inst c t <ℤ least_load inst box c t
IsOffLimit inst box c t Under = greatest_load inst box c t <ℤ lower_of inst c t

-- each interval has an allowed start, and whatever they are, the load of resource c in period t is off that limit
pub record BandHolds (inst : Tables) (box : List Span) (c t : ℕ) (side : Side) : Type 0 where
  pub starts : HasStarts inst box
  pub load : IsOffLimit inst box c t side

-- ---- excl

-- the runs of i at s and of j at r meet in period t of season q
pub record RunsMeet (inst : Tables) (q i s j r t : ℕ) : Type 0 where
  pub from : 1 ≤ t
  pub to : t ≤ inst.periods
  pub season : IsTrue (in_season_of inst q t)
  pub first : IsTrue (in_run inst i s t)
  pub second : IsTrue (in_run inst j r t)

-- each pair of allowed starts, one of each of the two interventions of exclusion e, meets in a period of its season
abbrev pub ExclHolds : Tables → List Span → ℕ → Type 0
ExclHolds inst box e =
    (s r : ℕ) → IsStartIn inst box (exclusion_of inst e).first s → IsStartIn inst box (exclusion_of inst e).second r
    → (t : ℕ)
    × RunsMeet inst (exclusion_of inst e).season (exclusion_of inst e).first s (exclusion_of inst e).second r t

-- ---- empty

-- the interval of i has no allowed start
abbrev pub EmptyHolds : Tables → List Span → ℕ → Type 0
EmptyHolds inst box i = (s : ℕ) → ¬ IsStartIn inst box i s

-- ---- all leaves

-- a leaf holds on its box, for a goal's values and the worths of boxes
abbrev pub LeafHolds : PlanValue → Tables → Bound → Worths → List Span → Node → Type 0
LeafHolds value inst bound worths box (Split i m) = ⊥
LeafHolds value inst bound worths box (Cost j) = CostHolds inst bound worths box j
LeafHolds value inst bound worths box Point = PointHolds value inst bound box
LeafHolds value inst bound worths box (Band c t side) = BandHolds inst box c t side
LeafHolds value inst bound worths box (Excl e) = ExclHolds inst box e
LeafHolds value inst bound worths box (Empty i) = EmptyHolds inst box i
