-- Boxes: an interval of starts for each intervention.
use Rattle.std.specs.Prelude.{◌≡◌, ℕ, ◌+◌, ◌-◌, ◌<◌, ◌≤◌, List, length, map, filter, Some, slice_index, slice_index_or}
use Rattle.std.specs.List.{range_with_len}
use Rattle.instance_model.specs.Tables.{Tables, tmax, is_allowed}
use Rattle.instance_model.specs.Rules.{IsFeasible}
use Rattle.lagrange_bound.specs.declared.span.Span.{Span}

-- the interval of intervention i
abbrev pub span_of : List Span → ℕ → Span
span_of box i = slice_index_or box i (record { from = 0; to = 0 })

-- one interval for each intervention, each within 1 to tmax
pub record IsBox (inst : Tables) (box : List Span) : Type 0 where
  pub each : length box ≡ length inst.names
  pub from : (i : ℕ) → i < length inst.names → 1 ≤ (span_of box i).from
  pub order : (i : ℕ) → i < length inst.names → (span_of box i).from ≤ (span_of box i).to
  pub to : (i : ℕ) → i < length inst.names → (span_of box i).to ≤ tmax inst i

-- the allowed starts of an interval
unfoldable pub starts_in : Tables → ℕ → Span → List ℕ
starts_in inst i span = filter (is_allowed inst i) (range_with_len span.from (span.to + 1 - span.from))

-- each interval has an allowed start
abbrev pub HasStarts : Tables → List Span → Type 0
HasStarts inst box = (i : ℕ) → i < length inst.names → 0 < length (starts_in inst i (span_of box i))

-- a feasible plan whose starts lie in the box
pub record IsPlanIn (inst : Tables) (box : List Span) (starts : List ℕ) : Type 0 where
  pub each : length starts ≡ length inst.names
  pub feasible : IsFeasible inst (map Some starts)
  pub from : (i : ℕ) → i < length inst.names → (span_of box i).from ≤ slice_index starts i
  pub to : (i : ℕ) → i < length inst.names → slice_index starts i ≤ (span_of box i).to
