-- Defines which rows Rust's rows are, and when they are those of a text.
use Rattle.std.specs.Prelude.{◌≡◌, [], map, string_bytes}
use Rattle.json_grammar.specs.Tree.{Tree}
use Rattle.instance_model.specs.declared.limits.Limits.{Limits}
use Rattle.instance_shape.specs.Ranges.{AreStandard}
use Rattle.instance_shape.specs.ShapeFaults.{shape_faults}
use Rattle.instance_rows.specs.declared.rows.Bands.{Bands}
use Rattle.instance_rows.specs.declared.rows.Load.{Load}
use Rattle.instance_rows.specs.declared.rows.Workload.{Workload}
use Rattle.instance_rows.specs.declared.rows.Work.{Work}
use Rattle.instance_rows.specs.declared.rows.FileRows as declared
use Rattle.instance_rows.specs.FileRows.{BandRow, LoadRow, WorkloadRow, WorkRow, FileRows, rows_of}

abbrev pub band_view : Bands → BandRow
band_view b = record { most = b.most.items; least = b.least.items }

abbrev pub load_view : Load → LoadRow
load_view l = record { period = l.period; start = l.start; load = l.load }

abbrev pub workload_view : Workload → WorkloadRow
workload_view w = record { resource = string_bytes w.resource; loads = map load_view w.loads.items }

abbrev pub work_view : Work → WorkRow
work_view w = record {
  tmax = w.tmax;
  durations = w.durations.items;
  workloads = map workload_view w.workloads.items;
  risks = w.risks;
}

abbrev pub rows_view : declared.FileRows → FileRows
rows_view r = record {
  periods = r.periods;
  alpha = r.alpha;
  quantile = r.quantile;
  scenarios = r.scenarios.items;
  resources = map string_bytes r.resources.texts.keys;
  bands = map band_view r.bands.items;
  seasons = map string_bytes r.seasons.texts.keys;
  season_periods = map (λ v. v.items) r.season_periods.items;
  interventions = map string_bytes r.interventions.texts.keys;
  works = map work_view r.works.items;
  exclusions = map string_bytes r.exclusions.texts.keys;
  exclusion_words = map (λ v. map string_bytes v.items) r.exclusion_words.items;
  rounded = r.rounded;
}

-- these are the rows of a text that has no fault of shape, under limits that are at most the standard ones
pub record AreRowsOf (limits : Limits) (root : Tree) (rows : declared.FileRows) : Type 0 where
  pub shaped : shape_faults limits root ≡ []
  pub standard : AreStandard limits
  pub same : rows_view rows ≡ rows_of root
