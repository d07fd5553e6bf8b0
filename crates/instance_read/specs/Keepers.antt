-- What a keeper has kept. Not part of any promise: only private functions cite it.
use Rattle.std.specs.Prelude.{ℕ, List, [], String, map, string_bytes, string_eq}
use Rattle.indexmap.specs.IndexSet.{insert_all}
use Rattle.instance_rows.specs.Views.{band_view, workload_view, work_view}
use Rattle.instance_read.specs.Keeping.{Kept}
use Rattle.instance_read.specs.declared.keeper.Keeper.{Keeper}

-- the names of a kind, each where it came first
abbrev pub names_kept : {Y : Type 0} → List (String Y) → List (List ℕ)
names_kept names = map string_bytes (insert_all string_eq [] names)

abbrev pub kept_of : Keeper → Kept
kept_of k = record {
  periods = k.rows.periods;
  alpha = k.rows.alpha;
  quantile = k.rows.quantile;
  scenarios = k.rows.scenarios.items;
  resources = names_kept k.names.resources.items;
  bands = record { closed = map band_view k.rows.bands.items; begun = band_view k.bands; numbers = k.numbers.items };
  seasons = names_kept k.names.seasons.items;
  season_periods = record { closed = map (λ v. v.items) k.rows.season_periods.items; begun = k.season.items };
  interventions = names_kept k.names.interventions.items;
  works = record {
    closed = map work_view k.rows.works.items;
    begun = work_view k.work;
    workload = workload_view k.workload;
    period = k.period;
    start = k.start;
  };
  exclusions = names_kept k.names.exclusions.items;
  exclusion_words = record {
    closed = map (λ v. map string_bytes v.items) k.rows.exclusion_words.items;
    begun = map string_bytes k.words.items;
  };
  rounded = k.rows.rounded;
}
