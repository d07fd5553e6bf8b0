-- Defines the tables of the instance of a file: each entry is looked up in the text by its keys.
use Rattle.std.specs.Prelude.{ℕ, zero, suc, ◌+◌, ℤ, ◌+ℤ◌, ◌-ℤ◌, Bool, true, false, ◌&&◌, ◌||◌, ◌==◌, List, [], ◌∷◌}
use Rattle.std.specs.Prelude.{◌++◌, Option, Some, None, cond, bytes_eq, map, unwrap_or, slice_index, slice_index_or}
use Rattle.std.specs.Prelude.{length, is_some, position}
use Rattle.instance_model.specs.declared.parts.LoadCell.{LoadCell}
use Rattle.instance_model.specs.declared.parts.Exclusion.{Exclusion}
use Rattle.instance_model.specs.Tables.{Tables, allowed_of}
use Rattle.json_grammar.specs.Tree.{Tree, tree, Node}
use Rattle.instance_shape.specs.declared.fault.Known.TheVariants as is
use Rattle.instance_shape.specs.declared.spot.Spot.TheVariants as spot
use Rattle.instance_shape.specs.declared.spot.Kind.{Kind}
use Rattle.instance_shape.specs.declared.spot.Kind.TheVariants as kind
use Rattle.instance_shape.specs.LookUp.{Entry, elements, entries, keys, known, whole_at, text_at, count_at, differs_at}
use Rattle.instance_shape.specs.LookUp.{part_at, periods, scenarios, interventions, durations, risk_list, workload}
use Rattle.instance_shape.specs.Shape.{Placed, placed, kind_of}

-- the lists f 0, f 1, .. one after another
abbrev pub lists_below : {A : Type 0} → ℕ → (ℕ → List A) → List A
lists_below zero f = []
lists_below (suc n) f = lists_below n f ++ f n

-- something for each intervention, allowed start and period of its run, in this order
abbrev pub each_run : {A : Type 0} → Tree → (Tree → ℕ → ℕ → List A) → Tree → List A
each_run root f v =
    lists_below (length (durations v)) (λ k.
    cond (allowed_of (periods root) (durations v) (k + 1))
    (lists_below (slice_index (durations v) k) (λ j. f v (k + 1) (k + 1 + j)))
    [])

-- the lists that the values under some keys give, one after another
abbrev pub all_below : {A : Type 0} → List Entry → (Tree → List A) → List A
all_below [] f = []
all_below (e ∷ es) f = f e.value ++ all_below es f

-- the risks of an intervention at start s in period t, by scenario
abbrev pub risks_at : Tree → ℕ → ℕ → List ℤ
risks_at v s t = map count_at (unwrap_or (risk_list v t s) [])

-- one of some numbers differs from its count
abbrev pub some_differs : List Tree → Bool
some_differs [] = false
some_differs (t ∷ ts) = differs_at t || some_differs ts

-- whether at least one of the risks at start s in period t differs from its count
abbrev pub soft_at : Tree → ℕ → ℕ → List Bool
soft_at v s t = some_differs (unwrap_or (risk_list v t s) []) ∷ []

-- the load cell of an entry, where there is one
abbrev pub cell_of : ℕ → ℕ → ℕ → Option Tree → List LoadCell
cell_of s t c None = []
cell_of s t c (Some x) = record { start = s; period = t; resource = c; load = count_at x } ∷ []

-- a load cell for each workload entry of the file at start s in period t, in the order of the resources
abbrev pub cells_at : Tree → Tree → ℕ → ℕ → List LoadCell
cells_at root v s t =
    let names = keys (known is.Resources root) in
    lists_below (length names) (λ c. cell_of s t c (workload v (slice_index_or names c []) t s))

-- the number of a name among some names, from 0
abbrev pub number_among : List (List ℕ) → List ℕ → ℕ
number_among names name = unwrap_or (position (bytes_eq name) names) 0

-- the k-th text of an exclusion, from 0
abbrev pub word : Tree → ℕ → List ℕ
word e k = text_at (slice_index_or (elements e) k (tree 0 0 Node.null))

-- the exclusion of a file's entry
abbrev pub exclusion : Tree → Tree → Exclusion
exclusion root e = record {
  first = number_among (keys (known is.Interventions root)) (word e 0);
  second = number_among (keys (known is.Interventions root)) (word e 1);
  season = number_among (keys (known is.Seasons root)) (word e 2);
}

-- whether period u + 1 is one of a season's
abbrev pub in_season : Tree → ℕ → List Bool
in_season q u = is_some (position (λ n. n == u + 1) (map whole_at (elements q))) ∷ []

-- a kind of value that is read as a count
abbrev pub is_count : Kind → Bool
is_count kind.Count = true
is_count _ = false

-- how many numbers that are read as counts differ from them
abbrev pub rounded : List Placed → ℕ
rounded [] = 0
rounded (p ∷ ps) = cond (is_count (kind_of p.spot) && differs_at p.tree) 1 0 + rounded ps

-- the tables of the instance of a file: each upper limit is raised and each lower limit lowered by the slack, in
-- 10^-12; there is a load cell for each workload entry that isn't ignored, and no other
abbrev pub tables : ℤ → Tree → Tables
tables slack root = record {
  periods = periods root;
  alpha = part_at (known is.Alpha root);
  quantile = part_at (known is.Quantile root);
  scenarios = scenarios root;
  resource_names = keys (known is.Resources root);
  upper =
      all_below (entries (known is.Resources root)) (λ r. map (λ t. count_at t +ℤ slack) (elements (known is.Max r)));
  lower =
      all_below (entries (known is.Resources root)) (λ r. map (λ t. count_at t -ℤ slack) (elements (known is.Min r)));
  season_names = keys (known is.Seasons root);
  in_season = all_below (entries (known is.Seasons root)) (λ q. lists_below (periods root) (in_season q));
  names = keys (known is.Interventions root);
  delta = map (λ i. durations i.value) (interventions root);
  exclusion_names = keys (known is.Exclusions root);
  excluded = map (λ e. exclusion root e.value) (entries (known is.Exclusions root));
  loads = map (λ i. each_run root (cells_at root) i.value) (interventions root);
  risks = all_below (interventions root) (each_run root risks_at);
  soft = all_below (interventions root) (each_run root soft_at);
  rounded = rounded (placed spot.Root root);
}
