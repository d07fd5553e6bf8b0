-- Broken exclusions of a list of starts, and which exclusions name an intervention.
use Rattle.std.specs.Prelude.{ℕ, Bool, false, ◌||◌, ◌==◌, List, length, map, Some, is_some, slice_index_or}
use Rattle.std.specs.Prelude.{if◌then◌else◌}
use Rattle.std.specs.List.{filter, range_with_len}
use Rattle.instance_model.specs.declared.parts.Exclusion.{Exclusion}
use Rattle.instance_model.specs.Naturals.{count_sum}
use Rattle.instance_model.specs.Tables.{Tables, exclusion_of}
use Rattle.instance_model.specs.Rules.{clash_rule_at}

-- exclusion e is broken
abbrev pub is_broken : Tables → List ℕ → ℕ → Bool
is_broken inst starts e = is_some (clash_rule_at inst (map Some starts) e)

-- an exclusion names intervention i
abbrev pub is_named : Exclusion → ℕ → Bool
is_named exclusion i = (exclusion.first == i) || (exclusion.second == i)

-- those of the first n exclusions that name intervention i, each once
unfoldable pub naming_to : Tables → ℕ → ℕ → List ℕ
naming_to inst n i = filter (λ e. is_named (exclusion_of inst e) i) (range_with_len 0 n)

-- the exclusions that name intervention i
abbrev pub naming_of : Tables → ℕ → List ℕ
naming_of inst i = naming_to inst (length inst.exclusion_names) i

-- how many of the flags are set
unfoldable pub count_set : List Bool → ℕ
count_set flags = count_sum (length flags) (λ e. if slice_index_or flags e false then 1 else 0)
