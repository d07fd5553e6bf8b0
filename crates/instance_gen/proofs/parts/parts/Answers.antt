use Rattle.std.proofs.Common.{ℕ, ℤ, ◌/◌, ◌∙◌, ap, false, List, map, length, replicate, string_bytes, Vec, Global}
use Rattle.instance_model.specs.declared.parts.LoadCell.{LoadCell}
use Rattle.instance_gen.specs.Drawing.{Drawn}
use Rattle.instance_gen.proofs.TableLemmas.{tables_from}
use Rattle.instance_gen.proofs.parts.parts.Goals as goal

pub returns : goal.returns
returns c =
    let inside = c.draws.inside in
    let drawn : Drawn = record {
      source = inside.source;
      delta = map (λ (v : Vec ℕ Global). v.items) inside.delta.items;
      loads = map (λ (v : Vec LoadCell Global). v.items) inside.loads.items;
      risks = inside.risks.items;
    } in
    let names = c.in_ok-names.names in
    let levels = c.in_ok-levels.levels in
    record {
      tables = tables_from c.args.seed c.args.n drawn levels.scenarios.items
          (map string_bytes names.resources.texts.keys)
          (map string_bytes names.seasons.texts.keys) (map string_bytes names.interventions.texts.keys)
          (map string_bytes names.exclusions.texts.keys) levels.upper.items levels.lower.items levels.in_season.items
          levels.excluded.items c.in_ok-soft.soft.items (c.draws.view_is ∙ c.in_ok-draws.ensures)
          c.in_ok-levels.ensures.scenarios c.in_ok-names.ensures.resources c.in_ok-names.ensures.seasons
          c.in_ok-names.ensures.interventions c.in_ok-names.ensures.exclusions c.in_ok-levels.ensures.upper
          c.in_ok-levels.ensures.lower c.in_ok-levels.ensures.in_season c.in_ok-levels.ensures.excluded
          (c.in_ok-soft.ensures.items_if_clones_equal (λ y e. e)
          ∙ ap (λ (zs : List ℤ). replicate (length zs / 8) false) c.as_slice.ensures.value);
    }
