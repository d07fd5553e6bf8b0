use Rattle.std.proofs.Common.{◌≡◌, ℕ, ◌<◌, ◌*◌, List, [], ◌∷◌, ◌++◌, Vec, Global, Option, length, take, sym, ◌∙◌, ap}
use Rattle.std.proofs.Common.{subst, arith}
use Rattle.std.proofs.lemmas.List.{length-take-le}
use Rattle.instance_model.specs.RiskLists.{RiskRow}
use Rattle.instance_rows.specs.Grid.{HasPlaces}
use Rattle.instance_model.specs.RiskLists.{list_view}
use Rattle.instance_rows.proofs.GridLemmas.{grid_in, grid_out, length-filled}
use Rattle.instance_rows.proofs.Turns.{taken_more}
use Rattle.instance_rows.proofs.grid.Grid.of.Goals as goal
use Rattle.instance_rows.proofs.grid.Grid.of.Goals.{in-Some, in_default}

pub loop-k-preserved : goal.loop-k-preserved
loop-k-preserved c =
    let rs = c.args.lists.now in let k = c.loop-k.k in let r = list_view c.list-list.result in
    let l : k < length rs = omega (arith, c.loop-k-test.true, c.len-k-end.ensures) in
    let more = taken_more rs k r l (c.list-list.ensures r) in
    let size : length c.match-place_in.places.items ≡ c.args.starts * c.args.periods =
    elim c.match-place_in.branch [
      | in-Some w ↦ ap (λ (v : Vec (Option ℕ) Global). length v.items) w.places-is ∙ ap length w.fill.ensures
          ∙ length-filled c.loop-k.places.items w.in-Some.place k ∙ c.loop-k.invariant.size
      | in_default w ↦ ap (λ (v : Vec (Option ℕ) Global). length v.items) w.places-is ∙ c.loop-k.invariant.size
    ] in
    record {
      size = size;
      places =
          subst (λ (q : List RiskRow). HasPlaces c.args.starts c.args.periods c.match-place_in.places.items q)
          (sym more)
          (elim c.match-place_in.branch [
            | in-Some w ↦
                subst (λ (v : List (Option ℕ)). HasPlaces c.args.starts c.args.periods v (take k rs ++ r ∷ []))
                (sym (ap (λ (v : Vec (Option ℕ) Global). v.items) w.places-is ∙ w.fill.ensures))
                (grid_in c.args.starts c.args.periods c.loop-k.places.items (take k rs) r w.in-Some.place k
                (record {
                  start = w.in-Some.ensures.ranges.0;
                  to = w.in-Some.ensures.ranges.1;
                  period = w.in-Some.ensures.ranges.2;
                  last = w.in-Some.ensures.ranges.3;
                  place_is = w.in-Some.ensures.value;
                })
                (omega (arith, w.in-Some.ensures.within, c.loop-k.invariant.size)) (omega (arith, length-take-le k rs))
                c.loop-k.invariant.places)
            | in_default w ↦
                subst (λ (v : Vec (Option ℕ) Global). HasPlaces c.args.starts c.args.periods v.items
                (take k rs ++ r ∷ [])) (sym w.places-is)
                (grid_out c.args.starts c.args.periods c.loop-k.places.items (take k rs) r w.in_default.ensures.none
                c.loop-k.invariant.places)
          ]);
    }
