use Rattle.std.proofs.Common.{arith, ◌≡◌, ℕ, ◌∙◌, ap, sym, subst, List, [], ◌∷◌, ◌++◌, map, length, All, Vec, Global}
use Rattle.std.proofs.lemmas.List.{map-append}
use Rattle.instance_model.specs.declared.parts.LoadCell.{LoadCell}
use Rattle.instance_gen.specs.Drawing.{Durations, Runs, Drawn, with_intervention, with_starts}
use Rattle.instance_gen.proofs.StepLemmas.{intervention-from}
use Rattle.instance_gen.proofs.DurationLemmas.{IsShort, length-drawn_durations, drawn_durations-short}
use Rattle.instance_gen.proofs.DurationLemmas.{short-at}
use Rattle.instance_gen.proofs.draws.with_intervention.Goals as goal

pub draw_starts-requires-clause-few : goal.draw_starts-requires-clause-few
draw_starts-requires-clause-few c =
    let drawn : length c.in_ok-durations.durations.items ≡ 50 =
    ap (λ (d : Durations). length d.durations) c.in_ok-durations.ensures.drawn
    ∙ length-drawn_durations c.draws.inside.source in
    let same = ap (λ (ds : List ℕ). length ds) c.as_slice.ensures.value in
    omega (arith, same)

pub draw_starts-requires-clause-short : goal.draw_starts-requires-clause-short
draw_starts-requires-clause-short c =
    λ k.
    let short = subst (λ (d : Durations). All IsShort d.durations) (sym c.in_ok-durations.ensures.drawn)
    (drawn_durations-short c.draws.inside.source) in
    let here = short-at c.as_slice.result.now
    (subst (λ (ds : List ℕ). All IsShort ds) (sym c.as_slice.ensures.value) short) k in
    omega (arith, here)

pub returns : goal.returns
returns c =
    let inside = c.draws.inside in
    let before : Drawn = record {
      source = inside.source;
      delta = map (λ (v : Vec ℕ Global). v.items) inside.delta.items;
      loads = map (λ (v : Vec LoadCell Global). v.items) inside.loads.items;
      risks = inside.risks.items;
    } in
    let row = c.in_ok-durations.durations in
    let first : Durations = record { source = c.durations.new.source; durations = row.items } in
    let runs = c.draw_starts.new.self in
    let many : length row.items ≡ 50 =
    ap (λ (d : Durations). length d.durations) c.in_ok-durations.ensures.drawn
    ∙ length-drawn_durations inside.source in
    let starts : runs ≡ with_starts row.items 50
    (record { source = first.source; cells = []; risks = before.risks }) =
    c.in_ok-draw_starts.ensures
    ∙ ap (λ (ds : List ℕ). with_starts ds (length ds)
    (record { source = first.source; cells = c.new.result.items; risks = before.risks })) c.as_slice.ensures.value
    ∙ ap (λ (n : ℕ). with_starts row.items n
    (record { source = first.source; cells = c.new.result.items; risks = before.risks })) many
    ∙ ap (λ (cells : List LoadCell). with_starts row.items 50
    (record { source = first.source; cells = cells; risks = before.risks })) c.new.ensures.items in
    let delta : map (λ (v : Vec ℕ Global). v.items) c.push.new.self.items ≡ before.delta ++ row.items ∷ [] =
    ap (map (λ (v : Vec ℕ Global). v.items)) c.in_ok-push.ensures.items
    ∙ map-append (λ (v : Vec ℕ Global). v.items) inside.delta.items (row ∷ []) in
    let loads : map (λ (v : Vec LoadCell Global). v.items) c.push-2.new.self.items ≡ before.loads ++ runs.cells ∷ [] =
    ap (map (λ (v : Vec LoadCell Global). v.items)) c.in_ok-push-2.ensures.items
    ∙ map-append (λ (v : Vec LoadCell Global). v.items) inside.loads.items (c.runs.inside.cells ∷ [])
    ∙ ap (λ (r : Runs). before.loads ++ r.cells ∷ []) c.runs.view_is in
    let joined = intervention-from before first runs c.in_ok-durations.ensures.drawn starts in
    let made : List (List ℕ) → List (List LoadCell) → Runs → Drawn = λ x y r. record {
      source = r.source;
      delta = x;
      loads = y;
      risks = r.risks;
    } in
    let seen : Runs = record {
      source = c.runs.inside.source;
      cells = c.runs.inside.cells.items;
      risks = c.runs.inside.risks.items;
    } in
    ap (λ (x : List (List ℕ)). made x (map (λ (v : Vec LoadCell Global). v.items) c.push-2.new.self.items) seen) delta
    ∙ ap (λ (y : List (List LoadCell)). made (before.delta ++ row.items ∷ []) y seen) loads
    ∙ ap (made (before.delta ++ row.items ∷ []) (before.loads ++ runs.cells ∷ [])) c.runs.view_is
    ∙ joined
    ∙ ap (λ (d : Drawn). with_intervention d) c.draws.view_is
