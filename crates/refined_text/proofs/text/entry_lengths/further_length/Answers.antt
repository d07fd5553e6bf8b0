use Rattle.std.proofs.Common.{◌∙◌, ◌++◌, Bool, List, map, refl, ap}
use Rattle.certificate_text.specs.Lengths.{counted_length}
use Rattle.refined_prices.specs.declared.offset.Offset.{Offset}
use Rattle.refined_prices.specs.declared.clique.Clique.{Clique}
use Rattle.refined_text.specs.declared.lines.line.RefinedLine.{RefinedLine}
use Rattle.refined_text.specs.text.Text.{cap_lines, group_lines, offset_line, clique_line, further_lines}
use Rattle.refined_text.specs.text.Text.{text_of_refined}
use Rattle.refined_text.specs.text.Steps.{offset_texts, clique_texts}
use Rattle.refined_text.proofs.TextPieceLemmas.{map_text}
use Rattle.refined_text.proofs.TextLengthLemmas.{lines_joined}
use Rattle.refined_text.proofs.text.entry_lengths.further_length.Goals as goal

pub returns : goal.returns
returns c =
    let list = c.args.list.now in
    let cap : List RefinedLine = cap_lines list.capped in
    let tails : List RefinedLine = group_lines 1 list.tails in
    let offsets : List RefinedLine = map offset_line list.offsets in
    let cliques : List RefinedLine = map clique_line list.cliques in
    let one = c.cap_length-cap.ensures
    ∙ ap (λ (b : Bool). counted_length (text_of_refined (cap_lines b))) c.capped.ensures in
    let three = c.offsets_length-offsets.ensures
    ∙ ap (λ (xs : List Offset). counted_length (offset_texts xs)) c.offsets.ensures
    ∙ ap counted_length (map_text offset_line list.offsets) in
    let four = c.cliques_length-cliques.ensures
    ∙ ap (λ (xs : List Clique). counted_length (clique_texts xs)) c.cliques.ensures
    ∙ ap counted_length (map_text clique_line list.cliques) in
    let rest = lines_joined offsets cliques (offsets ++ cliques) c.offsets_length-offsets.result
    c.cliques_length-cliques.result c.saturating_add-rest.result refl three four c.saturating_add-rest.ensures in
    let more = lines_joined tails (offsets ++ cliques) (tails ++ (offsets ++ cliques)) c.tails_length-tails.result
    c.saturating_add-rest.result c.saturating_add-more.result refl c.tails_length-tails.ensures rest
    c.saturating_add-more.ensures in
    lines_joined cap (tails ++ (offsets ++ cliques)) (further_lines list) c.cap_length-cap.result
    c.saturating_add-more.result c.saturating_add.result refl one more c.saturating_add.ensures
