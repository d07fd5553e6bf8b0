use Rattle.std.proofs.Common.{◌≡◌, ◌∙◌, ◌++◌, Bool, List, map, ap, rules}
use Rattle.plan_desk.specs.Written.Way.{writing}
use Rattle.plan_desk.proofs.Written.{put, respelled}
use Rattle.refined_prices.specs.declared.offset.Offset.{Offset}
use Rattle.refined_prices.specs.declared.clique.Clique.{Clique}
use Rattle.refined_text.specs.declared.lines.line.RefinedLine.{RefinedLine}
use Rattle.refined_text.specs.text.Text.{cap_lines, group_lines, offset_line, clique_line, text_of_refined}
use Rattle.refined_text.specs.text.Steps.{offset_texts, clique_texts}
use Rattle.refined_text.proofs.TextPieceLemmas.{map_text}
use Rattle.refined_text.proofs.TextWriteLemmas.{lines_cut, lines_last}
use Rattle.refined_text.proofs.text.entries.write_further.Goals as goal

cap_same : (a b : Bool) → a ≡ b → text_of_refined (cap_lines a) ≡ text_of_refined (cap_lines b)
cap_same a b e = ap (λ (x : Bool). text_of_refined (cap_lines x)) e

offsets_same : (xs ys : List Offset) → xs ≡ ys → offset_texts xs ≡ text_of_refined (map offset_line ys)
offsets_same xs ys e = ap offset_texts e ∙ map_text offset_line ys

cliques_same : (xs ys : List Clique) → xs ≡ ys → clique_texts xs ≡ text_of_refined (map clique_line ys)
cliques_same xs ys e = ap clique_texts e ∙ map_text clique_line ys

pub returns-in_err-write_cap : goal.returns-in_err-write_cap
returns-in_err-write_cap g c =
    let list = c.args.list.now in
    lines_cut c.from_residual.result (search rules) (cap_lines list.capped)
    (group_lines 1 list.tails ++ (map offset_line list.offsets ++ map clique_line list.cliques))
    (respelled writing (cap_same c.capped.result list.capped c.capped.ensures) c.in_err-write_cap.ensures)

pub returns-in_err-write_tails : goal.returns-in_err-write_tails
returns-in_err-write_tails g c =
    let list = c.args.list.now in
    let r = c.from_residual-in_err-write_tails.result in
    let tails : List RefinedLine = group_lines 1 list.tails in
    let rest : List RefinedLine = map offset_line list.offsets ++ map clique_line list.cliques in
    lines_last r (cap_lines list.capped) (tails ++ rest)
    (put writing (respelled writing (cap_same c.capped.result list.capped c.capped.ensures) c.in_ok-write_cap.ensures))
    (lines_cut r (search rules) tails rest c.in_err-write_tails.ensures)

pub returns-in_err-write_offsets : goal.returns-in_err-write_offsets
returns-in_err-write_offsets g c =
    let list = c.args.list.now in
    let r = c.from_residual-in_err-write_offsets.result in
    let tails : List RefinedLine = group_lines 1 list.tails in
    let offsets : List RefinedLine = map offset_line list.offsets in
    let cliques : List RefinedLine = map clique_line list.cliques in
    lines_last r (cap_lines list.capped) (tails ++ (offsets ++ cliques))
    (put writing (respelled writing (cap_same c.capped.result list.capped c.capped.ensures) c.in_ok-write_cap.ensures))
    (lines_last r tails (offsets ++ cliques) (put writing c.in_ok-write_tails.ensures)
    (lines_cut r (search rules) offsets cliques
    (respelled writing (offsets_same c.offsets.result.now list.offsets c.offsets.ensures)
    c.in_err-write_offsets.ensures)))

pub returns : goal.returns
returns g c =
    let list = c.args.list.now in
    let r = c.write_cliques.result in
    let tails : List RefinedLine = group_lines 1 list.tails in
    let offsets : List RefinedLine = map offset_line list.offsets in
    let cliques : List RefinedLine = map clique_line list.cliques in
    lines_last r (cap_lines list.capped) (tails ++ (offsets ++ cliques))
    (put writing (respelled writing (cap_same c.capped.result list.capped c.capped.ensures) c.in_ok-write_cap.ensures))
    (lines_last r tails (offsets ++ cliques) (put writing c.in_ok-write_tails.ensures)
    (lines_last r offsets cliques
    (put writing
    (respelled writing (offsets_same c.offsets.result.now list.offsets c.offsets.ensures)
    c.in_ok-write_offsets.ensures))
    (respelled writing (cliques_same c.cliques.result.now list.cliques c.cliques.ensures) c.write_cliques.ensures)))
