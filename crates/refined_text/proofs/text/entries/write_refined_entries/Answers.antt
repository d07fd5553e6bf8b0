use Rattle.std.proofs.Common.{◌≡◌, ◌∙◌, map, ap, rules}
use Rattle.plan_desk.specs.Written.Way.{writing}
use Rattle.plan_desk.proofs.Written.{put, respelled}
use Rattle.instance_model.specs.Tables.{Tables}
use Rattle.lagrange_bound.specs.Prices.{PriceList}
use Rattle.certificate_text.specs.Text.{entry_lines, text_of_lines}
use Rattle.refined_text.specs.declared.lines.line.RefinedLine.TheVariants.{Plain}
use Rattle.refined_text.specs.text.Text.{further_lines, text_of_refined}
use Rattle.refined_text.proofs.TextPieceLemmas.{plain_text}
use Rattle.refined_text.proofs.TextWriteLemmas.{lines_cut, lines_last}
use Rattle.refined_text.proofs.text.entries.write_refined_entries.Goals as goal

plain_same : (inst : Tables) (a b : PriceList) → a ≡ b
    → text_of_lines (entry_lines inst a) ≡ text_of_refined (map Plain (entry_lines inst b))
plain_same inst a b e =
    ap (λ (p : PriceList). text_of_lines (entry_lines inst p)) e ∙ plain_text (entry_lines inst b)

pub returns-in_err-write_entries : goal.returns-in_err-write_entries
returns-in_err-write_entries g c =
    let list = c.args.list.now in
    lines_cut c.from_residual.result (search rules) (map Plain (entry_lines c.args.inst.now list.prices))
    (further_lines list)
    (respelled writing (plain_same c.args.inst.now c.prices.result.now list.prices c.prices.ensures)
    c.in_err-write_entries.ensures)

pub returns : goal.returns
returns g c =
    let list = c.args.list.now in
    lines_last c.write_further.result (map Plain (entry_lines c.args.inst.now list.prices)) (further_lines list)
    (put writing
    (respelled writing (plain_same c.args.inst.now c.prices.result.now list.prices c.prices.ensures)
    c.in_ok-write_entries.ensures))
    c.write_further.ensures
