use Rattle.std.proofs.Common.{[], ◌∷◌, List, length, ap, rules}
use Rattle.plan_desk.specs.Written.Way.{writing}
use Rattle.plan_desk.proofs.Written.{put, respelled}
use Rattle.certificate_lines.specs.declared.line.CertificateLine.TheVariants as line
use Rattle.refined_prices.specs.RefinedLists.{RefinedList}
use Rattle.refined_text.specs.declared.lines.line.RefinedLine.TheVariants.{Title, Plain}
use Rattle.refined_text.specs.text.Text.{text_of_refined}
use Rattle.refined_text.proofs.TextWriteLemmas.{lines_cut, lines_last}
use Rattle.refined_text.proofs.text.write.write_header.Goals as goal

pub returns-in_err-put_title : goal.returns-in_err-put_title
returns-in_err-put_title g c =
    let cert = c.args.cert.now in
    lines_cut c.from_residual.result (search rules) (Title ∷ [])
    (Plain (line.Bound cert.bound) ∷ Plain (line.Lists (length cert.lists)) ∷ []) c.in_err-put_title.ensures

pub returns-in_err-put_plain : goal.returns-in_err-put_plain
returns-in_err-put_plain g c =
    let cert = c.args.cert.now in
    let r = c.from_residual-in_err-put_plain.result in
    lines_last r (Title ∷ []) (Plain (line.Bound cert.bound) ∷ Plain (line.Lists (length cert.lists)) ∷ [])
    (put writing c.in_ok-put_title.ensures)
    (lines_cut r (search rules) (Plain (line.Bound cert.bound) ∷ []) (Plain (line.Lists (length cert.lists)) ∷ [])
    c.in_err-put_plain.ensures)

pub returns : goal.returns
returns g c =
    let cert = c.args.cert.now in
    let r = c.put_plain-2.result in
    lines_last r (Title ∷ []) (Plain (line.Bound cert.bound) ∷ Plain (line.Lists (length cert.lists)) ∷ [])
    (put writing c.in_ok-put_title.ensures)
    (lines_last r (Plain (line.Bound cert.bound) ∷ []) (Plain (line.Lists (length cert.lists)) ∷ [])
    (put writing c.in_ok-put_plain.ensures)
    (respelled writing
    (ap (λ (lists : List RefinedList). text_of_refined (Plain (line.Lists (length lists)) ∷ [])) c.as_slice.ensures)
    c.put_plain-2.ensures))
