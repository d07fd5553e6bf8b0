use Rattle.std.proofs.Common.{[], ◌∷◌, List, length, ap, rules}
use Rattle.plan_desk.specs.Written.Way.{writing}
use Rattle.plan_desk.proofs.Written.{put, respelled}
use Rattle.certificate_lines.specs.declared.line.CertificateLine.TheVariants as line
use Rattle.lagrange_bound.specs.Prices.{PriceList}
use Rattle.certificate_text.specs.Text.{text_of_lines}
use Rattle.certificate_text.proofs.WriteLemmas.{lines_cut, lines_last}
use Rattle.certificate_text.proofs.write.write_header.Goals as goal

pub returns-in_err-put_line : goal.returns-in_err-put_line
returns-in_err-put_line g c =
    let cert = c.args.cert.now in
    lines_cut c.from_residual.result (search rules) (line.Title cert.version ∷ [])
    (line.Bound cert.bound ∷ line.Lists (length cert.lists) ∷ []) c.in_err-put_line.ensures

pub returns-in_err-put_line-2 : goal.returns-in_err-put_line-2
returns-in_err-put_line-2 g c =
    let cert = c.args.cert.now in
    let r = c.from_residual-in_err-put_line-2.result in
    lines_last r (line.Title cert.version ∷ []) (line.Bound cert.bound ∷ line.Lists (length cert.lists) ∷ [])
    (put writing c.in_ok-put_line.ensures)
    (lines_cut r (search rules) (line.Bound cert.bound ∷ []) (line.Lists (length cert.lists) ∷ [])
    c.in_err-put_line-2.ensures)

pub returns : goal.returns
returns g c =
    let cert = c.args.cert.now in
    let r = c.put_line-3.result in
    lines_last r (line.Title cert.version ∷ []) (line.Bound cert.bound ∷ line.Lists (length cert.lists) ∷ [])
    (put writing c.in_ok-put_line.ensures)
    (lines_last r (line.Bound cert.bound ∷ []) (line.Lists (length cert.lists) ∷ [])
    (put writing c.in_ok-put_line-2.ensures)
    (respelled writing (ap (λ (lists : List PriceList). text_of_lines (line.Lists (length lists) ∷ []))
    c.as_slice.ensures) c.put_line-3.ensures))
