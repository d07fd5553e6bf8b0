use Rattle.std.proofs.Common.{◌++◌, List, map, ap, rules}
use Rattle.plan_desk.specs.Written.Way.{writing}
use Rattle.plan_desk.proofs.Written.{put, respelled}
use Rattle.certificate_lines.specs.declared.line.CertificateLine.{CertificateLine}
use Rattle.certificate_lines.specs.declared.line.CertificateLine.TheVariants as line
use Rattle.lagrange_bound.specs.declared.ex_price.ExPrice.{ExPrice}
use Rattle.certificate_text.specs.Text.{limit_lines, tail_lines, ex_line, text_of_lines}
use Rattle.certificate_text.proofs.WriteLemmas.{lines_cut, lines_last}
use Rattle.certificate_text.proofs.entries.write_entries.Goals as goal

pub returns-in_err-write_limits : goal.returns-in_err-write_limits
returns-in_err-write_limits g c =
    let inst = c.args.inst.now in
    let prices = c.args.prices.now in
    lines_cut c.from_residual.result (search rules) (limit_lines line.Up inst.periods 0 prices.up)
    (limit_lines line.Lo inst.periods 0 prices.lo ++ (tail_lines 1 prices.tails ++ map ex_line prices.ex))
    c.in_err-write_limits.ensures

pub returns-in_err-write_limits-2 : goal.returns-in_err-write_limits-2
returns-in_err-write_limits-2 g c =
    let inst = c.args.inst.now in
    let prices = c.args.prices.now in
    let r = c.from_residual-in_err-write_limits-2.result in
    let los : List CertificateLine = limit_lines line.Lo inst.periods 0 prices.lo in
    let rest : List CertificateLine = tail_lines 1 prices.tails ++ map ex_line prices.ex in
    lines_last r (limit_lines line.Up inst.periods 0 prices.up) (los ++ rest) (put writing c.in_ok-write_limits.ensures)
    (lines_cut r (search rules) los rest c.in_err-write_limits-2.ensures)

pub returns-in_err-write_tails : goal.returns-in_err-write_tails
returns-in_err-write_tails g c =
    let inst = c.args.inst.now in
    let prices = c.args.prices.now in
    let r = c.from_residual-in_err-write_tails.result in
    let los : List CertificateLine = limit_lines line.Lo inst.periods 0 prices.lo in
    let tails : List CertificateLine = tail_lines 1 prices.tails in
    let ex : List CertificateLine = map ex_line prices.ex in
    lines_last r (limit_lines line.Up inst.periods 0 prices.up) (los ++ (tails ++ ex))
    (put writing c.in_ok-write_limits.ensures)
    (lines_last r los (tails ++ ex) (put writing c.in_ok-write_limits-2.ensures)
    (lines_cut r (search rules) tails ex c.in_err-write_tails.ensures))

pub returns : goal.returns
returns g c =
    let inst = c.args.inst.now in
    let prices = c.args.prices.now in
    let r = c.write_ex.result in
    let los : List CertificateLine = limit_lines line.Lo inst.periods 0 prices.lo in
    let tails : List CertificateLine = tail_lines 1 prices.tails in
    let ex : List CertificateLine = map ex_line prices.ex in
    lines_last r (limit_lines line.Up inst.periods 0 prices.up) (los ++ (tails ++ ex))
    (put writing c.in_ok-write_limits.ensures)
    (lines_last r los (tails ++ ex) (put writing c.in_ok-write_limits-2.ensures)
    (lines_last r tails ex (put writing c.in_ok-write_tails.ensures)
    (respelled writing (ap (λ (xs : List ExPrice). text_of_lines (map ex_line xs)) c.ex_prices.ensures)
    c.write_ex.ensures)))
