use Rattle.std.proofs.Common.{[], ◌∷◌, rules}
use Rattle.plan_desk.specs.Written.Way.{writing}
use Rattle.plan_desk.proofs.Written.{put}
use Rattle.certificate_lines.specs.declared.line.CertificateLine.TheVariants as line
use Rattle.certificate_text.specs.Text.{entry_lines}
use Rattle.certificate_text.proofs.WriteLemmas.{lines_cut, lines_last}
use Rattle.certificate_text.proofs.write.write_list.Goals as goal

pub returns-in_err-put_line : goal.returns-in_err-put_line
returns-in_err-put_line g c = lines_cut c.from_residual.result (search rules) (line.Prices ∷ [])
    (entry_lines c.args.inst.now c.args.prices.now) c.in_err-put_line.ensures

pub returns : goal.returns
returns g c = lines_last c.write_entries.result (line.Prices ∷ []) (entry_lines c.args.inst.now c.args.prices.now)
    (put writing c.in_ok-put_line.ensures) c.write_entries.ensures
