use Rattle.std.proofs.Common.{[], ◌∷◌, rules}
use Rattle.plan_desk.specs.Written.Way.{writing}
use Rattle.plan_desk.proofs.Written.{put}
use Rattle.certificate_lines.specs.declared.line.CertificateLine.TheVariants as line
use Rattle.refined_text.specs.declared.lines.line.RefinedLine.TheVariants.{Plain}
use Rattle.refined_text.specs.text.Text.{refined_entry_lines}
use Rattle.refined_text.proofs.TextWriteLemmas.{lines_cut, lines_last}
use Rattle.refined_text.proofs.text.write.write_list.Goals as goal

pub returns-in_err-put_plain : goal.returns-in_err-put_plain
returns-in_err-put_plain g c = lines_cut c.from_residual.result (search rules) (Plain line.Prices ∷ [])
    (refined_entry_lines c.args.inst.now c.args.list.now) c.in_err-put_plain.ensures

pub returns : goal.returns
returns g c = lines_last c.write_refined_entries.result (Plain line.Prices ∷ [])
    (refined_entry_lines c.args.inst.now c.args.list.now) (put writing c.in_ok-put_plain.ensures)
    c.write_refined_entries.ensures
