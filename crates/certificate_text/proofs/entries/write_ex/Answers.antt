use Rattle.std.proofs.Common.{rules, ◌∙◌, [], ◌∷◌, ◌+◌, ◌++◌, take, drop, map, sym, ap}
use Rattle.plan_desk.specs.Written.Way.{writing}
use Rattle.plan_desk.proofs.Written.{begins}
use Rattle.certificate_lines.specs.declared.line.CertificateLine.{CertificateLine}
use Rattle.certificate_text.specs.Text.{ex_line}
use Rattle.certificate_text.proofs.WriteLemmas.{step_on, step_stops, map_step, map_rest}
use Rattle.certificate_text.proofs.entries.write_ex.Goals as goal

pub loop-x-init : goal.loop-x-init
loop-x-init g c = begins writing (g.D.Desk.shows c.args.desk.now)

pub returns-in_err-put_line : goal.returns-in_err-put_line
returns-in_err-put_line g c =
    let ex = c.args.ex.now in
    let n = c.loop-x.x-index in
    step_stops (map ex_line (take n ex)) (c.line_of_ex.result ∷ []) (map ex_line (take (n + 1) ex))
    (map_step ex_line ex n (record { exclusion = 0; period = 0; value = 0 }) c.loop-x-test.true
    ∙ ap (λ (l : CertificateLine). map ex_line (take n ex) ++ l ∷ []) (sym c.line_of_ex.ensures))
    c.from_residual.result (search rules) (map ex_line (drop (n + 1) ex)) (map ex_line ex)
    (map_rest ex_line ex n (record { exclusion = 0; period = 0; value = 0 }) c.loop-x-test.true)
    c.loop-x.invariant c.in_err-put_line.ensures

pub loop-x-preserved : goal.loop-x-preserved
loop-x-preserved g c =
    let ex = c.args.ex.now in
    let n = c.loop-x.x-index in
    step_on (map ex_line (take n ex)) (c.line_of_ex.result ∷ []) (map ex_line (take (n + 1) ex))
    (map_step ex_line ex n (record { exclusion = 0; period = 0; value = 0 }) c.loop-x-test.true
    ∙ ap (λ (l : CertificateLine). map ex_line (take n ex) ++ l ∷ []) (sym c.line_of_ex.ensures))
    c.loop-x.invariant c.in_ok-put_line.ensures
