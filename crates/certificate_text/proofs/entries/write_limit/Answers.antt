use Rattle.std.proofs.Common.{◌≡◌, ◌∙◌, [], ◌∷◌, ◌+◌, sym, ap}
use Rattle.plan_desk.specs.Written.Way.{writing}
use Rattle.plan_desk.proofs.Written.{ends, respelled}
use Rattle.certificate_lines.specs.declared.line.CertificateLine.{CertificateLine}
use Rattle.certificate_text.specs.Text.{text_of_lines}
use Rattle.certificate_text.specs.Steps.{limit_of, price_lines, limit_form}
use Rattle.certificate_text.proofs.WriteLemmas.{nothing, price_none, price_some}
use Rattle.certificate_text.proofs.entries.write_limit.Goals as goal

pub returns-then-v-eq0 : goal.returns-then-v-eq0
returns-then-v-eq0 g c =
    let v = limit_of c.args.inst.now c.args.side c.args.prices.now c.args.c c.args.t in
    ends writing _ (nothing (price_lines c.args.side (c.args.c + 1) c.args.t v) (g.D.Desk.shows c.args.desk.now)
    (price_none c.args.side (c.args.c + 1) c.args.t v (sym c.limit_price-v.ensures ∙ c.if-v-eq0.true)))

pub returns : goal.returns
returns g c =
    let v = limit_of c.args.inst.now c.args.side c.args.prices.now c.args.c c.args.t in
    let some = price_some c.args.side (c.args.c + 1) c.args.t v (λ e. c.if-v-eq0.false (c.limit_price-v.ensures ∙ e)) in
    let line : c.limit_line.result ≡ limit_form c.args.side (c.args.c + 1) c.args.t v =
    c.limit_line.ensures ∙ ap (limit_form c.args.side (c.args.c + 1) c.args.t) c.limit_price-v.ensures in
    respelled writing (ap (λ (l : CertificateLine). text_of_lines (l ∷ [])) line ∙ ap text_of_lines (sym some))
    c.put_line.ensures
