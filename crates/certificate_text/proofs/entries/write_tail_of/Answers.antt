use Rattle.std.proofs.Common.{◌≡◌, ◌∙◌, [], ◌∷◌, ℕ, List, sym, ap, Some, None, option_map}
use Rattle.plan_desk.specs.Written.Way.{writing}
use Rattle.plan_desk.proofs.Written.{ends, respelled}
use Rattle.lagrange_bound.specs.Prices.{tail_of}
use Rattle.certificate_lines.specs.declared.line.CertificateLine.TheVariants as line
use Rattle.certificate_text.specs.Text.{tail_lines, line_text}
use Rattle.certificate_text.proofs.WriteLemmas.{nothing, tail_some, tail_none}
use Rattle.certificate_text.proofs.entries.write_tail_of.Goals as goal

pub returns-in-Some : goal.returns-in-Some
returns-in-Some g c =
    let some : tail_of c.args.prices.now c.args.t ≡ Some c.in-Some.tail.now =
    sym c.tail.ensures ∙ ap (option_map (λ t. t.now)) c.in-Some.is in
    respelled writing
    (ap (λ (places : List ℕ). line_text (line.Tail c.args.t c.in-Some.tail.now.weight places)) c.as_slice.ensures
    ∙ sym (tail_some c.args.t (tail_of c.args.prices.now c.args.t) c.in-Some.tail.now some)) c.write_tail.ensures

pub returns-in-None : goal.returns-in-None
returns-in-None g c =
    let none : tail_of c.args.prices.now c.args.t ≡ None =
    sym c.tail.ensures ∙ ap (option_map (λ t. t.now)) c.in-None.is in
    ends writing _ (nothing (tail_lines c.args.t (tail_of c.args.prices.now c.args.t ∷ []))
    (g.D.Desk.shows c.args.desk.now) (tail_none c.args.t (tail_of c.args.prices.now c.args.t) none))
