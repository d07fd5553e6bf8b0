use Rattle.std.proofs.Common.{◌≡◌, ◌∙◌, List, sym, ap, Some, None, option_map}
use Rattle.lagrange_bound.specs.Prices.{tail_of}
use Rattle.certificate_lines.specs.declared.line.CertificateLine.{CertificateLine}
use Rattle.certificate_text.specs.Text.{text_of_lines}
use Rattle.certificate_text.proofs.WriteLemmas.{tail_some, tail_none}
use Rattle.certificate_text.specs.Lengths.{counted_length}
use Rattle.certificate_text.proofs.entry_lengths.tail_length_at.Goals as goal

pub returns-in-Some : goal.returns-in-Some
returns-in-Some c =
    let some : tail_of c.args.prices.now c.args.t ≡ Some c.in-Some.tail.now =
    sym c.tail.ensures ∙ ap (option_map (λ t. t.now)) c.in-Some.is in
    c.tail_length.ensures
    ∙ ap counted_length (sym (tail_some c.args.t (tail_of c.args.prices.now c.args.t) c.in-Some.tail.now some))

pub returns-in-None : goal.returns-in-None
returns-in-None c =
    let none : tail_of c.args.prices.now c.args.t ≡ None =
    sym c.tail.ensures ∙ ap (option_map (λ t. t.now)) c.in-None.is in
    ap (λ (ls : List CertificateLine). counted_length (text_of_lines ls))
    (sym (tail_none c.args.t (tail_of c.args.prices.now c.args.t) none))
