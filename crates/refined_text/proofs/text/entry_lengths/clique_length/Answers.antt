use Rattle.std.proofs.Common.{◌≡◌, ◌+◌, ℕ, List, ◌∙◌, length, ap, arith}
use Rattle.certificate_lines.specs.Spelling.{word}
use Rattle.certificate_text.specs.Lengths.{counted_length}
use Rattle.refined_text.specs.text.Steps.{clique_words, clique_text}
use Rattle.refined_text.proofs.TextLengthLemmas.{beside, clique_size}
use Rattle.refined_text.proofs.text.entry_lengths.clique_length.Goals as goal

pub returns : goal.returns
returns c =
    let x = c.args.x.now in
    let size = clique_size x in
    let one : c.word_length.result ≡ length (word x.period) =
    c.word_length.ensures.value ∙ ap (λ (n : ℕ). length (word n)) c.from.ensures in
    let two : c.word_length-2.result ≡ length (word x.value) =
    c.word_length-2.ensures.value ∙ ap (λ (n : ℕ). length (word n)) c.from-2.ensures in
    beside (c.word_length.result + c.word_length-2.result + 4) (clique_text x) (clique_words x.members)
    c.interventions_length-members.result c.saturating_add.result (omega (arith, size, one, two))
    (omega (arith, c.word_length.ensures.small, c.word_length-2.ensures.small))
    (c.interventions_length-members.ensures
    ∙ ap (λ (members : List ℕ). counted_length (clique_words members)) c.as_slice.ensures) c.saturating_add.ensures
