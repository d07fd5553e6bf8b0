use Rattle.std.proofs.Common.{◌≡◌, ◌+◌, ℕ, ◌∙◌, length, ap, arith}
use Rattle.certificate_lines.specs.Spelling.{word}
use Rattle.refined_text.specs.text.Steps.{group_words, group_text}
use Rattle.refined_text.proofs.TextLengthLemmas.{beside, group_size}
use Rattle.refined_text.proofs.text.entry_lengths.group_length.Goals as goal

pub returns : goal.returns
returns c =
    let t = c.args.t in
    let group = c.args.group.now in
    let size = group_size t group in
    let own : c.word_length-front.result ≡ length (word t) =
    c.word_length-front.ensures.value ∙ ap (λ (n : ℕ). length (word n)) c.from.ensures in
    beside (c.word_length-front.result + 5) (group_text t group) (group_words group) c.members_length-members.result
    c.saturating_add.result (omega (arith, size, own)) (omega (arith, c.word_length-front.ensures.small))
    c.members_length-members.ensures c.saturating_add.ensures
