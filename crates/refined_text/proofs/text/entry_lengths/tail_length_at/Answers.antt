use Rattle.std.proofs.Common.{◌≡◌, ◌∙◌, List, sym, ap, Some, None, option_map}
use Rattle.certificate_text.specs.Lengths.{counted_length}
use Rattle.refined_prices.specs.declared.member.Member.{Member}
use Rattle.refined_prices.specs.Offsets.{group_tail_at}
use Rattle.refined_text.specs.declared.lines.line.RefinedLine.{RefinedLine}
use Rattle.refined_text.specs.text.Text.{text_of_refined}
use Rattle.refined_text.specs.text.Steps.{group_texts}
use Rattle.refined_text.proofs.TextTailLemmas.{tail_some, tail_none}
use Rattle.refined_text.proofs.text.entry_lengths.tail_length_at.Goals as goal

pub returns-in-Some : goal.returns-in-Some
returns-in-Some c =
    let tails = c.args.list.now.tails in
    let some : group_tail_at tails c.args.t ≡ Some c.in-Some.tail.now =
    sym c.tail.ensures ∙ ap (option_map (λ t. t.now)) c.in-Some.is in
    c.groups_length.ensures
    ∙ ap (λ (gs : List (List Member)). counted_length (group_texts c.args.t gs)) c.as_slice.ensures
    ∙ ap counted_length (sym (tail_some c.args.t (group_tail_at tails c.args.t) c.in-Some.tail.now some))

pub returns-in-None : goal.returns-in-None
returns-in-None c =
    let tails = c.args.list.now.tails in
    let none : group_tail_at tails c.args.t ≡ None =
    sym c.tail.ensures ∙ ap (option_map (λ t. t.now)) c.in-None.is in
    ap (λ (ls : List RefinedLine). counted_length (text_of_refined ls))
    (sym (tail_none c.args.t (group_tail_at tails c.args.t) none))
