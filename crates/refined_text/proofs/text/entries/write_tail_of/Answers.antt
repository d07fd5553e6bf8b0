use Rattle.std.proofs.Common.{◌≡◌, ◌∙◌, [], ◌∷◌, sym, ap, Some, None, option_map}
use Rattle.plan_desk.specs.Written.Way.{writing}
use Rattle.plan_desk.proofs.Written.{ends, respelled}
use Rattle.refined_prices.specs.Offsets.{group_tail_at}
use Rattle.refined_text.specs.text.Text.{group_lines}
use Rattle.refined_text.specs.text.Steps.{group_texts}
use Rattle.refined_text.proofs.TextTailLemmas.{tail_some, tail_none}
use Rattle.refined_text.proofs.TextWriteLemmas.{nothing}
use Rattle.refined_text.proofs.text.entries.write_tail_of.Goals as goal

pub returns-in-Some : goal.returns-in-Some
returns-in-Some g c =
    let tails = c.args.list.now.tails in
    let some : group_tail_at tails c.args.t ≡ Some c.in-Some.tail.now =
    sym c.tail.ensures ∙ ap (option_map (λ t. t.now)) c.in-Some.is in
    respelled writing
    (ap (group_texts c.args.t) c.as_slice.ensures
    ∙ sym (tail_some c.args.t (group_tail_at tails c.args.t) c.in-Some.tail.now some)) c.write_groups.ensures

pub returns-in-None : goal.returns-in-None
returns-in-None g c =
    let tails = c.args.list.now.tails in
    let none : group_tail_at tails c.args.t ≡ None =
    sym c.tail.ensures ∙ ap (option_map (λ t. t.now)) c.in-None.is in
    ends writing _ (nothing (group_lines c.args.t (group_tail_at tails c.args.t ∷ []))
    (g.D.Desk.shows c.args.desk.now) (tail_none c.args.t (group_tail_at tails c.args.t) none))
