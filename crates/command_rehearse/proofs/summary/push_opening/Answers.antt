-- One line behind another.
use Rattle.std.proofs.Common.{ℕ, List, ◌++◌, ◌∙◌, ap, append_assoc, codes}
use Rattle.command_frame.specs.Lines.{numbered_line}
use Rattle.command_rehearse.specs.Rehearsing.{key_line}
use Rattle.command_rehearse.proofs.summary.push_opening.Goals as goal

pub returns : goal.returns
returns c =
    let count = numbered_line (codes "interventions ") c.args.summary.interventions in
    let opening = key_line (codes "opening") c.args.summary.opening in
    c.in_ok-push_key.ensures
    ∙ ap (λ (text : List ℕ). text ++ opening) c.in_ok-push_numbered.ensures
    ∙ append_assoc c.args.text.now count opening
