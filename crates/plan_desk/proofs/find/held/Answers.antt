use Rattle.std.proofs.Common.{◌∙◌, sym, ap, List, ℕ}
use Rattle.std.specs.Prelude.{Some}
use Rattle.plan_desk.proofs.Places.{at_within, first_at}
use Rattle.plan_desk.proofs.find.held.Goals as goal

pub bytes_of-requires : goal.bytes_of-requires
bytes_of-requires c = at_within c.args.files.now c.in-Some.at _ c.in-Some.ensures

pub returns-in-Some : goal.returns-in-Some
returns-in-Some c = ap (λ (l : List ℕ). Some l) c.bytes_of.ensures
    ∙ sym (first_at (λ f. Some f.bytes) c.args.files.now c.in-Some.at c.args.name.now c.in-Some.ensures)
