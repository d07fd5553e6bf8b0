use Rattle.std.proofs.Common.{◌≡◌, ◌∙◌, sym, ap, true, None, rules}
use Rattle.std.specs.Prelude.{is_some}
use Rattle.json_grammar.specs.Events.{event_view}
use Rattle.shape_walk.specs.Standing.{Walk}
use Rattle.shape_walk.proofs.OneMore.{stays, goes_on, on_ok}
use Rattle.shape_walk.proofs.walk.ShapeWalk.take.Goals as goal

pub returns-then-is_some-clause-stands : goal.returns-then-is_some-clause-stands
returns-then-is_some-clause-stands c limits es s =
    let some : is_some c.args.self.now.fault ≡ true =
    ap (λ (w : Walk). is_some w.fault) (sym c.self.view_is) ∙ sym c.is_some.ensures ∙ c.if-is_some.true in
    stays limits c.args.self.now es (event_view c.args.event.now) some s

pub returns-clause-stands : goal.returns-clause-stands
returns-clause-stands c =
    let none : c.args.self.now.fault ≡ None = search rules in
    on_ok c.follow.result _ _ (λ taken t limits es s. goes_on limits c.args.self.now c.follow.new.self es
    (event_view c.args.event.now) taken none t s) c.follow.ensures
