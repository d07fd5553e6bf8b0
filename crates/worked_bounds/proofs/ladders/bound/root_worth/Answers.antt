use Rattle.std.proofs.Common.{◌≡◌, ◌∙◌, sym, ap, subst, arith, List}
use Rattle.fixed_num.proofs.SignedLemmas.{back_from_abs}
use Rattle.lagrange_bound.specs.declared.span.Span.{Span}
use Rattle.lagrange_bound.specs.Tabulated.{IsPricedBox, worth_in}
use Rattle.certificate_tree.specs.Trees.{root_box}
use Rattle.certificate_tree.specs.Walk.{first_box}
use Rattle.certificate_tree.proofs.RootLemmas.{root_is_box}
use Rattle.price_ladder.proofs.GainLemmas.{root_has_starts}
use Rattle.worked_bounds.proofs.ladders.bound.root_worth.Goals as goal

pub worth-requires : goal.worth-requires
worth-requires c =
    let box : c.spans.result.now ≡ root_box c.args.inst.now = c.spans.ensures ∙ ap first_box c.in_ok-root.ensures in
    subst (λ (spans : List Span). IsPricedBox c.in_ok-table.table spans) (sym box)
    (c.in_ok-table.ensures.boxes (root_box c.args.inst.now) (root_is_box c.args.inst.now c.fits.ensures)
    (root_has_starts c.args.inst.now c.args.starts.now c.requires.starts))

pub returns : goal.returns
returns c =
    let box : c.spans.result.now ≡ root_box c.args.inst.now = c.spans.ensures ∙ ap first_box c.in_ok-root.ensures in
    back_from_abs c.worth.result (omega (arith, c.worth.ensures.small)) ∙ c.worth.ensures.value
    ∙ ap (worth_in c.in_ok-table.table) box ∙ c.in_ok-table.ensures.worths (root_box c.args.inst.now) (root_is_box
    c.args.inst.now c.fits.ensures) (root_has_starts c.args.inst.now c.args.starts.now c.requires.starts)
