use Rattle.std.proofs.Common.{◌≡◌, ◌∙◌, sym, ap, subst, List}
use Rattle.lagrange_bound.specs.declared.span.Span.{Span}
use Rattle.lagrange_bound.specs.Boxes.{IsBox}
use Rattle.certificate_tree.specs.Trees.{root_box}
use Rattle.certificate_tree.specs.Walk.{first_box}
use Rattle.certificate_tree.proofs.RootLemmas.{root_is_box}
use Rattle.group_ladder.proofs.raise.raise_groups.Goals as goal

pub raise_groups_in-requires : goal.raise_groups_in-requires
raise_groups_in-requires c =
    let box : c.spans.result.now ≡ root_box c.args.inst.now = c.spans.ensures ∙ ap first_box c.in_ok-root.ensures in
    subst (λ (spans : List Span). IsBox c.args.inst.now spans) (sym box)
    (root_is_box c.args.inst.now c.fits.ensures)
