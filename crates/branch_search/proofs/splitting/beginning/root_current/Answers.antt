use Rattle.std.proofs.Common.{◌∙◌, ap, sym, subst}
use Rattle.lagrange_bound.specs.Boxes.{IsBox}
use Rattle.certificate_tree.specs.Walk.{first_box}
use Rattle.certificate_tree.proofs.RootLemmas.{root_is_box}
use Rattle.branch_search.proofs.splitting.beginning.root_current.Goals as goal

pub make-requires-clause-each : goal.make-requires-clause-each
make-requires-clause-each c =
    (subst (IsBox c.args.inst.now) (sym (c.spans.ensures ∙ ap first_box c.in_ok-root.ensures))
    (root_is_box c.args.inst.now c.fits.ensures)).each

pub make-requires-clause-ends : goal.make-requires-clause-ends
make-requires-clause-ends c =
    (subst (IsBox c.args.inst.now) (sym (c.spans.ensures ∙ ap first_box c.in_ok-root.ensures))
    (root_is_box c.args.inst.now c.fits.ensures)).to
