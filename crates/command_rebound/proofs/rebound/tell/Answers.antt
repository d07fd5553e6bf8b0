use Rattle.std.proofs.Common.{List, ℕ, sym, subst}
use Rattle.command_rebound.specs.Rebinding.{with_tree}
use Rattle.command_rebound.specs.Made.{TellsNew}
use Rattle.command_rebound.proofs.MakingLemmas.{told_new}
use Rattle.command_rebound.proofs.rebound.tell.Goals as goal

pub tell_new-requires-clause-in_range : goal.tell_new-requires-clause-in_range
tell_new-requires-clause-in_range g c =
    subst (g.C.FileCertificate.kind.range c.args.files.inst) (sym c.remade-cert.ensures) c.requires.made.right.in_range

pub returns : goal.returns
returns g c =
    let kind = g.C.FileCertificate.kind in
    let inst = c.args.files.inst in
    let made = c.args.made in
    let limits = c.args.limits.now in
    let out = c.args.out.now in
    let old = g.D.Desk.shows c.args.desk.now in
    let new = g.D.Desk.shows c.tell_new.new.desk in
    let status = c.tell_new.result in
    told_new kind limits inst c.args.files.cert out made c.requires.made old new status
    (subst (λ (text : List ℕ). TellsNew kind limits inst (with_tree kind c.args.files.cert made.tree) out text old new
    status) c.requires.made.text
    (subst (λ (x : _). TellsNew kind limits inst x out made.report old new status) c.remade-cert.ensures
    c.tell_new.ensures))
