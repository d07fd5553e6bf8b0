use Rattle.std.proofs.Common.{◌≡◌, ◌∙◌, arith, Some}
use Rattle.fixed_num.proofs.SignedLemmas.{signed_arith, back_from_abs}
use Rattle.instance_model.specs.Plans.{load_sum}
use Rattle.instance_model.proofs.PlanLemmas.{load_sum_small, load_at_small}
use Rattle.resource_bands.specs.StartChanges.{board_after}
use Rattle.resource_bands.proofs.OverLemmas.{allowed_on_board}
use Rattle.resource_bands.proofs.AboveLemmas.{load_after-same, load_after-both}
use Rattle.resource_bands.proofs.above.load_after.Goals as goal

pub load_moved-requires-clause-from : goal.load_moved-requires-clause-from
load_moved-requires-clause-from c =
    allowed_on_board c.args.inst.now c.args.loads.now c.args.second.i c.args.second.from c.requires.over
    c.requires.second.number c.requires.second.before

pub load_moved-requires-clause-small : goal.load_moved-requires-clause-small
load_moved-requires-clause-small c =
    let inst = c.args.inst.now in
    let load : c.of-load.result ≡ load_sum inst c.args.loads.now.board c.args.c c.args.t =
    c.of-load.ensures ∙ back_from_abs c.load.result (omega (arith, c.load.ensures.small))
    ∙ c.load.ensures.value inst c.requires.over in
    let small = load_sum_small inst c.args.loads.now.board c.args.c c.args.t c.fits.ensures in
    rw load (omega (arith, small))

pub load_moved-requires-else-first-second-clause-from : goal.load_moved-requires-else-first-second-clause-from
load_moved-requires-else-first-second-clause-from c =
    allowed_on_board c.args.inst.now c.args.loads.now c.args.first.i c.args.first.from c.requires.over
    c.requires.first.number c.requires.first.before

pub load_moved-requires-else-first-second-clause-small : goal.load_moved-requires-else-first-second-clause-small
load_moved-requires-else-first-second-clause-small c =
    let inst = c.args.inst.now in
    let load : c.of-load.result ≡ load_sum inst c.args.loads.now.board c.args.c c.args.t =
    c.of-load.ensures ∙ back_from_abs c.load.result (omega (arith, c.load.ensures.small))
    ∙ c.load.ensures.value inst c.requires.over in
    let small = load_sum_small inst c.args.loads.now.board c.args.c c.args.t c.fits.ensures in
    rw load (omega (arith, small))

pub load_moved-requires-else-first-second-2-clause-from : goal.load_moved-requires-else-first-second-2-clause-from
load_moved-requires-else-first-second-2-clause-from c =
    allowed_on_board c.args.inst.now c.args.loads.now c.args.second.i c.args.second.from c.requires.over
    c.requires.second.number c.requires.second.before

pub load_moved-requires-else-first-second-2-clause-small : goal.load_moved-requires-else-first-second-2-clause-small
load_moved-requires-else-first-second-2-clause-small c =
    let inst = c.args.inst.now in
    let load : c.of-load.result ≡ load_sum inst c.args.loads.now.board c.args.c c.args.t =
    c.of-load.ensures ∙ back_from_abs c.load.result (omega (arith, c.load.ensures.small))
    ∙ c.load.ensures.value inst c.requires.over in
    let small = load_sum_small inst c.args.loads.now.board c.args.c c.args.t c.fits.ensures in
    let new = load_at_small inst c.args.c c.args.t c.args.first.i (Some c.args.first.to) c.fits.ensures
    c.requires.first.number in
    let old = load_at_small inst c.args.c c.args.t c.args.first.i (Some c.args.first.from) c.fits.ensures
    c.requires.first.number in
    rw (c.load_moved-else-first-second.ensures, load) (omega (arith, signed_arith, small, new, old))

pub returns-then-first-second-clause-value : goal.returns-then-first-second-clause-value
returns-then-first-second-clause-value c =
    let inst = c.args.inst.now in
    let load : c.of-load.result ≡ load_sum inst c.args.loads.now.board c.args.c c.args.t =
    c.of-load.ensures ∙ back_from_abs c.load.result (omega (arith, c.load.ensures.small))
    ∙ c.load.ensures.value inst c.requires.over in
    let after = load_after-same inst c.args.loads.now.board c.args.first c.args.second c.args.c c.args.t
    c.of-load.result
    c.load_moved.result c.requires.over.each c.requires.second c.if-first-second.true load c.load_moved.ensures in
    after

pub returns-then-first-second-clause-small : goal.returns-then-first-second-clause-small
returns-then-first-second-clause-small c =
    let inst = c.args.inst.now in
    let load : c.of-load.result ≡ load_sum inst c.args.loads.now.board c.args.c c.args.t =
    c.of-load.ensures ∙ back_from_abs c.load.result (omega (arith, c.load.ensures.small))
    ∙ c.load.ensures.value inst c.requires.over in
    let after = load_after-same inst c.args.loads.now.board c.args.first c.args.second c.args.c c.args.t
    c.of-load.result
    c.load_moved.result c.requires.over.each c.requires.second c.if-first-second.true load c.load_moved.ensures in
    let small = load_sum_small inst (board_after c.args.first c.args.second c.args.loads.now.board) c.args.c c.args.t
    c.fits.ensures in
    rw after (omega (arith, small))

pub returns-else-first-second-clause-value : goal.returns-else-first-second-clause-value
returns-else-first-second-clause-value c =
    let inst = c.args.inst.now in
    let load : c.of-load.result ≡ load_sum inst c.args.loads.now.board c.args.c c.args.t =
    c.of-load.ensures ∙ back_from_abs c.load.result (omega (arith, c.load.ensures.small))
    ∙ c.load.ensures.value inst c.requires.over in
    let after = load_after-both inst c.args.loads.now.board c.args.first c.args.second c.args.c c.args.t
    c.of-load.result
    c.load_moved-else-first-second.result c.load_moved-else-first-second-2.result c.requires.over.each c.requires.first
    c.requires.second c.if-first-second.false load c.load_moved-else-first-second.ensures
    c.load_moved-else-first-second-2.ensures in
    after

pub returns-else-first-second-clause-small : goal.returns-else-first-second-clause-small
returns-else-first-second-clause-small c =
    let inst = c.args.inst.now in
    let load : c.of-load.result ≡ load_sum inst c.args.loads.now.board c.args.c c.args.t =
    c.of-load.ensures ∙ back_from_abs c.load.result (omega (arith, c.load.ensures.small))
    ∙ c.load.ensures.value inst c.requires.over in
    let after = load_after-both inst c.args.loads.now.board c.args.first c.args.second c.args.c c.args.t
    c.of-load.result
    c.load_moved-else-first-second.result c.load_moved-else-first-second-2.result c.requires.over.each c.requires.first
    c.requires.second c.if-first-second.false load c.load_moved-else-first-second.ensures
    c.load_moved-else-first-second-2.ensures in
    let small = load_sum_small inst (board_after c.args.first c.args.second c.args.loads.now.board) c.args.c c.args.t
    c.fits.ensures in
    rw after (omega (arith, small))
