use Rattle.std.proofs.Common.{◌<◌, length, sym, subst, arith}
use Rattle.std.proofs.lemmas.Grind.{common_steps}
use Rattle.lagrange_bound.specs.Boxes.{span_of, starts_in}
use Rattle.branch_search.specs.node_state.Exclusions.{NoOtherHolds, NoExclusionHolds}
use Rattle.branch_search.proofs.RefutingLemmas.{starts_of_part}
use Rattle.branch_search.proofs.closing.refuting.refuting_part.Goals as goal

pub holding_exclusion_by-requires-clause-others : goal.holding_exclusion_by-requires-clause-others
holding_exclusion_by-requires-clause-others c =
    let inst = c.args.inst.now in
    let box = c.args.current.now.boxes.spans in
    let others : NoOtherHolds inst box c.args.i = λ e l n h. c.requires.before.excls e l
    ((c.others_are_kept.ensures.kept inst box c.args.i c.args.whole e n).0 h) in
    subst (λ box. NoOtherHolds inst box c.args.i) (sym c.spans-spans.ensures) others

pub returns-in-None-clause-none : goal.returns-in-None-clause-none
returns-in-None-clause-none c =
    let inst = c.args.inst.now in
    let box = c.args.current.now.boxes.spans in
    let own : 0 < length (starts_in inst c.args.i (span_of box c.args.i)) = grind (arith, common_steps) in
    record {
      starts = starts_of_part inst box c.args.i c.args.whole c.requires.before.starts own;
      bands = λ r t side l from to. c.in_default.ensures.none r t side (record { resource = l; from = from; to = to });
      excls = subst (NoExclusionHolds inst) c.spans-spans.ensures c.in-None.ensures.none;
    }
