use Rattle.std.proofs.Common.{List, ℕ, ◌↔◌, IsTrue, Some, map, sym, ◌∙◌, subst}
use Rattle.instance_model.specs.Plans.{AreAllowedStarts}
use Rattle.instance_model.specs.Rules.{IsFeasible}
use Rattle.local_search.proofs.EndLemmas.{end_is, instance_is, is_descent, present_allowed}
use Rattle.local_search.proofs.ending.descend_from.Goals as goal

pub present_starts-requires : goal.present_starts-requires
present_starts-requires g c =
    instance_is c.args.inst.now c.args.opening.now c.in_ok-kept.kept c.descend.new.kept c.args.turns
    c.in_ok-descent.descent.moves c.in_ok-descent.descent.spent c.in_ok-kept.ensures c.in_ok-descent.ensures.ok

pub is_feasible-requires : goal.is_feasible-requires
is_feasible-requires g c =
    instance_is c.args.inst.now c.args.opening.now c.in_ok-kept.kept c.descend.new.kept c.args.turns
    c.in_ok-descent.descent.moves c.in_ok-descent.descent.spent c.in_ok-kept.ensures c.in_ok-descent.ensures.ok

pub returns : goal.returns
returns g c =
    let inst = c.args.inst.now in
    let opening = c.args.opening.now in
    let old = c.in_ok-kept.kept in
    let new = c.descend.new.kept in
    let moves = c.in_ok-descent.descent.moves in
    let spent = c.in_ok-descent.descent.spent in
    let same = instance_is inst opening old new c.args.turns moves spent c.in_ok-kept.ensures
    c.in_ok-descent.ensures.ok in
    record {
      descent = is_descent inst opening old new c.args.turns moves spent c.in_ok-kept.ensures
          c.in_ok-descent.ensures.ok;
      end = c.in_ok-starts.ensures ∙ end_is inst opening old new c.args.turns moves spent c.in_ok-kept.ensures
          c.in_ok-descent.ensures.ok;
      allowed = subst (AreAllowedStarts inst) (sym c.in_ok-starts.ensures)
          (present_allowed inst new same c.allowed.ensures);
      feasible = subst (λ (plan : List ℕ). IsTrue c.is_feasible.result ↔ IsFeasible inst (map Some plan))
          (sym c.in_ok-starts.ensures) c.is_feasible.ensures;
    }
