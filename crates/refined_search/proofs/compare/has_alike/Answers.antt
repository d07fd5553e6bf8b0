use Rattle.std.proofs.Common.{◌∙◌, refl, sym, subst, arith, rules, FitsSigned}
use mir.Syntax.{w128}
use Rattle.std.proofs.lemmas.Int.{to_z-of_z}
use Rattle.std.proofs.lemmas.Bool.{false≢true}
use Rattle.refined_prices.specs.RefinedLists.{RefinedList, zero_refined}
use Rattle.refined_search.specs.Alike.{PriceAlike}
use Rattle.refined_search.specs.Steps.{AreRowsOf}
use Rattle.refined_search.proofs.AlikeLemmas.{alike_from_rows, rows_from_alike, any_first, any_behind, none_of_all}
use Rattle.refined_search.proofs.OrderLemmas.{each_more}
use Rattle.refined_search.proofs.RowLemmas.{Rows, items}
use Rattle.refined_search.proofs.compare.has_alike.Goals as goal

pub returns-then-branch : goal.returns-then-branch
returns-then-branch c =
    let inst = c.args.inst.now in
    let list = c.args.list.now in
    let constant = c.in_ok-rows.constant in
    let own : AreRowsOf inst list (items c.in_ok-rows.rows.items) constant =
    record { rows_are = c.in_ok-rows.ensures.rows; constant_is = c.in_ok-rows.ensures.constant } in
    let fits : FitsSigned w128 constant = search rules in
    let theirs = subst (λ (rows : Rows). AreRowsOf inst (zero_refined inst) (items rows) constant)
    c.as_slice.ensures.value
    (subst (AreRowsOf inst (zero_refined inst) (items c.as_slice.result.now)) (to_z-of_z w128 constant fits)
    (c.in_ok-are_rows_of_zeros.ensures.0 c.if-branch.true)) in (
      λ _. any_first (λ other. PriceAlike inst other list) (zero_refined inst) c.args.lists.now
          (alike_from_rows inst (zero_refined inst) list (items c.in_ok-rows.rows.items) constant own theirs),
      λ _. refl,
    )

pub returns-then-branch-2 : goal.returns-then-branch-2
returns-then-branch-2 c =
    let inst = c.args.inst.now in
    let list = c.args.list.now in
    let other = c.other-item.result in
    let constant = c.in_ok-rows.constant in
    let own : AreRowsOf inst list (items c.in_ok-rows.rows.items) constant =
    record { rows_are = c.in_ok-rows.ensures.rows; constant_is = c.in_ok-rows.ensures.constant } in
    let fits : FitsSigned w128 constant = search rules in
    let theirs = subst (λ (rows : Rows). AreRowsOf inst other (items rows) constant)
    c.as_slice-in-loop-other.ensures.value
    (subst (AreRowsOf inst other (items c.as_slice-in-loop-other.result.now)) (to_z-of_z w128 constant fits)
    (c.in_ok-has_rows.ensures.0 c.if-branch-2.true)) in (
      λ _. any_behind (λ other. PriceAlike inst other list) (zero_refined inst) c.args.lists.now (
        c.loop-other.other-index,
        other,
        c.loop-other-test.true,
        sym c.other-item.is,
        alike_from_rows inst other list (items c.in_ok-rows.rows.items) constant own theirs,
      ),
      λ _. refl,
    )

pub loop-other-preserved : goal.loop-other-preserved
loop-other-preserved c =
    let inst = c.args.inst.now in
    let list = c.args.list.now in
    let other = c.other-item.result in
    let constant = c.in_ok-rows.constant in
    let own : AreRowsOf inst list (items c.in_ok-rows.rows.items) constant =
    record { rows_are = c.in_ok-rows.ensures.rows; constant_is = c.in_ok-rows.ensures.constant } in
    let fits : FitsSigned w128 constant = search rules in
    let unlike = λ (alike : PriceAlike inst other list). false≢true (sym c.if-branch-2.false
    ∙ c.in_ok-has_rows.ensures.1 (subst (AreRowsOf inst other (items c.as_slice-in-loop-other.result.now))
    (sym (to_z-of_z w128 constant fits)) (subst (λ (rows : Rows). AreRowsOf inst other (items rows) constant)
    (sym c.as_slice-in-loop-other.ensures.value)
    (rows_from_alike inst other list (items c.in_ok-rows.rows.items) constant own alike)))) in
    each_more (λ (x : RefinedList). PriceAlike inst x list → ⊥) c.args.lists.now c.loop-other.other-index other
    c.loop-other-test.true c.other-item.is unlike c.loop-other.invariant

pub returns : goal.returns
returns c =
    let inst = c.args.inst.now in
    let list = c.args.list.now in
    let constant = c.in_ok-rows.constant in
    let own : AreRowsOf inst list (items c.in_ok-rows.rows.items) constant =
    record { rows_are = c.in_ok-rows.ensures.rows; constant_is = c.in_ok-rows.ensures.constant } in
    let fits : FitsSigned w128 constant = search rules in
    let unlike = λ (alike : PriceAlike inst (zero_refined inst) list). false≢true (sym c.if-branch.false
    ∙ c.in_ok-are_rows_of_zeros.ensures.1 (subst (AreRowsOf inst (zero_refined inst) (items c.as_slice.result.now))
    (sym (to_z-of_z w128 constant fits))
    (subst (λ (rows : Rows). AreRowsOf inst (zero_refined inst) (items rows) constant) (sym c.as_slice.ensures.value)
    (rows_from_alike inst (zero_refined inst) list (items c.in_ok-rows.rows.items) constant own alike)))) in (
      λ t. absurd (false≢true t),
      λ found. absurd (none_of_all inst list (zero_refined inst) c.args.lists.now unlike
          (λ k d l. c.loop-other.invariant k d (omega (arith, l))) found),
    )
