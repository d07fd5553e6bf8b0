use Rattle.std.proofs.Common.{◌≡◌, ◌∙◌, sym, ap, add-one, ◌++◌, ◌∷◌, [], ◌+◌, ◌<◌, arith, nat_eq, eq-eqb}
use Rattle.shape_walk.specs.Ascending.{ascending, comes_next}
use Rattle.shape_walk.specs.declared.number_keys.Run.TheInside.{Inside}
use Rattle.shape_walk.proofs.NumberKeyLemmas.{next_is_new, none_anywhere, run_next, none_next, not_equal}
use Rattle.shape_walk.proofs.number_keys.Run.lengthen.Goals as goal
use Rattle.shape_walk.proofs.number_keys.Run.lengthen.Goals.{then-self-eq0, else-self-eq0}

-- a first number has been put in only where there was none
before : (c : goal.After-self-2-1)
    → ascending c.if-self-eq0.self-inside.first c.if-self-eq0.self-inside.count ≡ c.args.self.now
before c = elim c.if-self-eq0.branch [
  | then-self-eq0 w ↦ ap (λ (r : Inside). ascending r.first r.count) w.self-inside-is
      ∙ none_anywhere c.args.number c.self.inside.first c.self.inside.count w.if-self-eq0.true ∙ c.self.view_is
  | else-self-eq0 w ↦ ap (λ (r : Inside). ascending r.first r.count) w.self-inside-is ∙ c.self.view_is
]

pub returns-clause-new : goal.returns-clause-new
returns-clause-new c = λ _.
    next_is_new c.if-self-eq0.self-inside.first c.if-self-eq0.self-inside.count c.args.number c.args.self.now (before c)
    c.if-number-self.false

pub returns-clause-added : goal.returns-clause-added
returns-clause-added c = λ _.
    let first = c.if-self-eq0.self-inside.first in let count = c.if-self-eq0.self-inside.count in
    ap (ascending first) (add-one count) ∙ ap (λ n. ascending first count ++ n ∷ []) (sym c.if-number-self.false)
    ∙ ap (λ ns. ns ++ c.args.number ∷ []) (before c)

pub returns-then-number-self-clause-next : goal.returns-then-number-self-clause-next
returns-then-number-self-clause-next c =
    let first = c.self.inside.first in let count = c.self.inside.count in let n = c.args.number in
    elim c.if-self-eq0.branch [
      | then-self-eq0 w ↦
          let here : c.if-self-eq0.self-inside.first ≡ n = ap (λ (r : Inside). r.first) w.self-inside-is in
          let none : c.if-self-eq0.self-inside.count ≡ count = ap (λ (r : Inside). r.count) w.self-inside-is in
          absurd (omega (arith, w.if-self-eq0.true))
      | else-self-eq0 w ↦
          let here : c.if-self-eq0.self-inside.first ≡ first = ap (λ (r : Inside). r.first) w.self-inside-is in
          let same : c.if-self-eq0.self-inside.count ≡ count = ap (λ (r : Inside). r.count) w.self-inside-is in
          let some : 0 < count = omega (arith, w.if-self-eq0.false) in
          let next : comes_next n c.args.self.now ≡ nat_eq n (first + count) =
          run_next first count n c.args.self.now c.self.view_is some in
          not_equal first count n c.if-self-eq0.self-inside.first c.if-self-eq0.self-inside.count here same
          c.if-number-self.true ∙ sym next
    ]

pub returns-clause-next : goal.returns-clause-next
returns-clause-next c =
    let first = c.self.inside.first in let count = c.self.inside.count in let n = c.args.number in
    elim c.if-self-eq0.branch [
      | then-self-eq0 w ↦ sym (none_next first count n c.args.self.now c.self.view_is w.if-self-eq0.true)
      | else-self-eq0 w ↦
          let here : c.if-self-eq0.self-inside.first ≡ first = ap (λ (r : Inside). r.first) w.self-inside-is in
          let same : c.if-self-eq0.self-inside.count ≡ count = ap (λ (r : Inside). r.count) w.self-inside-is in
          let some : 0 < count = omega (arith, w.if-self-eq0.false) in
          let next : comes_next n c.args.self.now ≡ nat_eq n (first + count) =
          run_next first count n c.args.self.now c.self.view_is some in
          let reached : n ≡ first + count = omega (arith, c.if-number-self.false) in
          sym (next ∙ eq-eqb n (first + count) reached)
    ]
