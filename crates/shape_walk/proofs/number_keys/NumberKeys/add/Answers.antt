use Rattle.std.proofs.Common.{◌≡◌, ◌∙◌, ap, ◌++◌, not, refl}
use Rattle.shape_walk.specs.declared.number_keys.NumberKeys.TheInside.{Inside}
use Rattle.shape_walk.proofs.NumberKeyLemmas.{in_run, behind_run}
use Rattle.shape_walk.proofs.number_keys.NumberKeys.add.Goals as goal
use Rattle.shape_walk.proofs.number_keys.NumberKeys.add.Goals.{
  else-len-eq0-via-then-len-eq0+else-lengthen,
  else-len-eq0-via-else-len-eq0,
}

pub returns-then-contains-clause-new : goal.returns-then-contains-clause-new
returns-then-contains-clause-new c =
    let run = c.else-len-eq0.self-inside.run in let others = c.else-len-eq0.self-inside.others.numbers.items in
    let list = λ (k : Inside). k.run ++ k.others.numbers.items in
    let before : run ++ others ≡ c.args.self.now = elim c.else-len-eq0.branch [
      | else-len-eq0-via-then-len-eq0+else-lengthen w ↦ ap list w.self-inside-is
          ∙ ap (λ ns. ns ++ c.self.inside.others.numbers.items) (w.if-lengthen.ensures.kept refl) ∙ c.self.view_is
      | else-len-eq0-via-else-len-eq0 w ↦ ap list w.self-inside-is ∙ c.self.view_is
    ] in
    ap not (in_run run others c.args.self.now c.args.number before c.if-contains.ensures)

pub returns-clause-new : goal.returns-clause-new
returns-clause-new c =
    let run = c.else-len-eq0.self-inside.run in let others = c.else-len-eq0.self-inside.others.numbers.items in
    let list = λ (k : Inside). k.run ++ k.others.numbers.items in
    let before : run ++ others ≡ c.args.self.now = elim c.else-len-eq0.branch [
      | else-len-eq0-via-then-len-eq0+else-lengthen w ↦ ap list w.self-inside-is
          ∙ ap (λ ns. ns ++ c.self.inside.others.numbers.items) (w.if-lengthen.ensures.kept refl) ∙ c.self.view_is
      | else-len-eq0-via-else-len-eq0 w ↦ ap list w.self-inside-is ∙ c.self.view_is
    ] in
    c.in_ok-new.ensures.new
    ∙ ap not (behind_run run others c.args.self.now c.args.number before c.if-contains.ensures)
