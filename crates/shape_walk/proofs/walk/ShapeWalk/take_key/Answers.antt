use Rattle.std.proofs.Common.{◌∙◌, sym, refl, rules}
use Rattle.shape_walk.proofs.FlawLemmas.{no_flaw}
use Rattle.shape_walk.proofs.walk.ShapeWalk.take_key.Goals as goal

pub returns : goal.returns
returns c end = rw (← c.self.view_is) (record {
  under = refl;
  first = search rules;
  state = λ n.
      let fine = no_flaw c.args.at c.in_ok-judged.judged.flaw (sym c.fault_at-self-inside.ensures ∙ n) in
      let frame = c.in_ok-judged.ensures.frame fine in
      search rules;
  spot = search rules;
  read = search rules;
})
