use Rattle.std.proofs.Common.{◌≡◌, ◌∙◌, None, sym, refl, rules}
use Rattle.shape_walk.proofs.FlawLemmas.{first_flaw-append, no_flaw, no_later}
use Rattle.shape_walk.proofs.walk.ShapeWalk.take_number.Goals as goal

pub returns : goal.returns
returns c = rw (← c.self.view_is) (record {
  under = refl;
  first = search (rules, first_flaw-append);
  state = λ n.
      let none : c.or.result ≡ None = no_flaw c.args.at c.or.result (sym c.fault_at-self-inside.ensures ∙ n) in
      let within : c.count-past.result ≡ None =
      no_later c.judge_number-judged.result.flaw c.count-past.result (sym c.or.ensures ∙ none) in
      let risks = c.count-past.ensures.risks within in
      let workloads = c.count-past.ensures.workloads within in
      search rules;
  spot = search rules;
  read = search rules;
})
