use Rattle.std.proofs.Common.{◌∙◌, sym, rules}
use Rattle.json_grammar.specs.Tree.{key}
use Rattle.instance_shape.specs.Shape.{kind_of}
use Rattle.shape_walk.specs.Kept.{object_spot}
use Rattle.shape_walk.specs.Taking.{Takes}
use Rattle.shape_walk.proofs.FlawLemmas.{no_flaw}
use Rattle.shape_walk.proofs.KeyLemmas.{number_read}
use Rattle.shape_walk.proofs.OneMore.{goes_on}
use Rattle.shape_walk.proofs.walk.ShapeWalk.take_number_key.Goals as goal

pub returns-clause-stands : goal.returns-clause-stands
returns-clause-stands c limits es end text d e h =
    let old = c.args.self.now in
    let told = c.in_ok-judged.ensures in
    let read = number_read (kind_of (object_spot old.state.top)) text c.args.number c.requires.numbers d e in
    let flaw = told.flaw old.limits c.args.at text d e in
    let takes : Takes old (key c.args.at end text) _ c.in_ok-judged.judged.taken = record {
      under = search rules;
      first = search rules;
      state = λ n.
          let fine = no_flaw c.args.at c.in_ok-judged.judged.flaw (sym c.fault_at-self-inside.ensures ∙ n) in
          let frame = told.frame text d e fine in
          search rules;
      spot = search rules;
      read = search rules;
    } in
    goes_on limits old _ es (key c.args.at end text) c.in_ok-judged.judged.taken c.requires.no_fault takes h
