use Rattle.refined_text.specs.declared.lines.line.RefinedLine.TheVariants.{Plain, Cap, Group}
use Rattle.refined_text.specs.declared.lines.line.RefinedLine.TheVariants as refined
use Rattle.refined_text.specs.grammar.Further.{group_of}
use Rattle.refined_text.specs.read.Taking.{TakesEntry, TakesPrice, TakesCap, TakesGroup, TakesOffset, TakesClique}
use Rattle.refined_text.proofs.ReadTakeLemmas.{price_taken, cap_taken, group_taken, offset_taken, clique_taken}
use Rattle.refined_text.proofs.ReadTakeLemmas.{taken_as, none_as}
use Rattle.refined_text.proofs.read.part.PartList.take.Goals as goal

pub returns-in-Plain-clause-taken : goal.returns-in-Plain-clause-taken
returns-in-Plain-clause-taken c =
    let inst = c.args.inst.now in
    let old = c.args.self.now in
    let new = c.take_price.new.self in
    let line = c.in-Plain.plain in
    let form = rw c.in-Plain.is at c.requires.form in
    rw c.in-Plain.is (taken_as c.take_price.result (TakesPrice inst old new line)
    (TakesEntry inst old new (Plain line)) (price_taken inst old new line c.requires.part form.0)
    c.take_price.ensures.taken)

pub returns-in-Plain-clause-refused : goal.returns-in-Plain-clause-refused
returns-in-Plain-clause-refused c = λ count left. rw c.in-Plain.is (c.take_price.ensures.refused count left)

pub returns-in-Cap-clause-taken : goal.returns-in-Cap-clause-taken
returns-in-Cap-clause-taken c =
    let inst = c.args.inst.now in
    let old = c.args.self.now in
    let new = c.take_cap.new.self in
    rw c.in-Cap.is (none_as c.take_cap.result (TakesCap old new) (TakesEntry inst old new Cap)
    (cap_taken inst old new c.requires.part) c.take_cap.ensures.taken)

pub returns-in-Group-clause-taken : goal.returns-in-Group-clause-taken
returns-in-Group-clause-taken c =
    let inst = c.args.inst.now in
    let old = c.args.self.now in
    let new = c.take_group.new.self in
    let t = c.in-Group.t in
    let members = c.in-Group.members in
    let told = rw c.as_slice.ensures at c.take_group.ensures.taken in
    rw c.in-Group.is (taken_as c.take_group.result (TakesGroup inst old new t (group_of members))
    (TakesEntry inst old new (Group t members)) (group_taken inst old new c.requires.part t members) told)

pub returns-in-Offset-clause-taken : goal.returns-in-Offset-clause-taken
returns-in-Offset-clause-taken c =
    let inst = c.args.inst.now in
    let old = c.args.self.now in
    let new = c.take_offset.new.self in
    let t = c.in-Offset.t in
    let i = c.in-Offset.i in
    let g = c.in-Offset.g in
    let v = c.in-Offset.v in
    rw c.in-Offset.is (taken_as c.take_offset.result (TakesOffset inst old new t i g v)
    (TakesEntry inst old new (refined.Offset t i g v)) (offset_taken inst old new c.requires.part t i g v)
    c.take_offset.ensures.taken)

pub returns-in-Clique-clause-taken : goal.returns-in-Clique-clause-taken
returns-in-Clique-clause-taken c =
    let inst = c.args.inst.now in
    let old = c.args.self.now in
    let new = c.take_clique.new.self in
    let t = c.in-Clique.t in
    let v = c.in-Clique.v in
    let members = c.in-Clique.members in
    let told = rw c.as_slice-in-Clique.ensures at c.take_clique.ensures.taken in
    rw c.in-Clique.is (taken_as c.take_clique.result (TakesClique inst old new t v members)
    (TakesEntry inst old new (refined.Clique t v members)) (clique_taken inst old new c.requires.part t v members) told)
