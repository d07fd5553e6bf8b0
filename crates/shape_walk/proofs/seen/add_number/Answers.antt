use Rattle.std.proofs.Common.{◌≡◌, ◌++◌, ◌∷◌, [], arith}
use Rattle.std.proofs.lemmas.Grind.{common_steps}
use Rattle.instance_shape.specs.Keys.{by_number}
use Rattle.instance_shape.specs.Seen.{numbers_of}
use Rattle.shape_walk.proofs.KeyLemmas.{number_flaw}
use Rattle.shape_walk.proofs.NumberKeyLemmas.{numbers_push}
use Rattle.shape_walk.proofs.seen.add_number.Goals as goal

pub returns-clause-flaw : goal.returns-clause-flaw
returns-clause-flaw c limits at key d e =
    let wrong = number_flaw limits c.args.spot c.args.numbers.now key c.args.number at c.requires d e in
    let new = c.in_ok-new.ensures.new in
    grind (arith, common_steps)

pub returns-clause-added : goal.returns-clause-added
returns-clause-added c =
    let push : numbers_of (c.args.numbers.now ++ c.args.number ∷ [])
    ≡ numbers_of c.args.numbers.now ++ by_number c.args.number ∷ [] =
    numbers_push c.args.numbers.now c.args.number in
    grind (arith, common_steps)
