use Rattle.std.proofs.Common.{◌≡◌, ◌+◌, ◌&&◌, arith}
use Rattle.std.specs.Prelude.{nat_le, nat_lt}
use Rattle.std.proofs.lemmas.Bool.Decides.{nat_tests}
use Rattle.instance_shape.specs.Keys.{has_key, by_number}
use Rattle.instance_shape.specs.Seen.{numbers_of}
use Rattle.shape_walk.proofs.NumberKeyLemmas.{run_has}
use Rattle.shape_walk.proofs.number_keys.Run.contains.Goals as goal

pub returns-then-first-number : goal.returns-then-first-number
returns-then-first-number c =
    let first = c.self.inside.first in let count = c.self.inside.count in let n = c.args.number in
    let has : has_key (numbers_of c.args.self.now) (by_number n) ≡ (nat_le first n && nat_lt n (first + count)) =
    run_has first count n c.args.self.now c.self.view_is in
    grind (arith, nat_tests)

pub returns-else-first-number : goal.returns-else-first-number
returns-else-first-number c =
    let first = c.self.inside.first in let count = c.self.inside.count in let n = c.args.number in
    let has : has_key (numbers_of c.args.self.now) (by_number n) ≡ (nat_le first n && nat_lt n (first + count)) =
    run_has first count n c.args.self.now c.self.view_is in
    grind (arith, nat_tests)
