use Rattle.std.proofs.Common.{rules, ◌≡◌, ◌<◌, ◌≤◌, length, get_or, arith, refl}
use Rattle.std.specs.Prelude.{◌*◌}
use Rattle.json_events.proofs.CountedNumbers.{whole_fits, run_whole}
use Rattle.json_events.proofs.NumberLanes.{whole_writes}
use Rattle.json_events.proofs.number_lanes.counted_by_lanes.Goals as goal

pub overflow_mul-result : goal.overflow_mul-result
overflow_mul-result c =
    let bs = c.args.bytes.now in
    let whole = c.digits_from-whole.result in
    let few : whole ≤ 7 = search rules in
    let digits = c.digits_from-whole.ensures bs c.other_mask-others.ensures (omega arith) in
    let writes = whole_writes bs whole c.whole_number-value.result (omega (arith, c.requires)) digits
    c.whole_number-value.ensures in
    omega (arith, whole_fits bs whole c.whole_number-value.result writes few)

pub returns-in-44 : goal.returns-in-44
returns-in-44 c =
    let bs = c.args.bytes.now in
    let whole = c.digits_from-whole.result in
    let value = c.whole_number-value.result in
    let few : whole ≤ 7 = search rules in
    let some : 0 < whole = search rules in
    let zero : get_or bs 0 0 ≡ 48 → whole ≡ 1 = search rules in
    let comma : get_or bs whole 0 ≡ 44 = search rules in
    let within : whole < length bs = omega (arith, c.requires) in
    let digits = c.digits_from-whole.ensures bs c.other_mask-others.ensures (omega arith) in
    let writes = whole_writes bs whole value (omega arith) digits c.whole_number-value.ensures in
    run_whole bs whole value (value * 1000000000000) writes some few zero within comma refl
