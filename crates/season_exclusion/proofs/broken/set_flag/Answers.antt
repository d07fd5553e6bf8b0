use Rattle.std.proofs.Common.{◌≡◌, arith, false, get_or}
use Rattle.season_exclusion.proofs.CountLemmas.{bit, bit_from, bit_small, count_set_small, count_set-set}
use Rattle.season_exclusion.proofs.broken.set_flag.Goals as goal

pub overflow_add-result : goal.overflow_add-result
overflow_add-result c =
    let flags = c.args.flags.now in
    let added : c.from.result ≡ bit c.args.flag = bit_from c.from.result c.args.flag c.from.ensures in
    omega (arith, added, bit_small c.args.flag, count_set_small flags, c.requires.count, c.requires.few)

pub overflow_sub-result : goal.overflow_sub-result
overflow_sub-result c =
    let flags = c.args.flags.now in
    let added : c.from.result ≡ bit c.args.flag = bit_from c.from.result c.args.flag c.from.ensures in
    let was : c.from-2.result ≡ bit (get_or flags c.args.e false) =
    bit_from c.from-2.result (get_or flags c.args.e false) c.from-2.ensures in
    let set = count_set-set flags c.args.e c.args.flag c.requires.within in
    omega (arith, added, was, set, c.requires.count)

pub returns-clause-count : goal.returns-clause-count
returns-clause-count c =
    let flags = c.args.flags.now in
    let added : c.from.result ≡ bit c.args.flag = bit_from c.from.result c.args.flag c.from.ensures in
    let was : c.from-2.result ≡ bit (get_or flags c.args.e false) =
    bit_from c.from-2.result (get_or flags c.args.e false) c.from-2.ensures in
    let set = count_set-set flags c.args.e c.args.flag c.requires.within in
    omega (arith, added, was, set, c.requires.count)
