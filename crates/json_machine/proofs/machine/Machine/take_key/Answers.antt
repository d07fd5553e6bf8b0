use Rattle.std.specs.Prelude.{◌-◌}
use Rattle.std.specs.List.{prefix_len}
use Rattle.std.proofs.Common.{◌≡◌, ℕ, ◌+◌, ◌≤◌, List, length, take, drop, refl, ◌∙◌, ap, arith, rules, length-drop}
use Rattle.std.proofs.lemmas.List.Sums.{prefix_len-le-length}
use Rattle.json_grammar.specs.laws.Machine.{is_plain}
use Rattle.json_machine.specs.Machines.{levels_of, mode_of}
use Rattle.json_machine.proofs.PlainNumbers.{behind}
use Rattle.json_machine.proofs.WholeKeys.{key_mode, key_taken}
use Rattle.json_machine.proofs.machine.Machine.take_key.Goals as goal

-- the characters are among the bytes behind the quote
among : (n : ℕ) (bs : List ℕ) → n ≡ prefix_len is_plain bs → n ≤ length bs
among n bs e = rw e (prefix_len-le-length is_plain bs)

pub overflow_add-count : goal.overflow_add-count
overflow_add-count c =
    let l = among c.plain_count-count.result (take (length c.args.bytes.now - 1) (drop 1 c.args.bytes.now))
    c.plain_count-count.ensures in
    omega (arith, l, ap length (behind 1 c.args.bytes.now), length-drop 1 c.args.bytes.now, c.requires.room)

pub returns-clause-takes : goal.returns-clause-takes
returns-clause-takes c =
    let m = c.args.self.now in
    let bs = c.args.bytes.now in
    let n = c.plain_count-count.result in
    let count : n ≡ prefix_len is_plain (drop 1 bs) =
    c.plain_count-count.ensures ∙ ap (prefix_len is_plain) (behind 1 bs) in
    let back : 1 + n - 1 ≡ n = omega arith in
    key_taken c.args.k n (levels_of m.levels.items) (mode_of m.mode m.at m.token.items) bs c.in_ok-text.text.items
    (c.args.k + (n + 2)) (key_mode m.mode m.at m.token.items c.requires.mode) (search rules) count (omega arith)
    (search rules) (c.in_ok-text.ensures.items ∙ ap (λ i. take i (drop 1 bs)) back) refl
