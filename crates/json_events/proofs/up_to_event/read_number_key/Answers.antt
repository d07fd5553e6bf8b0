use Rattle.std.proofs.Common.{rules, ◌≡◌, ◌∙◌, ◌+◌, ◌<◌, ◌≤◌, ℕ, List, length, take, drop, sym, ap, subst, arith}
use Rattle.std.proofs.Common.{length-drop}
use Rattle.std.specs.Prelude.{◌-◌}
use Rattle.std.specs.List.{prefix_len}
use Rattle.std.proofs.lemmas.List.Sums.{prefix_len-le-length}
use Rattle.json_grammar.specs.laws.Machine.{is_blank}
use Rattle.json_events.specs.NumberKeys.{TellsKey}
use Rattle.json_events.specs.Unreads.{unread_of}
use Rattle.json_machine.proofs.PlainNumbers.{behind}
use Rattle.json_events.proofs.KeyTold.{key_told}
use Rattle.json_events.proofs.up_to_event.read_number_key.Goals as goal

-- there are no more blanks than bytes
some_bytes : (blanks : ℕ) (bs : List ℕ) → blanks ≡ prefix_len is_blank bs → blanks ≤ length bs
some_bytes blanks bs e = rw e (prefix_len-le-length is_blank bs)

-- the key lies in the buffer
fits : (n blanks : ℕ) (bs : List ℕ) → 1 + n < length (take (length bs - blanks) (drop blanks bs))
    → n + 1 + blanks < length bs
fits n blanks bs h = omega (arith, ap length (behind blanks bs), length-drop blanks bs)

pub slice_bounds-take_number_key-count : goal.slice_bounds-take_number_key-count
slice_bounds-take_number_key-count c =
    some_bytes c.blank_count-blanks.result c.as_slice-bytes.result.now c.blank_count-blanks.ensures

pub slice_bounds-take_number_key-start : goal.slice_bounds-take_number_key-start
slice_bounds-take_number_key-start c = let l =
    some_bytes c.blank_count-blanks.result c.as_slice-bytes.result.now c.blank_count-blanks.ensures in search rules

pub pass-requires : goal.pass-requires
pass-requires c =
    let l = some_bytes c.blank_count-blanks.result c.as_slice-bytes.result.now c.blank_count-blanks.ensures in
    omega (arith, l, ap length c.as_slice-bytes.ensures.same)

pub pass-requires-2 : goal.pass-requires-2
pass-requires-2 c =
    let bs = c.as_slice-bytes.result.now in
    let blanks = c.blank_count-blanks.result in
    let f = fits c.in_ok-count.field-0.count blanks bs c.in_ok-count.ensures.run.key.within in
    omega (
      arith,
      f,
      ap length c.as_slice-bytes.ensures.same,
      ap length c.pass.ensures.rest,
      length-drop blanks (unread_of c.args.unread.now),
    )

pub returns-clause-tells : goal.returns-clause-tells
returns-clause-tells c =
    let m = c.args.machine.now in
    let n = c.take_number_key.new.machine in
    let u = c.args.unread.now in
    let v = c.pass.new.self in
    let w = c.pass-2.new.self in
    let bs = c.as_slice-bytes.result.now in
    let blanks = c.blank_count-blanks.result in
    let run = c.in_ok-count.field-0 in
    let is = c.in_ok-count.ensures in
    subst (λ (k : ℕ). TellsKey k run.number m u n w) (sym c.at-at.ensures)
    (key_told m n u v w blanks run.count run.number (take (length bs - blanks) (drop blanks bs)) (search rules)
    (search rules) c.pass.ensures.at c.pass.ensures.rest
    (behind blanks bs ∙ ap (drop blanks) c.as_slice-bytes.ensures.same)
    is.takes is.run.text (λ k i s. is.sound k i s (search rules)) c.pass-2.ensures.at c.pass-2.ensures.rest)
