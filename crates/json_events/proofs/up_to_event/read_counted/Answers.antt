use Rattle.std.proofs.Common.{rules, ◌≡◌, ◌∙◌, ◌+◌, ◌<◌, ◌≤◌, ℕ, List, length, take, drop, sym, ap, subst, arith}
use Rattle.std.proofs.Common.{length-drop}
use Rattle.std.specs.Prelude.{◌-◌, ◌^◌, ℤ, pos}
use Rattle.std.specs.List.{prefix_len}
use Rattle.std.proofs.lemmas.List.Sums.{prefix_len-le-length}
use Rattle.json_grammar.specs.Tree as json
use Rattle.json_grammar.specs.laws.Machine.{is_blank}
use Rattle.json_events.specs.CountedNumbers.{finishes, TellsCount}
use Rattle.json_events.specs.Unreads.{unread_of}
use Rattle.json_machine.proofs.PlainNumbers.{behind}
use Rattle.json_events.proofs.CountTold.{count_told}
use Rattle.json_events.proofs.up_to_event.read_counted.Goals as goal

-- the rest behind the blanks has more bytes than the number
fits : (n blanks : ℕ) (bs : List ℕ) → n < length (take (length bs - blanks) (drop blanks bs)) → n + blanks < length bs
fits n blanks bs h = omega (arith, ap length (behind blanks bs), length-drop blanks bs)

-- there are no more blanks than bytes
some_bytes : (blanks : ℕ) (bs : List ℕ) → blanks ≡ prefix_len is_blank bs → blanks ≤ length bs
some_bytes blanks bs e = rw e (prefix_len-le-length is_blank bs)

pub slice_bounds-take_counted-count : goal.slice_bounds-take_counted-count
slice_bounds-take_counted-count c =
    some_bytes c.blank_count-blanks.result c.as_slice-bytes.result.now c.blank_count-blanks.ensures

pub slice_bounds-take_counted-start : goal.slice_bounds-take_counted-start
slice_bounds-take_counted-start c = let l =
    some_bytes c.blank_count-blanks.result c.as_slice-bytes.result.now c.blank_count-blanks.ensures in search rules

pub pass-requires : goal.pass-requires
pass-requires c =
    let l = some_bytes c.blank_count-blanks.result c.as_slice-bytes.result.now c.blank_count-blanks.ensures in
    omega (arith, l, ap length c.as_slice-bytes.ensures.same)

-- the number lies in the buffer
number_fits : (n blanks at : ℕ) (bs rest : List ℕ) → n < length (take (length bs - blanks) (drop blanks bs))
    → bs ≡ rest → at + length rest < 2 ^ 63 → at + blanks + n + 1 < 2 ^ 63
number_fits n blanks at bs rest h same room = omega (arith, fits n blanks bs h, ap length same)

pub overflow_add-run : goal.overflow_add-run
overflow_add-run c =
    let f = number_fits c.in_ok-run.field-0.run.length c.blank_count-blanks.result c.args.unread.now.at
    c.as_slice-bytes.result.now (unread_of c.args.unread.now) c.in_ok-run.ensures.within c.as_slice-bytes.ensures.same
    c.as_slice-bytes.ensures.room in
    omega (arith, f)

pub overflow_add-at : goal.overflow_add-at
overflow_add-at c =
    let f = number_fits c.in_ok-run.field-0.run.length c.blank_count-blanks.result c.args.unread.now.at
    c.as_slice-bytes.result.now (unread_of c.args.unread.now) c.in_ok-run.ensures.within c.as_slice-bytes.ensures.same
    c.as_slice-bytes.ensures.room in
    omega (arith, f, c.at-at.ensures, c.pass.ensures.at)

pub pass-requires-2 : goal.pass-requires-2
pass-requires-2 c =
    let bs = c.as_slice-bytes.result.now in
    let blanks = c.blank_count-blanks.result in
    let f = fits c.in_ok-run.field-0.run.length blanks bs c.in_ok-run.ensures.within in
    omega (
      arith,
      f,
      ap length c.as_slice-bytes.ensures.same,
      ap length c.pass.ensures.rest,
      length-drop blanks (unread_of c.args.unread.now),
    )

pub returns-clause-tells : goal.returns-clause-tells
returns-clause-tells c =
    let m = c.args.machine.now in
    let n = c.take_counted.new.machine in
    let u = c.args.unread.now in
    let v = c.pass.new.self in
    let w = c.pass-2.new.self in
    let bs = c.as_slice-bytes.result.now in
    let blanks = c.blank_count-blanks.result in
    let taken = c.in_ok-run.field-0 in
    let size = taken.run.length in
    let is = c.in_ok-run.ensures in
    let counted = count_told m n u v w blanks size (take (length bs - blanks) (drop blanks bs)) (pos taken.run.size)
    (λ k. finishes taken.closes (k + size)) (search rules) (search rules) c.pass.ensures.at c.pass.ensures.rest
    (behind blanks bs ∙ ap (drop blanks) c.as_slice-bytes.ensures.same)
    is.takes is.exact (λ k i s. is.sound k i s (search rules)) c.pass-2.ensures.at c.pass-2.ensures.rest in
    subst (λ (es : List json.Event). TellsCount c.at-at.result c.from-count.result es m u n w)
    (sym c.finish_of-second.ensures)
    (subst (λ (z : ℤ). TellsCount c.at-at.result z (finishes taken.closes (c.at-at.result + size)) m u n w)
    (sym c.from-count.ensures)
    (subst (λ (k : ℕ). TellsCount k (pos taken.run.size) (finishes taken.closes (k + size)) m u n w)
    (sym c.at-at.ensures) counted))
