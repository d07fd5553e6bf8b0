use Rattle.std.proofs.Common.{rules, ◌≡◌, ◌+◌, ◌-◌, ◌++◌, take, length, ◌≤◌, ℕ, vec_len, subst}
use Rattle.std.specs.Prelude.{IfSome}
use Rattle.plan_desk.specs.Desk.{ShowsSame, after_read}
use Rattle.plan_desk.specs.Contents.{IsCountAt}
use Rattle.plan_desk.specs.declared.read_fault.ReadFault.TheVariants.{Memory}
use Rattle.plan_desk.proofs.Unread.{read_more, end_of, read_on, read_all_of, at_fault}
use Rattle.plan_desk.proofs.loops.read_rest.Goals as goal

pub returns-then-n-eq0-clause-ok : goal.returns-then-n-eq0-clause-ok
returns-then-n-eq0-clause-ok g c =
    let d = g.D.Desk in
    end_of (d.shows c.args.desk.now).input (d.shows c.pieces.desk).input
    (vec_len c.pieces.bytes - vec_len c.args.bytes.now) c.args.bytes.now.items c.pieces.bytes.items
    c.pieces.invariant.shows.input (c.in_ok-n.ensures.end (search rules) c.if-n-eq0.true) c.pieces.invariant.read

pub returns-then-n-eq0-clause-end : goal.returns-then-n-eq0-clause-end
returns-then-n-eq0-clause-end g c =
    let d = g.D.Desk in
    read_all_of (d.shows c.args.desk.now) (d.shows c.pieces.desk) (d.shows c.read.new.self)
    (vec_len c.pieces.bytes - vec_len c.args.bytes.now)
    c.pieces.invariant.shows
    (subst (λ (n : ℕ). ShowsSame (d.shows c.read.new.self) (after_read n (d.shows c.pieces.desk))) c.if-n-eq0.true
    c.in_ok-n.ensures.ok) (c.in_ok-n.ensures.end (search rules) c.if-n-eq0.true)

pub pieces-preserved : goal.pieces-preserved
pieces-preserved g c =
    let d = g.D.Desk in
    let k : ℕ = vec_len c.pieces.bytes - vec_len c.args.bytes.now in
    let n : ℕ = c.in_ok-n.n in
    let now = c.extend_from_slice.new.self in
    let first = d.shows c.args.desk.now in
    let mid = d.shows c.pieces.desk in
    let last = d.shows c.read.new.self in
    let e : k + n ≡ vec_len now - vec_len c.args.bytes.now = search rules in
    record {
      from = search rules;
      within = search rules;
      shows = subst (λ (m : ℕ). ShowsSame last (after_read m first)) e
          (read_more first mid last k n c.pieces.invariant.shows c.in_ok-n.ensures.ok);
      read = subst
          (λ (m : ℕ). IfSome first.input.unread
          (λ rest. (m ≤ length rest) × (now.items ≡ c.args.bytes.now.items ++ take m rest))) e
          (read_on first.input mid.input k n c.args.bytes.now.items c.pieces.bytes.items now.items
          (take n c.read.new.buf)
          c.pieces.invariant.shows.input c.pieces.invariant.read c.in_ok-n.ensures.bytes
          c.in_ok-extend_from_slice.ensures.items);
      same = search rules;
    }

pub returns-then-limit-len-clause-stops : goal.returns-then-limit-len-clause-stops
returns-then-limit-len-clause-stops g c =
    let d = g.D.Desk in
    let k : ℕ = vec_len c.pieces.bytes - vec_len c.args.bytes.now in (
      k + c.in_ok-n.n,
      (search rules, search rules),
      read_more (d.shows c.args.desk.now) (d.shows c.pieces.desk)
          (d.shows c.read.new.self) k c.in_ok-n.n c.pieces.invariant.shows c.in_ok-n.ensures.ok,
    )

pub returns-in_err-extend_from_slice-clause-stops : goal.returns-in_err-extend_from_slice-clause-stops
returns-in_err-extend_from_slice-clause-stops g c =
    let d = g.D.Desk in
    let k : ℕ = vec_len c.pieces.bytes - vec_len c.args.bytes.now in
    at_fault c.from_residual-in_err-extend_from_slice.result Memory
    (λ fault. (n : ℕ) × IsCountAt c.args.limit fault (vec_len c.args.bytes.now + n)
    × ShowsSame (d.shows c.read.new.self) (after_read n (d.shows c.args.desk.now))) (search rules) (
      k + c.in_ok-n.n,
      search rules,
      read_more (d.shows c.args.desk.now) (d.shows c.pieces.desk)
          (d.shows c.read.new.self) k c.in_ok-n.n c.pieces.invariant.shows c.in_ok-n.ensures.ok,
    )
