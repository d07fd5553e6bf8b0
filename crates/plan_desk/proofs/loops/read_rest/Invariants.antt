use Rattle.std.proofs.Common.{◌≡◌, ℕ, ◌-◌, ◌≤◌, ◌++◌, length, take, vec_len}
use Rattle.std.specs.Prelude.{IfSome}
use Rattle.plan_desk.specs.Desk.{ShowsSame, after_read}
use Rattle.plan_desk.proofs.loops.read_rest.Given as goal

abbrev pub invariant-pieces : goal.invariant-pieces
invariant-pieces g l =
    let d = g.D.Desk in
    let n : ℕ = vec_len l.bytes - vec_len l.fn.bytes in
    record {
      from : vec_len l.fn.bytes ≤ vec_len l.bytes;
      within : vec_len l.bytes ≤ l.limit;
      shows : ShowsSame (d.shows l.desk) (after_read n (d.shows l.fn.desk));
      read : IfSome (d.shows l.fn.desk).input.unread
          (λ rest. (n ≤ length rest) × (l.bytes.items ≡ l.fn.bytes.items ++ take n rest));
      same : (d.shows l.desk).faults ≡ (d.shows l.fn.desk).faults;
    }

abbrev pub decreases-pieces : goal.decreases-pieces
decreases-pieces g l = l.limit - vec_len l.bytes
