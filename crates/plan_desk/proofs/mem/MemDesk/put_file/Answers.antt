use Rattle.std.proofs.Common.{List, ℕ, false, ap, subst}
use Rattle.plan_desk.specs.Mem.{IsPut, mem_shows}
use Rattle.plan_desk.proofs.Kept.{put_shown}
use Rattle.plan_desk.proofs.mem.MemDesk.put_file.Goals as goal

pub returns-clause-ok : goal.returns-clause-ok
returns-clause-ok c =
    let s = c.self.inside in
    let put : IsPut s.files.items c.put.new.files.items c.in_ok-put.field-0
    (record { name = c.args.name.now; bytes = c.args.bytes.now; put_out = false }) =
    subst (λ (l : List ℕ). IsPut s.files.items c.put.new.files.items c.in_ok-put.field-0
    (record { name = c.args.name.now; bytes = l; put_out = false })) c.in_ok-copy.ensures.items
    c.in_ok-put.ensures.ok in
    put_shown s.files.items c.put.new.files.items c.in_ok-put.field-0 c.args.name.now c.args.bytes.now s.taken s.writing
    s.spoken.items s.faults s.last _ put c.self.invariant.last_at (ap mem_shows c.self.view_is)
