use Rattle.std.proofs.Common.{List, ℕ, true, sym, ap, subst}
use Rattle.plan_desk.specs.Mem.{IsLastAt, IsPut, mem_shows}
use Rattle.plan_desk.proofs.Places.{at_own}
use Rattle.plan_desk.proofs.Kept.{puts_out, last_still}
use Rattle.plan_desk.proofs.mem.MemDeskDesk.put_out.Goals as goal

pub invariant_of-self : goal.invariant_of-self
invariant_of-self c =
    let s = c.self.inside in
    record {
      taken_at = tt;
      open_at = tt;
      last_at = subst (IsLastAt s.files.items) (sym c.fail.ensures.kept) (c.named-fault.ensures.kept s.files.items);
      some_most = c.self.invariant.some_most;
    }

pub invariant_of-self-in-Ok : goal.invariant_of-self-in-Ok
invariant_of-self-in-Ok c =
    let s = c.self.inside in
    let put : IsPut s.files.items c.put.new.files.items c.in-Ok.at _ = c.in-Ok.ensures.ok in
    record {
      taken_at = tt;
      open_at = at_own c.put.new.files.items c.in-Ok.at c.args.name.now put.first;
      last_at = last_still s.files.items c.put.new.files.items put.names s.last c.self.invariant.last_at;
      some_most = c.self.invariant.some_most;
    }

pub invariant_of-self-in-Err : goal.invariant_of-self-in-Err
invariant_of-self-in-Err c =
    record {
      taken_at = tt;
      open_at = tt;
      last_at = subst (IsLastAt c.put.new.files.items) (sym c.fail-in-Err.ensures.kept)
          (c.named-fault-in-Err.ensures.kept c.put.new.files.items);
      some_most = c.self.invariant.some_most;
    }

pub returns-in-Ok-clause-call : goal.returns-in-Ok-clause-call
returns-in-Ok-clause-call c =
    let s = c.self.inside in
    puts_out s.files.items c.put.new.files.items c.in-Ok.at c.args.name.now s.taken s.writing
    s.spoken.items s.faults s.last _
    (subst (λ (l : List ℕ). IsPut s.files.items c.put.new.files.items c.in-Ok.at
    (record { name = c.args.name.now; bytes = l; put_out = true })) c.new.ensures.items c.in-Ok.ensures.ok)
    c.self.invariant.last_at (ap mem_shows c.self.view_is)
