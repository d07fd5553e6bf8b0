use Rattle.std.proofs.Common.{sym, subst}
use Rattle.plan_desk.specs.Mem.{IsLastAt}
use Rattle.plan_desk.proofs.Kept.{open_within}
use Rattle.plan_desk.proofs.mem.MemDeskDesk.finish_out.Goals as goal

pub invariant_of-self : goal.invariant_of-self
invariant_of-self c =
    let s = c.self.inside in
    record {
      taken_at = c.self.invariant.taken_at;
      open_at = tt;
      last_at = subst (IsLastAt s.files.items) (sym c.fail.ensures.kept)
          (open_within s.files.items s.writing c.in-Some.at c.in-Some.is c.self.invariant.open_at);
      some_most = c.self.invariant.some_most;
    }
