use Rattle.std.proofs.Common.{◌<◌, List, length, sym, subst}
use Rattle.plan_desk.specs.Stored.{Stored}
use Rattle.plan_desk.specs.Mem.{IsLastAt}
use Rattle.plan_desk.proofs.Kept.{taken_within}
use Rattle.plan_desk.proofs.mem.MemDeskDesk.read.Goals as goal

pub invariant_of-self : goal.invariant_of-self
invariant_of-self c =
    let s = c.self.inside in
    record {
      taken_at = c.self.invariant.taken_at;
      open_at = c.self.invariant.open_at;
      last_at = subst (IsLastAt s.files.items) (sym c.fail.ensures.kept)
          (taken_within s.files.items s.taken c.in-Some.place c.in-Some.is c.self.invariant.taken_at);
      some_most = c.self.invariant.some_most;
    }

pub copy_part-n-requires-clause-at_in : goal.copy_part-n-requires-clause-at_in
copy_part-n-requires-clause-at_in c =
    let s = c.self.inside in
    subst (λ (l : List Stored). c.in-Some.place.file < length l) (sym c.deref-2.ensures.value)
    (taken_within s.files.items s.taken c.in-Some.place c.in-Some.is c.self.invariant.taken_at)
