use Rattle.std.proofs.Common.{◌<◌, List, length, sym, ap, subst, rules}
use Rattle.plan_desk.specs.Stored.{Stored}
use Rattle.plan_desk.specs.Mem.{IsConsistent, IsLastAt, mem_shows}
use Rattle.plan_desk.proofs.Kept.{open_is, open_within, still_taken, still_open, names_after, last_still, writes}
use Rattle.plan_desk.proofs.mem.MemDeskDesk.write.Goals as goal

pub invariant_of-self : goal.invariant_of-self
invariant_of-self c =
    let s = c.self.inside in
    record {
      taken_at = c.self.invariant.taken_at;
      open_at = c.self.invariant.open_at;
      last_at = subst (IsLastAt s.files.items) (sym c.fail.ensures.kept)
          (open_within s.files.items s.writing c.in-Some.at c.in-Some.is c.self.invariant.open_at);
      some_most = c.self.invariant.some_most;
    }

pub append-requires : goal.append-requires
append-requires c =
    let s = c.self.inside in
    let h : c.in-Some.at < length s.files.items =
    open_within s.files.items s.writing c.in-Some.at c.in-Some.is c.self.invariant.open_at in
    search rules

pub invariant_of-self-in-Ok : goal.invariant_of-self-in-Ok
invariant_of-self-in-Ok c =
    let s = c.self.inside in
    let first = open_is s.files.items s.writing c.in-Some.at c.in-Some.is c.self.invariant.open_at in
    let piece = c.args.piece.now in
    subst (λ (l : List Stored). IsConsistent l s.taken s.writing s.last s.most) (sym c.in-Ok.ensures.ok) (record {
      taken_at = still_taken s.files.items c.in-Some.at piece first s.taken c.self.invariant.taken_at;
      open_at = still_open s.files.items c.in-Some.at piece first s.writing c.in-Some.is;
      last_at = last_still s.files.items _ (names_after s.files.items c.in-Some.at piece first) s.last
          c.self.invariant.last_at;
      some_most = c.self.invariant.some_most;
    })

pub invariant_of-self-in-Err : goal.invariant_of-self-in-Err
invariant_of-self-in-Err c =
    let s = c.self.inside in
    subst (λ (l : List Stored). IsConsistent l s.taken s.writing c.fail-in-Err.new.last s.most)
    (sym c.in-Err.ensures.err) (record {
      taken_at = c.self.invariant.taken_at;
      open_at = c.self.invariant.open_at;
      last_at = subst (IsLastAt s.files.items) (sym c.fail-in-Err.ensures.kept)
          (open_within s.files.items s.writing c.in-Some.at c.in-Some.is c.self.invariant.open_at);
      some_most = c.self.invariant.some_most;
    })

pub returns-in-Ok-clause-call : goal.returns-in-Ok-clause-call
returns-in-Ok-clause-call c =
    let s = c.self.inside in
    let first = open_is s.files.items s.writing c.in-Some.at c.in-Some.is c.self.invariant.open_at in
    writes s.files.items c.in-Some.at c.args.piece.now first c.append.new.files.items s.writing s.taken s.spoken.items
    s.faults s.last _ c.in-Ok.ensures.ok c.in-Some.is c.self.invariant.taken_at c.self.invariant.last_at
    (ap mem_shows c.self.view_is)
