use Rattle.std.proofs.Common.{◌≡◌, List, ap, sym, ◌∙◌, refl, subst, arith, rules}
use Rattle.std.specs.Prelude.{Some, option_map, false}
use Rattle.plan_desk.specs.Stored.{Stored}
use Rattle.plan_desk.specs.Mem.{MemState, IsAt, IsLastAt, file_at, held_by, mem_shows, fault_of, is_due}
use Rattle.plan_desk.specs.declared.call.DeskCall.{DeskCall}
use Rattle.plan_desk.proofs.Places.{at_own, first_at}
use Rattle.plan_desk.proofs.Kept.{takes_in}
use Rattle.plan_desk.proofs.mem.MemDeskDesk.take_in.Goals as goal

pub invariant_of-self : goal.invariant_of-self
invariant_of-self c =
    let s = c.self.inside in
    let at : IsAt s.files.items c.in-Some.file c.args.name.now = subst
    (λ (l : List Stored). IsAt l c.in-Some.file c.args.name.now)
    c.deref-then-not-is_listed.ensures.value c.in-Some.ensures in
    record {
      taken_at = (at_own s.files.items c.in-Some.file c.args.name.now at, omega arith);
      open_at = c.self.invariant.open_at;
      last_at = c.self.invariant.last_at;
      some_most = c.self.invariant.some_most;
    }

pub invariant_of-self-2 : goal.invariant_of-self-2
invariant_of-self-2 c =
    let s = c.self.inside in
    record {
      taken_at = tt;
      open_at = c.self.invariant.open_at;
      last_at = subst (IsLastAt s.files.items) (sym c.fail.ensures.kept) (c.named-fault.ensures.kept s.files.items);
      some_most = c.self.invariant.some_most;
    }

pub returns-in-Some-clause-call : goal.returns-in-Some-clause-call
returns-in-Some-clause-call c =
    let s = c.self.inside in
    let at : IsAt s.files.items c.in-Some.file c.args.name.now = subst
    (λ (l : List Stored). IsAt l c.in-Some.file c.args.name.now)
    c.deref-then-not-is_listed.ensures.value c.in-Some.ensures in
    takes_in s.files.items c.in-Some.file c.args.name.now s.taken s.writing s.spoken.items s.faults
    (option_map (fault_of s.files.items) s.last) _ at (ap mem_shows c.self.view_is)

pub returns-in-Some-clause-exact : goal.returns-in-Some-clause-exact
returns-in-Some-clause-exact c =
    let s = c.self.inside in
    let at : IsAt s.files.items c.in-Some.file c.args.name.now = subst
    (λ (l : List Stored). IsAt l c.in-Some.file c.args.name.now)
    c.deref-then-not-is_listed.ensures.value c.in-Some.ensures in
    let files : s.files.items ≡ c.args.self.now.files = ap (λ (d : MemState). d.files) c.self.view_is in
    let held : held_by c.args.self.now.files c.args.name.now ≡ Some (file_at s.files.items c.in-Some.file).bytes =
    ap (λ (l : List Stored). held_by l c.args.name.now) (sym files)
    ∙ first_at (λ f. Some f.bytes) s.files.items c.in-Some.file c.args.name.now at in
    let due : is_due c.args.self.now DeskCall.TakeIn ≡ false = search rules in
    rw (due, held) refl
