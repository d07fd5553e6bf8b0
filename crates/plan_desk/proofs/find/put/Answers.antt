use Rattle.std.proofs.Common.{◌≡◌, ◌<◌, List, length, subst, rules}
use Rattle.std.specs.Prelude.{None}
use Rattle.plan_desk.specs.Stored.{Stored}
use Rattle.plan_desk.specs.Mem.{held_by, IsAt}
use Rattle.plan_desk.proofs.Places.{at_within, put_over, put_behind}
use Rattle.plan_desk.proofs.find.put.Goals as goal

pub replace-requires : goal.replace-requires
replace-requires c =
    let at : IsAt c.args.files.now.items c.in-Some.at c.args.name.now =
    subst (λ (l : List Stored). IsAt l c.in-Some.at c.args.name.now) c.deref.ensures.value c.in-Some.ensures in
    let h : c.in-Some.at < length c.args.files.now.items = at_within c.args.files.now.items c.in-Some.at _ at in
    search rules

pub returns-in-Some-clause-ok : goal.returns-in-Some-clause-ok
returns-in-Some-clause-ok c =
    let at : IsAt c.args.files.now.items c.in-Some.at c.args.name.now =
    subst (λ (l : List Stored). IsAt l c.in-Some.at c.args.name.now) c.deref.ensures.value c.in-Some.ensures in
    put_over c.args.files.now.items c.replace.new.files.items c.in-Some.at
    (record { name = c.args.name.now; bytes = c.args.bytes.items; put_out = c.args.put_out }) at c.replace.ensures

pub returns-in-Ok-clause-ok : goal.returns-in-Ok-clause-ok
returns-in-Ok-clause-ok c =
    let none : held_by c.args.files.now.items c.args.name.now ≡ None =
    subst (λ (l : List Stored). held_by l c.args.name.now ≡ None) c.deref.ensures.value c.in-None.ensures in
    let at : c.len-at.result ≡ length c.args.files.now.items = search rules in
    put_behind c.args.files.now.items c.add.new.files.items c.len-at.result
    (record { name = c.args.name.now; bytes = c.args.bytes.items; put_out = c.args.put_out }) at
    none c.in-Ok.ensures.ok
