use Rattle.std.proofs.Common.{◌≡◌, ◌<◌, ◌∙◌, sym, ap, List, set, length, rules}
use Rattle.std.specs.Prelude.{string_bytes}
use Rattle.plan_desk.specs.Stored.{Stored}
use Rattle.plan_desk.specs.Mem.{file_at}
use Rattle.plan_desk.proofs.Places.{at_index}
use Rattle.plan_desk.proofs.find.replace.Goals as goal

pub returns : goal.returns
returns c =
    let files : List Stored = c.args.files.now.items in
    let at : c.args.at < length files = search rules in
    let is : file_at files c.args.at ≡ c.index_mut-file.result.now =
    at_index files c.args.at c.index_mut-file.result.now at c.index_mut-file.ensures.value in
    let name : string_bytes c.file.inside.name ≡ (file_at files c.args.at).name =
    ap (λ (f : Stored). f.name) (c.file.view_is ∙ sym is) in
    λ j. set files c.args.at (record { name = name j; bytes = c.args.bytes.items; put_out = c.args.put_out })
