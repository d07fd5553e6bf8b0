use Rattle.std.proofs.Common.{◌≡◌, ◌∙◌, sym, ap}
use Rattle.plan_desk.specs.Stored.{Stored}
use Rattle.plan_desk.specs.Mem.{file_at}
use Rattle.plan_desk.proofs.Places.{at_index}
use Rattle.plan_desk.proofs.find.bytes_of.Goals as goal

pub returns : goal.returns
returns c =
    let is : file_at c.args.files.now c.args.at ≡ c.index-files-at.result =
    at_index c.args.files.now c.args.at c.index-files-at.result c.requires c.index-files-at.is in
    let bytes : c.file.inside.bytes.items ≡ (file_at c.args.files.now c.args.at).bytes =
    ap (λ (f : Stored). f.bytes) (c.file.view_is ∙ sym is) in
    c.as_slice.ensures.value ∙ bytes
