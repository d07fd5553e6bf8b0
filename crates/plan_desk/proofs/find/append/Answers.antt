use Rattle.std.proofs.Common.{◌≡◌, ◌<◌, ◌∙◌, ◌++◌, sym, ap, List, ℕ, set, length, rules}
use Rattle.std.specs.Prelude.{string_bytes}
use Rattle.plan_desk.specs.Stored.{Stored}
use Rattle.plan_desk.specs.Mem.{file_at}
use Rattle.plan_desk.proofs.Places.{at_index}
use Rattle.plan_desk.proofs.find.append.Goals as goal

pub returns-in-Ok-clause-ok : goal.returns-in-Ok-clause-ok
returns-in-Ok-clause-ok c =
    let files : List Stored = c.args.files.now.items in
    let at : c.args.at < length files = search rules in
    let is : file_at files c.args.at ≡ c.index_mut-file.result.now =
    at_index files c.args.at c.index_mut-file.result.now at c.index_mut-file.ensures.value in
    let name : string_bytes c.file.inside.name ≡ (file_at files c.args.at).name =
    ap (λ (f : Stored). f.name) (c.file.view_is ∙ sym is) in
    let had : c.file.inside.bytes.items ≡ (file_at files c.args.at).bytes =
    ap (λ (f : Stored). f.bytes) (c.file.view_is ∙ sym is) in
    let put_out : c.file.inside.put_out ≡ (file_at files c.args.at).put_out =
    ap (λ (f : Stored). f.put_out) (c.file.view_is ∙ sym is) in
    let bytes : c.extend_from_slice.new.self.items ≡ (file_at files c.args.at).bytes ++ c.args.piece.now =
    c.in-Ok.ensures.items ∙ ap (λ (l : List ℕ). l ++ c.args.piece.now) had in
    λ j. set files c.args.at (record { name = name j; bytes = bytes j; put_out = put_out j })
