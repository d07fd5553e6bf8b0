use Rattle.std.proofs.Common.{◌∙◌, ap, subst, sym}
use Rattle.instance_model.specs.Tables.{Tables}
use Rattle.instance_writer.specs.text.Written.{instance_text}
use Rattle.instance_writer.specs.Views.{HasEachCell}
use Rattle.instance_gen.specs.Texts.{plain_numbers}
use Rattle.std.specs.Str.{IsUtf8}
use Rattle.instance_gen.proofs.LawLemmas.{each_cell}
use Rattle.instance_gen.proofs.text.generate.Goals as goal

pub new-full-requires : goal.new-full-requires
new-full-requires c = subst HasEachCell (sym c.in_ok-inst.ensures) (each_cell c.args.seed c.args.n)

pub of_bytes-requires : goal.of_bytes-requires
of_bytes-requires c =
    let read = c.drawn_texts_are_read.ensures c.args.seed c.args.n c.requires.some c.requires.few in
    subst IsUtf8
    (sym
    (c.in_ok-bytes.ensures
    ∙ ap (λ (inst : Tables). instance_text plain_numbers inst) (c.new-full.ensures.tables ∙ c.in_ok-inst.ensures)))
    (c.text_is_utf8.ensures _ read.root read.text.text)

pub returns : goal.returns
returns c = record {
  text = c.of_bytes.ensures ∙ c.in_ok-bytes.ensures
      ∙ ap (λ (inst : Tables). instance_text plain_numbers inst) (c.new-full.ensures.tables ∙ c.in_ok-inst.ensures);
}
