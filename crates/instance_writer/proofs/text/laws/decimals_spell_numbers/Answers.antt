use Rattle.std.proofs.Common.{◌<◌, ◌^◌, unsigned_abs}
use Rattle.std.specs.Prelude.{slice_index_or, []}
use Rattle.std.proofs.lemmas.List.Elements.{All-weaker}
use Rattle.instance_model.specs.declared.parts.LoadCell.{LoadCell}
use Rattle.instance_writer.specs.text.Conditions.{SpellsCount}
use Rattle.instance_writer.specs.text.Styles.{decimals}
use Rattle.instance_writer.proofs.TextTokens.{count_spelled, part_spelled}
use Rattle.instance_writer.proofs.text.laws.decimals_spell_numbers.Goals as goal

pub returns : goal.returns
returns c = λ inst f upper lower. record {
  alpha = part_spelled inst.alpha f.alpha;
  quantile = part_spelled inst.quantile f.quantile;
  upper = All-weaker (λ z. unsigned_abs z < 10 ^ 20) (SpellsCount decimals) count_spelled inst.upper upper;
  lower = All-weaker (λ z. unsigned_abs z < 10 ^ 20) (SpellsCount decimals) count_spelled inst.lower lower;
  risks = All-weaker (λ z. unsigned_abs z < 10 ^ 20) (SpellsCount decimals) count_spelled inst.risks f.risks_small;
  loads = λ i l. All-weaker (λ (cell : LoadCell). unsigned_abs cell.load < 10 ^ 20)
      (λ cell. SpellsCount decimals cell.load) (λ cell h. count_spelled cell.load h)
      (slice_index_or inst.loads i []) (f.cells i l).small;
}
