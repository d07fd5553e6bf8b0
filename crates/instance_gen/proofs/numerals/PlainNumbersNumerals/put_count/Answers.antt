use Rattle.std.proofs.Common.{arith, ℕ, ◌/◌, ◌^◌, ◌∙◌, ap, decimal, unsigned_abs, to_z-of_z}
use Rattle.std.specs.Fmt.{signed_decimal}
use Rattle.std.proofs.lemmas.Int.{to_z_pos}
use mir.Syntax.{w128}
use Rattle.instance_writer.proofs.LoopLemmas.{respelled}
use Rattle.instance_gen.proofs.numerals.PlainNumbersNumerals.put_count.Goals as goal

pub returns-clause-text : goal.returns-clause-text
returns-clause-text g c =
    let units = c.unsigned_abs-units.result in
    let bound = c.unsigned_abs-units.ensures.bound in
    let size = c.unsigned_abs-units.ensures.value ∙ ap unsigned_abs (to_z-of_z c.ranges.z) in
    respelled g.S.Sink.Takes
    (c.bytes.ensures.value ∙ c.of_int.ensures
    ∙ ap signed_decimal (to_z_pos w128 (units / 10 ^ 12) (omega (arith, bound)))
    ∙ ap (λ (n : ℕ). decimal (n / 10 ^ 12)) size) c.put.ensures.text
