use Rattle.std.proofs.Common.{◌∙◌, sym, ap, subst, arith, length, map, Some}
use Rattle.instance_model.proofs.PlanLemmas.{length-scenario_sums}
use Rattle.scenario_rows.specs.Parts.{AreRowSums}
use Rattle.scenario_rows.proofs.BoardLemmas.{AreRowSums-scenario_sums}
use Rattle.scenario_rows.proofs.period_row.PeriodRow.make.Goals as goal

pub make-requires : goal.make-requires
make-requires g c =
    subst AreRowSums (sym (c.as_slice.ensures.value ∙ c.in_ok-sums.ensures))
    (AreRowSums-scenario_sums c.args.inst.now (map Some c.args.starts.now) c.args.t c.fits.ensures
    c.requires.from c.requires.to)

pub part-part-requires-clause-to : goal.part-part-requires-clause-to
part-part-requires-clause-to g c =
    omega (
      arith,
      c.rank-rank.ensures.few,
      ap length c.in_ok-row.ensures,
      ap length c.as_slice.ensures.value,
      ap length c.in_ok-sums.ensures,
      length-scenario_sums c.args.inst.now (map Some c.args.starts.now) c.args.t,
    )

pub invariant_of-result : goal.invariant_of-result
invariant_of-result g c =
    let e = c.in_ok-row.ensures ∙ c.as_slice.ensures.value ∙ c.in_ok-sums.ensures in
    record {
      sound = record {
        alpha = c.alpha-alpha.ensures.small;
        rank_from = c.rank-rank.ensures.some;
        rank_to = omega (
          arith,
          c.rank-rank.ensures.few,
          ap length e,
          length-scenario_sums c.args.inst.now (map Some c.args.starts.now) c.args.t,
        );
        sums = subst AreRowSums (sym e) (AreRowSums-scenario_sums c.args.inst.now (map Some c.args.starts.now) c.args.t
            c.fits.ensures c.requires.from c.requires.to);
      };
      value = c.part-part.ensures.value;
    }
