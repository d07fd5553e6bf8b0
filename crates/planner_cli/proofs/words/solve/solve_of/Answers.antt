-- The names differ.
use Rattle.std.proofs.Common.{◌≡◌, rules, arith}
use Rattle.std.proofs.lemmas.Grind.{common_steps}
use Rattle.command_words.proofs.ApartLemmas.{four_apart}
use Rattle.planner_cli.proofs.words.solve.solve_of.Goals as goal

pub returns : goal.returns
returns c =
    let four = four_apart c.as_str.result.now c.as_str-plan.result.now c.as_str-certificate.result.now
    c.as_str-trail.result.now (search rules) in
    let same : c.in_ok-source.source.instance.now ≡ c.as_str.result.now = search rules in (
      grind (arith, common_steps),
      (
        c.in_ok-source.ensures.small,
        c.in_ok-turns.ensures.small,
        rw same (record {
          instance_plan = four.ab;
          instance_cert = four.ac;
          instance_trail = four.ad;
          plan_cert = four.bc;
          plan_trail = four.bd;
          cert_trail = four.cd;
        }),
      ),
    )
