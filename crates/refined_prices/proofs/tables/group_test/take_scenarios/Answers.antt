use Rattle.std.proofs.Common.{◌∙◌, refl, arith, get_or, true}
use Rattle.std.proofs.lemmas.List.{length-set}
use Rattle.refined_prices.proofs.TablesGroupTestLemmas.{flags_none, flags_more}
use Rattle.refined_prices.proofs.tables.group_test.take_scenarios.Goals as goal

pub loop-member-init : goal.loop-member-init
loop-member-init c = record { each = refl; taken = flags_none c.args.taken.now.items }

pub loop-member-preserved : goal.loop-member-preserved
loop-member-preserved c =
    record {
      each = length-set c.loop-member.taken.items
          (get_or c.args.group.now c.loop-member.member-index (record { scenario = 0; weight = 0 })).scenario true
          ∙ c.loop-member.invariant.each;
      taken = λ k. flags_more c.args.group.now c.loop-member.member-index k
          (get_or c.args.group.now c.loop-member.member-index (record { scenario = 0; weight = 0 })).scenario
          (record { scenario = 0; weight = 0 }) c.args.taken.now.items c.loop-member.taken.items
          c.loop-member-test.true refl
          (omega (
            arith,
            c.requires c.loop-member.member-index (record { scenario = 0; weight = 0 }) c.loop-member-test.true,
            c.loop-member.invariant.each,
          ))
          (c.loop-member.invariant.taken k);
    }
