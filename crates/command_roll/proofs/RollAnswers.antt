-- The bytes of the files of `roll` have one answer, and what is due for it as files are read.
use Rattle.std.proofs.Common.{ℕ, refl, ap, arith, List, Option}
use Rattle.plan_desk.specs.Desk.{Shown}
use Rattle.instance_model.specs.declared.limits.Limits.{Limits}
use Rattle.instance_model.specs.Tables.{Tables}
use Rattle.plan_roll.specs.Begun.{first_kept_rule}
use Rattle.command_frame.specs.Reports.{infeasible_report}
use Rattle.command_frame.specs.Ending.{Answer, reply, IsOneAnswer}
use Rattle.command_frame.specs.Files.{reading, by_bytes, OnPlan, ReadsInstance, ReadsPlan}
use Rattle.command_frame.proofs.AnswerLemmas.{one_rule, instance_once, plan_once}
use Rattle.command_frame.proofs.FileLemmas.{IsRead}
use Rattle.command_frame.proofs.ReadLemmas.{after_instance, after_plan}
use Rattle.command_roll.specs.Rolling.{RollFiles, source_of, Rolls, AnswersRoll}
use Rattle.command_roll.specs.Rolling.Rolls.{broken, too_long, written}

rolled_once : (limits : Limits) (inst : Tables) (plan : List (Option ℕ)) (period : ℕ) (files : RollFiles)
    → IsOneAnswer (Rolls limits inst plan period files)
rolled_once limits inst plan period files a b (broken r not first) (broken q nor again) =
    ap (λ x. reply 1 (infeasible_report inst x)) (one_rule (first_kept_rule inst plan period) r q first again)
rolled_once limits inst plan period files a b (broken r not first) (too_long all long) = absurd (not all)
rolled_once limits inst plan period files a b (broken r not first) (written all few) = absurd (not all)
rolled_once limits inst plan period files a b (too_long all long) (broken q nor again) = absurd (nor all)
rolled_once limits inst plan period files a b (too_long all long) (too_long any far) = refl
rolled_once limits inst plan period files a b (too_long all long) (written any few) = absurd (omega (arith, long, few))
rolled_once limits inst plan period files a b (written all few) (broken q nor again) = absurd (nor all)
rolled_once limits inst plan period files a b (written all few) (too_long any long) = absurd (omega (arith, long, few))
rolled_once limits inst plan period files a b (written all few) (written any low) = refl

pub answered_once : (limits : Limits) (instance plan : List ℕ) (period : ℕ) (files : RollFiles)
    → IsOneAnswer (AnswersRoll limits by_bytes instance plan period files)
answered_once limits instance plan period files =
    instance_once limits 0 2 instance
    (λ inst. OnPlan limits inst by_bytes 3 plan (λ p. Rolls limits inst p period files))
    (λ inst. plan_once limits inst 3 plan (λ p. Rolls limits inst p period files)
    (λ p. rolled_once limits inst p period files))

-- both files were read
pub roll_answers : (limits : Limits) (files : RollFiles) (period : ℕ) (old mid new : Shown) (inst : Tables)
    (plan : List (Option ℕ)) (a : Answer)
    → ReadsInstance limits (source_of files) old inst → IsRead old mid
    → ReadsPlan limits files.plan inst mid plan → Rolls limits inst plan period files a
    → AnswersRoll limits (reading old new) files.instance files.plan period files a
roll_answers limits files period old mid new inst plan a reads read reads_plan rolls =
    after_instance limits (source_of files) old new inst
    (λ i. OnPlan limits i (reading old new) 3 files.plan (λ p. Rolls limits i p period files)) a reads
    (after_plan limits files.plan old mid new inst plan (λ p. Rolls limits inst p period files) a read reads_plan rolls)
