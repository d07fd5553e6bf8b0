-- What is answered where it is told what the bytes of the instance and of the plan stand for.
use Rattle.std.proofs.Common.{◌≡◌, ℕ, ◌⊎◌, List, Option}
use Rattle.plan_desk.specs.Desk.{Shown}
use Rattle.plan_desk.specs.Contents.{TellsSuch}
use Rattle.instance_model.specs.declared.limits.Limits.{Limits}
use Rattle.instance_model.specs.Tables.{Tables}
use Rattle.command_frame.specs.Sources.{Source}
use Rattle.command_frame.specs.Ending.{Answer}
use Rattle.command_frame.specs.Bytes.{Takes, TakesOne, IsRefusedInstance, RefusesInstance, Spells, IsRefusedPlan}
use Rattle.command_frame.specs.Bytes.{RefusesPlan}
use Rattle.command_frame.specs.Files.{reading, OnInstance, OnPlan, TellsInstance, TellsPlan}
use Rattle.command_frame.proofs.FileLemmas.{OrUnread, refused_file, told_file}
use Rattle.command_frame.proofs.AnswerLemmas.{same_instance, taken_sound, refused_instance_bytes, instance_status}
use Rattle.command_frame.proofs.AnswerLemmas.{same_plan, spelled_sound, refused_plan_bytes, plan_status}

-- where the instance is told, the next answer is for it
pub on_taken : (limits : Limits) (source : Source) (old new : Shown) (Next : Tables → Answer → Type 0)
    (inst : Tables) (a : Answer)
    → TellsInstance limits old source inst
    → OnInstance limits source.slack (reading old new) 2 source.instance Next a → (a.status ≡ 7) ⊎ Next inst a
on_taken limits source old new Next inst a tells =
    told_file 2 source.instance old new (RefusesInstance limits) (TakesOne limits source.slack) Next a
    (λ bytes. Takes limits source.slack bytes inst) inst tells
    (λ bytes b takes is. taken_sound limits source.slack bytes inst takes (refused_instance_bytes limits bytes b is))
    (λ bytes other takes one. same_instance limits source.slack bytes inst other takes one)

pub bad_instance : (limits : Limits) (source : Source) (old new : Shown) (Next : Tables → Answer → Type 0) (a : Answer)
    → TellsSuch old source.instance (IsRefusedInstance limits)
    → OnInstance limits source.slack (reading old new) 2 source.instance Next a → OrUnread 3 a
bad_instance limits source old new Next a tells =
    refused_file 2 source.instance old new (RefusesInstance limits) (TakesOne limits source.slack) Next a
    (IsRefusedInstance limits) 3 tells
    (λ bytes x one. taken_sound limits source.slack bytes x one.takes) (instance_status limits)

-- where the plan is told, the next answer is for it
pub on_spelled : (limits : Limits) (inst : Tables) (name : List ℕ) (old new : Shown)
    (Next : List (Option ℕ) → Answer → Type 0) (plan : List (Option ℕ)) (a : Answer)
    → TellsPlan limits old name inst plan
    → OnPlan limits inst (reading old new) 3 name Next a → (a.status ≡ 7) ⊎ Next plan a
on_spelled limits inst name old new Next plan a tells =
    told_file 3 name old new (RefusesPlan limits inst) (Spells limits inst) Next a
    (λ bytes. Spells limits inst bytes plan) plan tells
    (λ bytes b spells is. spelled_sound limits inst bytes plan spells (refused_plan_bytes limits inst bytes b is))
    (λ bytes other spells also. same_plan limits inst bytes plan other spells also)

pub bad_plan : (limits : Limits) (inst : Tables) (name : List ℕ) (old new : Shown)
    (Next : List (Option ℕ) → Answer → Type 0) (a : Answer)
    → TellsSuch old name (IsRefusedPlan limits inst)
    → OnPlan limits inst (reading old new) 3 name Next a → OrUnread 4 a
bad_plan limits inst name old new Next a tells =
    refused_file 3 name old new (RefusesPlan limits inst) (Spells limits inst) Next a
    (IsRefusedPlan limits inst) 4 tells (λ bytes x spells. spelled_sound limits inst bytes x spells)
    (plan_status limits inst)
