-- A plan file that may be left out, as it is read and told.
use Rattle.std.proofs.Common.{◌≡◌, ◌⊎◌, inr, ℕ, List, Option, Some, None, subst}
use Rattle.plan_desk.specs.Desk.{Shown}
use Rattle.instance_model.specs.declared.limits.Limits.{Limits}
use Rattle.instance_model.specs.Tables.{Tables}
use Rattle.command_frame.specs.Ending.{Answer}
use Rattle.command_frame.specs.Bytes.{Spells}
use Rattle.command_frame.specs.Files.{reading, OnPlan, OnGiven, ReadsGiven, TellsGiven}
use Rattle.command_frame.specs.Files.OnFile.{stands}
use Rattle.command_frame.proofs.FileLemmas.{IsRead, reads_before}
use Rattle.command_frame.proofs.TakenLemmas.{on_spelled}

module _ (limits : Limits) (inst : Tables) where
  -- what was read behind other files was read before them
  pub given_before : (name : Option (List ℕ)) (old mid : Shown) (plan : Option (List (Option ℕ))) → IsRead old mid
      → ReadsGiven limits name inst mid plan → ReadsGiven limits name inst old plan
  given_before None old mid None read reads = tt
  given_before None old mid (Some plan) read reads = absurd reads
  given_before (Some name) old mid None read reads = absurd reads
  given_before (Some name) old mid (Some plan) read reads =
      reads_before name old mid (λ bytes. Spells limits inst bytes plan) read reads

  module _ (old new : Shown) (Next : Option (List (Option ℕ)) → Answer → Type 0) where
    -- it was read, if one is given, and then the next answer is due
    pub after_read : (name : Option (List ℕ)) (plan : Option (List (Option ℕ))) (a : Answer)
        → ReadsGiven limits name inst old plan → Next plan a → OnGiven limits inst (reading old new) 3 name Next a
    after_read None None a reads next = next
    after_read None (Some plan) a reads next = absurd reads
    after_read (Some name) None a reads next = absurd reads
    after_read (Some name) (Some plan) a reads next = stands reads.bytes plan a reads.held reads.such next

    -- where it is told, if one is given, the next answer is for it
    pub on_told : (name : Option (List ℕ)) (plan : Option (List (Option ℕ))) (a : Answer)
        → TellsGiven limits old name inst plan → OnGiven limits inst (reading old new) 3 name Next a
        → (a.status ≡ 7) ⊎ Next plan a
    on_told None None a tells due = inr due
    on_told None (Some plan) a tells due = absurd tells
    on_told (Some name) None a tells due = absurd tells
    on_told (Some name) (Some plan) a tells due =
        on_spelled limits inst name old new (λ p. Next (Some p)) plan a tells due

    -- what is answered to one that is named
    pub on_named : (name : Option (List ℕ)) (plan : List ℕ) (a : Answer) → name ≡ Some plan
        → OnGiven limits inst (reading old new) 3 name Next a
        → OnPlan limits inst (reading old new) 3 plan (λ p. Next (Some p)) a
    on_named name plan a is due =
        subst (λ (o : Option (List ℕ)). OnGiven limits inst (reading old new) 3 o Next a) is due
