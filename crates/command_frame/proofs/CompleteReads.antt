-- Files that are read: their bytes are told, and the answer to these is the next one, for what they stand for.
use Rattle.std.proofs.Common.{◌≡◌, ℕ, List, Option, Some, None, refl, sym, subst}
use Rattle.std.specs.Prelude.{⊤, IsSomeAnd}
use Rattle.plan_desk.specs.Desk.{Shown}
use Rattle.plan_desk.specs.Contents.{TellsSuch}
use Rattle.plan_moves.specs.declared.script_line.ScriptLine.{ScriptLine}
use Rattle.instance_model.specs.declared.limits.Limits.{Limits}
use Rattle.instance_model.specs.Tables.{Tables}
use Rattle.command_frame.specs.Sources.{Source}
use Rattle.command_frame.specs.Ending.{Answer}
use Rattle.command_frame.specs.Bytes.{Takes, TakesOne, RefusesInstance, Spells, RefusesPlan, SpellsScript}
use Rattle.command_frame.specs.Bytes.{RefusesScript, CertificateTexts, SpellsCertificateBy, SpellsOneBy}
use Rattle.command_frame.specs.Bytes.{RefusesCertificateBy}
use Rattle.command_frame.specs.Files.{by_bytes, OnFile, OnInstance, OnPlan, OnGiven, OnScript, OnCertificateBy}
use Rattle.command_frame.specs.Files.{TellsBytes, TellsGivenBytes, TellsInstance, TellsPlan, TellsGiven, TellsScript}
use Rattle.command_frame.specs.Files.{TellsCertificateBy}
use Rattle.command_frame.specs.Files.OnFile.{unread, refused, stands}
use Rattle.command_frame.proofs.AnswerLemmas.{same_instance, taken_sound, refused_instance_bytes, same_plan}
use Rattle.command_frame.proofs.AnswerLemmas.{spelled_sound, refused_plan_bytes, same_script, script_sound}
use Rattle.command_frame.proofs.AnswerLemmas.{refused_script_bytes, text_accepted}

-- ---- the bytes that are told

-- it is told that the file holds just these bytes, and they are such
pub record Told (s : Shown) (name : List ℕ) (P : List ℕ → Type 0) : Type 0 where
  pub bytes : List ℕ
  pub tells : TellsBytes s name bytes
  pub such : P bytes

told_bytes : (s : Shown) (name : List ℕ) (P : List ℕ → Type 0) → TellsSuch s name P → Told s name P
told_bytes s name P tells =
    let told = go s.input.unread s.output.holds tells in
    record { bytes = told.0; tells = told.1; such = told.2 }
  where
    some : (o : Option (List ℕ)) → IsSomeAnd o P → (b : List ℕ) × IsSomeAnd o (λ held. held ≡ b) × P b
    some None p = absurd p
    some (Some b) p = (b, refl, p)

    go : (u : Option (List ℕ)) (h : Option (List ℕ → Option (List ℕ)))
        → IsSomeAnd u (λ _. IsSomeAnd h (λ holds. IsSomeAnd (holds name) P))
        → (b : List ℕ) × IsSomeAnd u (λ _. IsSomeAnd h (λ holds. IsSomeAnd (holds name) (λ held. held ≡ b))) × P b
    go None h p = absurd p
    go (Some u) None p = absurd p
    go (Some u) (Some holds) p = some (holds name) p

pub told_instance : (limits : Limits) (s : Shown) (source : Source) (inst : Tables)
    → TellsInstance limits s source inst
    → Told s source.instance (λ held. Takes limits source.slack held inst)
told_instance limits s source inst tells =
    told_bytes s source.instance (λ held. Takes limits source.slack held inst) tells

pub told_plan : (limits : Limits) (s : Shown) (name : List ℕ) (inst : Tables) (plan : List (Option ℕ))
    → TellsPlan limits s name inst plan → Told s name (λ held. Spells limits inst held plan)
told_plan limits s name inst plan tells = told_bytes s name (λ held. Spells limits inst held plan) tells

pub told_script : (limits : Limits) (s : Shown) (name : List ℕ) (inst : Tables) (script : List ScriptLine)
    → TellsScript limits s name inst script → Told s name (λ held. SpellsScript limits inst held script)
told_script limits s name inst script tells = told_bytes s name (λ held. SpellsScript limits inst held script) tells

pub told_certificate : {C : Type 0} {texts : CertificateTexts C} (limits : Limits) (s : Shown) (name : List ℕ)
    (inst : Tables) (cert : C)
    → TellsCertificateBy texts limits s name inst cert
    → Told s name (λ held. SpellsCertificateBy texts limits inst held cert)
told_certificate {texts = texts} limits s name inst cert tells =
    told_bytes s name (λ held. SpellsCertificateBy texts limits inst held cert) tells

-- ---- those of a plan that may be left out

-- they are left out with the plan, or spell it
abbrev pub SpellsGiven : Limits → Tables → Option (List ℕ) → Option (List (Option ℕ)) → Type 0
SpellsGiven limits inst None None = ⊤
SpellsGiven limits inst (Some bytes) (Some plan) = Spells limits inst bytes plan
SpellsGiven _ _ _ _ = ⊥

pub record ToldGiven (limits : Limits) (s : Shown) (name : Option (List ℕ)) (inst : Tables)
    (plan : Option (List (Option ℕ))) : Type 0 where
  pub bytes : Option (List ℕ)
  pub tells : TellsGivenBytes s name bytes
  pub such : SpellsGiven limits inst bytes plan

pub told_given : (limits : Limits) (s : Shown) (name : Option (List ℕ)) (inst : Tables)
    (plan : Option (List (Option ℕ)))
    → TellsGiven limits s name inst plan → ToldGiven limits s name inst plan
told_given limits s None inst None tells = record { bytes = None; tells = tt; such = tt }
told_given limits s None inst (Some plan) tells = absurd tells
told_given limits s (Some name) inst None tells = absurd tells
told_given limits s (Some name) inst (Some plan) tells =
    let told = told_plan limits s name inst plan tells in
    record { bytes = Some told.bytes; tells = told.tells; such = told.such }

-- ---- the answer to them

-- bytes that are not refused, and stand for one thing alone, have the next answer, for this
on_told : {A : Type 0} (word : ℕ) (bytes : List ℕ) (R : List ℕ → Answer → Type 0) (S : List ℕ → A → Type 0)
    (Next : A → Answer → Type 0) (x : A) (a : Answer)
    → ((b : Answer) → R bytes b → ⊥) → ((y : A) → S bytes y → y ≡ x)
    → OnFile by_bytes word bytes R S Next a → Next x a
on_told word bytes R S Next x a apart same (unread fails) = absurd fails
on_told word bytes R S Next x a apart same (refused xs b held is) =
    absurd (apart b (subst (λ (z : List ℕ). R z b) (sym held) is))
on_told {A = A} word bytes R S Next x a apart same (stands xs y b held is next) =
    subst (λ (z : A). Next z b) (same y (subst (λ (w : List ℕ). S w y) (sym held) is)) next

pub on_instance : (limits : Limits) (slack word : ℕ) (bytes : List ℕ) (inst : Tables)
    (Next : Tables → Answer → Type 0) (a : Answer)
    → Takes limits slack bytes inst → OnInstance limits slack by_bytes word bytes Next a → Next inst a
on_instance limits slack word bytes inst Next a takes =
    on_told word bytes (RefusesInstance limits) (TakesOne limits slack) Next inst a
    (λ b is. taken_sound limits slack bytes inst takes (refused_instance_bytes limits bytes b is))
    (λ other one. same_instance limits slack bytes inst other takes one)

pub on_plan : (limits : Limits) (inst : Tables) (word : ℕ) (bytes : List ℕ) (plan : List (Option ℕ))
    (Next : List (Option ℕ) → Answer → Type 0) (a : Answer)
    → Spells limits inst bytes plan → OnPlan limits inst by_bytes word bytes Next a → Next plan a
on_plan limits inst word bytes plan Next a spells =
    on_told word bytes (RefusesPlan limits inst) (Spells limits inst) Next plan a
    (λ b is. spelled_sound limits inst bytes plan spells (refused_plan_bytes limits inst bytes b is))
    (λ other also. same_plan limits inst bytes plan other spells also)

pub on_given : (limits : Limits) (inst : Tables) (word : ℕ) (bytes : Option (List ℕ))
    (plan : Option (List (Option ℕ))) (Next : Option (List (Option ℕ)) → Answer → Type 0) (a : Answer)
    → SpellsGiven limits inst bytes plan → OnGiven limits inst by_bytes word bytes Next a → Next plan a
on_given limits inst word None None Next a spells due = due
on_given limits inst word None (Some plan) Next a spells due = absurd spells
on_given limits inst word (Some bytes) None Next a spells due = absurd spells
on_given limits inst word (Some bytes) (Some plan) Next a spells due =
    on_plan limits inst word bytes plan (λ p. Next (Some p)) a spells due

pub on_script : (limits : Limits) (inst : Tables) (word : ℕ) (bytes : List ℕ) (script : List ScriptLine)
    (Next : List ScriptLine → Answer → Type 0) (a : Answer)
    → SpellsScript limits inst bytes script → OnScript limits inst by_bytes word bytes Next a → Next script a
on_script limits inst word bytes script Next a spells =
    on_told word bytes (RefusesScript limits inst) (SpellsScript limits inst) Next script a
    (λ b is. script_sound limits inst bytes script spells (refused_script_bytes limits inst bytes b is))
    (λ other also. same_script limits inst bytes script other spells also)

pub on_certificate : {C : Type 0} {texts : CertificateTexts C} (limits : Limits) (inst : Tables) (word : ℕ)
    (bytes : List ℕ) (cert : C) (Next : C → Answer → Type 0) (a : Answer)
    → SpellsCertificateBy texts limits inst bytes cert
    → OnCertificateBy texts limits inst by_bytes word bytes Next a → Next cert a
on_certificate {texts = texts} limits inst word bytes cert Next a spells =
    on_told word bytes (RefusesCertificateBy texts limits inst) (SpellsOneBy texts limits inst) Next cert a
    (λ b is. text_accepted limits inst bytes cert b spells is)
    (λ other one. sym (one.only cert spells.text_of))
