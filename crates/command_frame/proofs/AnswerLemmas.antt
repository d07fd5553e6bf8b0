-- The bytes of the files of a command have one answer.
use Rattle.std.proofs.Common.{◌≡◌, ℕ, inl, inr, List, Option, Some, None, pos, refl, sym, ◌∙◌, ap, arith}
use Rattle.plan_text.proofs.LawLemmas.{one_plan, one_fault, not_both}
use Rattle.plan_moves.specs.declared.script_line.ScriptLine.{ScriptLine}
use Rattle.move_script.proofs.LawLemmas.{one_script, one_fault as one_script_fault, not_both as no_faulty_script}
use Rattle.instance_model.specs.declared.limits.Limits.{Limits}
use Rattle.instance_model.specs.Tables.{Tables}
use Rattle.instance_model.specs.declared.rule.Rule.{Rule}
use Rattle.instance_shape.proofs.OneAnswer.{one_answer}
use Rattle.command_frame.specs.Lines.{instance_fault_line, plan_fault_line, script_fault_line, certificate_fault_line}
use Rattle.command_frame.specs.Ending.{Answer, reply, IsOneAnswer}
use Rattle.command_frame.specs.Bytes.{Takes, TakesOne, IsRefusedInstance, RefusesInstance, Spells, IsRefusedPlan}
use Rattle.command_frame.specs.Bytes.{RefusesPlan, SpellsScript, IsRefusedScript, RefusesScript, CertificateTexts}
use Rattle.command_frame.specs.Bytes.{SpellsCertificateBy, SpellsOneBy, IsRefusedCertificateBy, RefusesCertificateBy}
use Rattle.command_frame.specs.Bytes.RefusesInstance.{long_instance, faulty_instance}
use Rattle.command_frame.specs.Bytes.RefusesPlan.{long_plan, faulty_plan}
use Rattle.command_frame.specs.Bytes.RefusesScript.{long_script, faulty_script}
use Rattle.command_frame.specs.Bytes.RefusesCertificateBy.{long_certificate, faulty_certificate}
use Rattle.command_frame.specs.Files.{by_bytes, OnInstance, OnPlan, OnScript, OnGiven, OnCertificateBy}
use Rattle.command_frame.proofs.FileLemmas.{one_of_file}

-- ---- the bytes of an instance file

same_taken : (limits : Limits) (slack : ℕ) (bytes : List ℕ) (a b : Tables) → Takes limits slack bytes a
    → Takes limits slack bytes b → a ≡ b
same_taken limits slack bytes a b x y = (one_answer limits (pos slack) bytes).instance a b x.defines y.defines

pub same_instance : (limits : Limits) (slack : ℕ) (bytes : List ℕ) (inst other : Tables) → Takes limits slack bytes inst
    → TakesOne limits slack bytes other → other ≡ inst
same_instance limits slack bytes inst other x y = same_taken limits slack bytes other inst y.takes x

pub taken_sound : (limits : Limits) (slack : ℕ) (bytes : List ℕ) (inst : Tables) → Takes limits slack bytes inst
    → IsRefusedInstance limits bytes → ⊥
taken_sound limits slack bytes inst takes (inl long) = absurd (omega (arith, takes.within, long))
taken_sound limits slack bytes inst takes (inr (fault, f)) =
    (one_answer limits (pos slack) bytes).apart inst fault takes.defines f.has

pub refused_instance_bytes : (limits : Limits) (bytes : List ℕ) (a : Answer) → RefusesInstance limits bytes a
    → IsRefusedInstance limits bytes
refused_instance_bytes limits bytes a (long_instance l) = inl l
refused_instance_bytes limits bytes a (faulty_instance fault one) = inr (fault, one.faulty)

pub instance_status : (limits : Limits) (bytes : List ℕ) (a : Answer) → RefusesInstance limits bytes a → a.status ≡ 3
instance_status limits bytes a (long_instance l) = refl
instance_status limits bytes a (faulty_instance fault one) = refl

instance_refused_once : (limits : Limits) (bytes : List ℕ) → IsOneAnswer (RefusesInstance limits bytes)
instance_refused_once limits bytes a b (long_instance l) (long_instance m) = refl
instance_refused_once limits bytes a b (long_instance l) (faulty_instance g h) =
    absurd (omega (arith, h.faulty.within, l))
instance_refused_once limits bytes a b (faulty_instance f h) (long_instance m) =
    absurd (omega (arith, h.faulty.within, m))
instance_refused_once limits bytes a b (faulty_instance f h) (faulty_instance g i) =
    ap (λ x. reply 3 (instance_fault_line x)) (i.only f h.faulty)

pub instance_once : (limits : Limits) (slack word : ℕ) (bytes : List ℕ) (Next : Tables → Answer → Type 0)
    → ((inst : Tables) → IsOneAnswer (Next inst))
    → IsOneAnswer (OnInstance limits slack by_bytes word bytes Next)
instance_once limits slack word bytes Next next =
    one_of_file word bytes (RefusesInstance limits) (TakesOne limits slack) Next (instance_refused_once limits bytes)
    (λ x y t u. t.only y u.takes)
    (λ x a t r. taken_sound limits slack bytes x t.takes (refused_instance_bytes limits bytes a r)) next

-- ---- the bytes of a plan file

pub same_plan : (limits : Limits) (inst : Tables) (bytes : List ℕ) (a b : List (Option ℕ)) → Spells limits inst bytes a
    → Spells limits inst bytes b → b ≡ a
same_plan limits inst bytes a b x y = one_plan inst.names bytes b a y.plan_is x.plan_is

pub spelled_sound : (limits : Limits) (inst : Tables) (bytes : List ℕ) (plan : List (Option ℕ))
    → Spells limits inst bytes plan → IsRefusedPlan limits inst bytes → ⊥
spelled_sound limits inst bytes plan spells (inl long) = absurd (omega (arith, spells.within, long))
spelled_sound limits inst bytes plan spells (inr (fault, has)) =
    not_both inst.names bytes plan fault spells.plan_is has.fault_is

pub refused_plan_bytes : (limits : Limits) (inst : Tables) (bytes : List ℕ) (a : Answer)
    → RefusesPlan limits inst bytes a → IsRefusedPlan limits inst bytes
refused_plan_bytes limits inst bytes a (long_plan l) = inl l
refused_plan_bytes limits inst bytes a (faulty_plan fault has) = inr (fault, has)

pub plan_status : (limits : Limits) (inst : Tables) (bytes : List ℕ) (a : Answer) → RefusesPlan limits inst bytes a
    → a.status ≡ 4
plan_status limits inst bytes a (long_plan l) = refl
plan_status limits inst bytes a (faulty_plan fault has) = refl

plan_refused_once : (limits : Limits) (inst : Tables) (bytes : List ℕ) → IsOneAnswer (RefusesPlan limits inst bytes)
plan_refused_once limits inst bytes a b (long_plan l) (long_plan m) = refl
plan_refused_once limits inst bytes a b (long_plan l) (faulty_plan g h) = absurd (omega (arith, h.within, l))
plan_refused_once limits inst bytes a b (faulty_plan f h) (long_plan m) = absurd (omega (arith, h.within, m))
plan_refused_once limits inst bytes a b (faulty_plan f h) (faulty_plan g i) =
    ap (λ x. reply 4 (plan_fault_line x)) (one_fault inst.names bytes f g h.fault_is i.fault_is)

pub plan_once : (limits : Limits) (inst : Tables) (word : ℕ) (bytes : List ℕ) (Next : List (Option ℕ) → Answer → Type 0)
    → ((plan : List (Option ℕ)) → IsOneAnswer (Next plan))
    → IsOneAnswer (OnPlan limits inst by_bytes word bytes Next)
plan_once limits inst word bytes Next next =
    one_of_file word bytes (RefusesPlan limits inst) (Spells limits inst) Next (plan_refused_once limits inst bytes)
    (λ x y s t. same_plan limits inst bytes x y s t)
    (λ x a s r. spelled_sound limits inst bytes x s (refused_plan_bytes limits inst bytes a r)) next

-- ---- the bytes of a plan file that may be left out

pub given_once : (limits : Limits) (inst : Tables) (word : ℕ) (bytes : Option (List ℕ))
    (Next : Option (List (Option ℕ)) → Answer → Type 0)
    → ((plan : Option (List (Option ℕ))) → IsOneAnswer (Next plan))
    → IsOneAnswer (OnGiven limits inst by_bytes word bytes Next)
given_once limits inst word None Next next a b x y = next None a b x y
given_once limits inst word (Some bytes) Next next a b x y =
    plan_once limits inst word bytes (λ plan. Next (Some plan)) (λ plan. next (Some plan)) a b x y

-- ---- the bytes of a script file

pub same_script : (limits : Limits) (inst : Tables) (bytes : List ℕ) (a b : List ScriptLine)
    → SpellsScript limits inst bytes a → SpellsScript limits inst bytes b → b ≡ a
same_script limits inst bytes a b x y = one_script inst.names bytes b a y.script_is x.script_is

pub script_sound : (limits : Limits) (inst : Tables) (bytes : List ℕ) (script : List ScriptLine)
    → SpellsScript limits inst bytes script → IsRefusedScript limits inst bytes → ⊥
script_sound limits inst bytes script spells (inl long) = absurd (omega (arith, spells.within, long))
script_sound limits inst bytes script spells (inr (fault, has)) =
    no_faulty_script inst.names bytes script fault spells.script_is has.fault_is

pub refused_script_bytes : (limits : Limits) (inst : Tables) (bytes : List ℕ) (a : Answer)
    → RefusesScript limits inst bytes a → IsRefusedScript limits inst bytes
refused_script_bytes limits inst bytes a (long_script l) = inl l
refused_script_bytes limits inst bytes a (faulty_script fault has) = inr (fault, has)

pub script_status : (limits : Limits) (inst : Tables) (bytes : List ℕ) (a : Answer) → RefusesScript limits inst bytes a
    → a.status ≡ 6
script_status limits inst bytes a (long_script l) = refl
script_status limits inst bytes a (faulty_script fault has) = refl

script_refused_once : (limits : Limits) (inst : Tables) (bytes : List ℕ) → IsOneAnswer (RefusesScript limits inst bytes)
script_refused_once limits inst bytes a b (long_script l) (long_script m) = refl
script_refused_once limits inst bytes a b (long_script l) (faulty_script g h) = absurd (omega (arith, h.within, l))
script_refused_once limits inst bytes a b (faulty_script f h) (long_script m) = absurd (omega (arith, h.within, m))
script_refused_once limits inst bytes a b (faulty_script f h) (faulty_script g i) =
    ap (λ x. reply 6 (script_fault_line x)) (one_script_fault inst.names bytes f g h.fault_is i.fault_is)

pub script_once : (limits : Limits) (inst : Tables) (word : ℕ) (bytes : List ℕ)
    (Next : List ScriptLine → Answer → Type 0)
    → ((script : List ScriptLine) → IsOneAnswer (Next script))
    → IsOneAnswer (OnScript limits inst by_bytes word bytes Next)
script_once limits inst word bytes Next next =
    one_of_file word bytes (RefusesScript limits inst) (SpellsScript limits inst) Next
    (script_refused_once limits inst bytes) (λ x y s t. same_script limits inst bytes x y s t)
    (λ x a s r. script_sound limits inst bytes x s (refused_script_bytes limits inst bytes a r)) next

-- ---- the bytes of a certificate file

pub certificate_status : {C : Type 0} {texts : CertificateTexts C} (limits : Limits) (inst : Tables) (bytes : List ℕ)
    (a : Answer)
    → RefusesCertificateBy texts limits inst bytes a → a.status ≡ 5
certificate_status limits inst bytes a (long_certificate l) = refl
certificate_status limits inst bytes a (faulty_certificate fault has) = refl

certificate_refused_once : {C : Type 0} (texts : CertificateTexts C) (limits : Limits) (inst : Tables) (bytes : List ℕ)
    → IsOneAnswer (RefusesCertificateBy texts limits inst bytes)
certificate_refused_once texts limits inst bytes a b (long_certificate l) (long_certificate m) = refl
certificate_refused_once texts limits inst bytes a b (long_certificate l) (faulty_certificate g h) =
    absurd (omega (arith, h.has.within, l))
certificate_refused_once texts limits inst bytes a b (faulty_certificate f h) (long_certificate m) =
    absurd (omega (arith, h.has.within, m))
certificate_refused_once texts limits inst bytes a b (faulty_certificate f h) (faulty_certificate g i) =
    ap (λ x. reply 5 (certificate_fault_line x)) (i.only f h.has.fault_is)

-- the text of a certificate is not refused
pub text_accepted : {C : Type 0} {texts : CertificateTexts C} (limits : Limits) (inst : Tables) (bytes : List ℕ)
    (cert : C) (a : Answer)
    → SpellsCertificateBy texts limits inst bytes cert → RefusesCertificateBy texts limits inst bytes a → ⊥
text_accepted limits inst bytes cert a spells (long_certificate l) = absurd (omega (arith, spells.within, l))
text_accepted limits inst bytes cert a spells (faulty_certificate f h) = h.unspelled cert spells.text_of

-- and bytes that are refused are no text of one
pub refused_apart : {C : Type 0} {texts : CertificateTexts C} (limits : Limits) (inst : Tables) (bytes : List ℕ)
    (cert : C)
    → SpellsOneBy texts limits inst bytes cert → IsRefusedCertificateBy texts limits inst bytes → ⊥
refused_apart limits inst bytes cert one (inl long) = absurd (omega (arith, one.spells.within, long))
refused_apart limits inst bytes cert one (inr (fault, has)) = one.sound fault has.fault_is

pub certificate_once : {C : Type 0} {texts : CertificateTexts C} (limits : Limits) (inst : Tables) (word : ℕ)
    (bytes : List ℕ) (Next : C → Answer → Type 0)
    → ((cert : C) → IsOneAnswer (Next cert))
    → IsOneAnswer (OnCertificateBy texts limits inst by_bytes word bytes Next)
certificate_once {texts = texts} limits inst word bytes Next next =
    one_of_file word bytes (RefusesCertificateBy texts limits inst) (SpellsOneBy texts limits inst) Next
    (certificate_refused_once texts limits inst bytes) (λ x y s t. s.only y t.spells.text_of)
    (λ x a s r. text_accepted limits inst bytes x a s.spells r) next

-- ---- one rule

pub one_rule : (o : Option Rule) (a b : Rule) → o ≡ Some a → o ≡ Some b → a ≡ b
one_rule o a b e f = let g : Some a ≡ Some b = sym e ∙ f in cc
