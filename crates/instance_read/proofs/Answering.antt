-- An answer that is right is the only one.
use Rattle.std.proofs.Common.{◌≡◌, ℕ, ℤ, List, Option, Some, None, refl}
use Rattle.std.specs.Prelude.{Result, Ok, Err, IfOk, IfErr, IfSome, MatchResult}
use Rattle.instance_model.specs.Tables.{Tables}
use Rattle.instance_model.specs.declared.limits.Limits.{Limits}
use Rattle.instance_shape.specs.Defined.{Defines}
use Rattle.instance_shape.specs.FileFaults.{FileFault, HasFileFault}
use Rattle.instance_shape.proofs.OneAnswer.{one_answer}
use Rattle.instance_read.specs.Faults.{fault_of}
use Rattle.instance_read.specs.Reading.{TellsFault}
use Rattle.instance_read.specs.declared.fault.InstanceFault.{InstanceFault}

module _ (limits : Limits) (slack : ℤ) (bytes : List ℕ) where
  no_fault : (inst : Tables) (o : Option FileFault) → Defines limits slack bytes inst
      → IfSome o (HasFileFault limits bytes) → o ≡ None
  no_fault inst None d h = refl
  no_fault inst (Some f) d h = absurd ((one_answer limits slack bytes).apart inst f d h)

  same_fault : (first : FileFault) (o : Option FileFault) → HasFileFault limits bytes first
      → IfSome o (HasFileFault limits bytes) → IfSome o (λ told. told ≡ first)
  same_fault first None d h = tt
  same_fault first (Some f) d h = (one_answer limits slack bytes).fault f first h d

  -- where the bytes stand for an instance, it was read, or memory ran out
  pub instance_told : (r : Result Tables InstanceFault) (inst : Tables)
      → IfOk r (λ read. Defines limits slack bytes read) → IfErr r (TellsFault limits bytes)
      → Defines limits slack bytes inst → MatchResult r (λ read. read ≡ inst) (λ fault. fault_of fault ≡ None)
  instance_told (Ok read) inst ok err d = (one_answer limits slack bytes).instance read inst ok d
  instance_told (Err fault) inst ok err d = no_fault inst (fault_of fault) d err

  -- where they have a fault, it was told, or memory ran out
  pub fault_told : (r : Result Tables InstanceFault) (first : FileFault)
      → IfOk r (λ read. Defines limits slack bytes read) → IfErr r (TellsFault limits bytes)
      → HasFileFault limits bytes first
      → MatchResult r (λ read. ⊥) (λ fault. IfSome (fault_of fault) (λ told. told ≡ first))
  fault_told (Ok read) first ok err d = (one_answer limits slack bytes).apart read first ok d
  fault_told (Err fault) first ok err d = same_fault first (fault_of fault) d err
