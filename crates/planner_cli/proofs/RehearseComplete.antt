-- `rehearse`, which reads no file: 0 or 11.
use Rattle.std.proofs.Common.{ℕ, inl, [], ◌∷◌, refl}
use Rattle.plan_desk.specs.Desk.{Shown}
use Rattle.instance_model.specs.Tables.{Tables}
use Rattle.instance_gen.specs.Drawn.{drawn_tables}
use Rattle.command_frame.specs.Ending.{Answer, IsOneOf, NoFault}
use Rattle.command_rehearse.specs.Rehearsing.{Rehearses, RunsRehearse}
use Rattle.command_rehearse.specs.Rehearsing.Rehearses.{rehearsed}
use Rattle.command_frame.specs.Completing.{Completes}
use Rattle.command_frame.proofs.CompleteLemmas.{completes}

statuses : (inst : Tables) (a : Answer) → Rehearses inst a → IsOneOf (0 ∷ []) a.status
statuses inst a (rehearsed summary is) = inl refl

pub rehearse_completes : (seed count : ℕ) (old new : Shown) (status : ℕ) → RunsRehearse seed count old new status
    → NoFault old new → Completes (0 ∷ []) (Rehearses (drawn_tables seed count)) old new status
rehearse_completes seed count old new status run calm =
    completes (0 ∷ []) (Rehearses (drawn_tables seed count)) (Rehearses (drawn_tables seed count)) old new status
    (λ a due. due) (statuses (drawn_tables seed count)) (run.exact calm)
