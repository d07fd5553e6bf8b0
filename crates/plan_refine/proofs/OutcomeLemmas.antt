-- What a run of words that are refused promises.
use Rattle.std.proofs.Common.{◌≡◌, ℕ, List, Some, None, refl, sym, ◌∙◌, ap, subst}
use Rattle.plan_desk.specs.Desk.{Shown}
use Rattle.plan_desk.specs.Contents.{Says, KeepsFiles}
use Rattle.command_frame.specs.Lines.{words_line}
use Rattle.command_frame.specs.Ending.{Answer, reply, Ends}
use Rattle.command_frame.specs.Ending.CountsRead.{none as counts_none}
use Rattle.command_frame.specs.Ending.Ends.{done, unsaid, unwritten}
use Rattle.command_frame.specs.Refusals.{SaysOrFails}
use Rattle.command_frame.proofs.EndLemmas.{reads_none, said_ends, ends_quiet, nothing_unwritten}
use Rattle.plan_refine.specs.Words.{Command, check, rebound, bound, improve, command_of}
use Rattle.plan_refine.specs.Outcome.{Asks, DueRefusal, BehindRefusal, RefusesWords, Outcome}
use Rattle.plan_refine.specs.Outcome.BehindRefusal.{refused as behind_refused, unsaid as behind_unsaid}

-- ---- what is said of them

refusal_behind : (old new : Shown) (status : ℕ) → Ends DueRefusal old new status → BehindRefusal old new status
refusal_behind old new status (done n d) =
    subst (λ (m : ℕ). BehindRefusal old new m) (sym (d.status_is ∙ status_of d.answer d.due))
    (behind_refused (said d.answer d.due d.says))
  where
    status_of : (a : Answer) → a ≡ reply 2 words_line → a.status ≡ 2
    status_of a is = ap (λ (x : Answer). x.status) is

    said : (a : Answer) → a ≡ reply 2 words_line → Says a.text old new → Says words_line old new
    said a is says = subst (λ (x : Answer). Says x.text old new) is says
refusal_behind old new status (unsaid u) = behind_unsaid u
refusal_behind old new status (unwritten u) =
    absurd (nothing_unwritten DueRefusal old new (λ at a is. ap (λ (x : Answer). x.writes) is) u)

refuses : (old new : Shown) (status : ℕ) → KeepsFiles old new → SaysOrFails 2 words_line old new status
    → RefusesWords old new status
refuses old new status keeps says =
    let ends : Ends DueRefusal old new status = said_ends DueRefusal old old new 2 words_line status (λ goes due. due)
    (reads_none old) keeps (counts_none refl) refl says in
    record {
      ends = ends;
      behind = refusal_behind old new status ends;
      output = keeps;
      quiet = ends_quiet DueRefusal old new status ends;
    }

-- ---- the outcome

apart : (words : List (List ℕ)) (c : Command) → command_of words ≡ None → Asks words c → ⊥
apart words c none asks = never (sym none ∙ asks)
  where
    never : None ≡ Some c → ⊥
    never e = cc

pub outcome_refused : (words : List (List ℕ)) (old new : Shown) (status : ℕ) → command_of words ≡ None
    → KeepsFiles old new → SaysOrFails 2 words_line old new status → Outcome words old new status
outcome_refused words old new status none keeps says =
    let run = refuses old new status keeps says in
    record {
      no_command = λ is. run;
      checks = λ source plan cert asks. absurd (apart words (check source plan cert) none asks);
      rebounds = λ source cert out asks. absurd (apart words (rebound source cert out) none asks);
      bounds = λ source plan cert out turns part asks. absurd
          (apart words (bound source plan cert out turns part) none asks);
      improves = λ source plan out turns seed asks.
          absurd (apart words (improve source plan out turns seed) none asks);
      quiet = run.quiet;
    }
