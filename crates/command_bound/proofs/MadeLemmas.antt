-- What is told of a certificate that is made.
use Rattle.std.proofs.Common.{◌≡◌, ◌⊎◌, inl, inr, ◌<◌, ◌≤◌, ◌-◌, ◌^◌, ◌↔◌, ℕ, sym, ◌∙◌, subst, List, [], ◌∷◌, length}
use Rattle.std.proofs.Common.{arith, Option, Bool, false, IsTrue}
use Rattle.std.proofs.lemmas.Bool.{false≢true}
use Rattle.std.proofs.Math.Nat.{min-le_left}
use Rattle.std.specs.Prelude.{Ok, Err}
use Rattle.plan_desk.specs.Desk.{Shown}
use Rattle.plan_desk.specs.Contents.{KeepsFiles}
use Rattle.instance_model.specs.declared.limits.Limits.{Limits}
use Rattle.instance_model.specs.Tables.{Tables}
use Rattle.certificate_text.specs.Lengths.{counted}
use Rattle.certificate_text.proofs.KeyLemmas.{below_or_not}
use Rattle.certificate_text.proofs.CountLemmas.{counted_small, counted_large}
use Rattle.branch_search.specs.declared.part.Part.{Part}
use Rattle.refined_check.specs.declared.certificate.certificate.RefinedCertificate.{RefinedCertificate}
use Rattle.refined_text.specs.text.Text.{refined_text}
use Rattle.refined_search.specs.Raising.{IsRaised}
use Rattle.command_frame.specs.Lines.{write_line}
use Rattle.command_frame.specs.Ending.{Answer, reply}
use Rattle.command_frame.specs.Refusals.{SaysOrFails}
use Rattle.command_frame.specs.Outputs.{long_output_line}
use Rattle.command_frame.specs.Writing.{PutsFile}
use Rattle.command_frame.specs.Writing.TellsAnswer.{written, unwritten}
use Rattle.command_frame.proofs.WriteLemmas.{puts_none, puts_first, puts_more}
use Rattle.command_bound.specs.declared.making.Made.{Made}
use Rattle.command_bound.specs.Bounding.{bound_status, bound_report, out_write, RaisesBound}
use Rattle.command_bound.specs.Bounding.RaisesBound.{raised, too_long}
use Rattle.command_bound.specs.Made.{IsMade, TellsBound}
use Rattle.command_bound.specs.Made.TellsBound.{told}
use Rattle.command_bound.proofs.LeastLemmas.{least_or_spent, least_enough}

-- the number that counts a length says whether it is above a limit that is small
pub counted_above : (n m most : ℕ) → m ≡ counted n → most < m → most < n
counted_above n m most e l = let below : counted n ≤ n = min-le_left n (2 ^ 64 - 1) in omega (arith, below, e, l)

-- and that it isn't
pub counted_within : (n m most : ℕ) → m ≡ counted n → most ≤ 2 ^ 32 → m ≤ most → n ≤ most
counted_within n m most e small l = at (below_or_not n (2 ^ 64 - 1))
  where
    at : (n < 2 ^ 64 - 1) ⊎ (2 ^ 64 - 1 ≤ n) → n ≤ most
    at (inl h) = let same = counted_small n (omega (arith, h)) in omega (arith, same, e, l)
    at (inr h) = let same = counted_large n h in absurd (omega (arith, same, e, l, small))

-- a length that isn't found within a limit is above it
pub not_within : (found : Bool) (n most : ℕ) → (IsTrue found ↔ n ≤ most) → found ≡ false → most < n
not_within found n most same e = at (below_or_not most n)
  where
    at : (most < n) ⊎ (n ≤ most) → most < n
    at (inl above) = above
    at (inr within) = absurd (false≢true (sym e ∙ same.1 within))

module _ (limits : Limits) (inst : Tables) (given : Option (List (Option ℕ))) (cert : Option RefinedCertificate)
    (out : List ℕ) (turns : ℕ) (part : Part) (made : Made) (is : IsMade limits inst given cert turns part made) where
  abbrev text : List ℕ
  text = refined_text inst made.raised.cert

  -- the text is too long, and that was said
  pub long_told : (old new : Shown) (status : ℕ) → limits.certificate_bytes < length text → KeepsFiles old new
      → SaysOrFails 12 (long_output_line 5) old new status
      → TellsBound limits inst given out turns part cert old new status
  long_told old new status long keeps says =
      told (reply 12 (long_output_line 5))
      (too_long is.handed_in made.raised is.plan (record {
        is = subst (λ (n : ℕ). IsRaised inst is.handed_in cert turns part n made.raised) (is.within.one long) is.within.is;
        long = long;
      }))
      (written old (puts_none {T = Unit {0}} tt old) keeps says)

  abbrev answer : Answer
  answer = record {
    status = bound_status made.raised.cert.bound;
    text = bound_report inst is.handed_in made.raised;
    writes = out_write inst out made.raised.cert ∷ [];
  }

  raising : IsRaised inst is.handed_in cert turns part is.within.most made.raised
  raising = is.within.is

  is_answer : length text ≤ limits.certificate_bytes → RaisesBound limits inst given out turns part cert answer
  is_answer within =
      let checkable = (is.acceptable limits made.raised.cert
      (record { in_range = raising.in_range; valid = raising.valid; within = within })).checkable in
      raised is.handed_in made.raised (record {
        plan = is.plan;
        most = is.within.most;
        left_out = is.within.left_out;
        is = raising;
        checkable = checkable;
        spent = least_or_spent inst is.handed_in cert turns part is.within.most made.raised raising checkable.bounds;
        enough = least_enough inst is.handed_in cert turns part is.within.most made.raised raising checkable.bounds;
        within = within;
      })

  report_says : (mid new : Shown) (status : ℕ) → SaysOrFails made.report.status made.report.text mid new status
      → SaysOrFails (bound_status made.raised.cert.bound) (bound_report inst is.handed_in made.raised) mid new status
  report_says mid new status says =
      subst (λ (n : ℕ). SaysOrFails n (bound_report inst is.handed_in made.raised) mid new status) is.report.status_is
      (subst (λ (t : List ℕ). SaysOrFails made.report.status t mid new status) is.report.text_is says)

  -- it was written, and the report was said
  pub written_told : {T E : Type 0} {x : T} (old mid new : Shown) (status : ℕ) → length text ≤ limits.certificate_bytes
      → PutsFile {E = E} (out_write inst out made.raised.cert).file old mid (Ok x) → KeepsFiles mid new
      → SaysOrFails made.report.status made.report.text mid new status
      → TellsBound limits inst given out turns part cert old new status
  written_told {T = T} old mid new status within puts keeps says =
      told answer (is_answer within)
      (written mid (puts_more {U = Unit {0}} (out_write inst out made.raised.cert) [] old mid mid (Ok (tt {0})) puts
      (puts_none (tt {0}) mid)) keeps (report_says mid new status says))

  -- its writing stopped, and that was said
  pub unwritten_told : {T E : Type 0} {e : E} (old mid new : Shown) (status : ℕ)
      → length text ≤ limits.certificate_bytes
      → PutsFile {T = T} (out_write inst out made.raised.cert).file old mid (Err e) → KeepsFiles mid new
      → SaysOrFails 8 (write_line 5) mid new status → TellsBound limits inst given out turns part cert old new status
  unwritten_told old mid new status within puts keeps says =
      told answer (is_answer within)
      (unwritten mid 5 (puts_first (Unit {0}) (out_write inst out made.raised.cert) [] old mid puts) keeps says)
