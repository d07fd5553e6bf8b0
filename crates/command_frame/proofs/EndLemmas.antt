-- How a run comes to its end, and what follows of an end.
use Rattle.std.proofs.Common.{◌≡◌, ◌≢◌, ◌⊎◌, ℕ, inl, inr, List, [], length, take, refl, sym, ◌∙◌, ap, subst, arith}
use Rattle.std.specs.Prelude.{Result, Ok, Err, OnOk, IfOk, IfErr}
use Rattle.plan_desk.specs.Desk.{Shown}
use Rattle.plan_desk.specs.Faults.{one_more}
use Rattle.plan_desk.specs.Contents.{Says, OnlyReads, KeepsFiles}
use Rattle.plan_desk.proofs.Composed.{fails_since, one_until}
use Rattle.command_frame.specs.Lines.{memory_line}
use Rattle.command_frame.specs.Ending.{Writing, Answer, files_of, reply, writing_at, OrMemory, IsQuiet, CountsRead, IsUnsaid}
use Rattle.command_frame.specs.Ending.{SaysUnwritten, IsUnwritten, Ends, Behind, IsAllowed, IsAnswered, NoFault}
use Rattle.command_frame.specs.Ending.OrMemory.{answers, no_memory}
use Rattle.command_frame.specs.Ending.CountsRead.{none as counts_none, one as counts_one}
use Rattle.command_frame.specs.Ending.SaysUnwritten.{said as line_said, unsaid as line_unsaid}
use Rattle.command_frame.specs.Ending.Ends.{done, unsaid, unwritten}
use Rattle.command_frame.specs.Ending.Behind.{of_command, unsaid as behind_unsaid, unwritten as behind_unwritten}
use Rattle.command_frame.specs.Ending.Behind.{no_memory as behind_memory}
use Rattle.command_frame.specs.declared.report.Report.{Report}
use Rattle.command_frame.specs.declared.refusal.Refusal.{Refusal}
use Rattle.command_frame.specs.declared.refusal.Refusal.TheVariants as refusal
use Rattle.command_frame.specs.Refusals.{CountsRefusal, status_of, line_of, IsDueAs, SaysOrFails, SaysAnswer, SaysRefused}
use Rattle.command_frame.specs.Refusals.{SaysReport}
use Rattle.command_frame.proofs.SayLemmas.{says_before}
use Rattle.command_frame.proofs.FileLemmas.{Goes, OrUnread, none_failed}

-- ---- one call after another

pub reads_none : (old : Shown) → OnlyReads old old
reads_none old = record { output = refl; said = refl }

pub reads_more : (old mid new : Shown) → OnlyReads old mid → OnlyReads mid new → OnlyReads old new
reads_more old mid new first second =
    record { output = second.output ∙ first.output; said = second.said ∙ first.said }

pub reads_keep : (old mid new : Shown) → OnlyReads old mid → KeepsFiles mid new → KeepsFiles old new
reads_keep old mid new first second = second ∙ first.output

pub keeps_more : (old mid new : Shown) → KeepsFiles old mid → KeepsFiles mid new → KeepsFiles old new
keeps_more old mid new first second = second ∙ first

-- ---- what is due is said

-- what failed before an answer is told is all that failed, where telling it went well
counts_until : (status : ℕ) (old mid new : Shown) → new.faults ≡ mid.faults → CountsRead status old mid
    → CountsRead status old new
counts_until status old mid new same (counts_none none) = counts_none (same ∙ none)
counts_until status old mid new same (counts_one is one) = counts_one is (one_until old mid new same one)

-- files were read, and then what is due was said, or saying it failed
pub said_ends : (Due : Shown → Answer → Type 0) (old mid new : Shown) (due : ℕ) (text : List ℕ) (status : ℕ)
    → (Goes mid new → Due mid (reply due text) → Due new (reply due text)) → OnlyReads old mid → KeepsFiles mid new
    → CountsRead due old mid → Due mid (reply due text) → SaysOrFails due text mid new status
    → Ends Due old new status
said_ends Due old mid new due text status later reads keeps counts is (inl all) =
    done status
    (record {
      answer = reply due text;
      due = later all.same is;
      status_is = all.status_is;
      writes = keeps ∙ reads.output;
      says = says_before old mid new text reads.said all.says;
      counts = subst (λ n. CountsRead n old new) (sym all.status_is) (counts_until due old mid new all.same counts);
    })
said_ends Due old mid new due text status later reads keeps counts is (inr some) =
    subst (λ (n : ℕ). Ends Due old new n) (sym some.status_is)
    (unsaid (record {
      before = mid;
      answer = reply due text;
      due = is;
      silent = reads.said;
      counts = counts;
      writes = keeps ∙ reads.output;
      part = some.part;
      within = some.within;
      says = says_before old mid new (take some.part text) reads.said some.says;
      fails = some.fails;
    }))

or_memory_later : (A B : Answer → Type 0) (a : Answer) → ((b : Answer) → A b → B b) → OrMemory A a → OrMemory B a
or_memory_later A B a f (answers b is) = answers b (f b is)
or_memory_later A B a f no_memory = no_memory

-- what is due stays due while nothing fails
abbrev pub Stays : (Shown → Answer → Type 0) → (mid new : Shown) → Type 0
Stays Answers mid new = Goes mid new → (a : Answer) → Answers mid a → Answers new a

-- memory ran out, where no call failed
pub memory_ends : (Answers : Shown → Answer → Type 0) (old mid new : Shown) (status : ℕ) → OnlyReads old mid
    → KeepsFiles mid new → mid.faults ≡ old.faults
    → SaysOrFails 11 memory_line mid new status → Ends (λ at. OrMemory (Answers at)) old new status
memory_ends Answers old mid new status reads keeps same says =
    said_ends (λ at. OrMemory (Answers at)) old mid new 11 memory_line status (λ goes is. no_memory) reads keeps
    (counts_none same) no_memory says

-- an answer of the command
pub command_ends : (Answers : Shown → Answer → Type 0) (old mid new : Shown) (due : ℕ) (text : List ℕ) (status : ℕ)
    → Stays Answers mid new
    → OnlyReads old mid → KeepsFiles mid new → CountsRead due old mid → Answers mid (reply due text)
    → SaysOrFails due text mid new status → Ends (λ at. OrMemory (Answers at)) old new status
command_ends Answers old mid new due text status stays reads keeps counts is says =
    said_ends (λ at. OrMemory (Answers at)) old mid new due text status
    (λ goes due_then. or_memory_later (Answers mid) (Answers new) (reply due text) (stays goes) due_then) reads keeps
    counts (answers (reply due text) is) says

-- an answer, or that memory ran out, where no call failed
pub answer_ends : (Answers : Shown → Answer → Type 0) (old mid new : Shown) (status : ℕ) → Stays Answers mid new
    → OnlyReads old mid → KeepsFiles mid new
    → mid.faults ≡ old.faults → SaysAnswer (Answers mid) mid new status → Ends (λ at. OrMemory (Answers at)) old new status
answer_ends Answers old mid new status stays reads keeps same (inl (due, text, is, says)) =
    command_ends Answers old mid new due text status stays reads keeps (counts_none same) is says
answer_ends Answers old mid new status stays reads keeps same (inr says) =
    memory_ends Answers old mid new status reads keeps same says

counts_refusal : (old mid : Shown) (r : Refusal) → CountsRefusal old mid r → CountsRead (status_of r) old mid
counts_refusal old mid (refusal.Unread word) one = counts_one refl one
counts_refusal old mid refusal.LongInstance none = counts_none none
counts_refusal old mid (refusal.Instance fault) none = counts_none none
counts_refusal old mid refusal.LongPlan none = counts_none none
counts_refusal old mid (refusal.Plan fault) none = counts_none none
counts_refusal old mid refusal.LongScript none = counts_none none
counts_refusal old mid (refusal.Script fault) none = counts_none none
counts_refusal old mid refusal.LongCertificate none = counts_none none
counts_refusal old mid (refusal.Certificate fault) none = counts_none none
counts_refusal old mid refusal.Memory none = counts_none none

keeps_faults : (old mid : Shown) (r : Refusal) → CountsRefusal old mid r → status_of r ≢ 7 → mid.faults ≡ old.faults
keeps_faults old mid (refusal.Unread word) kept n = absurd (n refl)
keeps_faults old mid refusal.LongInstance kept n = kept
keeps_faults old mid (refusal.Instance fault) kept n = kept
keeps_faults old mid refusal.LongPlan kept n = kept
keeps_faults old mid (refusal.Plan fault) kept n = kept
keeps_faults old mid refusal.LongScript kept n = kept
keeps_faults old mid (refusal.Script fault) kept n = kept
keeps_faults old mid refusal.LongCertificate kept n = kept
keeps_faults old mid (refusal.Certificate fault) kept n = kept
keeps_faults old mid refusal.Memory kept n = kept

-- a refusal that is due was said, or that memory ran out for its line
pub refusal_ends : (Answers : Shown → Answer → Type 0) (old mid new : Shown) (r : Refusal) (status : ℕ)
    → Stays Answers mid new → OnlyReads old mid → KeepsFiles mid new
    → CountsRefusal old mid r → IsDueAs (Answers mid) r → SaysRefused r mid new status
    → Ends (λ at. OrMemory (Answers at)) old new status
refusal_ends Answers old mid new r status stays reads keeps kept due (inr (other, says)) =
    memory_ends Answers old mid new status reads keeps (keeps_faults old mid r kept other) says
refusal_ends Answers old mid new r status stays reads keeps kept (inl memory) (inl says) =
    memory_ends Answers old mid new status reads keeps (subst (CountsRefusal old mid) memory kept)
    (subst (λ (x : Refusal). SaysOrFails (status_of x) (line_of x) mid new status) memory says)
refusal_ends Answers old mid new r status stays reads keeps kept (inr due) (inl says) =
    command_ends Answers old mid new (status_of r) (line_of r) status stays reads keeps
    (counts_refusal old mid r kept) due says

-- a report was said, or why there is none
pub report_ends : (Answers : Shown → Answer → Type 0) (old mid new : Shown)
    (report : Result Report Refusal) (status : ℕ)
    → Stays Answers mid new → OnlyReads old mid
    → KeepsFiles mid new → OnOk report (mid.faults ≡ old.faults) → IfErr report (CountsRefusal old mid)
    → IfOk report (λ r. Answers mid (reply r.status r.text))
    → IfErr report (IsDueAs (Answers mid)) → SaysReport report mid new status
    → Ends (λ at. OrMemory (Answers at)) old new status
report_ends Answers old mid new (Ok report) status stays reads keeps same kept ok err says =
    command_ends Answers old mid new report.status report.text status stays reads keeps (counts_none same) ok says
report_ends Answers old mid new (Err r) status stays reads keeps same kept ok err says =
    refusal_ends Answers old mid new r status stays reads keeps kept err says

-- ---- what follows of an end

read_quiet : (status : ℕ) (old new : Shown) → CountsRead status old new → status ≢ 7 → new.faults ≡ old.faults
read_quiet status old new (counts_none none) other = none
read_quiet status old new (counts_one is one) other = absurd (other is)

pub ends_quiet : (Due : Shown → Answer → Type 0) (old new : Shown) (status : ℕ) → Ends Due old new status
    → IsQuiet status old new
ends_quiet Due old new status (done n d) = λ a b. read_quiet n old new d.counts a
ends_quiet Due old new status (unsaid u) = λ a b. absurd (b refl)
ends_quiet Due old new status (unwritten u) = λ a b. absurd (b refl)

-- where no answer writes a file, none stopped being written
pub nothing_unwritten : (Due : Shown → Answer → Type 0) (old new : Shown)
    → ((at : Shown) (a : Answer) → Due at a → a.writes ≡ [])
    → IsUnwritten Due old new → ⊥
nothing_unwritten Due old new none u =
    let no_file : length (files_of u.answer.writes) ≡ 0 = ap (λ (w : List Writing). length (files_of w))
    (none u.before u.answer u.due) in
    omega (arith, u.stops.within, no_file)

-- one failed call, and maybe a second one, leave no count that is as before
none_twice : (old mid new : Shown) → NoFault old new
    → (mid.faults.count ≡ old.faults.count) ⊎ (mid.faults.count ≡ one_more old.faults.count)
    → new.faults.count ≡ one_more mid.faults.count → ⊥
none_twice old mid new calm (inl same) one = none_failed old new calm (one ∙ ap one_more same)
none_twice old mid new calm (inr one) two = omega (arith, calm.same, calm.below, one, two)

unsaid_fails : (Due : Shown → Answer → Type 0) (old new : Shown) → IsUnsaid Due old new → NoFault old new → ⊥
unsaid_fails Due old new u calm = none_twice old u.before new calm (counted u.counts) u.fails.one.count
  where
    counted : CountsRead u.answer.status old u.before
        → (u.before.faults.count ≡ old.faults.count) ⊎ (u.before.faults.count ≡ one_more old.faults.count)
    counted (counts_none none) = inl (ap (λ f. f.count) none)
    counted (counts_one is one) = inr one.count

unwritten_fails : (Due : Shown → Answer → Type 0) (old new : Shown) → IsUnwritten Due old new → NoFault old new → ⊥
unwritten_fails Due old new u calm = line u.says
  where
    stopped : u.stopped.faults.count ≡ one_more old.faults.count
    stopped = (fails_since old u.before u.stopped u.quiet u.fails).one.count

    line : SaysUnwritten (writing_at u.answer.writes u.n).word u.stopped new → ⊥
    line (line_said says same) = none_failed old new calm (ap (λ f. f.count) same ∙ stopped)
    line (line_unsaid part within says fails) = none_twice old u.stopped new calm (inr stopped) fails.one.count

read_says : (status : ℕ) (old mid : Shown) → CountsRead status old mid → mid.faults.of_say ≡ old.faults.of_say
read_says status old mid (counts_none none) = ap (λ f. f.of_say) none
read_says status old mid (counts_one is one) = one.of_say

-- one `say` failed where an answer could not be said
pub unsaid_once : (Due : Shown → Answer → Type 0) (old new : Shown) → IsUnsaid Due old new
    → new.faults.of_say ≡ one_more old.faults.of_say
unsaid_once Due old new u = u.fails.one.of_say ∙ ap one_more (read_says u.answer.status old u.before u.counts)

-- however a run ends, no more than one did
pub one_say : (Due : Shown → Answer → Type 0) (old new : Shown) (status : ℕ) → Ends Due old new status
    → (new.faults.of_say ≡ old.faults.of_say) ⊎ (new.faults.of_say ≡ one_more old.faults.of_say)
one_say Due old new status (done n d) = inl (read_says n old new d.counts)
one_say Due old new status (unsaid u) = inr (unsaid_once Due old new u)
one_say Due old new status (unwritten u) = line u.says
  where
    stopped : u.stopped.faults.of_say ≡ old.faults.of_say
    stopped = u.fails.one.of_say ∙ ap (λ f. f.of_say) u.quiet

    line : SaysUnwritten (writing_at u.answer.writes u.n).word u.stopped new
        → (new.faults.of_say ≡ old.faults.of_say) ⊎ (new.faults.of_say ≡ one_more old.faults.of_say)
    line (line_said says same) = inl (ap (λ f. f.of_say) same ∙ stopped)
    line (line_unsaid part within says fails) = inr (fails.one.of_say ∙ ap one_more stopped)

-- the status of an answer that was given, or of want of memory
pub ends_behind : (Answers : Shown → Answer → Type 0) (OfCommand : ℕ → Type 0) (old new : Shown) (status : ℕ)
    → ((a : Answer) → Answers new a → Says a.text old new → OfCommand a.status)
    → Ends (λ at. OrMemory (Answers at)) old new status
    → Behind OfCommand (λ at. OrMemory (Answers at)) old new status
ends_behind Answers OfCommand old new status f (done n d) =
    subst (λ (m : ℕ). Behind OfCommand (λ at. OrMemory (Answers at)) old new m) (sym d.status_is)
    (at d.answer d.due d.says)
  where
    at : (a : Answer) → OrMemory (Answers new) a → Says a.text old new
        → Behind OfCommand (λ s. OrMemory (Answers s)) old new a.status
    at a (answers b is) says = of_command b.status (f b is says)
    at a no_memory says = behind_memory says
ends_behind Answers OfCommand old new status f (unsaid u) =
    behind_unsaid u
ends_behind Answers OfCommand old new status f (unwritten u) = behind_unwritten u

pub ends_allowed : (Answers : Shown → Answer → Type 0) (old new : Shown) (status expected : ℕ)
    → ((a : Answer) → Answers new a → OrUnread expected a)
    → Ends (λ at. OrMemory (Answers at)) old new status → IsAllowed expected status
ends_allowed Answers old new status expected f (done n d) =
    subst (IsAllowed expected) (sym d.status_is) (at d.answer d.due)
  where
    or_unread : (a : Answer) → OrUnread expected a → IsAllowed expected a.status
    or_unread a (inl e) = inr (inl e)
    or_unread a (inr e) = inl e

    at : (a : Answer) → OrMemory (Answers new) a → IsAllowed expected a.status
    at a (answers b is) = or_unread b (f b is)
    at a no_memory = inr (inr (inr (inl refl)))
ends_allowed Answers old new status expected f (unsaid u) = inr (inr (inl refl))
ends_allowed Answers old new status expected f (unwritten u) = inr (inr (inl refl))

pub ends_exact : (Answers : Shown → Answer → Type 0) (Exact : Answer → Type 0) (old new : Shown) (status : ℕ)
    → ((a : Answer) → Answers new a → Exact a)
    → NoFault old new → Ends (λ at. OrMemory (Answers at)) old new status → IsAnswered Exact old new status
ends_exact Answers Exact old new status f calm (done n d) =
    record {
      answer = d.answer;
      answers = or_memory_later (Answers new) Exact d.answer f d.due;
      status_is = d.status_is;
      writes = d.writes;
      says = d.says;
    }
ends_exact Answers Exact old new status f calm (unsaid u) =
    absurd (unsaid_fails (λ at. OrMemory (Answers at)) old new u calm)
ends_exact Answers Exact old new status f calm (unwritten u) =
    absurd (unwritten_fails (λ at. OrMemory (Answers at)) old new u calm)
