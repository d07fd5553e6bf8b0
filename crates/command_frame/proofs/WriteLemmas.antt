-- Files that an answer writes, from the calls that write them to the end of a run.
use Rattle.std.proofs.Common.{◌≡◌, ℕ, suc, inl, inr, refl, sym, ◌∙◌, ap, subst, arith, List, [], ◌∷◌, take, get_or}
use Rattle.std.proofs.Common.{Option, Some, None}
use Rattle.std.specs.Prelude.{Result, Ok, Err, IfSome, option_map}
use Rattle.plan_desk.specs.Desk.{Shown, Fault, Output, ShowsSame, none_open, file_open, output_after_write}
use Rattle.plan_desk.specs.Faults.{IsFaultOf}
use Rattle.plan_desk.specs.Contents.{Says, OnlyReads, KeepsFiles}
use Rattle.plan_desk.specs.Calls.{PutsOut, FinishesOut}
use Rattle.plan_desk.specs.Written.{WritesText}
use Rattle.plan_desk.specs.FileWrites.{FileWrite, after_file, after_writes}
use Rattle.plan_desk.specs.declared.call.DeskCall.{DeskCall}
use Rattle.plan_desk.specs.declared.call.DeskCall.TheVariants.{FinishOut}
use Rattle.plan_desk.specs.declared.call.Failed.{Failed}
use Rattle.plan_desk.proofs.Composed.{fails_since}
use Rattle.plan_desk.proofs.FileWrites.{same_again, file_alike, file_written, not_ended, stops_alike}
use Rattle.command_frame.specs.declared.report.Report.{Report}
use Rattle.command_frame.specs.Lines.{write_line}
use Rattle.command_frame.specs.Ending.{Writing, Answer, files_of, OrMemory, SaysUnwritten, Ends, Behind}
use Rattle.command_frame.specs.Ending.OrMemory.{answers, no_memory}
use Rattle.command_frame.specs.Ending.CountsRead.{none as counts_none}
use Rattle.command_frame.specs.Ending.SaysUnwritten.{said as line_said, unsaid as line_unsaid}
use Rattle.command_frame.specs.Ending.Ends.{done, unsaid, unwritten}
use Rattle.command_frame.specs.Ending.Behind.{of_command, unsaid as behind_unsaid, unwritten as behind_unwritten}
use Rattle.command_frame.specs.Ending.Behind.{no_memory as behind_memory}
use Rattle.command_frame.specs.Refusals.{SaysOrFails}
use Rattle.command_frame.specs.Writing.{PutsFile, HasWritten, StopsWriting, PutsFiles, SaysWritten, TellsAnswer}
use Rattle.command_frame.specs.Writing.TellsAnswer.{written as told_written, unwritten as told_unwritten}
use Rattle.command_frame.proofs.SayLemmas.{says_before}
use Rattle.command_frame.proofs.EndLemmas.{Stays}

-- ---- one file, from its calls

none_or_some : (name : List ℕ) → None ≡ Some name → ⊥
none_or_some name e = cc

-- the name of the file that is open is told, where a fault is
named : (o : Option Fault) (call : DeskCall) (told : Option (List ℕ)) (name : List ℕ)
    → IfSome o (IsFaultOf call (option_map (λ _. name) told)) → IfSome o (IsFaultOf call (Some name))
named None call told name own = tt
named (Some fault) call None name own = absurd (none_or_some fault.name own.1)
named (Some fault) call (Some other) name own = own

-- the same where another output has that name
renamed : (o : Option Fault) (call : DeskCall) (here told : Option (List ℕ)) (name : List ℕ)
    → here ≡ option_map (λ _. name) told → IfSome o (IsFaultOf call here) → IfSome o (IsFaultOf call (Some name))
renamed o call here told name is own =
    named o call told name (subst (λ (x : Option (List ℕ)). IfSome o (IsFaultOf call x)) is own)

-- it was written whole, and ended or not
pub puts_written : {T U V : Type 0} {x : T} {y : U} (file : FileWrite) {old opened written new : Shown}
    (r : Result V Failed) → PutsOut file.name old opened (Ok x) → WritesText file.bytes opened written (Ok y)
    → FinishesOut written new r → PutsFile file old new r
puts_written file {old = old} {opened = opened} {written = written} {new = new} (Ok z) puts writes finishes = record {
  ok = file_written file puts writes finishes;
  err = tt;
  same = finishes.faults.same ∙ writes.faults.same ∙ puts.faults.same;
}
puts_written file {old = old} {opened = opened} {written = written} {new = new} (Err e) puts writes finishes = record {
  ok = tt;
  err = record {
    call = FinishOut;
    stops = not_ended file puts writes finishes;
    fails = fails_since old written new (writes.faults.same ∙ puts.faults.same) (record {
      one = finishes.faults.fails.one;
      own = renamed new.faults.last FinishOut written.output.name old.output.name file.name
          (ap (λ (o : Output). o.name) writes.ok.output ∙ ap (λ (o : Output). o.name) puts.ok.output)
          finishes.faults.fails.own;
    });
  };
  same = tt;
}

-- ---- several files

writes_alike : (files : List FileWrite) (a b : Shown) → ShowsSame a b
    → ShowsSame (after_writes files a) (after_writes files b)
writes_alike [] a b same = same
writes_alike (file ∷ files) a b same =
    writes_alike files (after_file file a) (after_file file b) (file_alike file same)

-- none is left
pub puts_none : {T : Type 0} (x : T) (s : Shown) → PutsFiles [] s s (Ok x)
puts_none x s = record {
  shows = record { input = refl; output = refl; said = refl };
  same = refl;
}

-- the first one stopped
pub puts_first : (U : Type 0) {T E : Type 0} {e : E} (w : Writing) (rest : List Writing) (old new : Shown)
    → PutsFile {T = T} w.file old new (Err e) → PutsFiles {T = U} (w ∷ rest) old new (Err w.word)
puts_first U w rest old new puts = record {
  n = 0;
  call = puts.err.call;
  stops = record { within = omega arith; stops = puts.err.stops };
  fails = puts.err.fails;
  word_is = refl;
}

-- the first one was written, and then the rest was, or stopped
pub puts_more : {T U E : Type 0} {x : T} (w : Writing) (rest : List Writing) (old mid new : Shown) (r : Result U ℕ)
    → PutsFile {E = E} w.file old mid (Ok x) → PutsFiles rest mid new r → PutsFiles (w ∷ rest) old new r
puts_more w rest old mid new (Ok y) first next = record {
  shows = same_again next.shows (writes_alike (files_of rest) mid (after_file w.file old) first.ok);
  same = next.same ∙ first.same;
}
puts_more w rest old mid new (Err word) first next = record {
  n = suc next.n;
  call = next.call;
  stops = record {
    within = omega (arith, next.stops.within);
    stops = stops_alike (get_or (files_of rest) next.n (record { name = []; bytes = [] })) next.call new
        (writes_alike (take next.n (files_of rest)) mid (after_file w.file old) first.ok) next.stops.stops;
  };
  fails = fails_since old mid new first.same next.fails;
  word_is = next.word_is;
}

-- ---- the end of a run

outputs_alike : (files : List FileWrite) (a b : Shown) → a.output ≡ b.output
    → (after_writes files a).output ≡ (after_writes files b).output
outputs_alike [] a b same = same
outputs_alike (file ∷ files) a b same =
    outputs_alike files (after_file file a) (after_file file b)
    (ap (λ (o : Output). none_open (output_after_write file.bytes (file_open file.name o))) same)

nothing_said : (files : List FileWrite) (s : Shown) → (after_writes files s).said ≡ s.said
nothing_said [] s = refl
nothing_said (file ∷ files) s = nothing_said files (after_file file s)

module _ (Answers : Shown → Answer → Type 0) (old mid : Shown) (a : Answer) (reads : OnlyReads old mid)
    (kept : mid.faults ≡ old.faults) (is : Answers mid a) where
  stay : (s : Shown) → Stays Answers mid s → HasWritten a.writes mid s → OrMemory (Answers s) a
  stay s stays wrote = answers a (stays wrote.same a is)

  -- the files were written, and then the text was said, or saying it failed
  written_ends : (wrote new : Shown) (status : ℕ) → Stays Answers mid wrote → Stays Answers mid new
      → HasWritten a.writes mid wrote → KeepsFiles wrote new → SaysOrFails a.status a.text wrote new status
      → Ends (λ at. OrMemory (Answers at)) old new status
  written_ends wrote new status stays_wrote stays files keeps (inl all) =
      done status (record {
        answer = a;
        due = answers a (stays (all.same ∙ files.same) a is);
        status_is = all.status_is;
        writes = keeps ∙ files.shows.output ∙ outputs_alike (files_of a.writes) mid old reads.output;
        says = says_before old wrote new a.text
            (files.shows.said ∙ nothing_said (files_of a.writes) mid ∙ reads.said) all.says;
        counts = counts_none (all.same ∙ files.same ∙ kept);
      })
  written_ends wrote new status stays_wrote stays files keeps (inr some) =
      subst (λ (n : ℕ). Ends (λ at. OrMemory (Answers at)) old new n) (sym some.status_is)
      (unsaid (record {
        before = wrote;
        answer = a;
        due = stay wrote stays_wrote files;
        silent = files.shows.said ∙ nothing_said (files_of a.writes) mid ∙ reads.said;
        counts = counts_none (files.same ∙ kept);
        writes = keeps ∙ files.shows.output ∙ outputs_alike (files_of a.writes) mid old reads.output;
        part = some.part;
        within = some.within;
        says = says_before old wrote new (take some.part a.text)
            (files.shows.said ∙ nothing_said (files_of a.writes) mid ∙ reads.said) some.says;
        fails = some.fails;
      }))

  line_says : (stopped new : Shown) (word status : ℕ) → SaysOrFails 8 (write_line word) stopped new status
      → SaysUnwritten word stopped new
  line_says stopped new word status (inl all) = line_said all.says all.same
  line_says stopped new word status (inr some) = line_unsaid some.part some.within some.says some.fails

  always_8 : (stopped new : Shown) (word status : ℕ) → SaysOrFails 8 (write_line word) stopped new status → status ≡ 8
  always_8 stopped new word status (inl all) = all.status_is
  always_8 stopped new word status (inr some) = some.status_is

  -- the writing of a file stopped, and then its line was said, or saying it failed
  unwritten_ends : (stopped new : Shown) (word status : ℕ) → StopsWriting a.writes mid stopped word
      → KeepsFiles stopped new → SaysOrFails 8 (write_line word) stopped new status
      → Ends (λ at. OrMemory (Answers at)) old new status
  unwritten_ends stopped new word status stops keeps says =
      subst (λ (n : ℕ). Ends (λ at. OrMemory (Answers at)) old new n)
      (sym (always_8 stopped new word status says))
      (unwritten (record {
        before = mid;
        answer = a;
        due = answers a is;
        silent = reads.said;
        output = reads.output;
        quiet = kept;
        n = stops.n;
        call = stops.call;
        stopped = stopped;
        stops = stops.stops;
        fails = stops.fails;
        says = subst (λ (k : ℕ). SaysUnwritten k stopped new) stops.word_is (line_says stopped new word status says);
        output_is = keeps;
      }))

  -- an answer was told
  pub told_ends : (new : Shown) (status : ℕ) → ((at : Shown) → Stays Answers mid at) → TellsAnswer a mid new status
      → Ends (λ at. OrMemory (Answers at)) old new status
  told_ends new status stays (told_written wrote files keeps says) =
      written_ends wrote new status (stays wrote) (stays new) files keeps says
  told_ends new status stays (told_unwritten at word stops keeps says) = unwritten_ends at new word status stops keeps
      says

-- what stands behind a status, where files are written
pub wrote_behind : (Answers : Shown → Answer → Type 0) (OfCommand : ℕ → Type 0) (old new : Shown) (status : ℕ)
    → ((a : Answer) → Answers new a → new.output ≡ (after_writes (files_of a.writes) old).output
    → Says a.text old new → OfCommand a.status)
    → Ends (λ at. OrMemory (Answers at)) old new status
    → Behind OfCommand (λ at. OrMemory (Answers at)) old new status
wrote_behind Answers OfCommand old new status f (done n d) =
    subst (λ (m : ℕ). Behind OfCommand (λ at. OrMemory (Answers at)) old new m) (sym d.status_is)
    (at d.answer d.due d.writes d.says)
  where
    at : (a : Answer) → OrMemory (Answers new) a → new.output ≡ (after_writes (files_of a.writes) old).output
        → Says a.text old new → Behind OfCommand (λ s. OrMemory (Answers s)) old new a.status
    at a (answers b is) writes says = of_command b.status (f b is writes says)
    at a no_memory writes says = behind_memory says
wrote_behind Answers OfCommand old new status f (unsaid u) =
    behind_unsaid u
wrote_behind Answers OfCommand old new status f (unwritten u) = behind_unwritten u

-- ---- a report behind files that were written

pub told_behind : {T : Type 0} (writes : List Writing) (report : Report) (old mid new : Shown) (wrote : Result T ℕ)
    (status : ℕ) → PutsFiles writes old mid wrote → KeepsFiles mid new → SaysWritten report mid new wrote status
    → TellsAnswer (record { status = report.status; text = report.text; writes = writes }) old new status
told_behind writes report old mid new (Ok x) status puts keeps says = told_written mid puts keeps says
told_behind writes report old mid new (Err word) status puts keeps says = told_unwritten mid word puts keeps says
