-- Files that are written one after another, from the contracts of the calls that write them.
use Rattle.std.proofs.Common.{◌≡◌, ℕ, ◌+◌, ◌<◌, List, [], ◌∷◌, ◌++◌, length, take, get_or, Ok, Err, refl, sym, ◌∙◌, ap}
use Rattle.std.proofs.Common.{subst}
use Rattle.std.proofs.lemmas.List.{take_more}
use Rattle.plan_desk.specs.declared.call.DeskCall.{DeskCall}
use Rattle.plan_desk.specs.declared.call.DeskCall.TheVariants.{TakeIn, Read, PutOut, Write, FinishOut, Say}
use Rattle.plan_desk.specs.declared.call.Failed.{Failed}
use Rattle.plan_desk.specs.Desk.{Shown, ShowsSame, none_taken, none_open, file_open, input_after_write}
use Rattle.plan_desk.specs.Desk.{output_after_write, after_put_out, after_failed_put_out, after_write, after_finish_out}
use Rattle.plan_desk.specs.Calls.{PutsOut, FinishesOut}
use Rattle.plan_desk.specs.Written.{WritesText}
use Rattle.plan_desk.specs.FileWrites.{FileWrite, after_file, after_writes, StopsFile, StopsWrites}

pub same_again : {a b c : Shown} → ShowsSame a b → ShowsSame b c → ShowsSame a c
same_again x y = record { input = x.input ∙ y.input; output = x.output ∙ y.output; said = x.said ∙ y.said }

-- ---- where two desks show the same, they show the same after the same call
module _ {a b : Shown} (same : ShowsSame a b) where
  pub put_out_alike : (name : List ℕ) → ShowsSame (after_put_out name a) (after_put_out name b)
  put_out_alike name = record {
    input = ap none_taken same.input;
    output = ap (file_open name) same.output;
    said = same.said;
  }

  pub failed_put_out_alike : ShowsSame (after_failed_put_out a) (after_failed_put_out b)
  failed_put_out_alike = record {
    input = ap none_taken same.input;
    output = ap none_open same.output;
    said = same.said;
  }

  pub write_alike : (bytes : List ℕ) → ShowsSame (after_write bytes a) (after_write bytes b)
  write_alike bytes = record {
    input = λ j. input_after_write bytes (same.output j) (same.input j);
    output = ap (output_after_write bytes) same.output;
    said = same.said;
  }

  pub finish_out_alike : ShowsSame (after_finish_out a) (after_finish_out b)
  finish_out_alike = record { input = same.input; output = ap none_open same.output; said = same.said }

pub file_alike : {a b : Shown} (file : FileWrite) → ShowsSame a b → ShowsSame (after_file file a) (after_file file b)
file_alike file same = finish_out_alike (write_alike (put_out_alike same file.name) file.bytes)

-- ---- one file, call by call

-- each call succeeded
pub file_written : {T U V : Type 0} {x : T} {y : U} {z : V} (file : FileWrite) {old opened written new : Shown}
    → PutsOut file.name old opened (Ok x) → WritesText file.bytes opened written (Ok y) → FinishesOut written new (Ok z)
    → ShowsSame new (after_file file old)
file_written file puts writes finishes =
    same_again finishes.both (finish_out_alike (same_again writes.ok (write_alike puts.ok file.bytes)))

-- it was not opened
pub not_opened : {T : Type 0} {e : Failed} (file : FileWrite) {old new : Shown} → PutsOut {T =
    T} file.name old new (Err e) → StopsFile file PutOut old new
not_opened file puts = puts.err

-- it was not written whole
pub not_written : {T U : Type 0} {x : T} {e : Failed} (file : FileWrite) {old opened new : Shown}
    → PutsOut file.name old opened (Ok x) → WritesText {T = U} file.bytes opened new (Err e)
    → StopsFile file Write old new
not_written file puts writes =
    (writes.err.0, writes.err.1, same_again writes.err.2 (write_alike puts.ok (take writes.err.0 file.bytes)))

-- its end failed
pub not_ended : {T U V : Type 0} {x : T} {y : U} {e : Failed} (file : FileWrite) {old opened written new : Shown}
    → PutsOut file.name old opened (Ok x) → WritesText file.bytes opened written (Ok y) → FinishesOut {T =
    V} written new (Err e) → StopsFile file FinishOut old new
not_ended file puts writes finishes =
    same_again finishes.both (finish_out_alike (same_again writes.ok (write_alike puts.ok file.bytes)))

-- ---- several files
after_writes-append : (files more : List FileWrite) (s : Shown)
    → after_writes (files ++ more) s ≡ after_writes more (after_writes files s)
after_writes-append [] more s = refl
after_writes-append (file ∷ files) more s = after_writes-append files more (after_file file s)

-- what stops after what is shown alike stops alike
pub stops_alike : (file : FileWrite) (call : DeskCall) {a b : Shown} (new : Shown) → ShowsSame a b
    → StopsFile file call a new → StopsFile file call b new
stops_alike file PutOut new same stops = same_again stops (failed_put_out_alike same)
stops_alike file Write new same stops =
    (stops.0, stops.1, same_again stops.2 (write_alike (put_out_alike same file.name) (take stops.0 file.bytes)))
stops_alike file FinishOut new same stops = same_again stops (file_alike file same)
stops_alike file TakeIn new same stops = absurd stops
stops_alike file Read new same stops = absurd stops
stops_alike file Say new same stops = absurd stops

module _ (files : List FileWrite) (n : ℕ) (low : n < length files) (old mid new : Shown)
    (first : ShowsSame mid (after_writes (take n files) old)) where
  -- one more was written
  pub writes_more : ShowsSame new (after_file (get_or files n (record { name = []; bytes = [] })) mid)
      → ShowsSame new (after_writes (take (n + 1) files) old)
  writes_more next =
      let file = get_or files n (record { name = []; bytes = [] }) in
      let list = ap (λ files. after_writes files old) (take_more files n (record { name = []; bytes = [] }) low)
      ∙ after_writes-append (take n files) (file ∷ []) old in
      subst (ShowsSame new) (sym list) (same_again next (file_alike file first))

  -- the next one stopped
  pub writes_stop : (call : DeskCall) → StopsFile (get_or files n (record { name = []; bytes = [] })) call mid new
      → StopsWrites files n call old new
  writes_stop call stops = record {
    within = low;
    stops = stops_alike (get_or files n (record { name = []; bytes = [] })) call new first stops;
  }
