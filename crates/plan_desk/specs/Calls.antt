-- What each call of a desk does: what its success means, what a failure leaves, and when it fails.
use Rattle.std.specs.Prelude.{◌≡◌, ℕ, ◌<◌, ◌≤◌, true, false, List, [], length, take, Some, Result, IfOk, OnOk, OnErr}
use Rattle.std.specs.Prelude.{IfSome}
use Rattle.plan_desk.specs.declared.call.DeskCall.TheVariants.{TakeIn, Read, PutOut, Write, FinishOut, Say}
use Rattle.plan_desk.specs.declared.call.Failed.{Failed}
use Rattle.plan_desk.specs.Desk.{Shown, ShowsSame, after_take_in, after_failed_take_in, after_read, after_put_out}
use Rattle.plan_desk.specs.Desk.{after_failed_put_out, after_write, after_finish_out, after_say}
use Rattle.plan_desk.specs.Contents.{HoldsBytes}
use Rattle.plan_desk.specs.Faults.{CountsFault, IsFaultOf}

-- a file is taken in from its first byte on, where there is one of this name
pub record TakesIn {T : Type 0} (name : List ℕ) (old new : Shown) (result : Result T Failed) : Type 0 where
  pub ok : OnOk result ((bytes : List ℕ) × HoldsBytes old name bytes × ShowsSame new (after_take_in name bytes old))
  pub err : OnErr result (ShowsSame new (after_failed_take_in old))
  pub faults : CountsFault false old new (IsFaultOf TakeIn (Some name)) result

-- the next bytes of the file that is taken in stand at the front of the buffer; none of them is its end
pub record Reads (buf : List ℕ) (old new : Shown) (result : Result ℕ Failed) : Type 0 where
  pub bound : IfOk result (λ n. n ≤ length buf)
  pub bytes : IfOk result (λ n. IfSome old.input.unread (λ rest. (n ≤ length rest) × (take n buf ≡ take n rest)))
  pub end : IfOk result (λ n. 0 < length buf → n ≡ 0 → IfSome old.input.unread (λ rest. rest ≡ []))
  pub ok : IfOk result (λ n. ShowsSame new (after_read n old))
  pub err : OnErr result (ShowsSame new old)
  pub faults : CountsFault false old new (IsFaultOf Read old.input.name) result

-- the file of this name is empty and open for writing; one that was open before is not any more
pub record PutsOut {T : Type 0} (name : List ℕ) (old new : Shown) (result : Result T Failed) : Type 0 where
  pub ok : OnOk result (ShowsSame new (after_put_out name old))
  pub err : OnErr result (ShowsSame new (after_failed_put_out old))
  pub faults : CountsFault false old new (IsFaultOf PutOut (Some name)) result

-- the first bytes of the piece stand at the end of the file that is open
pub record Writes (piece : List ℕ) (old new : Shown) (result : Result ℕ Failed) : Type 0 where
  pub bound : IfOk result (λ n. n ≤ length piece)
  pub some : IfOk result (λ n. 0 < length piece → 0 < n)
  pub ok : IfOk result (λ n. ShowsSame new (after_write (take n piece) old))
  pub err : OnErr result (ShowsSame new old)
  pub faults : CountsFault false old new (IsFaultOf Write old.output.name) result

-- the file that was open is ended, also by a failure, and holds what was written
pub record FinishesOut {T : Type 0} (old new : Shown) (result : Result T Failed) : Type 0 where
  pub both : ShowsSame new (after_finish_out old)
  pub faults : CountsFault false old new (IsFaultOf FinishOut old.output.name) result

-- the first bytes of the piece are said
pub record Speaks (piece : List ℕ) (old new : Shown) (result : Result ℕ Failed) : Type 0 where
  pub bound : IfOk result (λ n. n ≤ length piece)
  pub some : IfOk result (λ n. 0 < length piece → 0 < n)
  pub ok : IfOk result (λ n. ShowsSame new (after_say (take n piece) old))
  pub err : OnErr result (ShowsSame new old)
  pub faults : CountsFault true old new (IsFaultOf Say (Some [])) result
