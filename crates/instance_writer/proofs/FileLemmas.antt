-- A file that a text is written to, with bytes that are kept before.
use Rattle.std.proofs.Common.{◌≡◌, ℕ, Bool, true, false, List, [], ◌++◌, Result, Ok, Err, sym, ◌∙◌, ap, subst}
use Rattle.std.proofs.Common.{true≢false}
use Rattle.std.specs.Prelude.{IsTrue, IsErr}
use Rattle.std.proofs.lemmas.List.{append-nil}
use Rattle.plan_desk.specs.declared.call.Failed.{Failed}
use Rattle.plan_desk.specs.Desk.{Shown, Output, ShowsSame, after_write}
use Rattle.plan_desk.specs.Written.{PutsText, HasPut}
use Rattle.plan_desk.specs.Written.Way.{writing}
use Rattle.plan_desk.proofs.Written.{begins, put, last, respelled}
use Rattle.instance_writer.specs.Sinks.{Progress, TakesAs, TakesText, EndsAs}

-- a file that is written to stays open
pub still_open : (text : List ℕ) (old new : Shown) → ShowsSame new (after_write text old) → IsTrue old.output.opened
    → IsTrue new.output.opened
still_open text old new shows opened = subst (λ (o : Output). IsTrue o.opened) (sym shows.output) opened

pub open_after : {T : Type 0} (text : List ℕ) (old new : Shown) (r : Result T Failed) → PutsText writing text old new r
    → IsTrue old.output.opened → IsTrue new.output.opened
open_after text old new (Ok x) puts opened = still_open text old new puts.ok opened
open_after text old new (Err e) puts opened = still_open _ old new puts.err.2 opened

module _ (text : List ℕ) (p q : Progress) where
  by_flags : (before since : Bool) → p.failed ≡ before → q.failed ≡ since → TakesAs before since text p q
      → TakesText text p q
  by_flags before since a b takes =
      subst (λ f. TakesAs f q.failed text p q) (sym a) (subst (λ f. TakesAs before f text p q) (sym b) takes)

  pub kept_more : p.failed ≡ false → q.failed ≡ false → q.shown ≡ p.shown → q.kept ≡ p.kept ++ text → TakesText text p q
  kept_more a b shown kept =
      by_flags false false a b
      (record {
        written = [];
        whole = sym kept;
        put = subst (λ (s : Shown). HasPut writing [] p.shown s) (sym shown) (begins writing p.shown);
      })

  pub still_failed : p.failed ≡ true → q.failed ≡ true → q.shown ≡ p.shown → TakesText text p q
  still_failed a b shown = by_flags true true a b shown

  pub all_written : {T : Type 0} {x : T} → p.failed ≡ false → q.failed ≡ false → q.kept ≡ []
      → PutsText writing (p.kept ++ (text ++ [])) p.shown q.shown (Ok x) → TakesText text p q
  all_written a b kept puts =
      by_flags false false a b
      (record {
        written = p.kept ++ text;
        whole = sym (append-nil (p.kept ++ text)) ∙ ap (λ l. (p.kept ++ text) ++ l) (sym kept);
        put = subst (λ l. HasPut writing (p.kept ++ l) p.shown q.shown) (append-nil text) (put writing puts);
      })

  pub write_failed : {T : Type 0} {e : Failed} → p.failed ≡ false → q.failed ≡ true
      → PutsText {T = T} writing (p.kept ++ (text ++ [])) p.shown q.shown (Err e) → TakesText text p q
  write_failed {T = T} {e = e} a b puts =
      by_flags false true a b
      (λ f. respelled writing (ap (λ l. p.kept ++ l) (append-nil text))
      (record {
        ok = tt;
        err = puts.err;
        faults = record { same = tt; fails = puts.faults.fails };
      }))

-- the rest was written after a text was taken
ends_as : {T : Type 0} (before since : Bool) (text : List ℕ) (a p : Progress) (new : Shown) (r : Result T Failed)
    → before ≡ false → a.kept ≡ [] → TakesAs before since text a p → EndsAs since p new r
    → PutsText writing text a.shown new r
ends_as true since text a p new r good kept takes ends = absurd (true≢false good)
ends_as false false text a p new r good kept takes ends =
    respelled writing (sym takes.whole ∙ ap (λ l. l ++ text) kept) (last writing r takes.put ends)
ends_as false true text a p new (Ok x) good kept takes ends = absurd (true≢false (sym ends.0))
ends_as {T = T} false true text a p new (Err e) good kept takes ends =
    let puts = takes e in
    respelled writing (ap (λ l. l ++ text) kept)
    (subst (λ (s : Shown). PutsText {T = T} writing (a.kept ++ text) a.shown s (Err e)) (sym ends.1)
    (record {
      ok = tt;
      err = puts.err;
      faults = record { same = tt; fails = puts.faults.fails };
    }))

pub whole_written : {T : Type 0} (text : List ℕ) (a p : Progress) (new : Shown) (r : Result T Failed)
    → a.failed ≡ false → a.kept ≡ [] → TakesText text a p → EndsAs p.failed p new r → PutsText writing text a.shown
    new r
whole_written text a p new r good kept takes ends =
    ends_as a.failed p.failed text a p new r good kept takes ends

pub ends_failed : {T : Type 0} (b : Bool) (p : Progress) (new : Shown) (r : Result T Failed) → b ≡ true → IsErr r
    → new ≡ p.shown → EndsAs b p new r
ends_failed b p new r e is shown = subst (λ f. EndsAs f p new r) (sym e) (is, shown)

pub ends_good : {T : Type 0} (b : Bool) (p : Progress) (new : Shown) (r : Result T Failed) → b ≡ false
    → PutsText writing p.kept p.shown new r → EndsAs b p new r
ends_good b p new r e puts = subst (λ f. EndsAs f p new r) (sym e) puts

-- the same of desks that are the same
pub seen_as : {D T : Type 0} (shows : D → Shown) (text : List ℕ) (r : Result T Failed) {a b c d : D} → a ≡ b → c ≡ d
    → PutsText writing text (shows a) (shows c) r → PutsText writing text (shows b) (shows d) r
seen_as shows text r {a = a} {d = d} first last puts =
    subst (λ x. PutsText writing text (shows x) (shows d) r) first
    (subst (λ x. PutsText writing text (shows a) (shows x) r) last puts)
