-- What is known of the events that are taken, with one event more.
use Rattle.std.proofs.Common.{◌≡◌, ◌≢◌, ◌<◌, ℕ, ◌+◌, Bool, true, false, List, [], ◌∷◌, ◌++◌, length, take, Option, Some}
use Rattle.std.proofs.Common.{None, refl, sym, ◌∙◌, ap, subst, arith, append-nil, append_assoc, length-append, suc}
use Rattle.std.specs.Prelude.{ℤ, slice_get, Result, Ok, Err, IfOk, OnOk}
use Rattle.std.specs.declared.alloc.AllocError.{AllocError}
use Rattle.std.proofs.lemmas.List.{length_push, take_all}
use Rattle.json_grammar.specs.Tree.{Tree, Event, key, events_of}
use Rattle.json_events.specs.Counts.{IsNextCount, AreNextCounts, IsNextNumberKey}
use Rattle.decimal_numbers.specs.Exact.{fixed}
use Rattle.json_grammar.specs.Grammar.{IsText}
use Rattle.json_grammar.specs.Prefix.{IsSyntaxFault, IsDepthFault, IsShallow}
use Rattle.json_events.specs.PullViews.{PullView}
use Rattle.json_events.specs.Pulls.{Stands}
use Rattle.json_grammar.specs.Stream.{IsNextOfEach, IsGivenText}
use Rattle.json_grammar.specs.declared.fault.TextFault.{TextFault}
use Rattle.json_grammar.specs.declared.fault.TextFault.TheVariants.{Syntax, TooDeep, Memory}
use Rattle.instance_model.specs.declared.limits.Limits.{Limits}
use Rattle.instance_shape.specs.declared.fault.Fault.{Fault}
use Rattle.instance_shape.specs.declared.spot.Spot.{Spot}
use Rattle.instance_shape.specs.Keys.{is_digits, number_of}
use Rattle.shape_walk.specs.Standing.{Walk, StandsAfter}
use Rattle.shape_walk.specs.CountEvents.{HaveCounts, StandAt}
use Rattle.shape_walk.specs.Kept.{kept, spot_after}
use Rattle.shape_walk.proofs.Keeping.{kept_more}
use Rattle.shape_walk.proofs.NumberTexts.{has_form, has_value}
use Rattle.instance_read.specs.Keeping.{keep, keep_each, nothing_kept}
use Rattle.instance_read.specs.Keepers.{kept_of}
use Rattle.instance_read.specs.Readers.{HaveTaken, IsFollowing, IsEnding, Follows, Ends, HaveFault, HaveLastFault}
use Rattle.instance_read.specs.Readers.{HaveEnded, IsStartOf}
use Rattle.instance_read.specs.declared.keeper.Keeper.{Keeper}

-- where there is no fault behind an event there was none before
pub none_before : (old new : Walk) → ((f : Fault) → old.fault ≡ Some f → new ≡ old)
    → new.fault ≡ None → old.fault ≡ None
none_before old new keeps none = by old.fault refl
  where
    by : (o : Option Fault) → old.fault ≡ o → o ≡ None
    by None e = refl
    by (Some f) e =
        let same : new.fault ≡ old.fault = ap (λ (w : Walk). w.fault) (keeps f e) in
        cc

pub taken_more : (limits : Limits) (old new : Walk) (before behind : Keeper) (es : List Event) (e : Event) (s : Spot)
    → HaveTaken limits old before es → StandsAfter limits new (es ++ e ∷ []) → old.fault ≡ None → s ≡ spot_after es e
    → kept_of behind ≡ keep s e (kept_of before) → HaveTaken limits new behind (es ++ e ∷ [])
taken_more limits old new before behind es e s h stands none spot k = record {
  stands = stands;
  kept = λ _. k ∙ ap (keep s e) (h.kept none) ∙ ap (λ q. keep q e (kept keep es nothing_kept)) spot
      ∙ sym (kept_more keep es e nothing_kept);
}

-- a text that begins with some events, and has one behind them, begins with one more
pub one_more : {A : Type 0} (xs es : List A) (e : A) → take (length es) xs ≡ es → slice_get xs (length es) ≡ Some e
    → take (length (es ++ e ∷ [])) xs ≡ es ++ e ∷ []
one_more [] [] e h i = cc
one_more (x ∷ xs) [] e h i = cc
one_more [] (y ∷ es) e h i = cc
one_more (x ∷ xs) (y ∷ es) e h i =
    let first : x ≡ y = cc in
    let rest : take (length es) xs ≡ es = cc in
    ap (λ z. z ∷ take (length (es ++ e ∷ [])) xs) first ∙ ap (λ zs. y ∷ zs) (one_more xs es e rest i)

pub follow_more : (limits : Limits) (old new : PullView) (walk walk' : Walk) (keeper keeper' : Keeper)
    (bytes : List ℕ) (e : Event)
    → ((given : ℕ) → Stands old bytes given false → Stands new bytes (given + 1) false)
    → ((given : ℕ) → Stands old bytes given false → IsNextOfEach bytes given e)
    → ((es : List Event) → HaveTaken limits walk keeper es → HaveTaken limits walk' keeper' (es ++ e ∷ []))
    → IsFollowing limits old walk keeper bytes → IsFollowing limits new walk' keeper' bytes
follow_more limits old new walk walk' keeper keeper' bytes e stands next taken h = record {
  events = h.events ++ e ∷ [];
  pulled =
      subst (λ (n : ℕ). Stands new bytes n false) (sym (length_push h.events e)) (stands (length h.events) h.pulled);
  taken = taken h.events h.taken;
  first = λ rest root t. one_more (events_of root) h.events e (h.first rest root t)
      (next (length h.events) h.pulled rest root t);
}

-- the same of a number of which the value alone is told
pub follow_count : (limits : Limits) (old new : PullView) (walk walk' : Walk) (keeper keeper' : Keeper) (bytes : List ℕ)
    (at : ℕ) (count : ℤ) (s : Spot) → walk.fault ≡ None
    → ((given : ℕ) → Stands old bytes given false → Stands new bytes (given + 1) false)
    → ((given : ℕ) → Stands old bytes given false → IsNextCount bytes given at count)
    → ((es : List Event) (token : List ℕ) → fixed token ≡ Some (count, false) → StandsAfter limits walk es
    → StandsAfter limits walk' (es ++ Event.number at token ∷ []))
    → ((es : List Event) (token : List ℕ) → StandsAfter limits walk es → s ≡ spot_after es (Event.number at token))
    → ((token : List ℕ) → fixed token ≡ Some (count, false)
    → kept_of keeper' ≡ keep s (Event.number at token) (kept_of keeper))
    → IsFollowing limits old walk keeper bytes → IsFollowing limits new walk' keeper' bytes
follow_count limits old new walk walk' keeper keeper' bytes at count s none stands next walks spot keeps h =
    let number = next (length h.events) h.pulled in
    let e = Event.number at number.token in
    record {
      events = h.events ++ e ∷ [];
      pulled =
          subst (λ (n : ℕ). Stands new bytes n false) (sym (length_push h.events e))
          (stands (length h.events) h.pulled);
      taken = taken_more limits walk walk' keeper keeper' h.events e s h.taken
          (walks h.events number.token number.exact h.taken.stands) none (spot h.events number.token h.taken.stands)
          (keeps number.token number.exact);
      first = λ rest root t. one_more (events_of root) h.events e (h.first rest root t) (number.next rest root t);
    }

-- the same of a key of which the number alone is told, and which is kept where there is no fault behind it
pub follow_key : (limits : Limits) (old new : PullView) (walk walk' : Walk) (keeper keeper' : Keeper) (bytes : List ℕ)
    (at number : ℕ) (s : Spot) → walk.fault ≡ None
    → ((given : ℕ) → Stands old bytes given false → Stands new bytes (given + 1) false)
    → ((given : ℕ) → Stands old bytes given false → IsNextNumberKey bytes given at number)
    → ((es : List Event) (end : ℕ) (text : List ℕ) → is_digits text ≡ true → number_of text ≡ number
    → StandsAfter limits walk es → StandsAfter limits walk' (es ++ key at end text ∷ []))
    → ((es : List Event) (end : ℕ) (text : List ℕ) → StandsAfter limits walk es → s ≡ spot_after es (key at end text))
    → (walk'.fault ≡ None → (end : ℕ) (text : List ℕ) → is_digits text ≡ true → number_of text ≡ number
    → kept_of keeper' ≡ keep s (key at end text) (kept_of keeper))
    → IsFollowing limits old walk keeper bytes → IsFollowing limits new walk' keeper' bytes
follow_key limits old new walk walk' keeper keeper' bytes at number s none stands next walks spot keeps h =
    let k = next (length h.events) h.pulled in
    let form = has_form k.text k.some k.few k.digits in
    let value = has_value k.text number k.value in
    let e = key at k.end k.text in
    record {
      events = h.events ++ e ∷ [];
      pulled =
          subst (λ (n : ℕ). Stands new bytes n false) (sym (length_push h.events e))
          (stands (length h.events) h.pulled);
      taken = record {
        stands = walks h.events k.end k.text form value h.taken.stands;
        kept = λ fine. keeps fine k.end k.text form value ∙ ap (keep s e) (h.taken.kept none)
            ∙ ap (λ q. keep q e (kept keep h.events nothing_kept)) (spot h.events k.end k.text h.taken.stands)
            ∙ sym (kept_more keep h.events e nothing_kept);
      };
      first = λ rest root t. one_more (events_of root) h.events e (h.first rest root t) (k.next rest root t);
    }

-- ---- many numbers, of which the values alone are told

-- events behind so many others, whatever is pushed later
abbrev pub AreNextOfEach : List ℕ → ℕ → List Event → Type 0
AreNextOfEach bytes given [] = Unit {0}
AreNextOfEach bytes given (e ∷ es) = IsNextOfEach bytes given e × AreNextOfEach bytes (given + 1) es

-- the numbers with some counts that come next
pub record NextNumbers (bytes : List ℕ) (given : ℕ) (counts : List ℤ) : Type 0 where
  pub numbers : List Event
  pub have : HaveCounts numbers counts
  pub size : length numbers ≡ length counts
  pub next : AreNextOfEach bytes given numbers

next_numbers : (bytes : List ℕ) (given : ℕ) (counts : List ℤ) → AreNextCounts bytes given counts
    → NextNumbers bytes given counts
next_numbers bytes given [] a = record { numbers = []; have = tt; size = refl; next = tt }
next_numbers bytes given (c ∷ cs) a =
    let first = a.0.1 in
    let rest = next_numbers bytes (given + 1) cs a.1 in
    record {
      numbers = Event.number a.0.0 first.token ∷ rest.numbers;
      have = (first.exact, rest.have);
      size = ap suc rest.size;
      next = (first.next, rest.next);
    }

-- a text that begins with some events, and has others behind them, begins with all of them
starts_more : (bytes rest : List ℕ) (root : Tree) (more es : List Event) → IsText (bytes ++ rest) root
    → AreNextOfEach bytes (length es) more → IsStartOf es root → IsStartOf (es ++ more) root
starts_more bytes rest root [] es t n s = subst (λ (z : List Event). IsStartOf z root) (sym (append-nil es)) s
starts_more bytes rest root (e ∷ more) es t n s =
    subst (λ (z : List Event). IsStartOf z root) (append_assoc es (e ∷ []) more)
    (starts_more bytes rest root more (es ++ e ∷ []) t
    (subst (λ (k : ℕ). AreNextOfEach bytes k more) (sym (length_push es e)) n.1)
    (one_more (events_of root) es e s (n.0 rest root t)))

-- events that stand at a spot are kept there one after another
kept_each : (s : Spot) (more es : List Event) → StandAt s es more
    → kept keep (es ++ more) nothing_kept ≡ keep_each s more (kept keep es nothing_kept)
kept_each s [] es a = ap (λ z. kept keep z nothing_kept) (append-nil es)
kept_each s (e ∷ more) es a =
    ap (λ z. kept keep z nothing_kept) (sym (append_assoc es (e ∷ []) more))
    ∙ kept_each s more (es ++ e ∷ []) a.1
    ∙ ap (keep_each s more) (kept_more keep es e nothing_kept
    ∙ ap (λ q. keep q e (kept keep es nothing_kept)) (sym a.0))

-- where no event is given, nothing more is taken
pub follow_quiet : (limits : Limits) (old new : PullView) (walk : Walk) (keeper : Keeper) (bytes : List ℕ)
    → ((given : ℕ) → Stands old bytes given false → Stands new bytes given false)
    → IsFollowing limits old walk keeper bytes → IsFollowing limits new walk keeper bytes
follow_quiet limits old new walk keeper bytes stands h =
    record { events = h.events; pulled = stands (length h.events) h.pulled; taken = h.taken; first = h.first }

pub follow_none : (limits : Limits) (old new : PullView) (walk : Walk) (keeper : Keeper) (bytes : List ℕ)
    (counts : List ℤ) → length counts ≡ 0
    → ((given : ℕ) → Stands old bytes given false → Stands new bytes (given + length counts) false)
    → IsFollowing limits old walk keeper bytes → IsFollowing limits new walk keeper bytes
follow_none limits old new walk keeper bytes counts z stands h =
    follow_quiet limits old new walk keeper bytes (λ given s.
    let same : given + length counts ≡ given = omega (arith, z) in
    subst (λ (n : ℕ). Stands new bytes n false) same (stands given s)) h

pub follow_counts : (limits : Limits) (old new : PullView) (walk walk' : Walk) (keeper keeper' : Keeper)
    (bytes : List ℕ) (counts : List ℤ) (s : Spot) → walk.fault ≡ None
    → ((given : ℕ) → Stands old bytes given false → Stands new bytes (given + length counts) false)
    → ((given : ℕ) → Stands old bytes given false → AreNextCounts bytes given counts)
    → ((es numbers : List Event) → HaveCounts numbers counts → StandsAfter limits walk es
    → StandsAfter limits walk' (es ++ numbers))
    → ((es numbers : List Event) → HaveCounts numbers counts → StandsAfter limits walk es → StandAt s es numbers)
    → ((numbers : List Event) → HaveCounts numbers counts
    → kept_of keeper' ≡ keep_each s numbers (kept_of keeper))
    → IsFollowing limits old walk keeper bytes → IsFollowing limits new walk' keeper' bytes
follow_counts limits old new walk walk' keeper keeper' bytes counts s none stands next walks spots keeps h =
    let more = next_numbers bytes (length h.events) counts (next (length h.events) h.pulled) in
    let size : length (h.events ++ more.numbers) ≡ length h.events + length counts =
    length-append h.events more.numbers ∙ ap (λ n. length h.events + n) more.size in
    record {
      events = h.events ++ more.numbers;
      pulled = subst (λ (n : ℕ). Stands new bytes n false) (sym size) (stands (length h.events) h.pulled);
      taken = record {
        stands = walks h.events more.numbers more.have h.taken.stands;
        kept = λ _. keeps more.numbers more.have ∙ ap (keep_each s more.numbers) (h.taken.kept none)
            ∙ sym (kept_each s more.numbers h.events (spots h.events more.numbers more.have h.taken.stands));
      };
      first = λ rest root t. starts_more bytes rest root more.numbers h.events t more.next (h.first rest root t);
    }

-- ---- faults

pub stays : (bytes : List ℕ) (fault : TextFault) → fault ≢ Memory
    → ((at : ℕ) → fault ≡ Syntax at → IsSyntaxFault bytes at × (at < length bytes))
    → ((at : ℕ) → fault ≡ Syntax at → IsShallow bytes at)
    → ((at : ℕ) → fault ≡ TooDeep at → IsDepthFault bytes at) → HaveFault bytes fault
stays bytes (Syntax at) m s f d = ((s at refl).0, f at refl, (s at refl).1)
stays bytes (TooDeep at) m s f d = d at refl
stays bytes Memory m s f d = absurd (m refl)

pub stays_last : (bytes : List ℕ) (fault : TextFault) → fault ≢ Memory
    → ((at : ℕ) → fault ≡ Syntax at → IsSyntaxFault bytes at) → ((at : ℕ) → fault ≡ Syntax at → IsShallow bytes at)
    → ((at : ℕ) → fault ≡ TooDeep at → IsDepthFault bytes at) → HaveLastFault bytes fault
stays_last bytes (Syntax at) m s f d = (s at refl, f at refl)
stays_last bytes (TooDeep at) m s f d = d at refl
stays_last bytes Memory m s f d = absurd (m refl)

pub told_follows : (r : Result (Option TextFault) AllocError) (fault : TextFault) (limits : Limits) (pull : PullView)
    (walk : Walk) (keeper : Keeper) (bytes : List ℕ) → IfOk r (λ t. t ≡ Some fault) → OnOk r (fault ≢ Memory)
    → (fault ≢ Memory → HaveFault bytes fault) → IfOk r (λ t. Follows t limits pull walk keeper bytes)
told_follows (Ok t) fault limits pull walk keeper bytes e m f =
    subst (λ o. Follows o limits pull walk keeper bytes) (sym e) (f m)
told_follows (Err x) fault limits pull walk keeper bytes e m f = tt

-- ---- the end of the bytes

pub ending : (limits : Limits) (pull : PullView) (walk : Walk) (keeper : Keeper) (bytes : List ℕ)
    → IsFollowing limits pull walk keeper bytes → IsEnding limits pull walk keeper bytes
ending limits pull walk keeper bytes h = record {
  events = h.events;
  finished = false;
  pulled = h.pulled;
  taken = h.taken;
  first = λ root t. h.first [] root (subst (λ (z : List ℕ). IsText z root) (sym (append-nil bytes)) t);
}

pub end_more : (limits : Limits) (old new : PullView) (walk walk' : Walk) (keeper keeper' : Keeper)
    (bytes : List ℕ) (e : Event)
    → ((given : ℕ) (finished : Bool) → Stands old bytes given finished → Stands new bytes (given + 1) true)
    → ((given : ℕ) (finished : Bool) (root : Tree) → Stands old bytes given finished → IsText bytes root
    → slice_get (events_of root) given ≡ Some e)
    → ((es : List Event) → HaveTaken limits walk keeper es → HaveTaken limits walk' keeper' (es ++ e ∷ []))
    → IsEnding limits old walk keeper bytes → IsEnding limits new walk' keeper' bytes
end_more limits old new walk walk' keeper keeper' bytes e stands next taken h = record {
  events = h.events ++ e ∷ [];
  finished = true;
  pulled = subst (λ (n : ℕ). Stands new bytes n true) (sym (length_push h.events e))
      (stands (length h.events) h.finished h.pulled);
  taken = taken h.events h.taken;
  first =
      λ root t. one_more (events_of root) h.events e (h.first root t)
      (next (length h.events) h.finished root h.pulled t);
}

pub ended : (limits : Limits) (pull : PullView) (walk : Walk) (keeper : Keeper) (bytes : List ℕ)
    → (h : IsEnding limits pull walk keeper bytes) → IsGivenText bytes (length h.events)
    → HaveEnded limits walk keeper bytes
ended limits pull walk keeper bytes h g =
    let all : h.events ≡ events_of g.tree = sym (h.first g.tree g.text) ∙ ap (λ n. take n (events_of g.tree)) g.count
    ∙ take_all (length (events_of g.tree)) (events_of g.tree) (omega arith) in
    record {
      root = g.tree;
      text = record { text = g.text; shallow = g.shallow };
      taken = subst (λ (es : List Event). HaveTaken limits walk keeper es) all h.taken;
    }

pub told_ends : (r : Result (Option TextFault) AllocError) (fault : TextFault) (limits : Limits) (walk : Walk)
    (keeper : Keeper) (bytes : List ℕ) → IfOk r (λ t. t ≡ Some fault) → OnOk r (fault ≢ Memory)
    → (fault ≢ Memory → HaveLastFault bytes fault) → IfOk r (λ t. Ends t limits walk keeper bytes)
told_ends (Ok t) fault limits walk keeper bytes e m f = subst (λ o. Ends o limits walk keeper bytes) (sym e) (f m)
told_ends (Err x) fault limits walk keeper bytes e m f = tt
