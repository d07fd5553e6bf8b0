-- Runs that meet, as the calendar finds them.
use Rattle.std.proofs.Common.{◌≡◌, ℕ, ◌+◌, ◌<◌, ◌≤◌, refl, sym, ◌∙◌, subst, arith, Bool, true, false, ◌&&◌, List}
use Rattle.std.proofs.Common.{nat_le, nat_lt, IsTrue}
use Rattle.std.proofs.lemmas.Bool.{false≢true}
use Rattle.std.proofs.lemmas.Bool.Decides.{nat_tests}
use Rattle.instance_model.specs.declared.parts.Exclusion.{Exclusion}
use Rattle.instance_model.specs.Tables.{Tables, is_allowed, in_run, delta_of, exclusion_of}
use Rattle.instance_model.proofs.EntryLemmas.{is_allowed_facts}
use Rattle.duration_calendar.specs.Windows.{in_window, run_of}
use Rattle.lagrange_bound.specs.declared.span.Span.{Span}
use Rattle.lagrange_bound.specs.Boxes.{span_of}
use Rattle.certificate_tree.specs.Holding.{IsStartIn, RunsMeet, ExclHolds}
use Rattle.certificate_tree.specs.Meetings.{EachMeetsEach}

window_is : (inst : Tables) (i s t : ℕ) → in_window (run_of inst i s) t ≡ in_run inst i s t
unfolding in_window in_run
window_is inst i s t = refl

both : (a b : Bool) → (a && b) ≡ true → (a ≡ true) × (b ≡ true)
both true true e = (refl, refl)
both true false e = absurd (false≢true e)
both false b e = absurd (false≢true e)

run_within : (inst : Tables) (i s t : ℕ) → is_allowed inst i s ≡ true → in_run inst i s t ≡ true
    → (1 ≤ t) × (t ≤ inst.periods)
unfolding in_run
run_within inst i s t a r =
    let f = is_allowed_facts inst i s a in
    let w = both (nat_le s t) (nat_lt t (s + delta_of inst i s)) r in
    let x : s ≤ t = (let e = w.0 in grind (arith, nat_tests)) in
    let y : t < s + delta_of inst i s = (let e = w.1 in grind (arith, nat_tests)) in
    (omega (arith, f.0, x), omega (arith, f.2, y))

-- what the leaf asks, of an exclusion that was read
abbrev RunsAll : Tables → List Span → Exclusion → Type 0
RunsAll inst box x = (s r : ℕ) → IsStartIn inst box x.first s → IsStartIn inst box x.second r
    → (t : ℕ) × RunsMeet inst x.season x.first s x.second r t

runs_all : (inst : Tables) (box : List Span) (x : Exclusion)
    → EachMeetsEach inst x (span_of box x.first) (span_of box x.second) → RunsAll inst box x
runs_all inst box x h s r a b =
    let m = h s a r b in
    let one : in_run inst x.first s m.0 ≡ true = sym (window_is inst x.first s m.0) ∙ m.1.first in
    let two : in_run inst x.second r m.0 ≡ true = sym (window_is inst x.second r m.0) ∙ m.1.second in
    let w = run_within inst x.first s m.0 a.allowed one in
    (m.0, record { from = w.0; to = w.1; season = m.1.season; first = one; second = two })

each_meets : (inst : Tables) (box : List Span) (x : Exclusion) → RunsAll inst box x
    → EachMeetsEach inst x (span_of box x.first) (span_of box x.second)
each_meets inst box x h s a r b =
    let m = h s r a b in (
      m.0,
      record {
        first = window_is inst x.first s m.0 ∙ m.1.first;
        second = window_is inst x.second r m.0 ∙ m.1.second;
        season = m.1.season;
      },
    )

pub excl_is : (inst : Tables) (box : List Span) (e : ℕ) (x : Exclusion) (first second : Span) (b : Bool)
    → x ≡ exclusion_of inst e → first ≡ span_of box x.first → second ≡ span_of box x.second
    → (IsTrue b → EachMeetsEach inst x first second) × (EachMeetsEach inst x first second → IsTrue b)
    → (IsTrue b → ExclHolds inst box e) × (ExclHolds inst box e → IsTrue b)
excl_is inst box e x first second b ex f s w =
    subst (λ (y : Exclusion). (IsTrue b → RunsAll inst box y) × (RunsAll inst box y → IsTrue b)) ex
    (λ t. runs_all inst box x (rw (f, s) at (w.0 t)), λ h. w.1 (rw (f, s) (each_meets inst box x h)))
