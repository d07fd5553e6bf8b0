-- The durations that are drawn.
use Rattle.std.proofs.Common.{inl, inr, arith, ◌≡◌, ◌∙◌, ℕ, zero, suc, ◌+◌, ◌<◌, ◌≤◌, List, [], slice_index, length}
use Rattle.std.proofs.Common.{length-append, All}
use Rattle.std.proofs.lemmas.Bool.{cases_lt}
use Rattle.std.proofs.lemmas.List.{get_or_past}
use Rattle.std.proofs.lemmas.List.Elements.{All-nil, All-push}
use Rattle.rand_pcg.specs.Lcg.{Lcg}
use Rattle.instance_gen.specs.Drawing.{draw, Durations, with_durations}

pub draw-below : (m : ℕ) (source : Lcg) → 0 < m → (draw m source).0 < m
unfolding draw
draw-below m source h = omega arith

-- a duration is from 1 to 4
abbrev pub IsShort : ℕ → Type 0
IsShort d = (1 ≤ d) × (d ≤ 4)

pub length-durations : (n : ℕ) (d : Durations) → length (with_durations n d).durations ≡ length d.durations + n
unfolding with_durations
length-durations zero d = omega arith
length-durations (suc n) d =
    let before = with_durations n d in
    let e = length-durations n d in
    length-append before.durations _ ∙ omega (arith, e)

pub durations-short : (n : ℕ) (d : Durations) → All IsShort d.durations → All IsShort (with_durations n d).durations
unfolding with_durations
durations-short zero d h = h
durations-short (suc n) d h =
    let before = with_durations n d in
    let next = draw-below 4 before.source (omega arith) in
    All-push IsShort before.durations _ (durations-short n d h) (omega (arith, next), omega (arith, next))

-- those of an intervention
abbrev pub drawn_durations : Lcg → Durations
drawn_durations source = with_durations 50 (record { source = source; durations = [] })

pub length-drawn_durations : (source : Lcg) → length (drawn_durations source).durations ≡ 50
length-drawn_durations source = length-durations 50 (record { source = source; durations = [] })

pub drawn_durations-short : (source : Lcg) → All IsShort (drawn_durations source).durations
drawn_durations-short source = durations-short 50 (record { source = source; durations = [] }) (All-nil IsShort)

pub short-at : (durations : List ℕ) → All IsShort durations → (k : ℕ) → slice_index durations k ≤ 4
short-at durations short k =
    elim (cases_lt k (length durations)) [
      | inl below ↦ (short k 0 below).1
      | inr past ↦ rw (get_or_past durations k 0 past) (omega arith)
    ]
