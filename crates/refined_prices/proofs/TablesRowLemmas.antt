-- Prices by a refined price list, as the code adds them up.
use Rattle.std.proofs.Common.{◌≡◌, ℕ, ◌+◌, ◌-◌, ◌*◌, ◌<◌, ◌≤◌, ◌^◌, refl, sym, ◌∙◌, ap, subst, arith, ℤ, pos, ◌+ℤ◌}
use Rattle.std.proofs.Common.{◌-ℤ◌, ◌*ℤ◌, Bool, true, false, cond, List, length, get_or, Option, Some, None}
use Rattle.std.proofs.Common.{unsigned_abs}
use Rattle.std.proofs.Common.{to_z, min}
use Rattle.std.specs.Int.{w128}
use Rattle.std.proofs.Math.Nat.{min-eq_left, min-le_right}
use Rattle.std.proofs.lemmas.Int.{to_z_pos}
use Rattle.fixed_num.specs.Floors.{floor_of}
use Rattle.fixed_num.specs.Sums.{sum_below}
use Rattle.fixed_num.proofs.Bits.{by_bits}
use Rattle.fixed_num.proofs.SignedLemmas.{back_from_abs, signed_arith}
use Rattle.instance_model.specs.Tables.{Tables, scenarios_of, rank_of, is_allowed, in_run, risk_of}
use Rattle.instance_model.specs.Fitting.{IsFitting}
use Rattle.lagrange_bound.specs.Worth.{ex_part}
use Rattle.refined_prices.specs.declared.group_tail.GroupTail.{GroupTail}
use Rattle.refined_prices.specs.declared.offset.Offset.{Offset}
use Rattle.refined_prices.specs.Groups.{group_at, weighted_sum, least_group, IsGroupTail}
use Rattle.refined_prices.proofs.GroupSizes.{group_term_of_small}
use Rattle.refined_prices.specs.Offsets.{group_tail_at, group_count, offset_of}
use Rattle.refined_prices.specs.GroupBases.{group_part, group_weighed, group_term_of, group_base_of}
use Rattle.refined_prices.specs.Cliques.{clique_part}
use Rattle.refined_prices.specs.RefinedLists.{RefinedList}
use Rattle.refined_prices.specs.RefinedWorth.{counted_part, limit_part, refined_price}
use Rattle.refined_prices.specs.tables.OffsetRows.{AreWithin, IsOffsetRow}
use Rattle.refined_prices.specs.tables.GroupTerms.{AreOffsetsFrom}
use Rattle.refined_prices.specs.tables.RefinedRows.{refined_entry}
use Rattle.refined_prices.proofs.TablesRiskTermLemmas.{least_below_same}

-- ---- terms by the offsets of a row

-- offsets that agree at each group of a tail give the same term
pub group_term_same : (inst : Tables) (tail : Option GroupTail) (f h : ℕ → ℕ) (i s t : ℕ)
    → ((g : ℕ) → g < group_count tail → f g ≡ h g) → group_term_of inst tail f i s t ≡ group_term_of inst tail h i s t
unfolding group_term_of group_weighed group_part least_group
group_term_same inst None f h i s t e = refl
group_term_same inst (Some x) f h i s t e =
    ap (λ (z : ℤ). floor_of ((pos (1000 * inst.alpha) *ℤ sum_below (scenarios_of inst t)
    (λ k. risk_of inst i s t (k + 1))) +ℤ (pos (1_000_000 - inst.alpha)
    *ℤ ((pos (scenarios_of inst t) *ℤ z) -ℤ (pos x.weight *ℤ sum_below (scenarios_of inst t)
    (λ k. risk_of inst i s t (k + 1)))))) (1000 * scenarios_of inst t))
    (least_below_same (length x.groups)
    (λ g. weighted_sum (risk_of inst i s t) (group_at x g) +ℤ pos (1_000_000_000_000 * f g))
    (λ g. weighted_sum (risk_of inst i s t) (group_at x g) +ℤ pos (1_000_000_000_000 * h g))
    (λ g l. ap (λ (n : ℕ). weighted_sum (risk_of inst i s t) (group_at x g) +ℤ pos (1_000_000_000_000 * n)) (e g l)))

-- offsets above those of the groups count for nothing, so a term is small where those of its groups are
pub group_term_small : (inst : Tables) (tail : Option GroupTail) (f : ℕ → ℕ) (i s t : ℕ) → IsFitting inst
    → 1 ≤ t → t ≤ inst.periods → ((g : ℕ) → g < group_count tail → f g ≤ 1_000_000_000)
    → ((x : GroupTail) → tail ≡ Some x → IsGroupTail (scenarios_of inst t) (rank_of inst t) x)
    → unsigned_abs (group_term_of inst tail f i s t) ≤ 301_000_000_000_000_000_000_000_000
group_term_small inst tail f i s t fit one few low ok =
    subst (λ (z : ℤ). unsigned_abs z ≤ 301_000_000_000_000_000_000_000_000)
    (group_term_same inst tail (λ g. min (f g) 1_000_000_000) f i s t (λ g l. min-eq_left (low g l)))
    (group_term_of_small inst tail (λ g. min (f g) 1_000_000_000) i s t fit one few
    (λ g. min-le_right (f g) 1_000_000_000) ok)

-- the offsets of a period in a row
pub AreOffsetsFrom-row : (inst : Tables) (tails : List (Option GroupTail)) (offsets : List Offset) (width i t from : ℕ)
    (row : List ℕ) (tail : Option GroupTail) → AreWithin tails width → IsOffsetRow inst offsets width i row
    → ((g : ℕ) → offset_of offsets t i g ≤ 1_000_000_000) → 1 ≤ t → t ≤ inst.periods → from ≡ (t - 1) * width
    → tail ≡ group_tail_at tails t → AreOffsetsFrom (group_count tail) row from
AreOffsetsFrom-row inst tails offsets width i t from row tail w h small one few e is =
    let count : group_count tail ≤ width =
    subst (λ (o : Option GroupTail). group_count o ≤ width) (sym is) (w.each t) in
    let each = h.each in
    record {
      within =
          let whole : ((t - 1) + 1) * width ≤ inst.periods * width = rows_le ((t - 1) + 1) inst.periods width
          (omega (arith, one, few)) in
          omega (arith, whole, each, e, count);
      small = λ g l.
          let is' : get_or row (from + g) 0 ≡ offset_of offsets t i g =
          ap (λ (k : ℕ). get_or row (k + g) 0) e ∙ h.at t g one few (omega (arith, l, count)) in
          let a = small g in
          omega (arith, is', a);
    }
  where
    rows_le : (a b c : ℕ) → a ≤ b → a * c ≤ b * c
    rows_le a b c h = grind arith

pub term_by_row : (inst : Tables) (tails : List (Option GroupTail)) (offsets : List Offset) (width i s t from : ℕ)
    (row : List ℕ) (tail : Option GroupTail) (r : ℤ) → AreWithin tails width → IsOffsetRow inst offsets width i row
    → 1 ≤ t → t ≤ inst.periods → from ≡ (t - 1) * width → tail ≡ group_tail_at tails t
    → r ≡ group_term_of inst tail (λ g. get_or row (from + g) 0) i s t
    → r ≡ group_term_of inst (group_tail_at tails t) (offset_of offsets t i) i s t
term_by_row inst tails offsets width i s t from row tail r w h one few e is value =
    value
    ∙ group_term_same inst tail (λ g. get_or row (from + g) 0) (offset_of offsets t i) i s t
    (λ g l. ap (λ (k : ℕ). get_or row (k + g) 0) e ∙ h.at t g one few (low g l))
    ∙ ap (λ (o : Option GroupTail). group_term_of inst o (offset_of offsets t i) i s t) is
  where
    low : (g : ℕ) → g < group_count tail → g < width
    low g l =
        let count : group_count tail ≤ width =
        subst (λ (o : Option GroupTail). group_count o ≤ width) (sym is) (w.each t) in
        omega (arith, l, count)

-- ---- bases

-- what the period after u adds to a base
abbrev pub group_share : Tables → List (Option GroupTail) → List Offset → ℕ → ℕ → ℕ → ℤ
group_share inst tails offsets i s u =
    cond (in_run inst i s (u + 1))
    (group_term_of inst (group_tail_at tails (u + 1)) (offset_of offsets (u + 1) i) i s (u + 1)) (pos 0)

pub group_share_running : (inst : Tables) (tails : List (Option GroupTail)) (offsets : List Offset) (i s t : ℕ) (r : ℤ)
    → 1 ≤ t → in_run inst i s t ≡ true
    → r ≡ group_term_of inst (group_tail_at tails t) (offset_of offsets t i) i s t
    → r ≡ group_share inst tails offsets i s (t - 1)
group_share_running inst tails offsets i s t r some h e =
    let back : t - 1 + 1 ≡ t = omega (arith, some) in
    e ∙ sym (rw (back, h) refl)

pub group_share_idle : (inst : Tables) (tails : List (Option GroupTail)) (offsets : List Offset) (i s u : ℕ)
    → in_run inst i s (u + 1) ≡ false → group_share inst tails offsets i s u ≡ pos 0
group_share_idle inst tails offsets i s u h = rw h refl

-- ---- prices

pub price_bits : (base limits : ℤ) (paid : ℕ) → unsigned_abs base < 10 ^ 30
    → unsigned_abs limits ≤ 32_000_000 * 2 * 10 ^ 29
    → paid ≤ 512 * (2 ^ 25 * 2_000_000_000 + 4096 * 1_000_000_000)
    → by_bits (by_bits base +ℤ by_bits (by_bits limits +ℤ by_bits (pos 1_000_000_000_000 *ℤ to_z w128 paid)))
    ≡ base +ℤ (limits +ℤ pos (1_000_000_000_000 * paid))
price_bits base limits paid hb hl hp =
    let x : to_z w128 paid ≡ pos paid = to_z_pos w128 paid (omega (arith, hp)) in
    let y : pos 1_000_000_000_000 *ℤ pos paid ≡ pos (1_000_000_000_000 * paid) = omega (arith, signed_arith) in
    let u : by_bits base ≡ base = back_from_abs base (omega (arith, hb)) in
    let v : by_bits limits ≡ limits = back_from_abs limits (omega (arith, hl)) in
    let n : by_bits (pos (1_000_000_000_000 * paid)) ≡ pos (1_000_000_000_000 * paid) =
    back_from_abs (pos (1_000_000_000_000 * paid)) (omega (arith, hp)) in
    let o : by_bits (limits +ℤ pos (1_000_000_000_000 * paid)) ≡ limits +ℤ pos (1_000_000_000_000 * paid) =
    back_from_abs (limits +ℤ pos (1_000_000_000_000 * paid)) (omega (arith, signed_arith, hl, hp)) in
    rw (x, y, u, v, n, o) (back_from_abs (base +ℤ (limits +ℤ pos (1_000_000_000_000 * paid)))
    (omega (arith, signed_arith, hb, hl, hp)))

pub refined_price_is : (inst : Tables) (list : RefinedList) (i s : ℕ) (base limits z : ℤ) (paid : ℕ)
    → base ≡ group_base_of inst list.tails list.offsets i s → limits ≡ counted_part inst list i s
    → paid ≡ ex_part inst list.prices.ex i s + clique_part inst list.cliques i s
    → z ≡ base +ℤ (limits +ℤ pos (1_000_000_000_000 * paid)) → z ≡ refined_price inst list i s
unfolding refined_price limit_part
refined_price_is inst list i s base limits z paid p q r e = e ∙ rw (p, q, r) refl

pub entry_refused : (inst : Tables) (list : RefinedList) (i s : ℕ) (b : Bool) → b ≡ is_allowed inst i s → b ≡ false
    → None ≡ refined_entry inst list i s
entry_refused inst list i s b e q = let no : is_allowed inst i s ≡ false = sym e ∙ q in rw no refl

pub entry_priced : (inst : Tables) (list : RefinedList) (i s : ℕ) (b : Bool) (z : ℤ) → b ≡ is_allowed inst i s
    → b ≡ true → z ≡ refined_price inst list i s → unsigned_abs (refined_price inst list i s) < 10 ^ 34
    → Some (by_bits z) ≡ refined_entry inst list i s
entry_priced inst list i s b z e q is small =
    let yes : is_allowed inst i s ≡ true = sym e ∙ q in
    let back : by_bits (refined_price inst list i s) ≡ refined_price inst list i s =
    back_from_abs (refined_price inst list i s) (omega (arith, small)) in
    rw (yes, is, back) refl
