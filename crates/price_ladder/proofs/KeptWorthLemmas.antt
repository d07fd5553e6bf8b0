-- The worth by the prices that are kept, exactly and from above.
use Rattle.std.proofs.Common.{◌≡◌, ℕ, ◌+◌, ◌-◌, ◌*◌, ◌<◌, ◌≤◌, refl, sym, ◌∙◌, ap, subst, arith, ℤ, zero, suc}
use Rattle.std.proofs.Common.{pos, ◌+ℤ◌, ◌-ℤ◌, ◌*ℤ◌, ◌≤ℤ◌, ◌<ℤ◌, List, [], ◌∷◌, length, get_or, Bool, true, false, cond}
use Rattle.std.proofs.Common.{filter, Contains, IsTrue, unsigned_abs, ◌^◌, Option, All, int_lt}
use Rattle.std.proofs.lemmas.List.Elements.{All-get_or}
use Rattle.std.specs.Int.{w128}
use Rattle.std.proofs.lemmas.Int.{to_z-of_z}
use mir.Val.{SFits}
use borrow.Author.Differences.{same_in, le_out, at_most_in, below_in, lt-true, lt-false}
use Rattle.fixed_num.specs.Sums.{sum_below}
use Rattle.fixed_num.proofs.Bits.{by_bits}
use Rattle.fixed_num.proofs.SignedLemmas.{signed_arith, back_from_abs}
use Rattle.fixed_num.proofs.SumLemmas.{sum_below_same, sum_below_mono, sum_below-add, sum_below-scale, *ℤ-+ℤ, abs-sum}
use Rattle.instance_model.specs.Tables.{Tables, is_allowed, in_run}
use Rattle.instance_model.specs.Plans.{AreAllowedStarts}
use Rattle.instance_model.specs.Fitting.{IsFitting}
use Rattle.instance_model.proofs.EntryLemmas.{is_allowed_facts}
use Rattle.lagrange_bound.specs.declared.tail.Tail.{Tail}
use Rattle.lagrange_bound.specs.Prices.{PriceList, IsPriceList, zero_list}
use Rattle.lagrange_bound.specs.Least.{least_over}
use Rattle.lagrange_bound.specs.TailLemmas.{least_over_le, least_over_reached}
use Rattle.lagrange_bound.specs.Boxes.{span_of, starts_in}
use Rattle.lagrange_bound.specs.Changes.{with_tail}
use Rattle.lagrange_bound.specs.Worth.{fixed_part, worth_of, price_of, band_part, ex_part}
use Rattle.lagrange_bound.specs.Goals.{risk_base}
use Rattle.lagrange_bound.proofs.WorthLemmas.{in_starts}
use Rattle.certificate_tree.specs.Trees.{root_box}
use Rattle.certificate_tree.proofs.RootLemmas.{root_at}
use Rattle.price_ladder.specs.declared.place.Place.{Place}
use Rattle.price_ladder.specs.declared.place.Place.TheVariants.{Upper, Lower, Excluded}
use Rattle.price_ladder.specs.Places.{IsPlace, value_at, IsWithValue}
use Rattle.price_ladder.specs.Raised.{root_worth, root_starts}
use Rattle.price_ladder.specs.Tried.{NoneReaches}
use Rattle.price_ladder.specs.Weights.{price_at, weight_of, fixed_weight}
use Rattle.price_ladder.specs.declared.kept.Beside.{Beside}
use Rattle.price_ladder.specs.Kept.{kept_at, AreValues, AreSmall, AreSmallBases, more_of, shifted_of, AreLeast}
use Rattle.price_ladder.specs.Kept.{sum_over, slope_of, rebased_of, gap_of}
use Rattle.price_ladder.specs.Beside.{IsSettled, IsBeside}
use Rattle.price_ladder.proofs.TailBaseLemmas.{base_idle}
use Rattle.price_ladder.proofs.ChangeLemmas.{price_changed, fixed_changed}
use Rattle.price_ladder.proofs.GainLemmas.{zero_price, zero_fixed}
use Rattle.price_ladder.proofs.KeptLemmas.{entry_within}

-- ---- sums over one start for each intervention

pub sum_over_same : (inst : Tables) (f g : ℕ → ℕ → ℤ) (choice : List ℕ) → AreAllowedStarts inst choice
    → ((i s : ℕ) → i < length inst.names → IsTrue (is_allowed inst i s) → f i s ≡ g i s)
    → sum_over inst f choice ≡ sum_over inst g choice
unfolding sum_over
sum_over_same inst f g choice a h =
    sum_below_same (length inst.names) (λ i. f i (get_or choice i 0)) (λ i. g i (get_or choice i 0))
    (λ i l. h i (get_or choice i 0) l (a.allowed i (omega (arith, l, a.each))))

sum_over-more : (inst : Tables) (f g : ℕ → ℕ → ℤ) (times : ℤ) (choice : List ℕ)
    → sum_over inst (λ i s. f i s +ℤ times *ℤ g i s) choice
    ≡ sum_over inst f choice +ℤ times *ℤ sum_over inst g choice
unfolding sum_over
sum_over-more inst f g times choice =
    sum_below-add (length inst.names) (λ i. f i (get_or choice i 0)) (λ i. times *ℤ g i (get_or choice i 0))
    ∙ ap (λ (z : ℤ). sum_below (length inst.names) (λ i. f i (get_or choice i 0)) +ℤ z)
    (sum_below-scale (length inst.names) times (λ i. g i (get_or choice i 0)))

sum_over-both : (inst : Tables) (f g : ℕ → ℕ → ℤ) (choice : List ℕ)
    → sum_over inst (λ i s. f i s +ℤ g i s) choice ≡ sum_over inst f choice +ℤ sum_over inst g choice
unfolding sum_over
sum_over-both inst f g choice =
    sum_below-add (length inst.names) (λ i. f i (get_or choice i 0)) (λ i. g i (get_or choice i 0))

-- ---- the allowed starts

in_root : (inst : Tables) (i s : ℕ) → i < length inst.names → IsTrue (is_allowed inst i s)
    → Contains (root_starts inst i) s
in_root inst i s l a =
    let k = is_allowed_facts inst i s a in
    let e = root_at inst i l in
    in_starts inst i s (span_of (root_box inst) i) a (rw e k.0) (rw e k.1)

passes : (p : ℕ → Bool) (xs : List ℕ) (k : ℕ) → Contains (filter p xs) k → p k ≡ true
passes p [] k (i, h, e) = absurd (omega (arith, h))
passes p (y ∷ xs) k c = at (p y) refl (passes p xs k) c
  where
    at : (b : Bool) → p y ≡ b → (Contains (filter p xs) k → p k ≡ true)
        → Contains (cond b (y ∷ filter p xs) (filter p xs)) k → p k ≡ true
    at true q more (zero, h, e) = subst (λ (m : ℕ). p m ≡ true) e q
    at true q more (suc i, h, e) = more (i, omega (arith, h), e)
    at false q more d = more d

root_allowed : (inst : Tables) (i s : ℕ) → Contains (root_starts inst i) s → IsTrue (is_allowed inst i s)
unfolding starts_in
root_allowed inst i s c = passes (is_allowed inst i) _ s c

-- ---- the worth

-- whatever allowed starts are taken, the worth is at most the sum of their prices and what is fixed
pub worth_below : (inst : Tables) (prices : PriceList) (choice : List ℕ) → AreAllowedStarts inst choice
    → root_worth inst prices ≤ℤ (sum_over inst (price_at inst prices) choice +ℤ fixed_part inst prices)
unfolding worth_of sum_over
worth_below inst prices choice a =
    both _ _ (fixed_part inst prices)
    (sum_below_mono (length inst.names) (λ i. least_over (price_at inst prices i) (root_starts inst i))
    (λ i. price_at inst prices i (get_or choice i 0))
    (λ i l. least_over_le (price_at inst prices i) (root_starts inst i) (get_or choice i 0)
    (in_root inst i (get_or choice i 0) l (a.allowed i (omega (arith, l, a.each))))))
  where
    both : (x y z : ℤ) → x ≤ℤ y → (x +ℤ z) ≤ℤ (y +ℤ z)
    both x y z h = omega (arith, signed_arith, h)

-- where they are of least price, it is that
pub worth_picked : (inst : Tables) (prices : PriceList) (entries : List ℤ) (choice : List ℕ)
    → AreValues inst (price_at inst prices) entries → AreLeast inst entries choice
    → root_worth inst prices ≡ sum_over inst (kept_at inst entries) choice +ℤ fixed_part inst prices
unfolding worth_of sum_over
worth_picked inst prices entries choice v least =
    ap (λ (z : ℤ). z +ℤ fixed_part inst prices)
    (sum_below_same (length inst.names) (λ i. least_over (price_at inst prices i) (root_starts inst i))
    (λ i. kept_at inst entries i (get_or choice i 0)) one)
  where
    one : (i : ℕ) → i < length inst.names
        → least_over (price_at inst prices i) (root_starts inst i) ≡ kept_at inst entries i (get_or choice i 0)
    one i l =
        let a = least.starts.allowed i (omega (arith, l, least.starts.each)) in
        let c = in_root inst i (get_or choice i 0) l a in
        let some : 0 < length (root_starts inst i) = omega (arith, c.1) in
        let r = least_over_reached (price_at inst prices i) (root_starts inst i) some in
        let b = root_allowed inst i r.0 r.1 in
        let below = subst (λ (z : ℤ). least_over (price_at inst prices i) (root_starts inst i) ≤ℤ z)
        (sym (v.at i (get_or choice i 0) l a))
        (least_over_le (price_at inst prices i) (root_starts inst i) (get_or choice i 0) c) in
        let above = subst (λ (z : ℤ). kept_at inst entries i (get_or choice i 0) ≤ℤ z)
        (v.at i r.0 l b ∙ sym r.2) (least.least i r.0 l b) in
        same_in (least_over (price_at inst prices i) (root_starts inst i)) (kept_at inst entries i (get_or choice i 0))
        (omega (arith, le_out _ _ below, le_out _ _ above))

-- ---- one number is another

-- how much the sum of the prices of some starts, and of what is fixed, changes
sum_changed : (inst : Tables) (old new : PriceList) (place : Place) (v : ℕ) (choice : List ℕ) → IsPriceList inst old
    → IsPriceList inst new → IsPlace inst place → IsWithValue inst old new place v → AreAllowedStarts inst choice
    → sum_over inst (price_at inst new) choice +ℤ fixed_part inst new
    ≡ (sum_over inst (price_at inst old) choice +ℤ fixed_part inst old)
    +ℤ (pos v -ℤ pos (value_at inst old place)) *ℤ slope_of inst place choice
unfolding slope_of
sum_changed inst old new place v choice h k w e a =
    together (sum_over inst (price_at inst old) choice) (fixed_part inst old) _ _ _ _ _
    (sum_over_same inst (price_at inst new)
    (λ i s. price_at inst old i s +ℤ (pos v -ℤ pos (value_at inst old place)) *ℤ weight_of inst place i s) choice a
    (λ i s l b. price_changed inst old new place v i s h k w e)
    ∙ sum_over-more inst (price_at inst old) (weight_of inst place) (pos v -ℤ pos (value_at inst old place)) choice)
    (fixed_changed inst old new place v h k w e)
    (*ℤ-+ℤ (pos v -ℤ pos (value_at inst old place)) (sum_over inst (weight_of inst place) choice)
    (fixed_weight inst place))
  where
    together : (x y x' y' p q r : ℤ) → x' ≡ x +ℤ p → y' ≡ y +ℤ q → r ≡ p +ℤ q → x' +ℤ y' ≡ (x +ℤ y) +ℤ r
    together x y x' y' p q r e f g = omega (arith, signed_arith, e, f, g)

-- the worth of a changed list from above
pub worth_bounded : (inst : Tables) (old new : PriceList) (place : Place) (v : ℕ) (choice : List ℕ) (worth : ℤ)
    → IsPriceList inst old → IsPriceList inst new → IsPlace inst place → IsWithValue inst old new place v
    → AreAllowedStarts inst choice → worth ≡ sum_over inst (price_at inst old) choice +ℤ fixed_part inst old
    → root_worth inst new
    ≤ℤ (worth +ℤ (pos v -ℤ pos (value_at inst old place)) *ℤ slope_of inst place choice)
worth_bounded inst old new place v choice worth h k w e a is =
    subst (λ (z : ℤ). root_worth inst new ≤ℤ z) (sum_changed inst old new place v choice h k w e a
    ∙ ap (λ (z : ℤ). z +ℤ (pos v -ℤ pos (value_at inst old place)) *ℤ slope_of inst place choice) (sym is))
    (worth_below inst new choice a)

-- the bases are the same
base_kept : (inst : Tables) (old new : PriceList) (place : Place) (v i s : ℕ) → IsWithValue inst old new place v
    → risk_base inst new i s ≡ risk_base inst old i s
base_kept inst old new (Upper c t) v i s e = ap (λ (p : PriceList). risk_base inst p i s) e
base_kept inst old new (Lower c t) v i s e = ap (λ (p : PriceList). risk_base inst p i s) e
base_kept inst old new (Excluded d t) v i s e =
    ap (λ (ts : List (Option Tail)). risk_base inst (record new { tails = ts }) i s) e.tails

-- what is settled for the prices of a list is what is kept beside it
pub settled_kept : (inst : Tables) (prices : PriceList) (entries : List ℤ) (fixed : ℤ) (beside : Beside)
    → AreValues inst (price_at inst prices) entries → AreSmallBases inst prices → fixed ≡ fixed_part inst prices
    → IsSettled inst entries fixed beside → IsBeside inst prices beside
settled_kept inst prices entries fixed beside values bases f s =
    let kept : AreValues inst (price_at inst prices) beside.entries.items =
    subst (AreValues inst (price_at inst prices)) (sym s.same) values in
    let g : beside.worth ≡ sum_over inst (kept_at inst beside.entries.items) beside.choice.items +ℤ fixed_part inst
    prices =
    s.total ∙ ap (λ (z : ℤ). sum_over inst (kept_at inst beside.entries.items) beside.choice.items +ℤ z) f in
    record {
      values = kept;
      bases = bases;
      starts = s.least.starts;
      part = s.part ∙ f;
      total = g ∙ sym (worth_picked inst prices beside.entries.items beside.choice.items kept s.least);
      picked = g ∙ ap (λ (z : ℤ). z +ℤ fixed_part inst prices)
          (sum_over_same inst (kept_at inst beside.entries.items) (price_at inst prices) beside.choice.items
          s.least.starts kept.at);
      small = s.small;
    }

-- the prices of a list with another number
pub moved_values : (inst : Tables) (old new : PriceList) (place : Place) (v : ℕ) (entries more : List ℤ)
    → IsPriceList inst old → IsPriceList inst new → IsPlace inst place → IsWithValue inst old new place v
    → AreValues inst (price_at inst old) entries
    → AreValues inst (more_of inst place (pos v -ℤ pos (value_at inst old place)) entries) more
    → AreValues inst (price_at inst new) more
moved_values inst old new place v entries more h k w e values m = record {
  each = m.each;
  at = λ i s l a. m.at i s l a
      ∙ ap (λ (z : ℤ). z +ℤ (pos v -ℤ pos (value_at inst old place)) *ℤ weight_of inst place i s) (values.at i s l a)
      ∙ sym (price_changed inst old new place v i s h k w e);
}

pub moved_bases : (inst : Tables) (old new : PriceList) (place : Place) (v : ℕ) → IsWithValue inst old new place v
    → AreSmallBases inst old → AreSmallBases inst new
moved_bases inst old new place v e bases = record {
  small = λ i s l a. subst (λ (z : ℤ). unsigned_abs z < 10 ^ 30) (sym (base_kept inst old new place v i s e))
      (bases.small i s l a);
}

pub moved_base_values : (inst : Tables) (old new : PriceList) (place : Place) (v : ℕ) (bases : List ℤ)
    → IsWithValue inst old new place v → AreValues inst (risk_base inst old) bases
    → AreValues inst (risk_base inst new) bases
moved_base_values inst old new place v bases e h =
    record { each = h.each; at = λ i s l a. h.at i s l a ∙ sym (base_kept inst old new place v i s e) }

-- ---- another tail

pub shifted_values : (inst : Tables) (old new : PriceList) (t : ℕ) (tail : Option Tail)
    (before after entries more : List ℤ) → new ≡ with_tail old t tail → AreValues inst (price_at inst old) entries
    → AreValues inst (risk_base inst old) before → AreValues inst (risk_base inst new) after
    → AreValues inst (shifted_of inst before after entries) more → AreValues inst (price_at inst new) more
unfolding price_of band_part
shifted_values inst old new t tail before after entries more e values b d m = record {
  each = m.each;
  at = λ i s l a. m.at i s l a
      ∙ three (kept_at inst entries i s) (kept_at inst before i s) (kept_at inst after i s) _ _ _ (values.at i s l a)
      (b.at i s l a) (d.at i s l a)
      ∙ sum (risk_base inst old i s) (risk_base inst new i s) (band_part inst old i s) _
      ∙ sym (ap (λ (p : PriceList). (risk_base inst new i s +ℤ band_part inst p i s)
      +ℤ pos (1_000_000_000_000 * ex_part inst p.ex i s)) e);
}
  where
    three : (x y z x' y' z' : ℤ) → x ≡ x' → y ≡ y' → z ≡ z' → x +ℤ (z -ℤ y) ≡ x' +ℤ (z' -ℤ y')
    three x y z x' y' z' p q r = rw (p, q, r) refl

    sum : (a b x y : ℤ) → ((a +ℤ x) +ℤ y) +ℤ (b -ℤ a) ≡ (b +ℤ x) +ℤ y
    sum a b x y = omega (arith, signed_arith)

pub tail_fixed : (inst : Tables) (old new : PriceList) (t : ℕ) (tail : Option Tail) → new ≡ with_tail old t tail
    → fixed_part inst new ≡ fixed_part inst old
unfolding fixed_part
tail_fixed inst old new t tail e = ap (fixed_part inst) e

-- bases that are kept and small
pub small_bases : (inst : Tables) (prices : PriceList) (bases : List ℤ) → IsFitting inst
    → AreValues inst (risk_base inst prices) bases → All (λ z. unsigned_abs z < 10 ^ 30) bases
    → AreSmallBases inst prices
small_bases inst prices bases f v all = record {
  small = λ i s l a. subst (λ (z : ℤ). unsigned_abs z < 10 ^ 30) (v.at i s l a)
      (All-get_or (λ z. unsigned_abs z < 10 ^ 30) bases (i * inst.periods + (s - 1)) (pos 0)
      (entry_within inst i s (length bases) f l a v.each).1 all);
}

pub kept_bases : (inst : Tables) (prices : PriceList) (bases : List ℤ) → AreValues inst (risk_base inst prices) bases
    → AreSmallBases inst prices → AreSmall inst (10 ^ 30) bases
kept_bases inst prices bases v b = record {
  each = v.each;
  at = λ i s l a. subst (λ (z : ℤ). unsigned_abs z < 10 ^ 30) (sym (v.at i s l a)) (b.small i s l a);
}

-- what was found is settled
pub IsSettled-from : (inst : Tables) (entries : List ℤ) (fixed sum : ℤ) (choice : List ℕ) (beside : Beside)
    → beside.entries.items ≡ entries → beside.choice.items ≡ choice → beside.fixed ≡ by_bits fixed
    → beside.worth ≡ by_bits (by_bits sum +ℤ by_bits fixed) → AreLeast inst entries choice
    → sum ≡ sum_over inst (kept_at inst entries) choice → unsigned_abs sum ≤ 1024 * 3 * 10 ^ 33
    → unsigned_abs fixed < 2 * 10 ^ 36 → IsSettled inst entries fixed beside
IsSettled-from inst entries fixed sum choice beside a b d e least total h k =
    let u : by_bits fixed ≡ fixed = back_from_abs fixed (omega (arith, k)) in
    let v : by_bits sum ≡ sum = back_from_abs sum (omega (arith, h)) in
    let w : by_bits (sum +ℤ fixed) ≡ sum +ℤ fixed =
    back_from_abs (sum +ℤ fixed) (omega (arith, abs-sum sum fixed, h, k)) in
    let is : beside.worth ≡ sum +ℤ fixed = e ∙ rw (u, v) w in
    record {
      same = a;
      least = rw (a, b) least;
      part = d ∙ u;
      total = rw (a, b) (is ∙ ap (λ (z : ℤ). z +ℤ fixed) total);
      small = rw is (omega (arith, abs-sum sum fixed, h, k));
    }

-- what is kept after another tail
pub switched : (inst : Tables) (old new : PriceList) (t : ℕ) (tail : Option Tail) (before after entries more : List ℤ)
    (fixed : ℤ) (beside : Beside) → IsFitting inst → new ≡ with_tail old t tail
    → AreValues inst (price_at inst old) entries → AreValues inst (risk_base inst old) before
    → AreValues inst (risk_base inst new) after → All (λ z. unsigned_abs z < 10 ^ 30) after
    → AreValues inst (shifted_of inst before after entries) more → fixed ≡ fixed_part inst old
    → IsSettled inst more fixed beside → IsBeside inst new beside
switched inst old new t tail before after entries more fixed beside f e values b d small m is s =
    settled_kept inst new more fixed beside (shifted_values inst old new t tail before after entries more e values b d
    m)
    (small_bases inst new after f d small) (is ∙ sym (tail_fixed inst old new t tail e)) s

pub shifted_small : (inst : Tables) (before after entries more : List ℤ) → AreSmall inst (10 ^ 30) before
    → AreSmall inst (10 ^ 30) after → AreSmall inst (2 * 10 ^ 33) entries
    → AreValues inst (shifted_of inst before after entries) more → AreSmall inst (3 * 10 ^ 33) more
shifted_small inst before after entries more h k l v = record {
  each = v.each;
  at = λ i s m a. subst (λ (z : ℤ). unsigned_abs z < 3 * 10 ^ 33) (sym (v.at i s m a))
      (sum (kept_at inst entries i s) (kept_at inst after i s) (kept_at inst before i s) (l.at i s m a) (k.at i s m a)
      (h.at i s m a));
}
  where
    sum : (a b c : ℤ) → unsigned_abs a < 2 * 10 ^ 33 → unsigned_abs b < 10 ^ 30 → unsigned_abs c < 10 ^ 30
        → unsigned_abs (a +ℤ (b -ℤ c)) < 3 * 10 ^ 33
    sum a b c h k l = omega (arith, signed_arith, h, k, l)

-- ---- the list of zeros

pub zero_values : (inst : Tables) (prices : PriceList) (entries : List ℤ) → prices ≡ zero_list inst
    → AreValues inst (risk_base inst prices) entries → AreValues inst (price_at inst prices) entries
zero_values inst prices entries e h = record {
  each = h.each;
  at = λ i s l a. h.at i s l a ∙ ap (λ (p : PriceList). risk_base inst p i s) e ∙ sym (zero_price inst i s)
      ∙ sym (ap (λ (p : PriceList). price_at inst p i s) e);
}

pub zero_fixed_is : (inst : Tables) (prices : PriceList) → prices ≡ zero_list inst → pos 0 ≡ fixed_part inst prices
zero_fixed_is inst prices e = sym (ap (fixed_part inst) e ∙ zero_fixed inst)

-- ---- targets

pub below_target : (r t : ℤ) → SFits w128 t → unsigned_abs r < 2 * 10 ^ 37 → int_lt (by_bits r) (by_bits t) ≡ true
    → r <ℤ t
below_target r t fits small below =
    let a : by_bits t ≡ t = to_z-of_z w128 t fits in
    let b : by_bits r ≡ r = back_from_abs r (omega (arith, small)) in
    let l : int_lt r t ≡ true = rw (a, b) at below in
    below_in r t (omega (arith, lt-true r t l))

pub reaches_target : (r t : ℤ) → SFits w128 t → unsigned_abs r < 2 * 10 ^ 37
    → int_lt (by_bits r) (by_bits t) ≡ false → t ≤ℤ r
reaches_target r t fits small below =
    let a : by_bits t ≡ t = to_z-of_z w128 t fits in
    let b : by_bits r ≡ r = back_from_abs r (omega (arith, small)) in
    let l : int_lt r t ≡ false = rw (a, b) at below in
    at_most_in t r (omega (arith, lt-false r t l))

-- no list with another number reaches a target above a bound
pub none_bounded : (inst : Tables) (old : PriceList) (place : Place) (v : ℕ) (bound target : ℤ)
    → ((new : PriceList) → IsPriceList inst new → IsWithValue inst old new place v → root_worth inst new ≤ℤ bound)
    → bound <ℤ target → NoneReaches inst target (λ p. IsWithValue inst old p place v)
none_bounded inst old place v bound target h l =
    record { none = λ p r s. between (root_worth inst p) bound target (h p r s) l }
  where
    between : (a b c : ℤ) → a ≤ℤ b → b <ℤ c → a <ℤ c
    between a b c m n = omega (arith, signed_arith, m, n)

-- nor one that is kept short of it
pub none_kept : (inst : Tables) (old : PriceList) (place : Place) (v : ℕ) (beside : Beside) (target : ℤ)
    → ((new : PriceList) → IsPriceList inst new → IsWithValue inst old new place v → IsBeside inst new beside)
    → beside.worth <ℤ target → NoneReaches inst target (λ p. IsWithValue inst old p place v)
none_kept inst old place v beside target h l =
    record { none = λ p r s. subst (λ (z : ℤ). z <ℤ target) (h p r s).total l }

-- what is kept after another number
pub beside_moved : (inst : Tables) (old new : PriceList) (place : Place) (v u : ℕ) (entries more : List ℤ)
    (fixed times w r : ℤ) (beside : Beside) → IsPriceList inst old → IsPriceList inst new → IsPlace inst place
    → IsWithValue inst old new place v → AreValues inst (price_at inst old) entries → AreSmallBases inst old
    → fixed ≡ fixed_part inst old → u ≡ value_at inst old place → times ≡ pos v -ℤ pos u
    → w ≡ fixed_weight inst place → r ≡ fixed +ℤ times *ℤ w → AreValues inst (more_of inst place times entries) more
    → IsSettled inst more r beside → IsBeside inst new beside
beside_moved inst old new place v u entries more fixed times w r beside h k p e values bases f a b d q m s =
    let is : times ≡ pos v -ℤ pos (value_at inst old place) = b ∙ ap (λ (n : ℕ). pos v -ℤ pos n) a in
    let m' = subst (λ (z : ℤ). AreValues inst (more_of inst place z entries) more) is m in
    let sum : r ≡ fixed_part inst new = q ∙ ap (λ (z : ℤ). fixed +ℤ z *ℤ w) is
    ∙ ap (λ (z : ℤ). fixed +ℤ (pos v -ℤ pos (value_at inst old place)) *ℤ z) d
    ∙ ap (λ (z : ℤ). z +ℤ (pos v -ℤ pos (value_at inst old place)) *ℤ fixed_weight inst place) f
    ∙ sym (fixed_changed inst old new place v h k p e) in
    settled_kept inst new more r beside (moved_values inst old new place v entries more h k p e values m')
    (moved_bases inst old new place v e bases) sum s

-- ---- sizes of lists whose numbers are all small

pub small_from_all : (inst : Tables) (bound : ℕ) (entries : List ℤ) → IsFitting inst
    → length entries ≡ length inst.names * inst.periods → All (λ z. unsigned_abs z < bound) entries
    → AreSmall inst bound entries
small_from_all inst bound entries f e all = record {
  each = e;
  at = λ i s l a. All-get_or (λ z. unsigned_abs z < bound) entries (i * inst.periods + (s - 1)) (pos 0)
      (entry_within inst i s (length entries) f l a e).1 all;
}

pub AreSmall-weaker : (inst : Tables) (a b : ℕ) (entries : List ℤ) → a ≤ b → AreSmall inst a entries
    → AreSmall inst b entries
AreSmall-weaker inst a b entries le h =
    record { each = h.each; at = λ i s l m. omega (arith, le, h.at i s l m) }

-- ---- what is kept after another tail, where the bases of starts that don't run in its period stay

rebased_is : (inst : Tables) (old new : PriceList) (t : ℕ) (tail : Option Tail) (bases : List ℤ) (i s : ℕ) → 1 ≤ t
    → new ≡ with_tail old t tail → AreValues inst (risk_base inst old) bases → i < length inst.names
    → IsTrue (is_allowed inst i s) → rebased_of inst new t bases i s ≡ risk_base inst new i s
unfolding rebased_of
rebased_is inst old new t tail bases i s one e v l a = at (in_run inst i s t) refl
  where
    at : (b : Bool) → in_run inst i s t ≡ b
        → cond b (risk_base inst new i s) (kept_at inst bases i s) ≡ risk_base inst new i s
    at true r = refl
    at false r = v.at i s l a ∙ sym (base_idle inst old new t tail i s one e r)

pub rebased_values : (inst : Tables) (old new : PriceList) (t : ℕ) (tail : Option Tail) (bases more : List ℤ) → 1 ≤ t
    → new ≡ with_tail old t tail → AreValues inst (risk_base inst old) bases
    → AreValues inst (rebased_of inst new t bases) more → AreValues inst (risk_base inst new) more
rebased_values inst old new t tail bases more one e v m = record {
  each = m.each;
  at = λ i s l a. m.at i s l a ∙ rebased_is inst old new t tail bases i s one e v l a;
}

-- the price of a start by a list with another tail
tail_price : (inst : Tables) (old new : PriceList) (t : ℕ) (tail : Option Tail) (i s : ℕ) → new ≡ with_tail old t tail
    → price_at inst new i s ≡ price_at inst old i s +ℤ (risk_base inst new i s -ℤ risk_base inst old i s)
unfolding price_of band_part
tail_price inst old new t tail i s e =
    ap (λ (p : PriceList). (risk_base inst new i s +ℤ band_part inst p i s)
    +ℤ pos (1_000_000_000_000 * ex_part inst p.ex i s)) e
    ∙ sum (risk_base inst old i s) (risk_base inst new i s) (band_part inst old i s) _
  where
    sum : (a b x y : ℤ) → (b +ℤ x) +ℤ y ≡ ((a +ℤ x) +ℤ y) +ℤ (b -ℤ a)
    sum a b x y = omega (arith, signed_arith)

-- the worth by another tail from above
pub tail_bounded : (inst : Tables) (old new : PriceList) (t : ℕ) (tail : Option Tail) (bases : List ℤ)
    (choice : List ℕ) (worth : ℤ) → 1 ≤ t → new ≡ with_tail old t tail → AreValues inst (risk_base inst old) bases
    → AreAllowedStarts inst choice → worth ≡ sum_over inst (price_at inst old) choice +ℤ fixed_part inst old
    → root_worth inst new ≤ℤ (worth +ℤ sum_over inst (gap_of inst new t bases) choice)
tail_bounded inst old new t tail bases choice worth one e v a is =
    let p : sum_over inst (price_at inst new) choice
    ≡ sum_over inst (price_at inst old) choice +ℤ sum_over inst (gap_of inst new t bases) choice =
    sum_over_same inst (price_at inst new) (λ i s. price_at inst old i s +ℤ gap_of inst new t bases i s) choice a
    (λ i s l b. tail_price inst old new t tail i s e ∙ ap (λ (z : ℤ). price_at inst old i s +ℤ z)
    (gap (risk_base inst old i s) (risk_base inst new i s) _ _ (rebased_is inst old new t tail bases i s one e v l b)
    (v.at i s l b))) ∙ sum_over-both inst (price_at inst old) (gap_of inst new t bases) choice in
    subst (λ (z : ℤ). root_worth inst new ≤ℤ z)
    (together _ _ _ _ _ _ p (tail_fixed inst old new t tail e) is) (worth_below inst new choice a)
  where
    gap : (a b x y : ℤ) → x ≡ b → y ≡ a → b -ℤ a ≡ x -ℤ y
    gap a b x y p q = rw (p, q) refl

    together : (x y z f g w : ℤ) → x ≡ y +ℤ z → f ≡ g → w ≡ y +ℤ g → x +ℤ f ≡ w +ℤ z
    together x y z f g w p q r = omega (arith, signed_arith, p, q, r)

-- the sum of a worth and a gap, as the code adds it up
pub record IsRaisedBy (a g : ℤ) (r : ℤ) : Type 0 where
  pub value : r ≡ a +ℤ g
  pub small : unsigned_abs r < 2 * 10 ^ 37

pub raised_is : (a g : ℤ) → unsigned_abs a < 10 ^ 37 → unsigned_abs g ≤ 1024 * 2 * 10 ^ 30
    → IsRaisedBy a g (by_bits a +ℤ by_bits g)
raised_is a g h k =
    let u : by_bits a ≡ a = back_from_abs a (omega (arith, h)) in
    let v : by_bits g ≡ g = back_from_abs g (omega (arith, k)) in
    record { value = rw (u, v) refl; small = rw (u, v) (omega (arith, abs-sum a g, h, k)) }

pub falls_below : (w x r t : ℤ) → w ≤ℤ x → r ≡ x → r <ℤ t → w <ℤ t
falls_below w x r t h e l = omega (arith, signed_arith, h, e, l)
