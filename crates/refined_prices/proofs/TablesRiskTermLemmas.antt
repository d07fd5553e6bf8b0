-- Sums over groups and terms as the code has them.
use Rattle.std.proofs.Common.{◌≡◌, ℕ, zero, suc, ◌+◌, ◌-◌, ◌*◌, ◌<◌, ◌≤◌, refl, sym, ◌∙◌, ap, subst, arith, ℤ, pos}
use Rattle.std.proofs.Common.{◌+ℤ◌, ◌-ℤ◌, ◌*ℤ◌, List, [], ◌∷◌, length, get_or, map, take, fold, All, unsigned_abs}
use Rattle.std.proofs.Common.{to_z, FitsSigned, Option, Some, None, option_map, Bor}
use Rattle.std.specs.Int.{int_min, w128}
use Rattle.std.specs.List.{range_with_len}
use Rattle.std.proofs.lemmas.Int.{to_z_pos, fits_signed_from_abs}
use Rattle.std.proofs.lemmas.List.{take_all, map-id}
use Rattle.std.proofs.lemmas.List.Elements.{All-head, All-tail}
use Rattle.std.proofs.lemmas.List.FromFn.{length-range_with_len, get_or-range_with_len, take-map-range_with_len}
use Rattle.fixed_num.specs.Floors.{floor_quotient}
use Rattle.fixed_num.specs.Sums.{sum_below, list_of, total}
use Rattle.fixed_num.proofs.Bits.{by_bits}
use Rattle.fixed_num.proofs.SignedLemmas.{back_from_abs, abs-product, signed_arith}
use Rattle.fixed_num.proofs.SumLemmas.{abs-sum, added, total-list_of, get_or-list_of, length-list_of}
use Rattle.instance_model.specs.Tables.{Tables, scenarios_of, rank_of, risk_of}
use Rattle.plan_score.proofs.EnclosureLemmas.{floor_is}
use Rattle.lagrange_bound.specs.Least.{least_over, AscendAbove}
use Rattle.lagrange_bound.proofs.BaseLemmas.{least_over_more}
use Rattle.refined_prices.specs.declared.member.Member.{Member}
use Rattle.refined_prices.specs.declared.group_tail.GroupTail.{GroupTail}
use Rattle.refined_prices.specs.Groups.{group_at, scenarios_in, weight_in, weighted_sum, least_below, least_group}
use Rattle.refined_prices.specs.Groups.{IsGroup, IsGroupTail}
use Rattle.refined_prices.specs.GroupBases.{group_part, group_weighed, group_term_of}
use Rattle.refined_prices.specs.tables.GroupTerms.{risk_in, AreWeighable, listed_part}
use Rattle.refined_prices.proofs.TablesGroupTestLemmas.{member_within}

-- ---- one product

pub weigh_is : (w : ℕ) (z : ℤ) → w ≤ 1000 → unsigned_abs z ≤ 100_000_000_000_000_000_000
    → (by_bits (to_z w128 w *ℤ by_bits z) ≡ pos w *ℤ z)
    × (unsigned_abs (pos w *ℤ z) ≤ w * 100_000_000_000_000_000_000)
weigh_is w z hw hz =
    let bz = back_from_abs z (omega (arith, hz)) in
    let bw = to_z_pos w128 w (omega (arith, hw)) in
    let p = abs-product (pos w) z w 100_000_000_000_000_000_000 (omega arith) hz in
    (rw (bw, bz) (back_from_abs (pos w *ℤ z) (omega (arith, p, hw))), p)

pub weigh_fits : (w : ℕ) (z : ℤ) → w ≤ 1000 → unsigned_abs z ≤ 100_000_000_000_000_000_000
    → FitsSigned w128 (to_z w128 w *ℤ by_bits z)
weigh_fits w z hw hz =
    let bz = back_from_abs z (omega (arith, hz)) in
    let bw = to_z_pos w128 w (omega (arith, hw)) in
    let p = abs-product (pos w) z w 100_000_000_000_000_000_000 (omega arith) hz in
    rw (bw, bz) (fits_signed_from_abs w128 (pos w *ℤ z) (omega (arith, p, hw)))

-- ---- the sum over a group, member by member

weighted_sum_more : (f : ℕ → ℤ) (xs : List Member) (k : ℕ) (d : Member) → k < length xs
    → weighted_sum f (take (k + 1) xs)
    ≡ weighted_sum f (take k xs) +ℤ (pos (get_or xs k d).weight *ℤ f (get_or xs k d).scenario)
unfolding weighted_sum
weighted_sum_more f [] k d l = absurd (omega (arith, l))
weighted_sum_more f (x ∷ xs) zero d l = turned (pos x.weight *ℤ f x.scenario)
  where
    turned : (a : ℤ) → a +ℤ pos 0 ≡ pos 0 +ℤ a
    turned a = omega (arith, signed_arith)
weighted_sum_more f (x ∷ xs) (suc k) d l =
    let next : suc k + 1 ≡ suc (k + 1) = omega arith in
    let ih = weighted_sum_more f xs k d (omega (arith, l)) in
    rw next (rw ih (moved (pos x.weight *ℤ f x.scenario) (weighted_sum f (take k xs))
    (pos (get_or xs k d).weight *ℤ f (get_or xs k d).scenario)))
  where
    moved : (a b c : ℤ) → a +ℤ (b +ℤ c) ≡ (a +ℤ b) +ℤ c
    moved a b c = omega (arith, signed_arith)

weight_in_more : (xs : List Member) (k : ℕ) (d : Member) → k < length xs
    → weight_in (take (k + 1) xs) ≡ weight_in (take k xs) + (get_or xs k d).weight
unfolding weight_in
weight_in_more [] k d l = absurd (omega (arith, l))
weight_in_more (x ∷ xs) zero d l = omega arith
weight_in_more (x ∷ xs) (suc k) d l =
    let next : suc k + 1 ≡ suc (k + 1) = omega arith in
    let ih = weight_in_more xs k d (omega (arith, l)) in
    rw next (omega (arith, ih))

weight_in_part : (k : ℕ) (xs : List Member) → weight_in (take k xs) ≤ weight_in xs
unfolding weight_in
weight_in_part zero [] = omega arith
weight_in_part (suc k) [] = omega arith
weight_in_part zero (x ∷ xs) = omega arith
weight_in_part (suc k) (x ∷ xs) = omega (arith, weight_in_part k xs)

-- the sum of the first members, and how large it is
pub record IsWeighted (f : ℕ → ℤ) (xs : List Member) (k : ℕ) (sum : ℤ) : Type 0 where
  pub value : sum ≡ weighted_sum f (take k xs)
  pub small : unsigned_abs sum ≤ weight_in (take k xs) * 100_000_000_000_000_000_000

pub IsWeighted-none : (f : ℕ → ℤ) (xs : List Member) → IsWeighted f xs 0 (pos 0)
unfolding weighted_sum weight_in
IsWeighted-none f xs = record { value = refl; small = omega arith }

-- each weight is at most the sum of all
pub weight_le : (xs : List Member) (k : ℕ) (d : Member) → k < length xs → weight_in xs ≤ 1000
    → (get_or xs k d).weight ≤ 1000
weight_le xs k d l h =
    let more = weight_in_more xs k d l in
    let part = weight_in_part (k + 1) xs in
    omega (arith, more, part, h)

pub IsWeighted-more : (f : ℕ → ℤ) (xs : List Member) (k w s : ℕ) (d : Member) (sum r : ℤ) → k < length xs
    → weight_in xs ≤ 1000 → w ≡ (get_or xs k d).weight → s ≡ (get_or xs k d).scenario → IsWeighted f xs k sum
    → r ≡ pos w *ℤ f s → unsigned_abs r ≤ w * 100_000_000_000_000_000_000
    → IsWeighted f xs (k + 1) (by_bits (sum +ℤ by_bits r))
IsWeighted-more f xs k w s d sum r l few ew es h er small =
    let more = weight_in_more xs k d l in
    let part = weight_in_part (k + 1) xs in
    let before = h.small in
    let step = added sum r (weight_in (take k xs) * 100_000_000_000_000_000_000)
    (w * 100_000_000_000_000_000_000) h.small small (omega (arith, more, part, few, ew)) in
    let size = abs-sum sum r in
    record {
      value = step ∙ ap (λ (z : ℤ). z +ℤ r) h.value ∙ ap (λ (z : ℤ). weighted_sum f (take k xs) +ℤ z)
          (er ∙ ap (λ (n : ℕ). pos n *ℤ f s) ew ∙ ap (λ (n : ℕ). pos (get_or xs k d).weight *ℤ f n) es)
          ∙ sym (weighted_sum_more f xs k d l);
      small = rw step (omega (arith, size, before, small, more, ew));
    }

pub IsWeighted-all : (f : ℕ → ℤ) (xs : List Member) (k : ℕ) (sum : ℤ) → length xs ≤ k → weight_in xs ≤ 1000
    → IsWeighted f xs k sum → (sum ≡ weighted_sum f xs) × (unsigned_abs sum ≤ 100_000_000_000_000_000_000_000)
IsWeighted-all f xs k sum l few h =
    let e = take_all k xs l in
    let small = h.small in
    let part = weight_in_part k xs in
    (h.value ∙ ap (weighted_sum f) e, omega (arith, small, part, few))

pub IsWeighted-fits : (f : ℕ → ℤ) (xs : List Member) (k w : ℕ) (sum r : ℤ) → weight_in xs ≤ 1000
    → IsWeighted f xs k sum → w ≤ 1000 → unsigned_abs r ≤ w * 100_000_000_000_000_000_000
    → FitsSigned w128 (sum +ℤ by_bits r)
IsWeighted-fits f xs k w sum r few h hw small =
    let b : by_bits r ≡ r = back_from_abs r (omega (arith, small, hw)) in
    let before = h.small in
    let part = weight_in_part k xs in
    let size = abs-sum sum r in
    rw b (fits_signed_from_abs w128 (sum +ℤ r) (omega (arith, size, before, small, part, few, hw)))

-- ---- a group under its offset

pub group_sum_is : (z : ℤ) (offset : ℕ) → unsigned_abs z ≤ 100_000_000_000_000_000_000_000 → offset ≤ 1_000_000_000
    → (by_bits (by_bits z +ℤ by_bits (pos 1_000_000_000_000 *ℤ to_z w128 offset))
    ≡ z +ℤ pos (1_000_000_000_000 * offset))
    × (unsigned_abs (z +ℤ pos (1_000_000_000_000 * offset)) ≤ 101_000_000_000_000_000_000_000)
group_sum_is z offset hz ho =
    let bz = back_from_abs z (omega (arith, hz)) in
    let bo : to_z w128 offset ≡ pos offset = to_z_pos w128 offset (omega (arith, ho)) in
    let y : pos 1_000_000_000_000 *ℤ pos offset ≡ pos (1_000_000_000_000 * offset) = omega (arith, signed_arith) in
    let by : by_bits (pos (1_000_000_000_000 * offset)) ≡ pos (1_000_000_000_000 * offset) =
    back_from_abs (pos (1_000_000_000_000 * offset)) (omega (arith, ho)) in
    let size : unsigned_abs (z +ℤ pos (1_000_000_000_000 * offset)) ≤ 101_000_000_000_000_000_000_000 =
    omega (arith, signed_arith, hz, ho) in
    (rw (bo, y, bz, by) (back_from_abs (z +ℤ pos (1_000_000_000_000 * offset)) (omega (arith, size))), size)

-- ---- the least of the groups, as far as a loop has come

range_front : (j n : ℕ) → j ≤ n → take j (range_with_len 0 n) ≡ range_with_len 0 j
range_front j n h =
    ap (take j) (sym (map-id (range_with_len 0 n))) ∙ take-map-range_with_len (λ (k : ℕ). k) 0 n j h
    ∙ map-id (range_with_len 0 j)

pub least_below_first : (f : ℕ → ℤ) → f 0 ≡ least_below 1 f
unfolding least_over
least_below_first f = refl

pub least_below_more : (f : ℕ → ℤ) (j : ℕ) → 1 ≤ j → int_min (least_below j f) (f j) ≡ least_below (j + 1) f
least_below_more f j one =
    let ks = range_with_len 0 (j + 1) in
    let low : j < length (range_with_len 0 (j + 1)) = omega (arith, length-range_with_len 0 (j + 1)) in
    let step = least_over_more f (range_with_len 0 (j + 1)) j one low in
    let front : 0 + j ≡ j = omega arith in
    let at : get_or (range_with_len 0 (j + 1)) j 0 ≡ j =
    get_or-range_with_len 0 (j + 1) j 0 (omega arith) ∙ front in
    ap (λ (xs : List ℕ). int_min (least_over f xs) (f j)) (sym (range_front j (j + 1) (omega arith)))
    ∙ ap (λ (k : ℕ). int_min (least_over f (take j (range_with_len 0 (j + 1)))) (f k)) (sym at)
    ∙ step ∙ ap (least_over f) (range_front (j + 1) (j + 1) (omega arith))

-- functions that agree below a number have the same least
least_over_same : (f g : ℕ → ℤ) (ks : List ℕ) → All (λ k. f k ≡ g k) ks → least_over f ks ≡ least_over g ks
unfolding least_over
least_over_same f g [] h = refl
least_over_same f g (k ∷ ks) h =
    ap (λ (z : ℤ). fold int_min z (map f ks)) (All-head (λ k. f k ≡ g k) k ks h)
    ∙ ap (fold int_min (g k)) (mapped ks (All-tail (λ k. f k ≡ g k) k ks h))
  where
    mapped : (ks : List ℕ) → All (λ k. f k ≡ g k) ks → map f ks ≡ map g ks
    mapped [] h = refl
    mapped (k ∷ ks) h =
        ap (λ (z : ℤ). z ∷ map f ks) (All-head (λ k. f k ≡ g k) k ks h)
        ∙ ap (λ (zs : List ℤ). g k ∷ zs) (mapped ks (All-tail (λ k. f k ≡ g k) k ks h))

pub least_below_same : (n : ℕ) (f g : ℕ → ℤ) → ((k : ℕ) → k < n → f k ≡ g k) → least_below n f ≡ least_below n g
least_below_same n f g h = least_over_same f g (range_with_len 0 n)
    (λ k d l. let low : k < n = omega (arith, l, length-range_with_len 0 n) in
    let front : 0 + k ≡ k = omega arith in
    subst (λ (j : ℕ). f j ≡ g j) (sym (get_or-range_with_len 0 n k d low ∙ front)) (h k low))

weighted_sum_same : (f g : ℕ → ℤ) (xs : List Member) → All (λ x. f x.scenario ≡ g x.scenario) xs
    → weighted_sum f xs ≡ weighted_sum g xs
unfolding weighted_sum
weighted_sum_same f g [] h = refl
weighted_sum_same f g (x ∷ xs) h =
    ap (λ (z : ℤ). (pos x.weight *ℤ z) +ℤ weighted_sum f xs)
    (All-head (λ x. f x.scenario ≡ g x.scenario) x xs h)
    ∙ ap (λ (z : ℤ). (pos x.weight *ℤ g x.scenario) +ℤ z)
    (weighted_sum_same f g xs (All-tail (λ x. f x.scenario ≡ g x.scenario) x xs h))

pub least_small : (a b : ℤ) (m : ℕ) → unsigned_abs a ≤ m → unsigned_abs b ≤ m → unsigned_abs (int_min a b) ≤ m
least_small a b m h k = omega (arith, signed_arith, h, k)

-- ---- a tail's groups can be weighed

pub member_from : (n total p : ℕ) (xs : List Member) (d : Member) → IsGroup n total xs → p < length xs
    → 1 ≤ (get_or xs p d).scenario
member_from n total p xs d h l = at xs h.ascend p l
  where
    at : (xs : List Member) → AscendAbove 0 (scenarios_in xs) → (p : ℕ) → p < length xs
        → 1 ≤ (get_or xs p d).scenario
    at xs up p l = from 0 xs up p l
      where
        from : (a : ℕ) (xs : List Member) → AscendAbove a (scenarios_in xs) → (p : ℕ) → p < length xs
            → a < (get_or xs p d).scenario
        from a [] up p l = absurd (omega (arith, l))
        from a (x ∷ xs) up zero l = up.0
        from a (x ∷ xs) up (suc p) l =
            let first = up.0 in
            let rest = from x.scenario xs up.1 p (omega (arith, l)) in
            omega (arith, first, rest)

pub groups_weighable : (n rank : ℕ) (tail : GroupTail) (risks : List ℤ) → IsGroupTail n rank tail → length risks ≡ n
    → All (AreWeighable risks) tail.groups
groups_weighable n rank tail risks h each = λ g d l.
    let w = h.groups g d l in
    let small = h.small_weight in
    let adds = w.adds_up in
    record {
      from = λ p e m. member_from n tail.weight p (get_or tail.groups g d) e w m;
      to = λ p e m. omega (arith, member_within n tail.weight p (get_or tail.groups g d) e w m, each);
      weights = omega (arith, small, adds);
    }

pub some_groups : (n rank : ℕ) (tail : GroupTail) → IsGroupTail n rank tail → rank ≤ n → 0 < length tail.groups
some_groups n rank tail h few = let enough = h.enough in omega (arith, enough, few)

-- ---- what a tail adds

pub gap_is : (n w : ℕ) (least sum : ℤ) → n ≤ 1024 → w ≤ 1000 → unsigned_abs least ≤ 101_000_000_000_000_000_000_000
    → unsigned_abs sum ≤ 102_400_000_000_000_000_000_000
    → (by_bits (by_bits (to_z w128 n *ℤ by_bits least) -ℤ by_bits (to_z w128 w *ℤ by_bits sum))
    ≡ (pos n *ℤ least) -ℤ (pos w *ℤ sum))
    × (unsigned_abs ((pos n *ℤ least) -ℤ (pos w *ℤ sum)) ≤ 300_000_000_000_000_000_000_000_000)
gap_is n w least sum hn hw hl hs =
    let bl = back_from_abs least (omega (arith, hl)) in
    let bs = back_from_abs sum (omega (arith, hs)) in
    let bn = to_z_pos w128 n (omega (arith, hn)) in
    let bw = to_z_pos w128 w (omega (arith, hw)) in
    let p = abs-product (pos n) least 1024 101_000_000_000_000_000_000_000 hn hl in
    let q = abs-product (pos w) sum 1000 102_400_000_000_000_000_000_000 hw hs in
    let bp = back_from_abs (pos n *ℤ least) (omega (arith, p)) in
    let bq = back_from_abs (pos w *ℤ sum) (omega (arith, q)) in
    let d = less (pos n *ℤ least) (pos w *ℤ sum) p q in
    (rw (bn, bw, bl, bs, bp, bq) (back_from_abs ((pos n *ℤ least) -ℤ (pos w *ℤ sum)) (omega (arith, d))), d)
  where
    less : (a b : ℤ) → unsigned_abs a ≤ 1024 * 101_000_000_000_000_000_000_000
        → unsigned_abs b ≤ 1000 * 102_400_000_000_000_000_000_000
        → unsigned_abs (a -ℤ b) ≤ 300_000_000_000_000_000_000_000_000
    less a b h k = omega (arith, signed_arith, h, k)

pub fraction_is : (a : ℕ) (s p : ℤ) → a ≤ 1_000_000 → unsigned_abs s ≤ 102_400_000_000_000_000_000_000
    → unsigned_abs p ≤ 300_000_000_000_000_000_000_000_000
    → (by_bits (by_bits (to_z w128 (1000 * a) *ℤ by_bits s) +ℤ by_bits (to_z w128 (1_000_000 - a) *ℤ by_bits p))
    ≡ pos (1000 * a) *ℤ s +ℤ pos (1_000_000 - a) *ℤ p)
    × (unsigned_abs (pos (1000 * a) *ℤ s +ℤ pos (1_000_000 - a) *ℤ p) ≤ 10_000_000_000_000_000_000_000_000_000_000_000)
fraction_is a s p ha hs hp =
    let bs = back_from_abs s (omega (arith, hs)) in
    let bp = back_from_abs p (omega (arith, hp)) in
    let ba = to_z_pos w128 (1000 * a) (omega (arith, ha)) in
    let bb = to_z_pos w128 (1_000_000 - a) (omega (arith, ha)) in
    let x = abs-product (pos (1000 * a)) s 1_000_000_000 102_400_000_000_000_000_000_000 (omega (arith, ha)) hs in
    let y = abs-product (pos (1_000_000 - a)) p 1_000_000 300_000_000_000_000_000_000_000_000 (omega arith) hp in
    let t = abs-sum (pos (1000 * a) *ℤ s) (pos (1_000_000 - a) *ℤ p) in
    let bx = back_from_abs (pos (1000 * a) *ℤ s) (omega (arith, x)) in
    let by = back_from_abs (pos (1_000_000 - a) *ℤ p) (omega (arith, y)) in
    let bt = back_from_abs (pos (1000 * a) *ℤ s +ℤ pos (1_000_000 - a) *ℤ p) (omega (arith, x, y, t)) in
    (rw (ba, bb, bs, bp, bx, by) bt, omega (arith, x, y, t))

-- ---- terms

-- tails behind references
abbrev pub seen_group : Option (Bor GroupTail) → Option GroupTail
seen_group o = option_map (λ (x : Bor GroupTail). x.now) o

pub seen_group_some : (o : Option (Bor GroupTail)) (x : GroupTail) → seen_group o ≡ Some x
    → (y : Bor GroupTail) × (o ≡ Some y) × (y.now ≡ x)
seen_group_some None x e = absurd (cc)
seen_group_some (Some y) x e = (y, refl, cc)

pub listed_part-none : (risks : List ℤ) (offset : ℕ → ℕ) (tail : Option GroupTail) → tail ≡ None
    → pos 0 ≡ listed_part risks offset tail
unfolding listed_part
listed_part-none risks offset tail e = rw e refl

pub listed_part-some : (n : ℕ) (risks : List ℤ) (offset : ℕ → ℕ) (tail : Option GroupTail) (x : GroupTail)
    (least sum r : ℤ) → tail ≡ Some x → length risks ≡ n
    → least ≡ least_group (risk_in risks) (λ g. 1_000_000_000_000 * offset g) x → sum ≡ total risks
    → r ≡ (pos n *ℤ least) -ℤ (pos x.weight *ℤ sum) → r ≡ listed_part risks offset tail
unfolding listed_part
listed_part-some n risks offset tail x least sum r e en el es er = rw (e, er, sym en, el, es) refl

-- risks in a list are those of the tables
risk_in_is : (inst : Tables) (i s t k : ℕ) (risks : List ℤ)
    → risks ≡ list_of (scenarios_of inst t) (λ k. risk_of inst i s t (k + 1)) → 1 ≤ k → k ≤ scenarios_of inst t
    → risk_in risks k ≡ risk_of inst i s t k
risk_in_is inst i s t k risks e one few =
    let back : (k - 1) + 1 ≡ k = omega (arith, one) in
    ap (λ (xs : List ℤ). get_or xs (k - 1) (pos 0)) e
    ∙ get_or-list_of (scenarios_of inst t) (λ k. risk_of inst i s t (k + 1)) (k - 1) (omega (arith, one, few))
    ∙ ap (risk_of inst i s t) back

least_group_is : (inst : Tables) (i s t rank : ℕ) (risks : List ℤ) (offset : ℕ → ℕ) (tail : GroupTail)
    → risks ≡ list_of (scenarios_of inst t) (λ k. risk_of inst i s t (k + 1))
    → IsGroupTail (scenarios_of inst t) rank tail
    → least_group (risk_in risks) offset tail ≡ least_group (risk_of inst i s t) offset tail
unfolding least_group
least_group_is inst i s t rank risks offset tail e h =
    least_below_same (length tail.groups) (λ g. weighted_sum (risk_in risks) (group_at tail g) +ℤ pos (offset g))
    (λ g. weighted_sum (risk_of inst i s t) (group_at tail g) +ℤ pos (offset g))
    (λ g l. ap (λ (z : ℤ). z +ℤ pos (offset g))
    (weighted_sum_same (risk_in risks) (risk_of inst i s t) (group_at tail g)
    (λ p d m. risk_in_is inst i s t (get_or (group_at tail g) p d).scenario risks e
    (member_from (scenarios_of inst t) tail.weight p (group_at tail g) d (h.groups g [] l) m)
    (member_within (scenarios_of inst t) tail.weight p (group_at tail g) d (h.groups g [] l) m))))

listed_part_is : (inst : Tables) (i s t : ℕ) (risks : List ℤ) (offset : ℕ → ℕ) (tail : Option GroupTail)
    → risks ≡ list_of (scenarios_of inst t) (λ k. risk_of inst i s t (k + 1))
    → ((x : GroupTail) → tail ≡ Some x → IsGroupTail (scenarios_of inst t) (rank_of inst t) x)
    → listed_part risks offset tail
    ≡ group_part (scenarios_of inst t) (risk_of inst i s t) (λ g. 1_000_000_000_000 * offset g) tail
unfolding listed_part group_part
listed_part_is inst i s t risks offset None e h = refl
listed_part_is inst i s t risks offset (Some x) e h =
    let count : length risks ≡ scenarios_of inst t =
    ap length e ∙ length-list_of (scenarios_of inst t) (λ k. risk_of inst i s t (k + 1)) in
    let sum : total risks ≡ sum_below (scenarios_of inst t) (λ k. risk_of inst i s t (k + 1)) =
    ap total e ∙ total-list_of (scenarios_of inst t) (λ k. risk_of inst i s t (k + 1)) in
    let least = least_group_is inst i s t (rank_of inst t) risks (λ g. 1_000_000_000_000 * offset g) x e (h x refl) in
    ap (λ (n : ℕ). (pos n *ℤ least_group (risk_in risks) (λ g. 1_000_000_000_000 * offset g) x)
    -ℤ (pos x.weight *ℤ total risks)) count
    ∙ ap (λ (z : ℤ). (pos (scenarios_of inst t) *ℤ z) -ℤ (pos x.weight *ℤ total risks)) least
    ∙ ap (λ (z : ℤ). (pos (scenarios_of inst t) *ℤ least_group (risk_of inst i s t)
    (λ g. 1_000_000_000_000 * offset g) x) -ℤ (pos x.weight *ℤ z)) sum

pub group_term_is : (inst : Tables) (tail : Option GroupTail) (offset : ℕ → ℕ) (i s t a n : ℕ) (risks : List ℤ)
    (sum part fraction q : ℤ) → a ≡ inst.alpha → n ≡ scenarios_of inst t → n ≤ 1024
    → risks ≡ list_of (scenarios_of inst t) (λ k. risk_of inst i s t (k + 1))
    → ((x : GroupTail) → tail ≡ Some x → IsGroupTail (scenarios_of inst t) (rank_of inst t) x)
    → sum ≡ total risks → unsigned_abs sum ≤ 102_400_000_000_000_000_000_000
    → part ≡ listed_part risks offset tail → unsigned_abs part ≤ 300_000_000_000_000_000_000_000_000
    → fraction ≡ (pos (1000 * a) *ℤ by_bits sum) +ℤ (pos (1_000_000 - a) *ℤ by_bits part)
    → unsigned_abs fraction ≤ 10_000_000_000_000_000_000_000_000_000_000_000
    → q ≡ floor_quotient (by_bits fraction) (to_z w128 (1000 * n)) → q ≡ group_term_of inst tail offset i s t
unfolding group_term_of group_weighed
group_term_is inst tail offset i s t a n risks sum part fraction q ea en few er ok es ss ep sp ef sf eq =
    let bs = back_from_abs sum (omega (arith, ss)) in
    let bp = back_from_abs part (omega (arith, sp)) in
    let ef' : fraction ≡ (pos (1000 * a) *ℤ sum) +ℤ (pos (1_000_000 - a) *ℤ part) = rw (bs, bp) at ef in
    let sum' : sum ≡ sum_below (scenarios_of inst t) (λ k. risk_of inst i s t (k + 1)) =
    es ∙ ap total er ∙ total-list_of (scenarios_of inst t) (λ k. risk_of inst i s t (k + 1)) in
    let part' : part ≡ group_part (scenarios_of inst t) (risk_of inst i s t) (λ g. 1_000_000_000_000 * offset g) tail =
    ep ∙ listed_part_is inst i s t risks offset tail er ok in
    floor_is q fraction (1000 * n) (omega (arith, few)) (omega (arith, sf)) eq ∙ rw (ef', ea, en, sum', part') refl
