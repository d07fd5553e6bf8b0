-- The limits of the resources and the periods of the seasons: how many there are, and how large the limits are.
use Rattle.std.proofs.Common.{◌≡◌, ℕ, ◌*◌, ◌<◌, ◌^◌, List, map, length, None, sym, ◌∙◌, ap, arith, ℤ}
use Rattle.std.specs.Prelude.{All, pos, ◌+ℤ◌, ◌-ℤ◌, ◌≤ℤ◌, unsigned_abs}
use Rattle.std.proofs.lemmas.List.{length-map}
use Rattle.std.proofs.lemmas.List.Elements.{All-weaker, All-map}
use Rattle.fixed_num.proofs.SignedLemmas.{signed_arith}
use Rattle.json_grammar.specs.Tree.{Tree}
use Rattle.instance_shape.specs.declared.fault.Known.{Known}
use Rattle.instance_shape.specs.declared.fault.Known.TheVariants as is
use Rattle.instance_shape.specs.CrossFaults.{cross_fault}
use Rattle.instance_shape.specs.FileTables.{lists_below, all_below, in_season}
use Rattle.instance_shape.specs.Ranges.{IsSlack}
use Rattle.instance_shape.specs.LookUp.{Entry, elements, entries, keys, known, count_at, periods}
use Rattle.instance_shape.proofs.Bounds.{count_at_most}
use Rattle.instance_shape.proofs.CountSums.{count_sum-ones}
use Rattle.instance_shape.proofs.ListsBelow.{length-lists_below, all_below-same, all_over}
use Rattle.instance_shape.proofs.NoCrossFault.{HasLimits, bands_each}

-- ---- how many

-- lists of one length for the entries of an object
each_period : {A : Type 0} (f : Tree → List A) (n : ℕ) (t : Tree) → All (λ e. length (f e.value) ≡ n) (entries t)
    → length (all_below (entries t) f) ≡ length (keys t) * n
each_period f n t a =
    all_below-same f n (entries t) a ∙ ap (λ m. m * n) (sym (length-map (entries t) (λ (e : Entry). e.key)))

pub upper_each : (root : Tree) (g : Tree → ℤ) → cross_fault root ≡ None
    → length (all_below (entries (known is.Resources root)) (λ r. map g (elements (known is.Max r))))
    ≡ length (keys (known is.Resources root)) * periods root
upper_each root g h =
    each_period (λ r. map g (elements (known is.Max r))) (periods root) (known is.Resources root)
    (All-weaker (λ r. HasLimits (periods root) r.value)
    (λ r. length (map g (elements (known is.Max r.value))) ≡ periods root)
    (λ r l. length-map (elements (known is.Max r.value)) g ∙ l.upper)
    (entries (known is.Resources root)) (bands_each root h))

pub lower_each : (root : Tree) (g : Tree → ℤ) → cross_fault root ≡ None
    → length (all_below (entries (known is.Resources root)) (λ r. map g (elements (known is.Min r))))
    ≡ length (keys (known is.Resources root)) * periods root
lower_each root g h =
    each_period (λ r. map g (elements (known is.Min r))) (periods root) (known is.Resources root)
    (All-weaker (λ r. HasLimits (periods root) r.value)
    (λ r. length (map g (elements (known is.Min r.value))) ≡ periods root)
    (λ r l. length-map (elements (known is.Min r.value)) g ∙ l.lower)
    (entries (known is.Resources root)) (bands_each root h))

pub season_each : (root : Tree) → length (all_below (entries (known is.Seasons root))
    (λ q. lists_below (periods root) (in_season q))) ≡ length (keys (known is.Seasons root)) * periods root
season_each root =
    each_period (λ q. lists_below (periods root) (in_season q)) (periods root) (known is.Seasons root)
    (λ i d l. length-lists_below (periods root) (in_season _) ∙ count_sum-ones (periods root))

-- ---- how large

raised : (z slack : ℤ) → unsigned_abs z < 10 ^ 20 → pos 0 ≤ℤ slack → slack ≤ℤ pos 1_000_000_000
    → unsigned_abs (z +ℤ slack) < 2 * 10 ^ 20
raised z slack h l m = omega (arith, signed_arith)

lowered : (z slack : ℤ) → unsigned_abs z < 10 ^ 20 → pos 0 ≤ℤ slack → slack ≤ℤ pos 1_000_000_000
    → unsigned_abs (z -ℤ slack) < 2 * 10 ^ 20
lowered z slack h l m = omega (arith, signed_arith)

limits_small : (g : Tree → ℤ) (k : Known) (es : List Entry) → ((t : Tree) → unsigned_abs (g t) < 2 * 10 ^ 20)
    → All (λ z. unsigned_abs z < 2 * 10 ^ 20) (all_below es (λ r. map g (elements (known k r))))
limits_small g k es h =
    all_over (λ z. unsigned_abs z < 2 * 10 ^ 20) (λ r. map g (elements (known k r))) es
    (λ r. All-map (λ z. unsigned_abs z < 2 * 10 ^ 20) g (elements (known k r)) (λ i d l. h _))

pub upper_small : (slack : ℤ) (es : List Entry) → IsSlack slack → All (λ z. unsigned_abs z < 2 * 10 ^ 20) (all_below es
    (λ r. map (λ t. count_at t +ℤ slack) (elements (known is.Max r))))
upper_small slack es s =
    limits_small (λ t. count_at t +ℤ slack) is.Max es (λ t. raised (count_at t) slack (count_at_most t) s.least s.most)

pub lower_small : (slack : ℤ) (es : List Entry) → IsSlack slack → All (λ z. unsigned_abs z < 2 * 10 ^ 20) (all_below es
    (λ r. map (λ t. count_at t -ℤ slack) (elements (known is.Min r))))
lower_small slack es s =
    limits_small (λ t. count_at t -ℤ slack) is.Min es (λ t. lowered (count_at t) slack (count_at_most t) s.least s.most)
