-- Rows as trees that are behind their sums, or are not.
use Rattle.std.proofs.Common.{◌≡◌, ◌∙◌, ℕ, ◌-◌, ◌<◌, ◌≤◌, ℤ, true, false, List, ◌++◌, length, get_or, take, drop, map}
use Rattle.std.proofs.Common.{refl, sym, ap, subst, arith}
use Rattle.std.proofs.lemmas.Bool.{false≢true}
use Rattle.std.proofs.lemmas.List.{length-map, get_or-map}
use Rattle.std.proofs.Math.Seq.{take-append_seam}
use Rattle.fixed_num.specs.Rank.{IsMthSmallest}
use Rattle.quantile_index.specs.declared.entry.Entry.{Entry}
use Rattle.quantile_index.specs.LateRanking.{IsTreeRow}
use Rattle.quantile_index.specs.Ranking.{IsRanking, IsRow}
use Rattle.quantile_index.specs.SortKeys.{entry_of}
use Rattle.quantile_index.proofs.BagLemmas.{length_ranked}
use Rattle.quantile_index.proofs.OrderLemmas.{sum_at_place}
use Rattle.quantile_index.proofs.RankLemmas.{kth_at}

-- a tree with the entries of the sums is not behind
pub not_behind : (entries : List Entry) (sums keys : List ℤ) (narrow : ℕ)
    → IsRow entries sums (length keys) narrow → IsTreeRow false entries sums keys narrow
not_behind entries sums keys narrow r = record {
  kept = λ _. r.ranking;
  late = λ e. absurd (false≢true e);
  read = λ e. absurd (false≢true e);
  size = length_ranked entries sums r.ranking.bag;
  some = r.some;
  few = r.few;
  room = r.room;
  narrow_room = r.narrow_room;
}

-- after a change of one sum, where the new sums stand in the place of as many old ones
pub changed_one : (entries : List Entry) (new old keys : List ℤ) (count narrow : ℕ) → IsRanking entries new
    → length new ≡ length old → count ≡ length old → 1 ≤ length old → length old ≤ 1024
    → length keys ≡ length old → narrow ≡ length old
    → IsTreeRow false entries (take count (new ++ drop (length new) old)) keys narrow
changed_one entries new old keys count narrow r same size some few room narrow_room =
    let whole : take count (new ++ drop (length new) old) ≡ new =
    ap (λ n. take n (new ++ drop (length new) old)) (size ∙ sym same) ∙ take-append_seam new (drop (length new) old) in
    subst (λ sums. IsTreeRow false entries sums keys narrow) (sym whole) (not_behind entries new keys narrow (record {
      ranking = r;
      some = omega (arith, some, same);
      few = omega (arith, few, same);
      room = room ∙ sym same;
      narrow_room = narrow_room ∙ sym same;
    }))

-- where it is behind, the key at a place has the sum of that rank
pub kth_key : (entries : List Entry) (sums keys : List ℤ) (narrow m : ℕ) (key : ℤ) (e : Entry)
    → IsTreeRow true entries sums keys narrow → 1 ≤ m → m ≤ length sums
    → key ≡ get_or keys (m - 1) key → e ≡ entry_of key → IsMthSmallest m sums e.sum
kth_key entries sums keys narrow m key e r first last at is =
    let low : m - 1 < length keys = omega (arith, r.room, first, last) in
    let within : m - 1 < length (map entry_of keys) = omega (arith, length-map keys entry_of, low) in
    let same : e ≡ get_or (map entry_of keys) (m - 1) e =
    is ∙ ap entry_of at ∙ sym (get_or-map entry_of keys (m - 1) key e low) in
    kth_at (map entry_of keys) sums m e.sum (r.late refl) first (sum_at_place (map entry_of keys) (m - 1) e within same)
