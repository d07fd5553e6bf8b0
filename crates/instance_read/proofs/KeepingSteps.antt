-- What single events change in what is kept.
use Rattle.std.proofs.Common.{◌≡◌, ◌≢◌, ℕ, ◌||◌, Bool, true, false, cond, List, [], ◌∷◌, ◌++◌, map, refl, ◌∙◌, ap}
use Rattle.std.proofs.Common.{bytes_eq, string_bytes}
use Rattle.std.specs.Prelude.{string_eq, if◌then◌else◌}
use Rattle.std.specs.List.{list_any}
use Rattle.std.specs.declared.string.String.{String}
use Rattle.std.proofs.lemmas.List.{map-append}
use Rattle.std.proofs.lemmas.List.Sums.{fold-append}
use Rattle.indexmap.specs.IndexSet.{insert_key, insert_all}
use Rattle.json_grammar.specs.Tree.{Event, key}
use Rattle.instance_shape.specs.declared.spot.Spot.{Spot}
use Rattle.instance_shape.specs.declared.spot.Spot.TheVariants as spot
use Rattle.instance_shape.specs.Shape.{kind_of}
use Rattle.shape_walk.specs.declared.taken.Read.{Read}
use Rattle.shape_walk.specs.Reads.{read_of_key}
use Rattle.instance_read.specs.Keepers.{names_kept}
use Rattle.instance_read.specs.Keeping.{Kept, with_name, keep_rows, keep_read}

-- a text that is none of an exclusion's is kept as a number is
pub text_as_number : (s : Spot) (at end : ℕ) (x : List ℕ) (at' : ℕ) (x' : List ℕ) (r : Read) (a : Kept) → s ≢ spot.Word
    → keep_read s (Event.text at end x) r a ≡ keep_read s (Event.number at' x') r a
text_as_number spot.Word at end x at' x' r a h = absurd (h refl)
text_as_number _ at end x at' x' r a h = refl

-- at other spots a key changes nothing
pub other_key : (s : Spot) (at end : ℕ) (k : List ℕ) (a : Kept) → s ≢ spot.Resources → s ≢ spot.Seasons
    → s ≢ spot.Interventions → s ≢ spot.Exclusions → s ≢ spot.Workload
    → s ≢ spot.WorkloadResource → s ≢ spot.WorkloadPeriod → s ≢ spot.Risk → s ≢ spot.RiskPeriod
    → keep_rows s (key at end k) (read_of_key (kind_of s) k) a ≡ a
other_key spot.Resources at end k a b c d e f g h i j = absurd (b refl)
other_key spot.Seasons at end k a b c d e f g h i j = absurd (c refl)
other_key spot.Interventions at end k a b c d e f g h i j = absurd (d refl)
other_key spot.Exclusions at end k a b c d e f g h i j = absurd (e refl)
other_key spot.Workload at end k a b c d e f g h i j = absurd (f refl)
other_key spot.WorkloadResource at end k a b c d e f g h i j = absurd (g refl)
other_key spot.WorkloadPeriod at end k a b c d e f g h i j = absurd (h refl)
other_key spot.Risk at end k a b c d e f g h i j = absurd (i refl)
other_key spot.RiskPeriod at end k a b c d e f g h i j = absurd (j refl)
other_key _ at end k a b c d e f g h i j = refl

-- ---- names

has_name : {Y : Type 0} (ks : List (String Y)) (k : String Y)
    → list_any (string_eq k) ks ≡ list_any (bytes_eq (string_bytes k)) (map string_bytes ks)
has_name [] k = refl
has_name (j ∷ ks) k = ap (λ b. string_eq k j || b) (has_name ks k)

-- what a set of texts holds with one more
name_added : {Y : Type 0} (ks : List (String Y)) (k : String Y)
    → map string_bytes (if list_any (string_eq k) ks then ks else ks ++ k ∷ [])
    ≡ with_name (string_bytes k) (map string_bytes ks)
name_added ks k =
    by (list_any (string_eq k) ks)
    ∙ ap (λ b. cond b (map string_bytes ks) (map string_bytes ks ++ string_bytes k ∷ [])) (has_name ks k)
  where
    by : (b : Bool) → map string_bytes (if b then ks else ks ++ k ∷ [])
        ≡ cond b (map string_bytes ks) (map string_bytes ks ++ string_bytes k ∷ [])
    by true = refl
    by false = map-append string_bytes ks (k ∷ [])

-- what names become with one more
pub name_kept : {Y : Type 0} (ks : List (String Y)) (k : String Y)
    → names_kept (ks ++ k ∷ []) ≡ with_name (string_bytes k) (names_kept ks)
name_kept ks k =
    ap (map string_bytes) (fold-append (insert_key string_eq) [] ks (k ∷ [])) ∙ name_added (insert_all string_eq [] ks) k
