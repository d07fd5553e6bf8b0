-- The bands that are kept of a text without a fault.
use Rattle.std.proofs.Common.{◌≡◌, ℕ, ℤ, Bool, true, false, cond, List, [], ◌∷◌, ◌++◌, map, Option, Some, None, refl}
use Rattle.std.proofs.Common.{◌∙◌, ap, bytes_eq, unwrap_or, arith}
use Rattle.json_grammar.specs.Tree.{Tree, tree, Node, Event}
use Rattle.instance_model.specs.declared.limits.Limits.{Limits}
use Rattle.instance_shape.specs.declared.fault.Known.TheVariants as is
use Rattle.instance_shape.specs.declared.spot.Spot.{Spot}
use Rattle.instance_shape.specs.declared.spot.Spot.TheVariants as spot
use Rattle.instance_shape.specs.Keys.{text_of}
use Rattle.instance_shape.specs.Shape.{under, required}
use Rattle.instance_shape.specs.LookUp.{Entry, elements, entries, known, at_key, count_at}
use Rattle.instance_shape.proofs.Clear.{IsClear}
use Rattle.shape_walk.specs.Kept.{keep_value}
use Rattle.shape_walk.specs.Reads.{read_of}
use Rattle.instance_rows.specs.FileRows.{BandRow, band_row, each_value}
use Rattle.instance_rows.specs.RowFaults.{no_band}
use Rattle.instance_read.specs.Keeping.{Bands, no_bands, keep_bands}
use Rattle.instance_read.proofs.Branches.{is_beside, beside_under, beside_element}
use Rattle.instance_read.proofs.Carried.{value_idle}
use Rattle.instance_read.proofs.Once.{through, with_value, entries_once}
use Rattle.instance_read.proofs.Reading.{count_kept}
use Rattle.instance_read.proofs.Required.{by_key, among_none}
use Rattle.instance_read.proofs.RootParts.{root_kept, HasPart, root_part}
use Rattle.instance_read.proofs.Wholes.{each_entry, list_kept, object_kept, each_added, each_entry_added}

abbrev pub bands_keep : Spot → Event → Bands → Bands
bands_keep s e b = keep_bands s e (read_of s e) b

bands_idle : (q : Spot) (e : Event) (b : Bands) → is_beside 1 q ≡ true → bands_keep q e b ≡ b
bands_idle spot.BandLimit e b h = cc
bands_idle spot.Max e b h = cc
bands_idle spot.Min e b h = cc
bands_idle spot.Resource e b h = cc
bands_idle _ e b h = refl

-- no band is open, of a resource that may be
abbrev at_rest : List BandRow → BandRow → Bands
at_rest closed begun = record { closed = closed; begun = begun; numbers = [] }

abbrev counts_of : Tree → List ℤ
counts_of t = map count_at (elements t)

module _ (limits : Limits) (closed : List BandRow) where
  limit_kept : (begun : BandRow) (t : Tree) (ns : List ℤ) → IsClear limits spot.BandLimit t
      → keep_value bands_keep spot.BandLimit t (record { closed = closed; begun = begun; numbers = ns })
      ≡ record { closed = closed; begun = begun; numbers = ns ++ count_at t ∷ [] }
  limit_kept begun t ns c = count_kept bands_keep spot.BandLimit
      (λ z rounded b. record b { numbers = b.numbers ++ z ∷ [] }) refl (λ e b. refl) limits t
      (record { closed = closed; begun = begun; numbers = ns }) c

  max_kept : (t : Tree) (begun : BandRow) → IsClear limits spot.Max t
      → keep_value bands_keep spot.Max t (at_rest closed begun) ≡ at_rest closed (record begun { most = counts_of t })
  max_kept t begun c =
      list_kept limits bands_keep spot.Max (λ ns. record { closed = closed; begun = begun; numbers = ns })
      (λ t ns. ns ++ count_at t ∷ []) (λ m t ns c. limit_kept begun t ns c)
      (λ ns. at_rest closed (record begun { most = ns })) (λ n. refl) (λ at ns. refl) (λ at ns. refl) t [] c
      ∙ ap (λ ns. at_rest closed (record begun { most = ns })) (each_added count_at (elements t) [])

  min_kept : (t : Tree) (begun : BandRow) → IsClear limits spot.Min t
      → keep_value bands_keep spot.Min t (at_rest closed begun) ≡ at_rest closed (record begun { least = counts_of t })
  min_kept t begun c =
      list_kept limits bands_keep spot.Min (λ ns. record { closed = closed; begun = begun; numbers = ns })
      (λ t ns. ns ++ count_at t ∷ []) (λ m t ns c. limit_kept begun t ns c)
      (λ ns. at_rest closed (record begun { least = ns })) (λ n. refl) (λ at ns. refl) (λ at ns. refl) t [] c
      ∙ ap (λ ns. at_rest closed (record begun { least = ns })) (each_added count_at (elements t) [])

-- ---- a resource

-- what a key of a resource makes of its row
abbrev band_made : List ℕ → Tree → BandRow → BandRow
band_made k t r = record {
  most = cond (bytes_eq (text_of is.Max) k) (counts_of t) r.most;
  least = cond (bytes_eq (text_of is.Min) k) (counts_of t) r.least;
}

made_none : (a b : Bool) (t : Tree) (r : BandRow) → a ≡ false → b ≡ false → r ≡ record {
  most = cond a (counts_of t) r.most;
  least = cond b (counts_of t) r.least;
}
made_none false false t r h i = refl
made_none true b t r h i = cc
made_none false true t r h i = cc

band_key : (limits : Limits) (closed : List BandRow) (k : List ℕ) (t : Tree) (r : BandRow)
    → IsClear limits (under spot.Resource k) t
    → keep_value bands_keep (under spot.Resource k) t (at_rest closed r) ≡ at_rest closed (band_made k t r)
band_key limits closed k =
    by_key (λ k. (t : Tree) (r : BandRow) → IsClear limits (under spot.Resource k) t
    → keep_value bands_keep (under spot.Resource k) t (at_rest closed r) ≡ at_rest closed (band_made k t r))
    (required spot.Resource) k
    (λ t r c. max_kept limits closed t r c, (λ t r c. min_kept limits closed t r c, tt))
    (λ n t r c.
    ap (λ q. keep_value bands_keep q t (at_rest closed r)) (among_none (required spot.Resource) k n)
    ∙ value_idle bands_keep (is_beside 1) (beside_under 1 refl) (beside_element 1 refl) bands_idle spot.Skipped t
    (at_rest closed r) refl
    ∙ ap (at_rest closed) (made_none (bytes_eq (text_of is.Max) k) (bytes_eq (text_of is.Min) k) t r n.0 n.1.0))

bands_made : (es : List Entry) (r : BandRow) → each_entry band_made es r
    ≡ record {
      most = through (text_of is.Max) (λ t ns. counts_of t) es r.most;
      least = through (text_of is.Min) (λ t ns. counts_of t) es r.least;
    }
bands_made [] r = refl
bands_made (e ∷ es) r = bands_made es (band_made e.key e.value r)

known_counts : (o : Option Tree) → with_value (λ t ns. counts_of t) o [] ≡ counts_of (unwrap_or o (tree 0 0 Node.null))
known_counts None = refl
known_counts (Some t) = refl

row_made : (limits : Limits) (t : Tree) → IsClear limits spot.Resource t
    → each_entry band_made (entries t) no_band ≡ band_row t
row_made limits t c =
    bands_made (entries t) no_band
    ∙ ap (λ ns. record { most = ns; least = through (text_of is.Min) (λ t ns. counts_of t) (entries t) [] })
    (entries_once limits spot.Resource (λ k. refl) (text_of is.Max) (λ t ns. counts_of t) t [] c
    ∙ known_counts (at_key (text_of is.Max) t))
    ∙ ap (λ ns. record { most = counts_of (known is.Max t); least = ns })
    (entries_once limits spot.Resource (λ k. refl) (text_of is.Min) (λ t ns. counts_of t) t [] c
    ∙ known_counts (at_key (text_of is.Min) t))

resource_kept : (limits : Limits) (t : Tree) (closed : List BandRow) → IsClear limits spot.Resource t
    → keep_value bands_keep spot.Resource t (at_rest closed no_band) ≡ at_rest (closed ++ band_row t ∷ []) no_band
resource_kept limits t closed c =
    object_kept limits bands_keep spot.Resource (at_rest closed) band_made
    (λ at end k t r i c. band_key limits closed k t r c)
    (λ r. at_rest (closed ++ r ∷ []) no_band) (λ n. refl) (λ at r. refl) (λ at r. refl) t no_band c
    ∙ ap (λ r. at_rest (closed ++ r ∷ []) no_band) (row_made limits t c)

-- ---- of a text

pub bands_kept : (limits : Limits) (root : Tree) → IsClear limits spot.Root root
    → (keep_value bands_keep spot.Root root no_bands).closed ≡ each_value band_row (known is.Resources root)
bands_kept limits root h =
    let part : HasPart limits is.Resources spot.Resources root =
    root_part limits root 0 is.Resources spot.Resources h (omega arith) refl refl in
    ap (λ b. b.closed) (
    root_kept bands_keep 1 is.Resources spot.Resources refl refl refl bands_idle (λ e b. refl) limits root
    part.value no_bands h part.found
    ∙ object_kept limits bands_keep spot.Resources (λ closed. at_rest closed no_band)
    (λ k t rows. rows ++ band_row t ∷ []) (λ at end k t rows i c. resource_kept limits t rows c)
    (λ closed. at_rest closed no_band) (λ n. refl) (λ at closed. refl) (λ at closed. refl)
    (known is.Resources root) [] part.clear
    )
    ∙ each_entry_added (λ e. band_row e.value) (entries (known is.Resources root)) []
