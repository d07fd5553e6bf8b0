-- The periods of seasons and the texts of exclusions that are kept of a text without a fault.
use Rattle.std.proofs.Common.{◌≡◌, ℕ, Bool, true, false, cond, List, [], ◌∷◌, ◌++◌, map, refl, ◌∙◌, ap, arith}
use Rattle.std.specs.Prelude.{nat_lt}
use Rattle.json_grammar.specs.Tree.{Tree, tree, Node, Event}
use Rattle.instance_model.specs.declared.limits.Limits.{Limits}
use Rattle.instance_shape.specs.declared.fault.Known.TheVariants as is
use Rattle.instance_shape.specs.declared.spot.Spot.{Spot}
use Rattle.instance_shape.specs.declared.spot.Spot.TheVariants as spot
use Rattle.instance_shape.specs.declared.spot.Kind.TheVariants as kind
use Rattle.instance_shape.specs.Shape.{element, has_shape}
use Rattle.instance_shape.specs.LookUp.{elements, entries, known, whole_at, text_at}
use Rattle.instance_shape.proofs.Clear.{IsClear}
use Rattle.shape_walk.specs.Kept.{keep_value}
use Rattle.shape_walk.specs.Reads.{read_of}
use Rattle.instance_rows.specs.FileRows.{each_value}
use Rattle.instance_read.specs.Keeping.{Lists, no_lists, add, keep_seasons, keep_words}
use Rattle.instance_read.proofs.Branches.{is_beside}
use Rattle.instance_read.proofs.Reading.{shaped, whole_kept}
use Rattle.instance_read.proofs.RootParts.{root_kept, HasPart, root_part}
use Rattle.instance_read.proofs.Wholes.{list_kept, object_kept, each_added, each_entry_added}

-- a list is open
abbrev opened : {A : Type 0} → List (List A) → List A → Lists A
opened closed begun = record { closed = closed; begun = begun }

-- ---- seasons

abbrev pub seasons_keep : Spot → Event → Lists ℕ → Lists ℕ
seasons_keep s e l = keep_seasons s e (read_of s e) l

seasons_idle : (q : Spot) (e : Event) (l : Lists ℕ) → is_beside 2 q ≡ true → seasons_keep q e l ≡ l
seasons_idle spot.SeasonPeriod e l h = cc
seasons_idle spot.Season e l h = cc
seasons_idle _ e l h = refl

season_kept : (limits : Limits) (t : Tree) (closed : List (List ℕ)) → IsClear limits spot.Season t
    → keep_value seasons_keep spot.Season t (opened closed []) ≡ opened (closed ++ map whole_at (elements t) ∷ []) []
season_kept limits t closed c =
    list_kept limits seasons_keep spot.Season (opened closed) (λ t ns. ns ++ whole_at t ∷ [])
    (λ m t ns c. whole_kept seasons_keep spot.SeasonPeriod add refl (λ e l. refl) limits t (opened closed ns) c)
    (λ ns. opened (closed ++ ns ∷ []) []) (λ n. refl) (λ at ns. refl) (λ at ns. refl) t [] c
    ∙ ap (λ ns. opened (closed ++ ns ∷ []) []) (each_added whole_at (elements t) [])

pub season_periods_kept : (limits : Limits) (root : Tree) → IsClear limits spot.Root root
    → (keep_value seasons_keep spot.Root root no_lists).closed
    ≡ each_value (λ q. map whole_at (elements q)) (known is.Seasons root)
season_periods_kept limits root h =
    let part : HasPart limits is.Seasons spot.Seasons root =
    root_part limits root 1 is.Seasons spot.Seasons h (omega arith) refl refl in
    ap (λ l. l.closed) (
    root_kept seasons_keep 2 is.Seasons spot.Seasons refl refl refl seasons_idle (λ e l. refl) limits root
    part.value no_lists h part.found
    ∙ object_kept limits seasons_keep spot.Seasons (λ closed. opened closed [])
    (λ k t rows. rows ++ map whole_at (elements t) ∷ []) (λ at end k t rows i c. season_kept limits t rows c)
    (λ closed. opened closed []) (λ n. refl) (λ at closed. refl) (λ at closed. refl)
    (known is.Seasons root) [] part.clear
    )
    ∙ each_entry_added (λ e. map whole_at (elements e.value)) (entries (known is.Seasons root)) []

-- ---- exclusions

words_idle : (q : Spot) (e : Event) (l : Lists (List ℕ)) → is_beside 4 q ≡ true → keep_words q e l ≡ l
words_idle spot.Word e l h = cc
words_idle spot.Exclusion e l h = cc
words_idle _ e l h = refl

word_kept : (limits : Limits) (t : Tree) (l : Lists (List ℕ)) → IsClear limits spot.Word t
    → keep_value keep_words spot.Word t l ≡ add (text_at t) l
word_kept limits (tree at end n) l c = by n (shaped limits spot.Word kind.Name at end n refl c)
  where
    by : (n : Node) → has_shape kind.Name n ≡ true → keep_value keep_words spot.Word (tree at end n) l
        ≡ add (text_at (tree at end n)) l
    by (Node.text x) i = refl
    by Node.null i = cc
    by (Node.boolean b) i = cc
    by (Node.number x) i = cc
    by (Node.list ts) i = cc
    by (Node.object ms) i = cc

-- nothing may stand behind the third text
none_beyond : (limits : Limits) (t : Tree) → IsClear limits spot.Beyond t → ⊥
none_beyond limits (tree at end n) c =
    let no : false ≡ true = shaped limits spot.Beyond kind.Nothing at end n refl c in
    cc

element_kept : (limits : Limits) (m : ℕ) (t : Tree) (l : Lists (List ℕ)) → IsClear limits (element spot.Exclusion m) t
    → keep_value keep_words (element spot.Exclusion m) t l ≡ add (text_at t) l
element_kept limits m t l = by (nat_lt m 3)
  where
    by : (b : Bool) → IsClear limits (cond b spot.Word spot.Beyond) t
        → keep_value keep_words (cond b spot.Word spot.Beyond) t l ≡ add (text_at t) l
    by true c = word_kept limits t l c
    by false c = absurd (none_beyond limits t c)

exclusion_kept : (limits : Limits) (t : Tree) (closed : List (List (List ℕ))) → IsClear limits spot.Exclusion t
    → keep_value keep_words spot.Exclusion t (opened closed []) ≡ opened (closed ++ map text_at (elements t) ∷ []) []
exclusion_kept limits t closed c =
    list_kept limits keep_words spot.Exclusion (opened closed) (λ t ns. ns ++ text_at t ∷ [])
    (λ m t ns c. element_kept limits m t (opened closed ns) c)
    (λ ns. opened (closed ++ ns ∷ []) []) (λ n. refl) (λ at ns. refl) (λ at ns. refl) t [] c
    ∙ ap (λ ns. opened (closed ++ ns ∷ []) []) (each_added text_at (elements t) [])

pub words_kept : (limits : Limits) (root : Tree) → IsClear limits spot.Root root
    → (keep_value keep_words spot.Root root no_lists).closed
    ≡ each_value (λ e. map text_at (elements e)) (known is.Exclusions root)
words_kept limits root h =
    let part : HasPart limits is.Exclusions spot.Exclusions root =
    root_part limits root 3 is.Exclusions spot.Exclusions h (omega arith) refl refl in
    ap (λ l. l.closed) (
    root_kept keep_words 4 is.Exclusions spot.Exclusions refl refl refl words_idle (λ e l. refl) limits root
    part.value no_lists h part.found
    ∙ object_kept limits keep_words spot.Exclusions (λ closed. opened closed [])
    (λ k t rows. rows ++ map text_at (elements t) ∷ []) (λ at end k t rows i c. exclusion_kept limits t rows c)
    (λ closed. opened closed []) (λ n. refl) (λ at closed. refl) (λ at closed. refl)
    (known is.Exclusions root) [] part.clear
    )
    ∙ each_entry_added (λ e. map text_at (elements e.value)) (entries (known is.Exclusions root)) []
