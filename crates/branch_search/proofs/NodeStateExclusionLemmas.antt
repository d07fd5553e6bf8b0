-- Exclusions that name an intervention or not, on a box of which its interval is changed.
use Rattle.std.proofs.Common.{◌≡◌, ◌≢◌, ℕ, ◌<◌, ◌≤◌, refl, sym, ◌∙◌, ap, subst, arith, Bool, true, false, List, []}
use Rattle.std.proofs.Common.{length, get_or, set, Contains}
use Rattle.std.proofs.lemmas.Bool.Decides.{nat_tests}
use Rattle.std.proofs.lemmas.List.{get_or-set_other, get_or_default, ext_get_or}
use Rattle.std.proofs.lemmas.List.FromFn.{get_or-map-range_with_len, length-map-range_with_len}
use Rattle.instance_model.specs.declared.parts.Exclusion.{Exclusion}
use Rattle.instance_model.specs.Tables.{Tables, exclusion_of}
use Rattle.duration_calendar.specs.Calendar.{IsAllowedIn}
use Rattle.lagrange_bound.specs.declared.span.Span.{Span}
use Rattle.lagrange_bound.specs.Boxes.{span_of}
use Rattle.certificate_tree.specs.Holding.{IsStartIn, ExclHolds}
use Rattle.season_exclusion.specs.Broken.{is_named, naming_of}
use Rattle.season_exclusion.proofs.NamedLemmas.{naming_to-names, naming_to-each}
use Rattle.branch_search.specs.node_state.Exclusions.{index_of, NoExclusionHolds, NoOtherHolds, OthersAreKept}
use Rattle.branch_search.specs.node_state.Exclusions.{NoOthersArise}

not_named : (x : Exclusion) (i : ℕ) → is_named x i ≡ false → (x.first ≢ i) × (x.second ≢ i)
not_named x i e = (grind (arith, nat_tests), grind (arith, nat_tests))

-- the starts in the interval of another intervention
other_starts : (inst : Tables) (box : List Span) (i j s : ℕ) (span : Span) → j ≢ i
    → (IsStartIn inst box j s → IsStartIn inst (set box i span) j s)
    × (IsStartIn inst (set box i span) j s → IsStartIn inst box j s)
other_starts inst box i j s span o =
    let same : span_of (set box i span) j ≡ span_of box j =
    get_or-set_other box i j span (record { from = 0; to = 0 }) o in (
      λ a. subst (λ (x : Span). IsAllowedIn inst j x.from x.to s) (sym same) a,
      λ a. subst (λ (x : Span). IsAllowedIn inst j x.from x.to s) same a,
    )

pub others_kept : OthersAreKept
others_kept inst box i span e h =
    let other = not_named (exclusion_of inst e) i h in (
      λ holds s r a b. holds s r ((other_starts inst box i (exclusion_of inst e).first s span other.0).1 a)
          ((other_starts inst box i (exclusion_of inst e).second r span other.1).1 b),
      λ holds s r a b. holds s r ((other_starts inst box i (exclusion_of inst e).first s span other.0).0 a)
          ((other_starts inst box i (exclusion_of inst e).second r span other.1).0 b),
    )

pub no_others : NoOthersArise
no_others inst box i span none e l named holds = none e l ((others_kept inst box i span e named).1 holds)

-- ---- the index
pub index_is : (inst : Tables) (lists : List (List ℕ)) → length lists ≡ length inst.names
    → ((i : ℕ) → i < length inst.names → get_or lists i [] ≡ naming_of inst i) → lists ≡ index_of inst
index_is inst lists each h =
    ext_get_or [] lists (index_of inst) (each ∙ sym (length-map-range_with_len (naming_of inst) 0 (length inst.names)))
    (λ k l. let low : k < length inst.names = omega (arith, each, l) in
    h k low ∙ sym (get_or-map-range_with_len (naming_of inst) 0 (length inst.names) k k [] low (omega arith)))

pub index_long : (inst : Tables) (lists : List (List ℕ)) → lists ≡ index_of inst → length lists ≡ length inst.names
index_long inst lists e = ap length e ∙ length-map-range_with_len (naming_of inst) 0 (length inst.names)

pub named_is : (inst : Tables) (lists : List (List ℕ)) (i : ℕ) (read named : List ℕ) → lists ≡ index_of inst
    → i < length inst.names → read ≡ get_or lists i read → named ≡ read → named ≡ naming_of inst i
named_is inst lists i read named e l r q =
    let within : i < length lists = omega (arith, index_long inst lists e, l) in
    q ∙ r ∙ get_or_default lists i read [] within ∙ ap (λ (ls : List (List ℕ)). get_or ls i []) e
    ∙ get_or-map-range_with_len (naming_of inst) 0 (length inst.names) i i [] l (omega arith)

pub named_within : (inst : Tables) (i k : ℕ) (named : List ℕ) → named ≡ naming_of inst i → k < length named
    → get_or named k 0 < length inst.exclusion_names
named_within inst i k named e l =
    let m : k < length (naming_of inst i) = omega (arith, l, ap length e) in
    rw e (naming_to-names inst (length inst.exclusion_names) i k 0 m).within

-- none of those that name intervention i holds, and none of the others
pub none_by : (inst : Tables) (box : List Span) (i n : ℕ) (named : List ℕ) → named ≡ naming_of inst i
    → length named ≤ n → ((k : ℕ) → k < n → ¬ ExclHolds inst box (get_or named k 0)) → NoOtherHolds inst box i
    → NoExclusionHolds inst box
none_by inst box i n named is past none others e l = at (is_named (exclusion_of inst e) i) refl
  where
    at : (b : Bool) → is_named (exclusion_of inst e) i ≡ b → ¬ ExclHolds inst box e
    at true q =
        let w = subst (λ (xs : List ℕ). Contains xs e) (sym is)
        (naming_to-each inst (length inst.exclusion_names) i e l q) in
        found w
      where
        found : Contains named e → ¬ ExclHolds inst box e
        found (k, m, p) holds = none k (omega (arith, m, past))
            (subst (ExclHolds inst box) (sym (get_or_zero named k e m p)) holds)
          where
            get_or_zero : (xs : List ℕ) (k e : ℕ) → k < length xs → get_or xs k e ≡ e → get_or xs k 0 ≡ e
            get_or_zero xs k e m p = sym (get_or_default xs k e 0 m) ∙ p
    at false q = others e l q
