-- The rows that are kept of a text without a fault of shape are those of the text.
use Rattle.std.proofs.Common.{◌≡◌, ℕ, List, [], refl, ◌∙◌, ap, zero-add}
use Rattle.json_grammar.specs.Tree.{Tree, events_of}
use Rattle.instance_model.specs.declared.limits.Limits.{Limits}
use Rattle.instance_shape.specs.declared.spot.Spot.TheVariants as spot
use Rattle.instance_shape.specs.ShapeFaults.{shape_faults}
use Rattle.instance_shape.proofs.Clear.{IsClear, root_clear}
use Rattle.shape_walk.specs.Kept.{kept, keep_value}
use Rattle.shape_walk.proofs.Keeping.{text_kept}
use Rattle.instance_rows.specs.FileRows.{BandRow, WorkRow, FileRows, rows_of}
use Rattle.instance_read.specs.Keeping.{keep, nothing_kept, rows_kept, keep_names, keep_words, is_resources, is_seasons}
use Rattle.instance_read.specs.Keeping.{is_interventions, is_exclusions}
use Rattle.instance_read.proofs.Bands.{bands_keep, bands_kept}
use Rattle.instance_read.proofs.Carried.{value_part}
use Rattle.instance_read.proofs.ListsKept.{seasons_keep, season_periods_kept, words_kept}
use Rattle.instance_read.proofs.Names.{resources_kept, seasons_kept, interventions_kept, exclusions_kept}
use Rattle.instance_read.proofs.Numbers.{periods_keep, periods_kept, alpha_keep, alpha_kept, quantile_keep}
use Rattle.instance_read.proofs.Numbers.{quantile_kept, scenarios_keep, scenarios_kept}
use Rattle.instance_read.proofs.Rounded.{rounded_keep, value_rounded}
use Rattle.instance_read.proofs.Works.{works_keep, works_kept}

same_fields : (periods periods' : ℕ) (alpha alpha' : ℕ) (quantile quantile' : ℕ) (scenarios scenarios' : List ℕ)
    (resources resources' : List (List ℕ)) (bands bands' : List BandRow)
    (seasons seasons' : List (List ℕ)) (season_periods season_periods' : List (List ℕ))
    (interventions interventions' : List (List ℕ)) (works works' : List WorkRow)
    (exclusions exclusions' : List (List ℕ)) (words words' : List (List (List ℕ))) (rounded rounded' : ℕ)
    → periods ≡ periods' → alpha ≡ alpha' → quantile ≡ quantile' → scenarios ≡ scenarios'
    → resources ≡ resources' → bands ≡ bands'
    → seasons ≡ seasons' → season_periods ≡ season_periods' → interventions ≡ interventions' → works ≡ works'
    → exclusions ≡ exclusions' → words ≡ words' → rounded ≡ rounded'
    → (let r : FileRows = record {
      periods = periods;
      alpha = alpha;
      quantile = quantile;
      scenarios = scenarios;
      resources = resources;
      bands = bands;
      seasons = seasons;
      season_periods = season_periods;
      interventions = interventions;
      works = works;
      exclusions = exclusions;
      exclusion_words = words;
      rounded = rounded;
    } in r) ≡ record {
      periods = periods';
      alpha = alpha';
      quantile = quantile';
      scenarios = scenarios';
      resources = resources';
      bands = bands';
      seasons = seasons';
      season_periods = season_periods';
      interventions = interventions';
      works = works';
      exclusions = exclusions';
      exclusion_words = words';
      rounded = rounded';
    }
same_fields a a' b b' c c' d d' e e' f f' g g' h h' i i' j j' k k' l l' m m' p q r s t u v w x y z n o = cc

pub rows_kept-root : (limits : Limits) (root : Tree) → shape_faults limits root ≡ []
    → rows_kept (keep_value keep spot.Root root nothing_kept) ≡ rows_of root
rows_kept-root limits root shaped =
    let clear : IsClear limits spot.Root root = root_clear limits root shaped in
    same_fields _ _ _ _ _ _ _ _ _ _ _ _ _ _ _ _ _ _ _ _ _ _ _ _ _ _
    (value_part (λ a. a.periods) keep periods_keep (λ s e a. refl) spot.Root root nothing_kept
    ∙ periods_kept limits root clear)
    (value_part (λ a. a.alpha) keep alpha_keep (λ s e a. refl) spot.Root root nothing_kept
    ∙ alpha_kept limits root clear)
    (value_part (λ a. a.quantile) keep quantile_keep (λ s e a. refl) spot.Root root nothing_kept
    ∙ quantile_kept limits root clear)
    (value_part (λ a. a.scenarios) keep scenarios_keep (λ s e a. refl) spot.Root root nothing_kept
    ∙ scenarios_kept limits root clear)
    (value_part (λ a. a.resources) keep (keep_names is_resources) (λ s e a. refl) spot.Root root nothing_kept
    ∙ resources_kept limits root clear)
    (ap (λ b. b.closed) (value_part (λ a. a.bands) keep bands_keep (λ s e a. refl) spot.Root root nothing_kept)
    ∙ bands_kept limits root clear)
    (value_part (λ a. a.seasons) keep (keep_names is_seasons) (λ s e a. refl) spot.Root root nothing_kept
    ∙ seasons_kept limits root clear)
    (ap (λ b. b.closed) (value_part (λ a. a.season_periods) keep seasons_keep (λ s e a. refl) spot.Root root
    nothing_kept) ∙ season_periods_kept limits root clear)
    (value_part (λ a. a.interventions) keep (keep_names is_interventions) (λ s e a. refl) spot.Root root nothing_kept
    ∙ interventions_kept limits root clear)
    (ap (λ b. b.closed) (value_part (λ a. a.works) keep works_keep (λ s e a. refl) spot.Root root nothing_kept)
    ∙ works_kept limits root clear)
    (value_part (λ a. a.exclusions) keep (keep_names is_exclusions) (λ s e a. refl) spot.Root root nothing_kept
    ∙ exclusions_kept limits root clear)
    (ap (λ b. b.closed) (value_part (λ a. a.exclusion_words) keep keep_words (λ s e a. refl) spot.Root root
    nothing_kept) ∙ words_kept limits root clear)
    (value_part (λ a. a.rounded) keep rounded_keep (λ s e a. refl) spot.Root root nothing_kept
    ∙ value_rounded spot.Root root 0 ∙ zero-add _)

-- those that are kept of its events, one after another
pub rows_kept-events : (limits : Limits) (root : Tree) → shape_faults limits root ≡ []
    → rows_kept (kept keep (events_of root) nothing_kept) ≡ rows_of root
rows_kept-events limits root shaped =
    ap rows_kept (text_kept keep root nothing_kept) ∙ rows_kept-root limits root shaped
