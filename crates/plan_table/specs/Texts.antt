-- The text of a report, line by line. A line is its words with a blank between them, and ends with a line feed. Names
-- are printed as they are, counts of 10^-12 with 12 decimals.
use Rattle.std.specs.Prelude.{ℕ, ◌<◌, List, [], ◌∷◌, ◌++◌, length, All, codes, decimal, slice_index_or}
use Rattle.std.specs.List.{flat_map}
use Rattle.fixed_num.specs.Texts.{fixed_text}
use Rattle.instance_model.specs.Tables.{Tables}
use Rattle.plan_table.specs.declared.report.PeriodReport.{PeriodReport}
use Rattle.plan_table.specs.declared.report.LoadLine.{LoadLine}
use Rattle.plan_table.specs.declared.report.RunLine.{RunLine}
use Rattle.plan_table.specs.declared.report.LoadState.{LoadState}
use Rattle.plan_table.specs.declared.report.LoadState.TheVariants.{Fits, Over, Under}

-- words, each behind a blank
abbrev pub words_behind : List (List ℕ) → List ℕ
words_behind words = flat_map (λ word. 32 ∷ word) words

-- a line of these words
abbrev pub words_line : List ℕ → List (List ℕ) → List ℕ
words_line first rest = first ++ (words_behind rest ++ codes "\n")

-- the period, how many scenarios it has, and the rank of the quantile
unfoldable pub period_line : PeriodReport → List ℕ
period_line r =
    words_line (codes "period")
    (decimal r.t ∷ codes "scenarios" ∷ decimal r.scenarios ∷ codes "rank" ∷ decimal r.rank ∷ [])

-- the least scenario sum, the quantile and the greatest
unfoldable pub risk_line : PeriodReport → List ℕ
risk_line r = words_line (codes "risk") (fixed_text r.least ∷ fixed_text r.quantile ∷ fixed_text r.greatest ∷ [])

-- what the mean is at least and at most
unfoldable pub mean_line : PeriodReport → List ℕ
mean_line r = words_line (codes "mean") (fixed_text r.mean_low ∷ fixed_text r.mean_high ∷ [])

-- what the excess is at least and at most
unfoldable pub excess_line : PeriodReport → List ℕ
excess_line r = words_line (codes "excess") (fixed_text r.excess_low ∷ fixed_text r.excess_high ∷ [])

-- whether a load fits
abbrev pub state_word : LoadState → List ℕ
state_word Fits = codes "fits"
state_word Over = codes "over"
state_word Under = codes "under"

-- a resource, its load, its limits, and a last word
unfoldable pub load_text_as : Tables → LoadLine → List ℕ → List ℕ
load_text_as inst l state =
    words_line (codes "load")
    (slice_index_or inst.resource_names l.c [] ∷ fixed_text l.load ∷ fixed_text l.lower ∷ fixed_text l.upper
    ∷ state ∷ [])

-- which is whether the load fits
abbrev pub load_text : Tables → LoadLine → List ℕ
load_text inst l = load_text_as inst l (state_word l.state)

-- an intervention in progress, the day of its run, and what the mean of its risk is at least and at most
unfoldable pub run_text : Tables → RunLine → List ℕ
run_text inst r =
    words_line (codes "run")
    (slice_index_or inst.names r.i [] ∷ decimal r.start ∷ decimal r.day ∷ decimal r.duration ∷ fixed_text r.low
    ∷ fixed_text r.high ∷ [])

-- a broken exclusion
unfoldable pub clash_text : Tables → ℕ → List ℕ
clash_text inst e = words_line (codes "clash") (slice_index_or inst.exclusion_names e [] ∷ [])

-- the lines on the scenario sums
unfoldable pub head_text : PeriodReport → List ℕ
head_text r = period_line r ++ (risk_line r ++ (mean_line r ++ excess_line r))

-- the text of a report
abbrev pub report_text : Tables → PeriodReport → List ℕ
report_text inst r =
    head_text r
    ++ (flat_map (load_text inst) r.loads ++ (flat_map (run_text inst) r.runs ++ flat_map (clash_text inst) r.clashes))

-- the resources, interventions and exclusions that a report names are those of the instance
pub record NamesWithin (inst : Tables) (r : PeriodReport) : Type 0 where
  pub loads : All (λ line. line.c < length inst.resource_names) r.loads
  pub runs : All (λ line. line.i < length inst.names) r.runs
  pub clashes : All (λ e. e < length inst.exclusion_names) r.clashes
