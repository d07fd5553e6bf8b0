-- The texts of reports. Each line ends with a line feed, names are printed as they are, and values have 12 decimals.
use Rattle.std.specs.Prelude.{ℕ, ◌*◌, ℤ, ◌-ℤ◌, ◌<◌, List, [], ◌++◌, length, Option, Some, option_map, codes, decimal}
use Rattle.std.specs.Prelude.{slice_index_or}
use Rattle.std.specs.Fmt.{signed_decimal}
use Rattle.fixed_num.specs.Texts.{fixed_text}
use Rattle.fixed_num.specs.Floors.{floor_of}
use Rattle.instance_model.specs.Tables.{Tables}
use Rattle.instance_model.specs.Values.{score_of}
use Rattle.plan_score.specs.Values.{values_of}
use Rattle.plan_score.specs.declared.values.Values.{Values}
use Rattle.certificate_lines.specs.declared.line.Bound.{Bound}
use Rattle.certificate_lines.specs.declared.line.Bound.TheVariants.{NoPlan, Least}
use Rattle.instance_model.specs.declared.rule.Rule.{Rule}
use Rattle.instance_model.specs.declared.rule.Rule.TheVariants.{Unscheduled, Outside, Past, Over, Under, Clash}

-- the score, in parts of 10^-18
abbrev pub score_line : ℤ → List ℕ
score_line score = codes "score " ++ signed_decimal score ++ codes "\n"

-- two counts of 10^-12, each after a blank
abbrev pub pair_text : ℤ → ℤ → List ℕ
pair_text first second = codes " " ++ fixed_text first ++ codes " " ++ fixed_text second

-- what a value is at least, and what it is at most, both in counts of 10^-12
unfoldable pub range_line : List ℕ → ℤ → ℤ → List ℕ
range_line word low high = word ++ pair_text low high ++ codes "\n"

-- how many numbers of the instance file were changed by rounding
abbrev pub rounded_line : ℕ → List ℕ
rounded_line rounded = codes "rounded " ++ decimal rounded ++ codes "\n"

-- the lines of the cost, the mean and the excess
abbrev pub ranges_text : Values → List ℕ
ranges_text v =
    range_line (codes "cost") v.cost_low v.cost_high
    ++ range_line (codes "mean") v.mean_low v.mean_high
    ++ range_line (codes "excess") v.excess_low v.excess_high

-- the report of these values, where so many numbers of the file were changed by rounding
abbrev pub values_report : ℕ → Values → List ℕ
values_report rounded v =
    codes "feasible\n"
    ++ score_line v.score
    ++ ranges_text v
    ++ rounded_line rounded

-- the report on a feasible plan
abbrev pub feasible_report : Tables → List (Option ℕ) → List ℕ
feasible_report inst plan = values_report inst.rounded (values_of inst plan)

-- a rule's code, a name and a number
abbrev pub numbered : List ℕ → List ℕ → ℕ → List ℕ
numbered code name n = code ++ name ++ codes " " ++ decimal n

-- a rule's code, a resource, a period, the load there and its limit
abbrev pub band_text : List ℕ → List ℕ → ℕ → ℤ → ℤ → List ℕ
band_text code name t load limit = numbered code name t ++ pair_text load limit

-- a broken rule: its code, and what breaks it
abbrev pub rule_text : Tables → Rule → List ℕ
rule_text inst (Unscheduled i) = codes "S1 " ++ slice_index_or inst.names i []
rule_text inst (Outside i s) = numbered (codes "S2 ") (slice_index_or inst.names i []) s
rule_text inst (Past i s) = numbered (codes "S3 ") (slice_index_or inst.names i []) s
rule_text inst (Over c t load limit) = band_text (codes "B1 ") (slice_index_or inst.resource_names c []) t load limit
rule_text inst (Under c t load limit) = band_text (codes "B2 ") (slice_index_or inst.resource_names c []) t load limit
rule_text inst (Clash e t) = numbered (codes "X1 ") (slice_index_or inst.exclusion_names e []) t

-- the report on a plan that breaks this rule first
abbrev pub infeasible_report : Tables → Rule → List ℕ
infeasible_report inst rule = codes "infeasible\n" ++ rule_text inst rule ++ codes "\n" ++ rounded_line inst.rounded

-- what a rule names is in the instance
abbrev pub NamesOf : Tables → Rule → Type 0
NamesOf inst (Unscheduled i) = i < length inst.names
NamesOf inst (Outside i s) = i < length inst.names
NamesOf inst (Past i s) = i < length inst.names
NamesOf inst (Over c t load limit) = c < length inst.resource_names
NamesOf inst (Under c t load limit) = c < length inst.resource_names
NamesOf inst (Clash e t) = e < length inst.exclusion_names

-- ---- accepted certificates

-- what a bound on scores says of the cost, in counts of 10^-12, rounded down
abbrev pub bound_cost : Tables → ℤ → ℤ
bound_cost inst least = floor_of least (inst.periods * 1_000_000)

-- the bound in parts of 10^-18
abbrev pub bound_line : ℤ → List ℕ
bound_line least = codes "bound " ++ signed_decimal least ++ codes "\n"

-- the same of a bound that may be none
abbrev pub bound_or_none_line : Bound → List ℕ
bound_or_none_line NoPlan = codes "bound none\n"
bound_or_none_line (Least b) = bound_line b

-- a count of 10^-12 behind a word
unfoldable pub fixed_line : List ℕ → ℤ → List ℕ
fixed_line word n = word ++ fixed_text n ++ codes "\n"

-- the bound as a cost
abbrev pub cost_line : ℤ → List ℕ
cost_line cost = fixed_line (codes "bound-cost ") cost

-- both
abbrev pub bound_lines : ℤ → ℤ → List ℕ
bound_lines least cost = bound_line least ++ cost_line cost

-- the lines of a bound
abbrev pub bound_text : Tables → Bound → List ℕ
bound_text inst NoPlan = codes "bound none\n"
bound_text inst (Least b) = bound_lines b (bound_cost inst b)

-- how far a score is above the bound
abbrev pub gap_line : ℤ → List ℕ
gap_line gap = codes "gap " ++ signed_decimal gap ++ codes "\n"

-- both lines of a plan
abbrev pub score_and_gap : ℤ → ℤ → List ℕ
score_and_gap score gap = score_line score ++ gap_line gap

-- the lines of the score of a plan, if one was given
abbrev pub gap_text : Bound → Option ℤ → List ℕ
gap_text (Least b) (Some score) = score_and_gap score (score -ℤ b)
gap_text bound score = []

-- the report of this bound and score
abbrev pub accepted_text : Tables → Bound → Option ℤ → List ℕ
accepted_text inst bound score =
    codes "accepted\n" ++ bound_text inst bound ++ gap_text bound score ++ rounded_line inst.rounded

-- the report on an accepted certificate with this bound, and on the plan, if one was given
abbrev pub accepted_report : Tables → Bound → Option (List (Option ℕ)) → List ℕ
accepted_report inst bound plan = accepted_text inst bound (option_map (score_of inst) plan)
