-- What the reports of all periods say together.
use Rattle.std.proofs.Common.{◌≡◌, ℕ, zero, suc, ◌+◌, ◌<◌, refl, sym, ◌∙◌, ap, arith, ℤ, pos, ◌+ℤ◌, ◌-ℤ◌}
use Rattle.std.proofs.Common.{◌≤ℤ◌, Bool, true, false, cond, int_lt, ◌&&◌, List, length, map, Option, Some, get_or}
use Rattle.std.proofs.lemmas.List.Elements.{All-same}
use borrow.Author.Differences.{lt-false, false_is_lt, le_out, at_most_in}
use Rattle.fixed_num.specs.Sums.{sum_below}
use Rattle.fixed_num.specs.Floors.{floor_of, ceil_of}
use Rattle.fixed_num.proofs.SignedLemmas.{signed_arith}
use Rattle.fixed_num.proofs.SumLemmas.{sum_below-zero, sum_below-suc, sum_below_same}
use Rattle.instance_model.specs.Naturals.{count_sum, ceil_div_of}
use Rattle.instance_model.specs.Tables.{Tables, scenarios_of, upper_of, lower_of, in_season_of, exclusion_of}
use Rattle.instance_model.specs.Plans.{AreAllowedStarts, HasAllowedStart, is_running, load_sum, soft_count}
use Rattle.instance_model.specs.Rules.{IsWithinBand, KeepsApart, clashes}
use Rattle.instance_model.specs.Values.{risk_total, sum_of_floors, sum_of_ceils, mean_slack, excess_floors}
use Rattle.instance_model.specs.Values.{excess_ceils}
use Rattle.instance_model.proofs.BoardLemmas.{start_of-starts}
use Rattle.instance_model.proofs.RuleLemmas.{KeepsRules-from, IsFeasible-from}
use Rattle.plan_score.specs.Values.{values_of}
use Rattle.plan_table.specs.declared.report.PeriodReport.{PeriodReport}
use Rattle.plan_table.specs.declared.report.LoadLine.{LoadLine}
use Rattle.plan_table.specs.declared.report.LoadState.TheVariants.{Fits, Over, Under}
use Rattle.plan_table.specs.Reports.{load_state_of, load_line_of, load_lines_of, IsReport}
use Rattle.plan_table.specs.Laws.{AreReports, ShowsNoFault, NoFaultMeansFeasible, ValuesAreShares}
use Rattle.plan_table.proofs.RangeLemmas.{none_passes, all_fail, All-made, each_made}

-- ---- a load fits exactly where it is within its limits
within_from_fits : (load lower upper : ℤ) → load_state_of load lower upper ≡ Fits → (lower ≤ℤ load) × (load ≤ℤ upper)
unfolding load_state_of
within_from_fits load lower upper h = at (int_lt upper load) (int_lt load lower) refl refl h
  where
    at : (a b : Bool) → int_lt upper load ≡ a → int_lt load lower ≡ b → cond a Over (cond b Under Fits) ≡ Fits
        → (lower ≤ℤ load) × (load ≤ℤ upper)
    at true b p q h = absurd (cc)
    at false true p q h = absurd (cc)
    at false false p q h =
        (at_most_in lower load (lt-false load lower q), at_most_in load upper (lt-false upper load p))

fits_from_within : (load lower upper : ℤ) → lower ≤ℤ load → load ≤ℤ upper → load_state_of load lower upper ≡ Fits
unfolding load_state_of
fits_from_within load lower upper low high =
    let x : int_lt upper load ≡ false = sym (false_is_lt upper load (le_out load upper high)) in
    let y : int_lt load lower ≡ false = sym (false_is_lt load lower (le_out lower load low)) in
    rw (x, y) refl

-- ---- an exclusion isn't broken exactly where its interventions are apart
apart_from_none : (inst : Tables) (plan : List (Option ℕ)) (e t : ℕ) → clashes inst plan e t ≡ false
    → KeepsApart inst plan e t
unfolding clashes
apart_from_none inst plan e t h s (x, y) = at (in_season_of inst (exclusion_of inst e).season t)
    (is_running inst plan (exclusion_of inst e).first t) (is_running inst plan (exclusion_of inst e).second t) s x y h
  where
    at : (a b d : Bool) → a ≡ true → b ≡ true → d ≡ true → (a && b && d) ≡ false → ⊥
    at true true true p q r h = cc
    at true true false p q r h = cc
    at true false d p q r h = cc
    at false b d p q r h = cc

none_from_apart : (inst : Tables) (plan : List (Option ℕ)) (e t : ℕ) → KeepsApart inst plan e t
    → clashes inst plan e t ≡ false
unfolding clashes
none_from_apart inst plan e t = at (in_season_of inst (exclusion_of inst e).season t)
    (is_running inst plan (exclusion_of inst e).first t) (is_running inst plan (exclusion_of inst e).second t)
  where
    at : (a b d : Bool) → (a ≡ true → ¬ ((b ≡ true) × (d ≡ true))) → (a && b && d) ≡ false
    at true true true h = absurd (h refl (refl, refl))
    at true true false h = refl
    at true false d h = refl
    at false b d h = refl

-- ---- one report
abbrev LineFits : LoadLine → Type 0
LineFits line = line.state ≡ Fits

module _ (inst : Tables) (starts : List ℕ) (t : ℕ) (report : PeriodReport) (is : IsReport inst starts t report) where
  loads_within : ShowsNoFault report → (c : ℕ) → c < length inst.resource_names
      → IsWithinBand inst (map Some starts) c t
  loads_within shows c l =
      let all = All-same LineFits (load_lines_of inst (map Some starts) t) report.loads (sym is.loads) shows.loads in
      let fits : load_state_of (load_sum inst (map Some starts) c t) (lower_of inst c t) (upper_of inst c t) ≡ Fits =
      each_made LineFits (load_line_of inst (map Some starts) t) (length inst.resource_names) all c l in
      let w = within_from_fits (load_sum inst (map Some starts) c t) (lower_of inst c t) (upper_of inst c t) fits in
      record { not_below = w.0; not_above = w.1 }

  kept_apart : ShowsNoFault report → (e : ℕ) → e < length inst.exclusion_names → KeepsApart inst (map Some starts) e t
  kept_apart shows e l =
      apart_from_none inst (map Some starts) e t
      (all_fail (λ k. clashes inst (map Some starts) k t) (length inst.exclusion_names)
      (sym is.clashes ∙ shows.clashes) e l)

  no_fault : ((c : ℕ) → c < length inst.resource_names → IsWithinBand inst (map Some starts) c t)
      → ((e : ℕ) → e < length inst.exclusion_names → KeepsApart inst (map Some starts) e t) → ShowsNoFault report
  no_fault within apart =
      record {
        loads = All-same LineFits report.loads (load_lines_of inst (map Some starts) t) is.loads
            (All-made LineFits (load_line_of inst (map Some starts) t) (length inst.resource_names)
            (λ c l. fits_from_within (load_sum inst (map Some starts) c t) (lower_of inst c t) (upper_of inst c t)
            (within c l).not_below (within c l).not_above));
        clashes = is.clashes
            ∙ none_passes (λ k. clashes inst (map Some starts) k t) (length inst.exclusion_names)
            (λ e l. none_from_apart inst (map Some starts) e t (apart e l));
      }

-- ---- all reports
allowed_at : (inst : Tables) (starts : List ℕ) → AreAllowedStarts inst starts → (i : ℕ) → i < length inst.names
    → HasAllowedStart inst (map Some starts) i
allowed_at inst starts a i l =
    let low : i < length starts = omega (arith, a.each, l) in
    record { start = get_or starts i 0; given = start_of-starts starts i low; allowed = a.allowed i low }

pub no_fault_law : (inst : Tables) → NoFaultMeansFeasible inst
no_fault_law inst starts reports are = (
  λ shows. IsFeasible-from inst (map Some starts) (record {
    starts = allowed_at inst starts are.allowed;
    loads = λ c t l one few. loads_within inst starts t (reports t) (are.each t one few) (shows t one few) c l;
    seasons = λ e t l one few. kept_apart inst starts t (reports t) (are.each t one few) (shows t one few) e l;
  }),
  λ feasible t one few.
      let keeps = KeepsRules-from inst (map Some starts) feasible in
      no_fault inst starts t (reports t) (are.each t one few) (λ c l. keeps.loads c t l one few)
      (λ e l. keeps.seasons e t l one few),
)

-- ---- sums over the periods

-- numbers taken off, or added, one by one
sum_less : (n : ℕ) (f : ℕ → ℤ) (c : ℕ → ℕ) → sum_below n (λ k. f k -ℤ pos (c k)) ≡ sum_below n f -ℤ pos (count_sum n c)
unfolding count_sum
sum_less zero f c = rw (sum_below-zero f, sum_below-zero (λ k. f k -ℤ pos (c k))) refl
sum_less (suc n) f c =
    rw (sum_below-suc n f, sum_below-suc n (λ k. f k -ℤ pos (c k)), sum_less n f c) (omega (arith, signed_arith))

sum_more : (n : ℕ) (f : ℕ → ℤ) (c : ℕ → ℕ) → sum_below n (λ k. f k +ℤ pos (c k)) ≡ sum_below n f +ℤ pos (count_sum n c)
unfolding count_sum
sum_more zero f c = rw (sum_below-zero f, sum_below-zero (λ k. f k +ℤ pos (c k))) refl
sum_more (suc n) f c =
    rw (sum_below-suc n f, sum_below-suc n (λ k. f k +ℤ pos (c k)), sum_more n f c) (omega (arith, signed_arith))

module _ (inst : Tables) (starts : List ℕ) (reports : ℕ → PeriodReport) (are : AreReports inst starts reports) where
  -- a number of the reports adds up as its value does
  adds_up : (number : PeriodReport → ℤ) (value : ℕ → ℤ)
      → ((t : ℕ) → IsReport inst starts t (reports t) → number (reports t) ≡ value t)
      → sum_below inst.periods (λ u. number (reports (u + 1))) ≡ sum_below inst.periods (λ u. value (u + 1))
  adds_up number value h =
      sum_below_same inst.periods (λ u. number (reports (u + 1))) (λ u. value (u + 1))
      (λ u l. h (u + 1) (are.each (u + 1) (omega arith) (omega (arith, l))))

  means_down : sum_below inst.periods (λ u. (reports (u + 1)).mean_low)
      ≡ sum_of_floors inst (risk_total inst (map Some starts)) -ℤ pos (mean_slack inst (map Some starts))
  unfolding sum_of_floors mean_slack
  means_down =
      adds_up (λ r. r.mean_low)
      (λ t. floor_of (risk_total inst (map Some starts) t) (scenarios_of inst t)
      -ℤ pos (ceil_div_of (soft_count inst (map Some starts) t) 2)) (λ t is. is.mean_low)
      ∙ sum_less inst.periods (λ u. floor_of (risk_total inst (map Some starts) (u + 1)) (scenarios_of inst (u + 1)))
      (λ u. ceil_div_of (soft_count inst (map Some starts) (u + 1)) 2)

  means_up : sum_below inst.periods (λ u. (reports (u + 1)).mean_high)
      ≡ sum_of_ceils inst (risk_total inst (map Some starts)) +ℤ pos (mean_slack inst (map Some starts))
  unfolding sum_of_ceils mean_slack
  means_up =
      adds_up (λ r. r.mean_high)
      (λ t. ceil_of (risk_total inst (map Some starts) t) (scenarios_of inst t)
      +ℤ pos (ceil_div_of (soft_count inst (map Some starts) t) 2)) (λ t is. is.mean_high)
      ∙ sum_more inst.periods (λ u. ceil_of (risk_total inst (map Some starts) (u + 1)) (scenarios_of inst (u + 1)))
      (λ u. ceil_div_of (soft_count inst (map Some starts) (u + 1)) 2)

  excesses_down : sum_below inst.periods (λ u. (reports (u + 1)).excess_low) ≡ excess_floors inst (map Some starts)
  unfolding excess_floors
  excesses_down = sum_below_same inst.periods (λ u. (reports (u + 1)).excess_low) _
      (λ u l. (are.each (u + 1) (omega arith) (omega (arith, l))).excess_low)

  excesses_up : sum_below inst.periods (λ u. (reports (u + 1)).excess_high) ≡ excess_ceils inst (map Some starts)
  unfolding excess_ceils
  excesses_up = sum_below_same inst.periods (λ u. (reports (u + 1)).excess_high) _
      (λ u l. (are.each (u + 1) (omega arith) (omega (arith, l))).excess_high)

pub shares_law : (inst : Tables) → ValuesAreShares inst
unfolding values_of
shares_law inst starts reports are =
    record {
      mean_low = ap (λ (z : ℤ). floor_of z inst.periods) (means_down inst starts reports are);
      mean_high = ap (λ (z : ℤ). ceil_of z inst.periods) (means_up inst starts reports are);
      excess_low = ap (λ (z : ℤ). floor_of z inst.periods) (excesses_down inst starts reports are);
      excess_high = ap (λ (z : ℤ). ceil_of z inst.periods) (excesses_up inst starts reports are);
    }
