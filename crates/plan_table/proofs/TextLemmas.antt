-- The lines of a report, by the words that are said.
use Rattle.std.proofs.Common.{◌≡◌, ℕ, ℤ, List, [], ◌∷◌, ◌++◌, get_or, codes, decimal, refl}
use Rattle.fixed_num.specs.Texts.{fixed_text}
use Rattle.instance_model.specs.Tables.{Tables}
use Rattle.plan_table.specs.declared.report.PeriodReport.{PeriodReport}
use Rattle.plan_table.specs.declared.report.LoadLine.{LoadLine}
use Rattle.plan_table.specs.declared.report.RunLine.{RunLine}
use Rattle.plan_table.specs.Texts.{words_line, period_line, load_text_as, run_text, clash_text, head_text, risk_line}
use Rattle.plan_table.specs.Texts.{mean_line, excess_line}

pub period_said : (r : PeriodReport) (t n k : List ℕ) → t ≡ decimal r.t → n ≡ decimal r.scenarios → k ≡ decimal r.rank
    → words_line (codes "period") (t ∷ codes "scenarios" ∷ n ∷ codes "rank" ∷ k ∷ []) ≡ period_line r
unfolding period_line
period_said r t n k et en ek = rw (et, en, ek) refl

pub load_said : (inst : Tables) (l : LoadLine) (state name load lower upper : List ℕ)
    → name ≡ get_or inst.resource_names l.c [] → load ≡ fixed_text l.load → lower ≡ fixed_text l.lower
    → upper ≡ fixed_text l.upper
    → words_line (codes "load") (name ∷ load ∷ lower ∷ upper ∷ state ∷ []) ≡ load_text_as inst l state
unfolding load_text_as
load_said inst l state name load lower upper en e eo eu = rw (en, e, eo, eu) refl

pub run_said : (inst : Tables) (r : RunLine) (name start day duration low high : List ℕ)
    → name ≡ get_or inst.names r.i []
    → start ≡ decimal r.start → day ≡ decimal r.day → duration ≡ decimal r.duration → low ≡ fixed_text r.low
    → high ≡ fixed_text r.high
    → words_line (codes "run") (name ∷ start ∷ day ∷ duration ∷ low ∷ high ∷ []) ≡ run_text inst r
unfolding run_text
run_said inst r name start day duration low high en es ey ed el eh = rw (en, es, ey, ed, el, eh) refl

pub clash_said : (inst : Tables) (e : ℕ) (name : List ℕ) → name ≡ get_or inst.exclusion_names e []
    → words_line (codes "clash") (name ∷ []) ≡ clash_text inst e
unfolding clash_text
clash_said inst e name en = rw en refl

-- two counts behind a word
pub mean_said : (r : PeriodReport) (low high : ℤ) → low ≡ r.mean_low → high ≡ r.mean_high
    → words_line (codes "mean") (fixed_text low ∷ fixed_text high ∷ []) ≡ mean_line r
unfolding mean_line
mean_said r low high el eh = rw (el, eh) refl

pub excess_said : (r : PeriodReport) (low high : ℤ) → low ≡ r.excess_low → high ≡ r.excess_high
    → words_line (codes "excess") (fixed_text low ∷ fixed_text high ∷ []) ≡ excess_line r
unfolding excess_line
excess_said r low high el eh = rw (el, eh) refl

-- the four lines on the scenario sums
pub head_said : (r : PeriodReport) → period_line r ++ (risk_line r ++ (mean_line r ++ excess_line r)) ≡ head_text r
unfolding head_text
head_said r = refl
