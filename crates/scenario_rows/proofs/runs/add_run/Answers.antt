use Rattle.std.proofs.Common.{◌≡◌, ◌∙◌, ◌+◌, sym, ap, arith, pos, ◌+ℤ◌, ℕ, ℤ, List, Option, Some, true, false, length}
use Rattle.std.proofs.Common.{map, get_or}
use Rattle.std.proofs.lemmas.List.Elements.{All-same}
use Rattle.fixed_num.specs.Sums.{list_of}
use Rattle.instance_model.specs.Tables.{scenarios_of, in_run, risk_of}
use Rattle.instance_model.specs.Plans.{start_of, sums_before, IsSmallSum}
use Rattle.instance_model.proofs.BoardLemmas.{start_of-starts, risk_at-idle, risk_at-running, length-sums_before}
use Rattle.instance_model.proofs.BoardLemmas.{sums_before_small, sums_before_more, sums_before_idle}
use Rattle.scenario_rows.proofs.runs.add_run.Goals as goal

pub add_risks-requires-clause-each : goal.add_risks-requires-clause-each
add_risks-requires-clause-each g c =
    ap length c.requires.before ∙ length-sums_before c.args.inst.now (map Some c.args.starts.now) c.args.t c.args.i

pub add_risks-requires-clause-room : goal.add_risks-requires-clause-room
add_risks-requires-clause-room g c =
    All-same IsSmallSum c.args.sums.now (sums_before c.args.inst.now (map Some c.args.starts.now) c.args.t c.args.i)
    c.requires.before (sums_before_small c.args.inst.now (map Some c.args.starts.now) c.args.t c.args.i
    c.fits.ensures (omega arith))

pub returns-then-in_run : goal.returns-then-in_run
returns-then-in_run g c =
    let inst = c.args.inst.now in
    let board : List (Option ℕ) = map Some c.args.starts.now in
    let s = get_or c.args.starts.now c.args.i 0 in
    let given = start_of-starts c.args.starts.now c.args.i (omega arith) in
    let running : in_run inst c.args.i s c.args.t ≡ true =
    sym (c.in_run.ensures ∙ c.run.ensures.periods c.args.t) ∙ c.if-in_run.true in
    c.add_risks.ensures.sums
    ∙ ap (λ (xs : List ℤ). list_of (scenarios_of inst c.args.t)
    (λ k. get_or xs k (pos 0) +ℤ risk_of inst c.args.i s c.args.t (k + 1))) c.requires.before
    ∙ sums_before_more inst board c.args.t c.args.i (λ k. risk_of inst c.args.i s c.args.t (k + 1))
    (λ k. risk_at-running inst c.args.t (k + 1) c.args.i s (start_of board c.args.i) given running)

pub returns-else-in_run : goal.returns-else-in_run
returns-else-in_run g c =
    let inst = c.args.inst.now in
    let board : List (Option ℕ) = map Some c.args.starts.now in
    let s = get_or c.args.starts.now c.args.i 0 in
    let given = start_of-starts c.args.starts.now c.args.i (omega arith) in
    let idle : in_run inst c.args.i s c.args.t ≡ false =
    sym (c.in_run.ensures ∙ c.run.ensures.periods c.args.t) ∙ c.if-in_run.false in
    c.requires.before ∙ sums_before_idle inst board c.args.t c.args.i (λ k. risk_at-idle inst c.args.t (k + 1) c.args.i
    s (start_of board c.args.i) given idle)
