use Rattle.std.proofs.Common.{◌++◌, rules, ap}
use Rattle.std.specs.List.{flat_map}
use Rattle.plan_desk.specs.Written.Way.{saying}
use Rattle.plan_desk.proofs.Written.{put, cut, last, respelled}
use Rattle.plan_table.specs.Texts.{load_text, run_text, clash_text}
use Rattle.plan_table.proofs.say.say_report.Goals as goal

pub returns-in_err-say_head : goal.returns-in_err-say_head
returns-in_err-say_head g c =
    let inst = c.args.inst.now in
    let report = c.args.report.now in
    cut saying c.from_residual.result (search rules)
    (flat_map (load_text inst) report.loads
    ++ (flat_map (run_text inst) report.runs ++ flat_map (clash_text inst) report.clashes)) c.in_err-say_head.ensures

pub returns-in_err-say_loads : goal.returns-in_err-say_loads
returns-in_err-say_loads g c =
    let inst = c.args.inst.now in
    let report = c.args.report.now in
    let r = c.from_residual-in_err-say_loads.result in
    last saying r (put saying c.in_ok-say_head.ensures)
    (cut saying r (search rules) (flat_map (run_text inst) report.runs ++ flat_map (clash_text inst) report.clashes)
    (respelled saying (ap (flat_map (load_text inst)) c.as_slice.ensures) c.in_err-say_loads.ensures))

pub returns-in_err-say_runs : goal.returns-in_err-say_runs
returns-in_err-say_runs g c =
    let inst = c.args.inst.now in
    let report = c.args.report.now in
    let r = c.from_residual-in_err-say_runs.result in
    last saying r (put saying c.in_ok-say_head.ensures)
    (last saying r
    (put saying (respelled saying (ap (flat_map (load_text inst)) c.as_slice.ensures) c.in_ok-say_loads.ensures))
    (cut saying r (search rules) (flat_map (clash_text inst) report.clashes)
    (respelled saying (ap (flat_map (run_text inst)) c.as_slice-2.ensures) c.in_err-say_runs.ensures)))

pub returns : goal.returns
returns g c =
    let inst = c.args.inst.now in
    let r = c.say_clashes.result in
    last saying r (put saying c.in_ok-say_head.ensures)
    (last saying r
    (put saying (respelled saying (ap (flat_map (load_text inst)) c.as_slice.ensures) c.in_ok-say_loads.ensures))
    (last saying r
    (put saying (respelled saying (ap (flat_map (run_text inst)) c.as_slice-2.ensures) c.in_ok-say_runs.ensures))
    (respelled saying (ap (flat_map (clash_text inst)) c.as_slice-3.ensures) c.say_clashes.ensures)))
