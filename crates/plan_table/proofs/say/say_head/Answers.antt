use Rattle.std.proofs.Common.{◌≡◌, ◌++◌, rules}
use Rattle.fixed_num.proofs.Bits.{by_bits}
use Rattle.plan_desk.specs.Written.Way.{saying}
use Rattle.plan_desk.proofs.Written.{put, cut, last, respelled}
use Rattle.plan_table.specs.Texts.{risk_line, mean_line, excess_line}
use Rattle.plan_table.proofs.TextLemmas.{mean_said, excess_said, head_said}
use Rattle.plan_table.proofs.say.say_head.Goals as goal

pub returns-in_err-say_period : goal.returns-in_err-say_period
returns-in_err-say_period g c =
    let report = c.args.report.now in
    respelled saying (head_said report)
    (cut saying c.from_residual.result (search rules)
    (risk_line report ++ (mean_line report ++ excess_line report)) c.in_err-say_period.ensures)

pub returns-in_err-say_risk : goal.returns-in_err-say_risk
returns-in_err-say_risk g c =
    let report = c.args.report.now in
    let r = c.from_residual-in_err-say_risk.result in
    respelled saying (head_said report)
    (last saying r (put saying c.in_ok-say_period.ensures)
    (cut saying r (search rules) (mean_line report ++ excess_line report) c.in_err-say_risk.ensures))

pub returns-in_err-say_range : goal.returns-in_err-say_range
returns-in_err-say_range g c =
    let report = c.args.report.now in
    let r = c.from_residual-in_err-say_range.result in
    let low : by_bits report.mean_low ≡ report.mean_low = search rules in
    let high : by_bits report.mean_high ≡ report.mean_high = search rules in
    respelled saying (head_said report)
    (last saying r (put saying c.in_ok-say_period.ensures)
    (last saying r (put saying c.in_ok-say_risk.ensures)
    (cut saying r (search rules) (excess_line report)
    (respelled saying (mean_said report _ _ low high) c.in_err-say_range.ensures))))

pub returns : goal.returns
returns g c =
    let report = c.args.report.now in
    let r = c.say_range-2.result in
    let low : by_bits report.mean_low ≡ report.mean_low = search rules in
    let high : by_bits report.mean_high ≡ report.mean_high = search rules in
    let excess_low : by_bits report.excess_low ≡ report.excess_low = search rules in
    let excess_high : by_bits report.excess_high ≡ report.excess_high = search rules in
    respelled saying (head_said report)
    (last saying r (put saying c.in_ok-say_period.ensures)
    (last saying r (put saying c.in_ok-say_risk.ensures)
    (last saying r (put saying (respelled saying (mean_said report _ _ low high) c.in_ok-say_range.ensures))
    (respelled saying (excess_said report _ _ excess_low excess_high) c.say_range-2.ensures))))
