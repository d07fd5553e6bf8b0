use Rattle.std.proofs.Common.{◌≡◌, ◌∙◌, sym, arith}
use Rattle.certificate_lines.proofs.NumberLemmas.{no_negative, decimal_once}
use Rattle.certificate_lines.proofs.bound_number.negative.Goals as goal

pub returns-in_err-n-clause-none : goal.returns-in_err-n-clause-none
returns-in_err-n-clause-none c =
    rw c.from_residual.ensures (no_negative c.args.digits.now (λ n some small e. c.in_err-n.ensures.none n small e))

pub returns-then-n-eq0-clause-none : goal.returns-then-n-eq0-clause-none
returns-then-n-eq0-clause-none c =
    no_negative c.args.digits.now (λ n some small e.
    let same : c.in_ok-n.n ≡ n =
    decimal_once c.in_ok-n.n n c.in_ok-n.ensures.small small (sym c.in_ok-n.ensures.found ∙ e) in
    omega (arith, some, same, c.if-n-eq0.true))
