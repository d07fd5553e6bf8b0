use Rattle.std.proofs.Common.{◌≡◌, ◌∙◌, ◌≤◌, subst, arith, unsigned_abs, Some}
use Rattle.fixed_num.proofs.SignedLemmas.{back_from_abs}
use Rattle.lagrange_bound.specs.declared.tail.Tail.{Tail}
use Rattle.lagrange_bound.specs.Bases.{term_of}
use Rattle.lagrange_bound.specs.SizeLemmas.{term_of_small}
use Rattle.lagrange_bound.proofs.BaseLemmas.{seen, seen_some, term_is}
use Rattle.lagrange_bound.proofs.term.term.Goals as goal

pub returns : goal.returns
returns g c =
    let i = c.args.inst.now in
    let tail = seen c.args.tail in
    let weight : (x : Tail) → seen c.args.tail ≡ Some x → x.weight ≤ 1000 = λ x e. let w = seen_some c.args.tail x e in
    subst (λ (y : Tail). y.weight ≤ 1000) w.2 (c.requires.tail w.0 w.1).weight in
    let value : c.floor_div.result ≡ term_of i tail c.args.i c.args.s c.args.t = term_is i tail c.args.i c.args.s
    c.args.t c.alpha.result c.scenarios.result c.sum_of-sum.result c.part_of-part.result c.fraction_of-fraction.result
    c.floor_div.result c.alpha.ensures.value c.scenarios.ensures.value c.scenarios.ensures.few
    c.sum_of-sum.ensures.value c.sum_of-sum.ensures.small c.part_of-part.ensures.value c.part_of-part.ensures.small
    c.fraction_of-fraction.ensures.value c.fraction_of-fraction.ensures.small c.floor_div.ensures in
    let small : unsigned_abs c.floor_div.result ≤ 300_000_000_000_000_000_000_000_000 =
    rw value (term_of_small i tail c.args.i c.args.s c.args.t c.fits.ensures c.requires.from c.requires.to weight) in
    let b = back_from_abs c.floor_div.result (omega (arith, small)) in
    record { value = b ∙ value; small = rw b small }
