use Rattle.std.proofs.Common.{◌≡◌, ◌∙◌, ◌*◌, ap, length, replicate, ℕ, Option, None, refl}
use Rattle.lagrange_bound.specs.declared.tail.Tail.{Tail}
use Rattle.lagrange_bound.proofs.PriceLemmas.{zero_list_is}
use Rattle.lagrange_bound.proofs.prices.Prices.zero.Goals as goal

pub returns-clause-value : goal.returns-clause-value
returns-clause-value c =
    let bands : c.resources.result * c.periods.result
    ≡ length c.args.inst.now.resource_names * c.args.inst.now.periods =
    rw (c.resources.ensures.value, c.periods.ensures.value) refl in
    zero_list_is c.args.inst.now c.in_ok-vec.field-0.items c.in_ok-vec-2.field-0.items c.in_ok-no_tails.field-0.items
    c.new.result.items (c.in_ok-vec.ensures.items_if_clones_equal (λ y e. e) ∙ ap (λ (n : ℕ). replicate n 0) bands)
    (c.in_ok-vec-2.ensures.items_if_clones_equal (λ y e. e) ∙ ap (λ (n : ℕ). replicate n 0) bands)
    (c.in_ok-no_tails.ensures ∙ ap (λ (n : ℕ). replicate {A = Option Tail} n None) c.periods-2.ensures.value)
    c.new.ensures.items
