-- Price lists that are changed in one place stay in range.
use Rattle.std.proofs.Common.{◌≡◌, ℕ, zero, suc, ◌-◌, ◌*◌, ◌<◌, ◌≤◌, refl, sym, ◌∙◌, subst, arith, List, [], length}
use Rattle.std.proofs.Common.{get_or, set, sum, replicate, Option, Some, None, Bool, true, false, eqb, ◌≢◌}
use Rattle.std.proofs.lemmas.Bool.Decides.{nat_tests}
use Rattle.std.proofs.lemmas.List.{length-replicate, get_or-replicate, get_or-set_same, get_or-set_other}
use Rattle.std.proofs.Math.ListN.{length-set}
use Rattle.std.proofs.lemmas.List.Sums.{sum_by-cons}
use Rattle.std.proofs.lemmas.List.Elements.{All-set, All-replicate}
use Rattle.instance_model.specs.Tables.{Tables}
use Rattle.lagrange_bound.specs.declared.tail.Tail.{Tail}
use Rattle.lagrange_bound.specs.declared.ex_price.ExPrice.{ExPrice}
use Rattle.lagrange_bound.specs.Prices.{PriceList, IsPriceList, IsTail, zero_list}
use Rattle.lagrange_bound.specs.Worth.{ex_total, price_total}

abbrev pub IsSmall : ℕ → Type 0
IsSmall v = v ≤ 1_000_000_000

pub zero_in_range : (inst : Tables) → IsPriceList inst (zero_list inst)
unfolding zero_list
zero_in_range inst =
    record {
      up_each = length-replicate (length inst.resource_names * inst.periods) 0;
      lo_each = length-replicate (length inst.resource_names * inst.periods) 0;
      up_small = All-replicate IsSmall (length inst.resource_names * inst.periods) 0 (omega arith);
      lo_small = All-replicate IsSmall (length inst.resource_names * inst.periods) 0 (omega arith);
      tails_each = length-replicate inst.periods None;
      tails = λ t one few tail e. absurd (no_tail t (omega arith) tail e);
      ex = tt;
      ex_ascend = λ i j d l h. absurd (omega (arith, h));
    }
  where
    no_tail : (t : ℕ) → t - 1 < inst.periods → (tail : Tail)
        → get_or (replicate inst.periods None) (t - 1) None ≡ Some tail → ⊥
    no_tail t l tail e = let none = get_or-replicate {A = Option Tail} inst.periods (t - 1) None None l in cc (none, e)

sum-zeros : (n : ℕ) → sum (replicate n 0) ≡ 0
sum-zeros zero = refl
sum-zeros (suc n) = omega (arith, sum_by-cons (λ x. x) 0 (replicate n 0), sum-zeros n)

-- the numbers of the list of zeros come to nothing
pub zero_total : (inst : Tables) → price_total (zero_list inst) ≡ 0
unfolding price_total zero_list ex_total
zero_total inst = omega (arith, sum-zeros (length inst.resource_names * inst.periods))

pub zero_list_is : (inst : Tables) (up lo : List ℕ) (tails : List (Option Tail)) (ex : List ExPrice)
    → up ≡ replicate (length inst.resource_names * inst.periods) 0
    → lo ≡ replicate (length inst.resource_names * inst.periods) 0 → tails ≡ replicate inst.periods None → ex ≡ []
    → ◌≡◌ {A = PriceList} (record { up = up; lo = lo; tails = tails; ex = ex }) (zero_list inst)
unfolding zero_list
zero_list_is inst up lo tails ex a b c d = rw (a, b, c, d) refl

pub up_in_range : (inst : Tables) (prices : PriceList) (i v : ℕ) → IsPriceList inst prices → v ≤ 1_000_000_000
    → IsPriceList inst (record prices { up = set prices.up i v })
up_in_range inst prices i v h small =
    record {
      up_each = length-set prices.up i v ∙ h.up_each;
      lo_each = h.lo_each;
      up_small = All-set IsSmall prices.up i v small h.up_small;
      lo_small = h.lo_small;
      tails_each = h.tails_each;
      tails = h.tails;
      ex = h.ex;
      ex_ascend = h.ex_ascend;
    }

pub lo_in_range : (inst : Tables) (prices : PriceList) (i v : ℕ) → IsPriceList inst prices → v ≤ 1_000_000_000
    → IsPriceList inst (record prices { lo = set prices.lo i v })
lo_in_range inst prices i v h small =
    record {
      up_each = h.up_each;
      lo_each = length-set prices.lo i v ∙ h.lo_each;
      up_small = h.up_small;
      lo_small = All-set IsSmall prices.lo i v small h.lo_small;
      tails_each = h.tails_each;
      tails = h.tails;
      ex = h.ex;
      ex_ascend = h.ex_ascend;
    }

pub tail_in_range : (inst : Tables) (prices : PriceList) (t : ℕ) (tail : Option Tail) → IsPriceList inst prices → 1 ≤ t
    → t ≤ inst.periods → ((some : Tail) → tail ≡ Some some → IsTail inst t some)
    → IsPriceList inst (record prices { tails = set prices.tails (t - 1) tail })
tail_in_range inst prices t tail h one few good =
    record {
      up_each = h.up_each;
      lo_each = h.lo_each;
      up_small = h.up_small;
      lo_small = h.lo_small;
      tails_each = length-set prices.tails (t - 1) tail ∙ h.tails_each;
      tails = λ u from to other e. at u from to other e (eqb (u - 1) (t - 1)) refl;
      ex = h.ex;
      ex_ascend = h.ex_ascend;
    }
  where
    at : (u : ℕ) → 1 ≤ u → u ≤ inst.periods → (other : Tail) → get_or (set prices.tails (t - 1) tail) (u - 1) None
        ≡ Some other → (b : Bool) → eqb (u - 1) (t - 1) ≡ b → IsTail inst u other
    at u from to other e true b =
        let same : u - 1 ≡ t - 1 = grind (arith, nat_tests) in
        let period : u ≡ t = omega arith in
        let here : t - 1 < length prices.tails = omega (arith, h.tails_each) in
        let read = get_or-set_same prices.tails (t - 1) tail None here in
        let is : tail ≡ Some other =
        sym read ∙ subst (λ (k : ℕ). get_or (set prices.tails (t - 1) tail) k None ≡ Some other) same e in
        subst (λ (k : ℕ). IsTail inst k other) (sym period) (good other is)
    at u from to other e false b =
        let apart : u - 1 ≢ t - 1 = grind (arith, nat_tests) in
        h.tails u from to other (sym (get_or-set_other prices.tails (t - 1) (u - 1) tail None apart) ∙ e)
