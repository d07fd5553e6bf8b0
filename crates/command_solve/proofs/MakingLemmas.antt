-- What a descent, a price list and a search made.
use Rattle.std.proofs.Common.{◌≡◌, ℕ, ◌+◌, ◌*◌, ◌<◌, ◌≤◌, sym, ap, subst, arith, ◌≤ℤ◌, List, [], length}
use Rattle.std.proofs.Common.{Option, Some, All, false}
use Rattle.std.proofs.lemmas.List.Elements.{All-nil, All-cons}
use Rattle.instance_model.specs.Limits.{standard_limits}
use Rattle.instance_model.specs.Tables.{Tables}
use Rattle.instance_model.specs.Fitting.{IsFitting}
use Rattle.instance_model.specs.Keys.{IsOpening}
use Rattle.lagrange_bound.specs.Prices.{PriceList, IsPriceList}
use Rattle.lagrange_bound.specs.Goals.{risk_base, risk_value}
use Rattle.lagrange_bound.specs.Worth.{price_total, WorthBoundsPlans}
use Rattle.certificate_tree.specs.Ranges.{IsInRange}
use Rattle.certificate_tree.specs.Validity.{IsValid}
use Rattle.certificate_text.specs.Text.{certificate_text}
use Rattle.certificate_text.specs.Laws.{TextsFitFiles}
use Rattle.price_ladder.specs.Raised.{IsRaised, root_worth, least_total}
use Rattle.branch_search.specs.declared.tree_end.TreeEnd.{TreeEnd}
use Rattle.branch_search.specs.Searched.{IsSearched}
use Rattle.branch_search.specs.Given.{IsGiven}
use Rattle.local_search.specs.declared.ending.Descended.{Descended}
use Rattle.local_search.specs.Ends.{IsDescended}
use Rattle.branch_search.specs.Turns.{AreEnough}
use Rattle.command_solve.specs.Made.{IsMade}
use Rattle.command_solve.proofs.RootLemmas.{above_root}
use Rattle.command_solve.proofs.ChangeLemmas.{known_changes, small_changes}

-- what `raise_prices` says of its list
pub record AreRaised (inst : Tables) (starts : List ℕ) (prices : PriceList) : Type 0 where
  pub in_range : IsPriceList inst prices
  pub raised : IsRaised inst starts prices
  pub not_below_zeros : least_total inst ≤ℤ root_worth inst prices
  pub small : price_total prices ≤ 40_000_000_000
  pub few_exclusions : length prices.ex ≤ 400

-- what `search` says of its answer
pub record AreFoundWith (inst : Tables) (turns : ℕ) (prices : PriceList) (given : Option (List ℕ)) (answer : TreeEnd)
    : Type 0 where
  pub searched : IsSearched risk_base risk_value inst (Some prices) given turns answer
  pub valid : IsValid risk_base risk_value inst answer.cert
  pub in_range : IsInRange inst answer.cert
  pub nodes : length answer.cert.nodes ≤ 2 * turns + 1
  pub enough : AreEnough inst turns → answer.unfinished ≡ false

module _ (inst : Tables) (fit : IsFitting inst) (turns : ℕ) (few : turns ≤ 1_000_000) (opening : List ℕ)
    (opens : IsOpening inst opening) (descended : Descended) (end : IsDescended inst turns opening descended)
    (prices : PriceList)
    (raised : AreRaised inst descended.starts prices) (given : Option (List ℕ))
    (is_given : IsGiven inst descended.starts given) (answer : TreeEnd)
    (made : AreFoundWith inst turns prices given answer) where
  lists_few : length answer.cert.lists ≤ 1
  lists_few = omega (arith, ap (λ (lists : List PriceList). length lists) made.searched.lists)

  ex_few : All (λ (list : PriceList). length list.ex ≤ 400) answer.cert.lists
  ex_few =
      subst (All (λ (list : PriceList). length list.ex ≤ 400)) (sym made.searched.lists)
      (All-cons (λ (list : PriceList). length list.ex ≤ 400) prices [] raised.few_exclusions
      (All-nil (λ (list : PriceList). length list.ex ≤ 400)))

  is_short : TextsFitFiles → length (certificate_text inst answer.cert) < standard_limits.certificate_bytes
  is_short texts = texts inst answer.cert fit made.in_range lists_few ex_few (omega (arith, made.nodes, few))

  pub is_made : WorthBoundsPlans risk_base risk_value → TextsFitFiles → IsMade inst turns descended.moves answer
  is_made law texts = record {
    solved = record {
      opening = opening;
      trail = record { opens = opens; descent = end.descent };
      prices = prices;
      priced = record {
        raised = subst (λ (plan : List ℕ). IsRaised inst plan prices) end.end raised.raised;
        not_below_zeros = raised.not_below_zeros;
        small = raised.small;
        few_exclusions = raised.few_exclusions;
      };
      given = given;
      is_given = subst (λ (plan : List ℕ). IsGiven inst plan given) end.end is_given;
      searched = made.searched;
      above_root = above_root inst prices given turns answer law fit raised.in_range made.searched;
    };
    enough = made.enough;
    cert = record {
      in_range = made.in_range;
      valid = made.valid;
      within = omega (arith, is_short texts);
    };
    short = is_short texts;
    changes_are = record {
      known = known_changes inst opening descended.moves end.descent.lower;
      small = small_changes inst opening descended.moves fit end.descent.lower;
    };
  }
