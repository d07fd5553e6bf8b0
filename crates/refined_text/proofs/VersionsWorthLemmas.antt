-- A certificate and the one that it is told as give each box the same worths, so the same leaves hold.
use Rattle.std.proofs.Common.{◌≡◌, ℕ, zero, suc, ◌<◌, refl, sym, ◌∙◌, ap, subst, arith, ℤ, List, length}
use Rattle.std.proofs.Common.{map, get_or, All}
use Rattle.std.proofs.Math.Path.{fun_ext}
use Rattle.std.proofs.lemmas.List.{length-map, get_or-map}
use Rattle.instance_model.specs.Tables.{Tables}
use Rattle.lagrange_bound.specs.Prices.{PriceList, IsPriceList, zero_list}
use Rattle.lagrange_bound.specs.Goals.{risk_base, risk_value}
use Rattle.lagrange_bound.specs.Worth.{price_of, worth_of}
use Rattle.lagrange_bound.specs.Pricings.{Pricing, pricing_of, pricing_worth}
use Rattle.certificate_tree.specs.declared.certificate.Certificate.{Certificate}
use Rattle.certificate_tree.specs.Holding.{list_at, worth_by}
use Rattle.certificate_tree.specs.Validity.{Claim, claim_of, IsProved, IsFirstUnproved, AreSameWorths}
use Rattle.certificate_tree.specs.Laws.{SameWorthsProveTheSame}
use Rattle.refined_prices.specs.RefinedLists.{zero_refined}
use Rattle.refined_prices.specs.RefinedWorth.{refined_price, refined_constant, refined_pricing}
use Rattle.refined_check.specs.Worths.{refined_pricing_at, refined_worths}
use Rattle.refined_check.specs.Singles.{refined_of, IsSameList, PriceListsAreRefined}
use Rattle.refined_text.specs.versions.Laws.{VersionsProveAlike, VersionsFailAlike}

-- a price list and its refined list are the same pricing
same_pricing : (inst : Tables) (prices : PriceList) → IsSameList inst prices (refined_of inst prices)
    → refined_pricing inst (refined_of inst prices) ≡ pricing_of (risk_base inst prices) inst prices
same_pricing inst prices same =
    let made : (ℕ → ℕ → ℤ) → ℤ → Pricing = λ p c. record { price = p; constant = c } in
    let refined = refined_of inst prices in
    let each : refined_price inst refined ≡ price_of (risk_base inst prices) inst prices =
    fun_ext (λ i. fun_ext (λ s. same.prices_same i s)) in
    ap (λ (p : ℕ → ℕ → ℤ). made p (refined_constant inst refined)) each
    ∙ ap (made (price_of (risk_base inst prices) inst prices)) same.constant_same

-- the worths of boxes by price lists in range are those by their refined lists
same_worths : PriceListsAreRefined → (inst : Tables) (lists : List PriceList) → All (IsPriceList inst) lists
    → AreSameWorths inst (length lists) (worth_by risk_base inst lists)
    (refined_worths inst (map (refined_of inst) lists))
unfolding refined_pricing_at list_at worth_of pricing_worth
same_worths law inst lists ok box zero l b s = refl
same_worths law inst lists ok box (suc j) l b s =
    let m : j < length lists = omega (arith, l) in
    let prices = get_or lists j (zero_list inst) in
    let same = law inst prices (ok j (zero_list inst) m) in
    sym (ap (λ (p : Pricing). pricing_worth inst p box)
    (ap (refined_pricing inst) (get_or-map (refined_of inst) lists j (zero_list inst) (zero_refined inst) m)
    ∙ same_pricing inst prices same))

-- what is claimed by the refined lists, where so many are counted
told : Tables → Certificate → ℕ → Claim
told inst cert n =
    record {
      bound = cert.bound;
      lists = n;
      worths = refined_worths inst (map (refined_of inst) cert.lists);
      nodes = cert.nodes;
    }

pub VersionsProveAlike-from : PriceListsAreRefined → SameWorthsProveTheSame → VersionsProveAlike
unfolding told
VersionsProveAlike-from refined law inst cert f ok =
    let count = length-map cert.lists (refined_of inst) in
    let worths = refined_worths inst (map (refined_of inst) cert.lists) in
    let same = same_worths refined inst cert.lists ok.lists in
    let Proved : ℕ → Type 0 = λ n. IsProved risk_value inst (told inst cert n) in (
      λ v. subst Proved (sym count) ((law risk_value inst (claim_of risk_base inst cert) worths f same).0 v),
      λ v. (law risk_value inst (told inst cert (length cert.lists)) (worth_by risk_base inst cert.lists) f
          (λ box j l b s. sym (same box j l b s))).0 (subst Proved count v),
    )

pub VersionsFailAlike-from : PriceListsAreRefined → SameWorthsProveTheSame → VersionsFailAlike
unfolding told
VersionsFailAlike-from refined law inst cert n f ok =
    let count = length-map cert.lists (refined_of inst) in
    let worths = refined_worths inst (map (refined_of inst) cert.lists) in
    let same = same_worths refined inst cert.lists ok.lists in
    let First : ℕ → Type 0 = λ k. IsFirstUnproved risk_value inst (told inst cert k) n in (
      λ v. subst First (sym count) ((law risk_value inst (claim_of risk_base inst cert) worths f same).1 n v),
      λ v. (law risk_value inst (told inst cert (length cert.lists)) (worth_by risk_base inst cert.lists) f
          (λ box j l b s. sym (same box j l b s))).1 n (subst First count v),
    )
