-- A text spells a plan, or has a first fault.
use Rattle.std.proofs.Common.{◌≡◌, ℕ, zero, suc, ◌+◌, ◌-◌, ◌<◌, ◌≤◌, ◌⊎◌, inl, inr, ⊎_elim, List, [], ◌∷◌, length, take}
use Rattle.std.proofs.Common.{get_or, slice_index_or, Option, Some, None, refl, sym, ◌∙◌, ap, subst, arith}
use Rattle.std.specs.List.{All, AllPairs, Any, Contains}
use Rattle.std.proofs.lemmas.Bool.{cases_lt}
use Rattle.std.proofs.lemmas.List.{get_or-take, length-take-le, get_or_default}
use Rattle.plan_text.specs.declared.fault.PlanFault.{PlanFault}
use Rattle.plan_text.specs.declared.fault.PlanFault.TheVariants.{BadLine, UnknownName, Twice}
use Rattle.plan_text.specs.Spelling.{lines_of, AreBlanks, Gives, Names, NamesOneOf, NameTheSame, HasStarts, start_at}
use Rattle.plan_text.specs.Spelling.{IsPlan}
use Rattle.plan_text.specs.FirstFault.{IsBadLine, HasUnknownName, IsRepeated, IsFaultless, AreFaultless, IsFirstAt}
use Rattle.plan_text.specs.FirstFault.{HasPlanFault}
use Rattle.plan_text.specs.Laws.{TextsAreTold}
use Rattle.plan_text.proofs.LawLemmas.{gives_once, names_once, blank_gives_nothing}
use Rattle.plan_text.proofs.StepLemmas.{faultless_more}

-- an element at a place below is one of the first elements of a list
any_below : {X : Type 0} (P : X → Type 0) (xs : List X) (n k : ℕ) (d : X) → n ≤ length xs → k < n
    → P (get_or xs k d) → Any P (take n xs)
any_below P xs n k d within below p =
    let x = get_or xs k d in (
      k,
      x,
      omega (arith, length-take-le n xs within),
      get_or-take n xs k x below ∙ get_or_default xs k x d (omega arith),
      p,
    )

-- the start that some line gives to a name
abbrev IsGiven : List (List ℕ) → List ℕ → ℕ → Type 0
IsGiven lines name start = Any (λ line. Gives line name start) lines

-- the start of a name, if a line gives it one
record HasStart (lines : List (List ℕ)) (name : List ℕ) (start : Option ℕ) : Type 0 where
  given : (s : ℕ) → IsGiven lines name s → start ≡ Some s
  only : (s : ℕ) → start ≡ Some s → IsGiven lines name s

module _ (lines : List (List ℕ)) (once : AllPairs (λ line later. NameTheSame line later → ⊥) lines) where
  -- lines at two places name different names
  apart : (name : List ℕ) (j k : ℕ) → j < k → k < length lines → Names (get_or lines j []) name
      → Names (get_or lines k []) name → ⊥
  apart name j k jk kl a b = once j k [] jk kl (name, a, b)

  -- a name is given one start
  given_once : (name : List ℕ) (s t : ℕ) → IsGiven lines name s → IsGiven lines name t → s ≡ t
  given_once name s t (j, a, jl, ea, ga) (k, b, kl, eb, gb) =
      let at_j : Gives (get_or lines j []) name s =
      subst (λ line. Gives line name s) (sym (get_or_default lines j [] a jl ∙ ea)) ga in
      let at_k : Gives (get_or lines k []) name t =
      subst (λ line. Gives line name t) (sym (get_or_default lines k [] b kl ∙ eb)) gb in
      ⊎_elim (λ l. absurd (apart name j k l kl (s, at_j) (t, at_k)))
      (λ h. ⊎_elim (λ l. absurd (apart name k j l jl (t, at_k) (s, at_j)))
      (λ h2. let e : k ≡ j = omega (arith, h, h2) in
      (gives_once (get_or lines j []) name name s t at_j (subst (λ m. Gives (get_or lines m []) name t) e at_k)).1)
      (cases_lt k j))
      (cases_lt j k)

  -- each name has its start, or none
  starts_of_one : (name : List ℕ) → ((start : Option ℕ) → HasStart lines name start → ⊥) → ⊥
  starts_of_one name deny =
      let none : (s : ℕ) → IsGiven lines name s → ⊥ = λ s h. deny (Some s) (record {
        given = λ t g. ap Some (given_once name s t h g);
        only = λ t e. let same : s ≡ t = cc in subst (λ x. IsGiven lines name x) same h;
      }) in
      deny None (record { given = λ s h. absurd (none s h); only = λ s e. let clash : ⊥ = cc in absurd clash })

  -- names have their starts
  starts_of : (names : List (List ℕ)) → ((plan : List (Option ℕ)) → HasStarts names lines plan → ⊥) → ⊥
  starts_of [] deny = deny [] (record {
    each = refl;
    given = λ i start l h. absurd (omega (arith, l));
    only = λ i start e. let clash : ⊥ = cc in absurd clash;
  })
  starts_of (name ∷ names) deny =
      starts_of_one name (λ start h. starts_of names (λ plan hs. deny (start ∷ plan) (record {
        each = ap suc hs.each;
        given = given start plan h hs;
        only = only start plan h hs;
      })))
    where
      given : (start : Option ℕ) (plan : List (Option ℕ)) → HasStart lines name start → HasStarts names lines plan
          → (i s : ℕ) → i < length (name ∷ names) → IsGiven lines (slice_index_or (name ∷ names) i []) s
          → start_at (start ∷ plan) i ≡ Some s
      given start plan h hs zero s l g = h.given s g
      given start plan h hs (suc i) s l g = hs.given i s (omega (arith, l)) g

      only : (start : Option ℕ) (plan : List (Option ℕ)) → HasStart lines name start → HasStarts names lines plan
          → (i s : ℕ) → start_at (start ∷ plan) i ≡ Some s → IsGiven lines (slice_index_or (name ∷ names) i []) s
      only start plan h hs zero s e = h.only s e
      only start plan h hs (suc i) s e = hs.only i s e

module _ (names : List (List ℕ)) (text : List ℕ) (no_plan : (plan : List (Option ℕ)) → IsPlan names text plan → ⊥)
    (no_fault : (fault : PlanFault) → HasPlanFault names text fault → ⊥) where
  abbrev lines : List (List ℕ)
  lines = lines_of text

  -- the line behind n lines has a fault
  first : (n : ℕ) (F : List (List ℕ) → List ℕ → Type 0) → n < length lines → AreFaultless names lines n
      → F (take n lines) (slice_index_or lines n []) → IsFirstAt names lines (n + 1) F
  first n F l before here =
      let e : n ≡ n + 1 - 1 = omega arith in
      record {
        some = omega arith;
        within = omega (arith, l);
        before = subst (λ k. AreFaultless names lines k) e before;
        here = subst (λ k. F (take k lines) (slice_index_or lines k [])) e here;
      }

  -- the line behind n lines without a fault has none
  step : (n : ℕ) → n < length lines → AreFaultless names lines n
      → (IsFaultless names (take n lines) (slice_index_or lines n []) → ⊥) → ⊥
  step n l before deny = no_fault (BadLine (n + 1))
      (first n (λ earlier line. IsBadLine line) l before
      (record { not_blank = λ blank. deny (inl blank); gives_nothing = unnamed }))
    where
      unnamed : (name : List ℕ) → Names (slice_index_or lines n []) name → ⊥
      unnamed name h = no_fault (UnknownName (n + 1)) (first n (λ earlier line. HasUnknownName names line) l before
          (record { name = name; named = h; unknown = unknown }))
        where
          unknown : Contains names name → ⊥
          unknown known = deny (inr (record {
            name = name;
            named = h;
            known = known;
            first = λ again. no_fault (Twice (n + 1)) (first n (λ earlier line. IsRepeated names earlier line) l before
                (record { name = name; named = h; known = known; before = again }));
          }))

  -- no line has a fault
  faultless : (n : ℕ) → n ≤ length lines → (AreFaultless names lines n → ⊥) → ⊥
  faultless zero l deny = deny (λ k m. absurd (omega (arith, m)))
  faultless (suc n) l deny = faultless n (omega (arith, l)) (λ before. step n (omega (arith, l)) before (λ here.
      let e : n + 1 ≡ suc n = omega arith in
      deny (subst (λ k. AreFaultless names lines k) e (faultless_more names lines n before here))))

  -- lines without a fault
  module _ (all : AreFaultless names lines (length lines)) where
    once : AllPairs (λ line later. NameTheSame line later → ⊥) lines
    once j k d below l (name, a, b) =
        let line : List ℕ = slice_index_or lines k [] in
        let at : Names line name = subst (λ x. Names x name) (get_or_default lines k d [] l) b in
        let before : Names (get_or lines j []) name =
        subst (λ x. Names x name) (get_or_default lines j d [] (omega arith)) a in
        ⊎_elim (λ blank. blank_gives_nothing line name at.0 blank at.1)
        (λ new. let same : name ≡ new.name = names_once line name new.name at new.named in
        new.first (any_below (λ x. Names x new.name) lines k j [] (omega (arith, l)) below
        (subst (λ x. Names (get_or lines j []) x) same before)))
        (all k l)

    told : All (λ line. AreBlanks line ⊎ NamesOneOf names line) lines
    told k d l = subst (λ line. AreBlanks line ⊎ NamesOneOf names line) (get_or_default lines k [] d l)
        (⊎_elim (λ blank. inl blank) (λ new. inr (new.name, new.named, new.known)) (all k l))

    spelled : ⊥
    spelled =
        starts_of lines once names (λ plan starts. no_plan plan (record { told = told; once = once; starts = starts }))

  is_told : ⊥
  is_told = faultless (length lines) (omega arith) (λ all. spelled all)

pub texts_are_told : TextsAreTold
texts_are_told names text no_plan no_fault = is_told names text no_plan no_fault
