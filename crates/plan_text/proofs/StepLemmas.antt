-- What is known after one more line.
use Rattle.std.proofs.Common.{◌≡◌, ◌≢◌, ℕ, ◌+◌, ◌-◌, ◌<◌, ◌≤◌, ◌⊎◌, inl, inr, ⊎_elim, List, [], ◌∷◌, length, take, drop}
use Rattle.std.proofs.Common.{get_or, replicate, map, slice_index_or, Option, Some, None, true, refl, sym, ◌∙◌, ap}
use Rattle.std.proofs.Common.{subst, arith}
use Rattle.std.specs.List.{AllPairs}
use Rattle.std.specs.Option.{is_some}
use Rattle.std.specs.Str.Lines.{strip_carriage_return}
use Rattle.std.proofs.lemmas.Bool.{cases_lt, cases_eq}
use Rattle.std.proofs.lemmas.List.{get_or-set_same, get_or-set_other, length-set, get_or-replicate, length-replicate}
use Rattle.std.proofs.lemmas.List.{get_or_past, length-drop, take_all, get_or_default, get_or-take, length-take-le}
use Rattle.std.proofs.lemmas.List.{nil_from_length}
use Rattle.std.proofs.lemmas.List.Elements.{Contains-get_or}
use Rattle.text_lines.specs.Lines as text_lines
use Rattle.text_lines.proofs.NameLemmas.{same_place}
use Rattle.plan_text.specs.declared.fault.PlanFault.{PlanFault}
use Rattle.plan_text.specs.declared.fault.PlanFault.TheVariants.{BadLine, UnknownName, Twice, Memory}
use Rattle.plan_text.specs.Spelling.{lines_of, AreBlanks, Gives, Names, NamesOneOf, HasStarts, start_at, IsPlan}
use Rattle.plan_text.specs.FirstFault.{IsRepeated, IsNamedIn, IsFaultless, AreFaultless, IsFirstAt, HasPlanFault}
use Rattle.plan_text.specs.Steps.{SetsStart, Enters, IsTaken, Refuses, HasRead}
use Rattle.plan_text.proofs.AnyLemmas.{any_take_more, any_take_here, any_take_cases}
use Rattle.plan_text.proofs.LawLemmas.{gives_once, names_once, blank_gives_nothing}

-- before the first line no name has a start
pub none_read : (names lines : List (List ℕ)) (starts : List (Option ℕ)) → starts ≡ replicate (length names) None
    → HasRead names lines 0 starts
none_read names lines starts e = record {
  within = omega arith;
  faultless = λ k l. absurd (omega (arith, l));
  starts = record {
    each = ap length e ∙ length-replicate (length names) None;
    given = λ i start l h. absurd (omega (arith, h.2));
    only = λ i start h. absurd (no_start_yet i start h);
  };
} where
  no_start_yet : (i start : ℕ) → start_at starts i ≡ Some start → ⊥
  no_start_yet i start h =
      ⊎_elim (λ l. let none : start_at starts i ≡ None =
      ap (λ xs. start_at xs i) e ∙ get_or-replicate (length names) i None None l in cc)
      (λ past. let none : start_at starts i ≡ None =
      get_or_past starts i None (omega (arith, ap length e, length-replicate {A = Option ℕ} (length names) None)) in
      cc)
      (cases_lt i (length names))

-- one line more has no fault
pub faultless_more : (names lines : List (List ℕ)) (n : ℕ) → AreFaultless names lines n
    → IsFaultless names (take n lines) (slice_index_or lines n []) → AreFaultless names lines (n + 1)
faultless_more names lines n before here k l =
    ⊎_elim (λ below. before k below)
    (λ past. let e : n ≡ k = omega (arith, l) in
    subst (λ m. IsFaultless names (take m lines) (slice_index_or lines m [])) e here)
    (cases_lt k n)

-- a blank line
blank_read : (names lines : List (List ℕ)) (n : ℕ) (old : List (Option ℕ)) → HasRead names lines n old
    → n < length lines → AreBlanks (slice_index_or lines n []) → HasRead names lines (n + 1) old
blank_read names lines n old r l blank =
    let gives : ℕ → ℕ → List ℕ → Type 0 = λ i start line. Gives line (slice_index_or names i []) start in
    record {
      within = omega arith;
      faultless = faultless_more names lines n r.faultless (inl blank);
      starts = record {
        each = r.starts.each;
        given = λ i start place h. ⊎_elim (λ front. r.starts.given i start place front)
            (λ g. absurd (blank_gives_nothing (slice_index_or lines n []) (slice_index_or names i []) start blank g))
            (any_take_cases (gives i start) lines n [] l h);
        only = λ i start h. any_take_more (gives i start) lines n [] l (r.starts.only i start h);
      };
    }

-- two starts that are the same as answers are the same
pub some_same : {a b : ℕ} → Some a ≡ Some b → a ≡ b
some_same h = cc

-- a line that gives a start to a name that has none
given_read : (names lines : List (List ℕ)) (n : ℕ) (old new : List (Option ℕ)) → AllPairs (λ a b. a ≢ b) names
    → HasRead names lines n old → n < length lines → SetsStart names (slice_index_or lines n []) old new
    → HasRead names lines (n + 1) new
given_read names lines n old new apart r l s =
    let line : List ℕ = slice_index_or lines n [] in
    let name : List ℕ = slice_index_or names s.i [] in
    let gives : ℕ → ℕ → List ℕ → Type 0 = λ j start line. Gives line (slice_index_or names j []) start in
    let place : s.i < length old = omega (arith, r.starts.each, s.given.place) in
    let first : IsNamedIn (take n lines) name → ⊥ = λ h.
    let had : start_at old s.i ≡ Some h.4.0 = r.starts.given s.i h.4.0 s.given.place (h.0, h.1, h.2, h.3, h.4.1) in
    let free = s.free in cc in
    let here : start_at new s.i ≡ Some s.start =
    ap (λ xs. start_at xs s.i) s.set ∙ get_or-set_same old s.i (Some s.start) None place in
    let other : (j : ℕ) → j ≢ s.i → start_at new j ≡ start_at old j =
    λ j ne. ap (λ xs. start_at xs j) s.set ∙ get_or-set_other old s.i j (Some s.start) None ne in
    record {
      within = omega arith;
      faultless = faultless_more names lines n r.faultless
          (inr (record {
            name = name;
            named = (s.start, s.given.gives);
            known = Contains-get_or names s.i [] s.given.place;
            first = first;
          }));
      starts = record {
        each = ap length s.set ∙ length-set old s.i (Some s.start) ∙ r.starts.each;
        given = λ j start lj h. ⊎_elim
            (λ front. let had : start_at old j ≡ Some start = r.starts.given j start lj front in
            let ne : j ≢ s.i = λ e. let free : start_at old j ≡ None = ap (start_at old) e ∙ s.free in cc in
            other j ne ∙ had)
            (λ g. let both = gives_once line (slice_index_or names j []) name start s.start g s.given.gives in
            let e : j ≡ s.i = same_place names j s.i apart lj s.given.place both.0 in
            ap (start_at new) e ∙ here ∙ ap Some (sym both.1))
            (any_take_cases (gives j start) lines n [] l h);
        only = λ j start h. ⊎_elim
            (λ e. let same : s.start ≡ start = some_same (sym here ∙ ap (start_at new) (sym e) ∙ h) in
            any_take_here (gives j start) lines n [] l (subst (λ x. Gives line (slice_index_or names j []) x) same
            (subst (λ k. Gives line (slice_index_or names k []) s.start) (sym e) s.given.gives)))
            (λ ne. any_take_more (gives j start) lines n [] l (r.starts.only j start (sym (other j ne) ∙ h)))
            (cases_eq j s.i);
      };
    }

-- one more line was read
pub read_more : (names lines : List (List ℕ)) (n : ℕ) (old new : List (Option ℕ)) → AllPairs (λ a b. a ≢ b) names
    → HasRead names lines n old → n < length lines → Enters names (slice_index_or lines n []) old new
    → HasRead names lines (n + 1) new
read_more names lines n old new apart r l (inl blank) =
    subst (λ xs. HasRead names lines (n + 1) xs) (sym blank.1) (blank_read names lines n old r l blank.0)
read_more names lines n old new apart r l (inr sets) = given_read names lines n old new apart r l sets

-- a line that is refused after others is the first with a fault
first_at : (names lines : List (List ℕ)) (n m : ℕ) (old : List (Option ℕ)) (F : List (List ℕ) → List ℕ → Type 0)
    → HasRead names lines n old → n < length lines → m ≡ n + 1 → F (take n lines) (slice_index_or lines n [])
    → IsFirstAt names lines m F
first_at names lines n m old F r l e here =
    let at : n ≡ m - 1 = omega (arith, e) in
    record {
      some = omega (arith, e);
      within = omega (arith, e, l);
      before = subst (λ k. AreFaultless names lines k) at r.faultless;
      here = subst (λ k. F (take k lines) (slice_index_or lines k [])) at here;
    }

repeated_at : (names lines : List (List ℕ)) (n : ℕ) (line : List ℕ) (old : List (Option ℕ)) → HasRead names lines n old
    → IsTaken names line old → IsRepeated names (take n lines) line
repeated_at names lines n line old r t =
    let h = r.starts.only t.i t.had t.taken in
    record {
      name = slice_index_or names t.i [];
      named = (t.start, t.given.gives);
      known = Contains-get_or names t.i [] t.given.place;
      before = (h.0, h.1, h.2, h.3, (t.had, h.4));
    }

pub refused_first : (names : List (List ℕ)) (text : List ℕ) (n : ℕ) (old : List (Option ℕ)) (fault : PlanFault)
    → HasRead names (lines_of text) n old → n < length (lines_of text)
    → Refuses names (slice_index_or (lines_of text) n []) old (n + 1) fault → HasPlanFault names text fault
refused_first names text n old (BadLine m) r l h = first_at names (lines_of text) n m old _ r l h.0 h.1
refused_first names text n old (UnknownName m) r l h = first_at names (lines_of text) n m old _ r l h.0 h.1
refused_first names text n old (Twice m) r l h = first_at names (lines_of text) n m old _ r l h.0
    (repeated_at names (lines_of text) n (slice_index_or (lines_of text) n []) old r h.1)
refused_first names text n old Memory r l h = h

-- all lines were read
pub read_whole : (names : List (List ℕ)) (text : List ℕ) (n : ℕ) (plan : List (Option ℕ))
    → HasRead names (lines_of text) n plan → length (lines_of text) ≤ n → IsPlan names text plan
read_whole names text n plan r all =
    let lines : List (List ℕ) = lines_of text in
    let whole : take n lines ≡ lines = take_all n lines all in
    let line_ok : (k : ℕ) → k < length lines → IsFaultless names (take k lines) (slice_index_or lines k []) =
    λ k l. r.faultless k (omega (arith, all, l)) in
    record {
      told = λ k d l. subst (λ line. AreBlanks line ⊎ NamesOneOf names line) (get_or_default lines k [] d l)
          (⊎_elim (λ blank. inl blank) (λ new. inr (new.name, new.named, new.known)) (line_ok k l));
      once = λ i j d l lj both.
          let li : i < length lines = omega (arith, l, lj) in
          let a : Names (slice_index_or lines i []) both.0 =
          subst (λ line. Names line both.0) (get_or_default lines i d [] li) both.1 in
          let b : Names (slice_index_or lines j []) both.0 =
          subst (λ line. Names line both.0) (get_or_default lines j d [] lj) both.2 in
          ⊎_elim (λ blank. blank_gives_nothing (slice_index_or lines j []) both.0 b.0 blank b.1)
          (λ new. new.first (
            i,
            slice_index_or lines i [],
            omega (arith, length-take-le j lines (omega arith)),
            get_or-take j lines i (slice_index_or lines i []) l
                ∙ get_or_default lines i (slice_index_or lines i []) [] li,
            subst
                (λ name. Names (slice_index_or lines i []) name)
                (names_once (slice_index_or lines j []) both.0 new.name b new.named) a,
          ))
          (line_ok j lj);
      starts = subst (λ xs. HasStarts names xs plan) whole r.starts;
    }

-- a text whose first line is cut off and loses its carriage return
pub line_cut : (text line kept rest : List ℕ) → text_lines.lines_of text ≡ line ∷ text_lines.lines_of rest
    → kept ≡ strip_carriage_return line → lines_of text ≡ kept ∷ lines_of rest
line_cut text line kept rest e k = ap (map strip_carriage_return) e ∙ ap (λ x. x ∷ lines_of rest) (sym k)

-- some lines of the text were read, and this is left of it
pub record ReadSoFar (names : List (List ℕ)) (text : List ℕ) (n : ℕ) (rest : List ℕ)
    (plan : List (Option ℕ)) : Type 0 where
  pub read : HasRead names (lines_of text) n plan
  pub left : drop n (lines_of text) ≡ lines_of rest
  pub few : n + length rest ≤ length text

-- a place that was read and shows a start has one
some_start : (o : Option ℕ) → is_some o ≡ true → (start : ℕ) × (o ≡ Some start)
some_start None e = cc
some_start (Some start) e = (start, refl)

pub taken_at : (plan : List (Option ℕ)) (i : ℕ) (o : Option ℕ) → o ≡ get_or plan i o → i < length plan
    → is_some o ≡ true → (had : ℕ) × (start_at plan i ≡ Some had)
taken_at plan i o e l t =
    let some = some_start o t in
    (some.0, get_or_default plan i None o l ∙ sym e ∙ some.1)

-- nothing is left of the text
pub nothing_left : (names : List (List ℕ)) (text : List ℕ) (n : ℕ) (rest : List ℕ) (plan : List (Option ℕ))
    → ReadSoFar names text n rest plan → length rest ≡ 0 → IsPlan names text plan
nothing_left names text n rest plan r e =
    let none : drop n (lines_of text) ≡ [] = r.left ∙ ap lines_of (nil_from_length rest e) in
    read_whole names text n plan r.read (omega (arith, length-drop n (lines_of text), ap length none))
