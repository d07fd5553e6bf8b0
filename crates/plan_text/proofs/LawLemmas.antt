-- A text is read in one way: a line gives one start to one name, and a text has one plan or one first fault.
use Rattle.std.proofs.Common.{◌≡◌, ◌≢◌, ℕ, ◌-◌, ◌<◌, inl, inr, ⊎_elim, List, [], ◌++◌, length, take, slice_index}
use Rattle.std.proofs.Common.{slice_index_or, Option, Some, None, refl, sym, ◌∙◌, ap, subst, arith}
use Rattle.std.specs.List.{Contains}
use Rattle.std.specs.Char.{digit_value}
use Rattle.std.specs.Str.Parse.{digits_value}
use Rattle.std.proofs.lemmas.Bool.{cases_lt}
use Rattle.std.proofs.lemmas.List.{same_lists, get_or_default, length-append}
use Rattle.plan_text.specs.declared.fault.PlanFault.{PlanFault}
use Rattle.plan_text.specs.declared.fault.PlanFault.TheVariants.{BadLine, UnknownName, Twice, Memory}
use Rattle.plan_text.specs.Spelling.{lines_of, AreBlanks, Gives, Names, start_at, IsPlan}
use Rattle.plan_text.specs.FirstFault.{IsBadLine, HasUnknownName, IsRepeated, IsNamedIn, IsFaultless, AreFaultless}
use Rattle.plan_text.specs.FirstFault.{IsFirstAt, HasPlanFault}
use Rattle.plan_text.specs.Runs.{EndsInStart}
use Rattle.plan_text.proofs.RunLemmas.{same_runs}
use Rattle.plan_text.proofs.AnyLemmas.{any_take_place}
use Rattle.text_lines.proofs.DigitLemmas.{digits-each}
use Rattle.plan_text.proofs.GiveLemmas.{give_cut, GiveCut, blank_not_digit, first_of_front, digit_head, gap_head}

-- a text ends in one start
starts_once : (text : List ℕ) (s t : ℕ) → EndsInStart text s → EndsInStart text t → s ≡ t
starts_once text s t a b =
    let cut = same_runs (λ b. digit_value b < 10) a.digits a.rest b.digits b.rest (sym a.spelled ∙ b.spelled)
    (digits-each a.digits a.numeral.1) (digits-each b.digits b.numeral.1)
    (λ some h. blank_not_digit (slice_index a.rest 0) h (a.rest_blank 0 0 some))
    (λ some h. blank_not_digit (slice_index b.rest 0) h (b.rest_blank 0 0 some)) in
    sym a.value ∙ ap (digits_value 10) cut.0 ∙ b.value

-- a line gives one start to one name
pub gives_once : (line a b : List ℕ) (s t : ℕ) → Gives line a s → Gives line b t → (a ≡ b) × (s ≡ t)
gives_once line a b s t g h =
    let x : GiveCut line a g.gap (g.digits ++ g.rest) s = give_cut line a s g in
    let y : GiveCut line b h.gap (h.digits ++ h.rest) t = give_cut line b t h in
    let names = same_runs (λ b. b ≢ 32) a (g.gap ++ (g.digits ++ g.rest)) b (h.gap ++ (h.digits ++ h.rest))
    (sym x.spelled ∙ y.spelled) g.unbroken h.unbroken
    (λ some ne. ne (gap_head g.gap (g.digits ++ g.rest) g.some_gap g.gap_blank))
    (λ some ne. ne (gap_head h.gap (h.digits ++ h.rest) h.some_gap h.gap_blank)) in
    let texts = same_runs (λ b. b ≡ 32) g.gap (g.digits ++ g.rest) h.gap (h.digits ++ h.rest) names.1
    g.gap_blank h.gap_blank
    (λ some e. blank_not_digit (slice_index (g.digits ++ g.rest) 0) (digit_head g.digits g.rest g.numeral) e)
    (λ some e. blank_not_digit (slice_index (h.digits ++ h.rest) 0) (digit_head h.digits h.rest h.numeral) e) in
    (names.0, starts_once (g.digits ++ g.rest) s t x.ends (subst (λ xs. EndsInStart xs t) (sym texts.1) y.ends))

-- a line names one name
pub names_once : (line a b : List ℕ) → Names line a → Names line b → a ≡ b
names_once line a b (s, g) (t, h) = (gives_once line a b s t g h).0

-- a blank line gives nothing
pub blank_gives_nothing : (line name : List ℕ) (s : ℕ) → AreBlanks line → Gives line name s → ⊥
blank_gives_nothing line name s blank g =
    let cut : GiveCut line name g.gap (g.digits ++ g.rest) s = give_cut line name s g in
    let text : List ℕ = g.gap ++ (g.digits ++ g.rest) in
    let some : 0 < length line = omega (arith, ap length cut.spelled, length-append name text, g.some_name) in
    g.unbroken 0 0 g.some_name
    (sym (first_of_front name text g.some_name) ∙ sym (ap (λ xs. slice_index xs 0) cut.spelled) ∙ blank 0 0 some)

-- each fault of a line rules out that it has none
bad_excludes : (names earlier : List (List ℕ)) (line : List ℕ) → IsBadLine line → IsFaultless names earlier line → ⊥
bad_excludes names earlier line bad (inl blank) = bad.not_blank blank
bad_excludes names earlier line bad (inr new) = bad.gives_nothing new.name new.named

unknown_excludes : (names earlier : List (List ℕ)) (line : List ℕ) → HasUnknownName names line
    → IsFaultless names earlier line → ⊥
unknown_excludes names earlier line u (inl blank) = blank_gives_nothing line u.name u.named.0 blank u.named.1
unknown_excludes names earlier line u (inr new) =
    u.unknown (subst (λ name. Contains names name) (names_once line new.name u.name new.named u.named) new.known)

repeated_excludes : (names earlier : List (List ℕ)) (line : List ℕ) → IsRepeated names earlier line
    → IsFaultless names earlier line → ⊥
repeated_excludes names earlier line r (inl blank) = blank_gives_nothing line r.name r.named.0 blank r.named.1
repeated_excludes names earlier line r (inr new) =
    new.first (subst (λ name. IsNamedIn earlier name) (names_once line r.name new.name r.named new.named) r.before)

-- of two first faults none is earlier
not_earlier : (names lines : List (List ℕ)) (n m : ℕ) (F G : List (List ℕ) → List ℕ → Type 0)
    → ((earlier : List (List ℕ)) (line : List ℕ) → F earlier line → IsFaultless names earlier line → ⊥)
    → IsFirstAt names lines n F → IsFirstAt names lines m G → n < m → ⊥
not_earlier names lines n m F G excludes f g l =
    excludes (take (n - 1) lines) (slice_index_or lines (n - 1) []) f.here (g.before (n - 1) (omega (arith, f.some)))

-- two first faults stand on one line
same_line : (names lines : List (List ℕ)) (n m : ℕ) (F G : List (List ℕ) → List ℕ → Type 0)
    → ((earlier : List (List ℕ)) (line : List ℕ) → F earlier line → IsFaultless names earlier line → ⊥)
    → ((earlier : List (List ℕ)) (line : List ℕ) → G earlier line → IsFaultless names earlier line → ⊥)
    → IsFirstAt names lines n F → IsFirstAt names lines m G → n ≡ m
same_line names lines n m F G not_f not_g f g =
    ⊎_elim (λ l. absurd (not_earlier names lines n m F G not_f f g l))
    (λ h. ⊎_elim (λ l. absurd (not_earlier names lines m n G F not_g g f l)) (λ k. omega arith) (cases_lt m n))
    (cases_lt n m)

-- two faults that no line has both
never_both : (names lines : List (List ℕ)) (n m : ℕ) (F G : List (List ℕ) → List ℕ → Type 0)
    → ((earlier : List (List ℕ)) (line : List ℕ) → F earlier line → IsFaultless names earlier line → ⊥)
    → ((earlier : List (List ℕ)) (line : List ℕ) → G earlier line → IsFaultless names earlier line → ⊥)
    → ((earlier : List (List ℕ)) (line : List ℕ) → F earlier line → G earlier line → ⊥) → IsFirstAt names lines n F
    → IsFirstAt names lines m G → ⊥
never_both names lines n m F G not_f not_g apart f g =
    let e : n ≡ m = same_line names lines n m F G not_f not_g f g in
    apart (take (n - 1) lines) (slice_index_or lines (n - 1) []) f.here
    (subst (λ k. G (take (k - 1) lines) (slice_index_or lines (k - 1) [])) (sym e) g.here)

bad_or_unknown : (names earlier : List (List ℕ)) (line : List ℕ) → IsBadLine line → HasUnknownName names line → ⊥
bad_or_unknown names earlier line bad u = bad.gives_nothing u.name u.named

bad_or_repeated : (names earlier : List (List ℕ)) (line : List ℕ) → IsBadLine line → IsRepeated names earlier line → ⊥
bad_or_repeated names earlier line bad r = bad.gives_nothing r.name r.named

unknown_or_repeated : (names earlier : List (List ℕ)) (line : List ℕ) → HasUnknownName names line
    → IsRepeated names earlier line → ⊥
unknown_or_repeated names earlier line u r =
    u.unknown (subst (λ name. Contains names name) (names_once line r.name u.name r.named u.named) r.known)

-- a text has one first fault
pub one_fault : (names : List (List ℕ)) (text : List ℕ) (fault other : PlanFault) → HasPlanFault names text fault
    → HasPlanFault names text other → fault ≡ other
one_fault names text (BadLine n) (BadLine m) f g =
    ap BadLine (same_line names (lines_of text) n m _ _ (bad_excludes names) (bad_excludes names) f g)
one_fault names text (BadLine n) (UnknownName m) f g = absurd
    (never_both names (lines_of text) n m _ _ (bad_excludes names) (unknown_excludes names) (bad_or_unknown names) f g)
one_fault names text (BadLine n) (Twice m) f g = absurd (never_both names (lines_of text) n m _ _ (bad_excludes names)
    (repeated_excludes names) (bad_or_repeated names) f g)
one_fault names text (BadLine n) Memory f g = absurd g
one_fault names text (UnknownName n) (BadLine m) f g = absurd
    (never_both names (lines_of text) m n _ _ (bad_excludes names) (unknown_excludes names) (bad_or_unknown names) g f)
one_fault names text (UnknownName n) (UnknownName m) f g =
    ap UnknownName (same_line names (lines_of text) n m _ _ (unknown_excludes names) (unknown_excludes names) f g)
one_fault names text (UnknownName n) (Twice m) f g = absurd
    (never_both names (lines_of text) n m _ _ (unknown_excludes names) (repeated_excludes names)
    (unknown_or_repeated names) f g)
one_fault names text (UnknownName n) Memory f g = absurd g
one_fault names text (Twice n) (BadLine m) f g = absurd (never_both names (lines_of text) m n _ _ (bad_excludes names)
    (repeated_excludes names) (bad_or_repeated names) g f)
one_fault names text (Twice n) (UnknownName m) f g = absurd
    (never_both names (lines_of text) m n _ _ (unknown_excludes names) (repeated_excludes names)
    (unknown_or_repeated names) g f)
one_fault names text (Twice n) (Twice m) f g =
    ap Twice (same_line names (lines_of text) n m _ _ (repeated_excludes names) (repeated_excludes names) f g)
one_fault names text (Twice n) Memory f g = absurd g
one_fault names text Memory other f g = absurd f

-- each line of a text that spells a plan has no fault
plan_lines : (names : List (List ℕ)) (text : List ℕ) (plan : List (Option ℕ)) → IsPlan names text plan
    → AreFaultless names (lines_of text) (length (lines_of text))
plan_lines names text plan p k l =
    let lines : List (List ℕ) = lines_of text in
    ⊎_elim (λ blank. inl blank)
    (λ one. inr (record {
      name = one.0;
      named = one.1;
      known = one.2;
      first = λ h. let at = any_take_place (λ line. Names line one.0) lines k [] (omega arith) h in
          p.once at.0 k [] at.1 l (one.0, at.2, one.1);
    }))
    (p.told k [] l)

-- no text both spells a plan and has a fault
first_not_in_plan : (names : List (List ℕ)) (text : List ℕ) (plan : List (Option ℕ)) (n : ℕ) (F : List (List ℕ) → List ℕ
    → Type 0) → ((earlier : List (List ℕ)) (line : List ℕ) → F earlier line → IsFaultless names earlier line → ⊥)
    → IsPlan names text plan → IsFirstAt names (lines_of text) n F → ⊥
first_not_in_plan names text plan n F excludes p f = excludes (take (n - 1) (lines_of text))
    (slice_index_or (lines_of text) (n - 1) []) f.here
    (plan_lines names text plan p (n - 1) (omega (arith, f.some, f.within)))

pub not_both : (names : List (List ℕ)) (text : List ℕ) (plan : List (Option ℕ)) (fault : PlanFault)
    → IsPlan names text plan → HasPlanFault names text fault → ⊥
not_both names text plan (BadLine n) p f = first_not_in_plan names text plan n _ (bad_excludes names) p f
not_both names text plan (UnknownName n) p f = first_not_in_plan names text plan n _ (unknown_excludes names) p f
not_both names text plan (Twice n) p f = first_not_in_plan names text plan n _ (repeated_excludes names) p f
not_both names text plan Memory p f = f

-- where each start of one plan is one of the other, and the other way, they are the same
same_option : (a b : Option ℕ) → ((s : ℕ) → a ≡ Some s → b ≡ Some s) → ((s : ℕ) → b ≡ Some s → a ≡ Some s) → a ≡ b
same_option None None f g = refl
same_option None (Some t) f g = g t refl
same_option (Some s) b f g = sym (f s refl)

-- a text spells one plan
pub one_plan : (names : List (List ℕ)) (text : List ℕ) (plan other : List (Option ℕ)) → IsPlan names text plan
    → IsPlan names text other → plan ≡ other
one_plan names text plan other p q =
    let a = p.starts in
    let b = q.starts in
    same_lists plan other (omega (arith, a.each, b.each)) (λ k d l.
    get_or_default plan k d None l
    ∙ same_option (start_at plan k) (start_at other k) (λ s e. b.given k s (omega (arith, a.each)) (a.only k s e))
    (λ s e. a.given k s (omega (arith, a.each)) (b.only k s e))
    ∙ get_or_default other k None d (omega (arith, a.each, b.each)))
