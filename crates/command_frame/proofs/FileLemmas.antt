-- Files as they are met: what carries over from one way to another, and what is answered where files are told.
use Rattle.std.proofs.Common.{◌≡◌, ℕ, ◌⊎◌, inl, inr, List, [], Option, Some, None, refl, sym, ◌∙◌, ap, subst}
use Rattle.std.proofs.Common.{arith}
use Rattle.std.specs.Prelude.{⊤, option_map}
use Rattle.plan_desk.specs.Desk.{Shown, ShowsSame, after_take_in}
use Rattle.plan_desk.specs.Faults.{one_more}
use Rattle.plan_desk.specs.Contents.{WhereToldHolds, TellsSuch, Says}
use Rattle.plan_desk.proofs.Composed.{fails_since, fails_until}
use Rattle.instance_model.specs.declared.limits.Limits.{Limits}
use Rattle.instance_model.specs.Tables.{Tables}
use Rattle.command_frame.specs.Ending.{Answer, IsOneAnswer, NoFault}
use Rattle.command_frame.specs.Bytes.{Spells, RefusesPlan}
use Rattle.command_frame.specs.Files.{Meeting, reading, by_bytes, OnFile, OnGiven, ReadsSuch, SaysRefusal}
use Rattle.command_frame.specs.Files.{TellsMissing, TellsBytes, TellsGivenBytes, ReadsBytes}
use Rattle.command_frame.specs.Files.OnFile.{unread, refused, stands}
use Rattle.command_frame.specs.Refusals.{AfterGiven}
use Rattle.command_frame.proofs.ToldLemmas.{told_missing, told_before, read_such}

-- ---- from one way of meeting files to another

-- a file that is met so is also met in another way
pub record Carries (met : Meeting) (name : List ℕ) (other : Meeting) (also : List ℕ) : Type 0 where
  pub fails : met.fails name → other.fails also
  pub holds : (bytes : List ℕ) → met.holds name bytes → other.holds also bytes

pub on_other : {A : Type 0} (met other : Meeting) (word : ℕ) (name also : List ℕ) (R : List ℕ → Answer → Type 0)
    (S : List ℕ → A → Type 0)
    (Next Then : A → Answer → Type 0)
    (a : Answer) → Carries met name other also → ((x : A) (b : Answer) → Next x b → Then x b)
    → OnFile met word name R S Next a → OnFile other word also R S Then a
on_other met other word name also R S Next Then a c f (unread fails) = unread (c.fails fails)
on_other met other word name also R S Next Then a c f (refused bytes b held is) =
    refused bytes b (c.holds bytes held) is
on_other met other word name also R S Next Then a c f (stands bytes x b held is next) =
    stands bytes x b (c.holds bytes held) is (f x b next)

-- the same of a file that may be left out
abbrev pub CarriesGiven : Meeting → Option (List ℕ) → Meeting → Option (List ℕ) → Type 0
CarriesGiven met None other None = ⊤
CarriesGiven met (Some name) other (Some also) = Carries met name other also
CarriesGiven _ _ _ _ = ⊥

pub on_given_other : (limits : Limits) (inst : Tables) (met other : Meeting) (word : ℕ) (name also : Option (List ℕ))
    (Next Then : Option (List (Option ℕ)) → Answer → Type 0) (a : Answer) → CarriesGiven met name other also
    → ((x : Option (List (Option ℕ))) (b : Answer) → Next x b → Then x b) → OnGiven limits inst met word name Next a
    → OnGiven limits inst other word also Then a
on_given_other limits inst met other word None None Next Then a c f due = f None a due
on_given_other limits inst met other word None (Some also) Next Then a c f due = absurd c
on_given_other limits inst met other word (Some name) None Next Then a c f due = absurd c
on_given_other limits inst met other word (Some name) (Some also) Next Then a c f due =
    on_other met other word name also (RefusesPlan limits inst) (Spells limits inst) (λ p. Next (Some p))
    (λ p. Then (Some p)) a c (λ p. f (Some p)) due

-- ---- while the desk goes on

-- no call failed between these two
abbrev pub Goes : (mid new : Shown) → Type 0
Goes mid new = new.faults ≡ mid.faults

pub later_reading : (name : List ℕ) (old mid new : Shown) → Goes mid new
    → Carries (reading old mid) name (reading old new) name
later_reading name old mid new goes =
    record { fails = λ fails. fails_until old mid new goes fails; holds = λ bytes held. held }

pub later_given : (name : Option (List ℕ)) (old mid new : Shown) → Goes mid new
    → CarriesGiven (reading old mid) name (reading old new) name
later_given None old mid new goes = tt
later_given (Some name) old mid new goes = later_reading name old mid new goes

-- a file was read to its end, and no other thing was changed
pub record IsRead (old mid : Shown) : Type 0 where
  pub unread : mid.input.unread ≡ option_map (λ _. []) old.input.unread
  pub output : mid.output ≡ old.output
  pub same : mid.faults ≡ old.faults

pub is_read : (name : List ℕ) (old mid : Shown) → ShowsSame mid (after_take_in name [] old) → mid.faults ≡ old.faults
    → IsRead old mid
is_read name old mid shows same =
    record { unread = ap (λ i. i.unread) shows.input; output = shows.output; same = same }

abbrev none_left : List ℕ → List ℕ
none_left bytes = []

left_once : (o : Option (List ℕ)) → option_map none_left (option_map none_left o) ≡ option_map none_left o
left_once None = refl
left_once (Some x) = refl

pub read_both : (old mid last : Shown) → IsRead old mid → IsRead mid last → IsRead old last
read_both old mid last first second =
    record {
      unread = second.unread ∙ ap (option_map none_left) first.unread ∙ left_once old.input.unread;
      output = second.output ∙ first.output;
      same = second.same ∙ first.same;
    }

-- the instance was read, and then the plan, if one is given
pub read_given : (name : Option (List ℕ)) (old mid last : Shown) → IsRead old mid → last.faults ≡ mid.faults
    → AfterGiven name mid last → IsRead old last
read_given None old mid last read same after = subst (IsRead old) (sym after) read
read_given (Some name) old mid last read same after = read_both old mid last read (is_read name mid last after same)

held_before : (old mid : Shown) (name : List ℕ) (P : List ℕ → Type 0) → IsRead old mid → WhereToldHolds mid name P
    → WhereToldHolds old name P
held_before old mid name P read held = told_before old mid name P read.unread read.output held

-- a file that is read after others
pub before_reading : (name : List ℕ) (old mid new : Shown) → IsRead old mid
    → Carries (reading mid new) name (reading old new) name
before_reading name old mid new read =
    record {
      fails = λ fails. fails_since old mid new read.same fails;
      holds = λ bytes held. held_before old mid name (λ h. h ≡ bytes) read held;
    }

pub before_given : (name : Option (List ℕ)) (old mid new : Shown) → IsRead old mid
    → CarriesGiven (reading mid new) name (reading old new) name
before_given None old mid new read = tt
before_given (Some name) old mid new read = before_reading name old mid new read

pub reads_before : (name : List ℕ) (old mid : Shown) (P : List ℕ → Type 0) → IsRead old mid → ReadsSuch name mid P
    → ReadsSuch name old P
reads_before name old mid P read reads =
    record {
      bytes = reads.bytes;
      held = held_before old mid name (λ h. h ≡ reads.bytes) read reads.held;
      such = reads.such;
    }

-- ---- where files are told

-- a count below its last value is not one more than itself
pub none_failed : (old new : Shown) → NoFault old new → new.faults.count ≡ one_more old.faults.count → ⊥
none_failed old new calm one = omega (arith, calm.same, calm.below, one)

-- without a fault, a file whose bytes are told is met as these bytes
pub exact_reading : (name bytes : List ℕ) (old new : Shown) → TellsBytes old name bytes → NoFault old new
    → Carries (reading old new) name by_bytes bytes
exact_reading name bytes old new tells calm =
    record {
      fails = λ fails. none_failed old new calm fails.one.count;
      holds = λ b held. sym (read_such old name b (λ c. c ≡ bytes) held tells);
    }

pub exact_given : (name bytes : Option (List ℕ)) (old new : Shown) → TellsGivenBytes old name bytes → NoFault old new
    → CarriesGiven (reading old new) name by_bytes bytes
exact_given None None old new tells calm = tt
exact_given None (Some bytes) old new tells calm = tells
exact_given (Some name) None old new tells calm = tells
exact_given (Some name) (Some bytes) old new tells calm = exact_reading name bytes old new tells calm

-- the status is this one, or a file could not be read
abbrev pub OrUnread : ℕ → Answer → Type 0
OrUnread expected a = (a.status ≡ 7) ⊎ (a.status ≡ expected)

pub missing_file : {A : Type 0} (word : ℕ) (name : List ℕ) (old new : Shown) (R : List ℕ → Answer → Type 0)
    (S : List ℕ → A → Type 0)
    (Next : A → Answer → Type 0) (a : Answer) → TellsMissing old name → OnFile (reading old new) word name R S Next a
    → a.status ≡ 7
missing_file word name old new R S Next a missing (unread fails) = refl
missing_file word name old new R S Next a missing (refused bytes b held is) =
    absurd (told_missing old name (λ h. h ≡ bytes) missing held)
missing_file word name old new R S Next a missing (stands bytes x b held is next) =
    absurd (told_missing old name (λ h. h ≡ bytes) missing held)

pub refused_file : {A : Type 0} (word : ℕ) (name : List ℕ) (old new : Shown) (R : List ℕ → Answer → Type 0)
    (S : List ℕ → A → Type 0)
    (Next : A → Answer → Type 0) (a : Answer) (P : List ℕ → Type 0) (expected : ℕ) → TellsSuch old name P
    → ((bytes : List ℕ) (x : A) → S bytes x → P bytes → ⊥)
    → ((bytes : List ℕ) (b : Answer) → R bytes b → b.status ≡ expected)
    → OnFile (reading old new) word name R S Next a → OrUnread expected a
refused_file word name old new R S Next a P expected tells apart status (unread fails) = inl refl
refused_file word name old new R S Next a P expected tells apart status (refused bytes b held is) =
    inr (status bytes b is)
refused_file word name old new R S Next a P expected tells apart status (stands bytes x b held is next) =
    absurd (apart bytes x is (read_such old name bytes P held tells))

-- where it is told what the bytes stand for, the answer is the next one for that
pub told_file : {A : Type 0} (word : ℕ) (name : List ℕ) (old new : Shown) (R : List ℕ → Answer → Type 0)
    (S : List ℕ → A → Type 0)
    (Next : A → Answer → Type 0) (a : Answer) (P : List ℕ → Type 0) (x : A) → TellsSuch old name P
    → ((bytes : List ℕ) (b : Answer) → P bytes → R bytes b → ⊥)
    → ((bytes : List ℕ) (y : A) → P bytes → S bytes y → y ≡ x)
    → OnFile (reading old new) word name R S Next a → (a.status ≡ 7) ⊎ Next x a
told_file word name old new R S Next a P x tells apart same (unread fails) = inl refl
told_file word name old new R S Next a P x tells apart same (refused bytes b held is) =
    absurd (apart bytes b (read_such old name bytes P held tells) is)
told_file {A = A} word name old new R S Next a P x tells apart same (stands bytes y b held is next) =
    inr (subst (λ (z : A). Next z b) (same bytes y (read_such old name bytes P held tells) is) next)

-- what follows of the next answer
pub then_next : (P : Type 0) (expected : ℕ) (a : Answer) → (P → OrUnread expected a) → (a.status ≡ 7) ⊎ P
    → OrUnread expected a
then_next P expected a f (inl e) = inl e
then_next P expected a f (inr p) = f p

pub then_more : (P Q : Type 0) (a : Answer) → (P → (a.status ≡ 7) ⊎ Q) → (a.status ≡ 7) ⊎ P → (a.status ≡ 7) ⊎ Q
then_more P Q a f (inl e) = inl e
then_more P Q a f (inr p) = f p

-- ---- bytes have one answer

pub one_of_file : {A : Type 0} (word : ℕ) (bytes : List ℕ) (R : List ℕ → Answer → Type 0) (S : List ℕ → A → Type 0)
    (Next : A → Answer → Type 0)
    → IsOneAnswer (R bytes) → ((x y : A) → S bytes x → S bytes y → y ≡ x)
    → ((x : A) (a : Answer) → S bytes x → R bytes a → ⊥)
    → ((x : A) → IsOneAnswer (Next x)) → IsOneAnswer (OnFile by_bytes word bytes R S Next)
one_of_file word bytes R S Next once same apart next a b (unread f) other = absurd f
one_of_file word bytes R S Next once same apart next a b (refused xs c held is) (unread f) = absurd f
one_of_file word bytes R S Next once same apart next a b (refused xs c held is) (refused ys d also too) =
    once c d (subst (λ (z : List ℕ). R z c) (sym held) is) (subst (λ (z : List ℕ). R z d) (sym also) too)
one_of_file word bytes R S Next once same apart next a b (refused xs c held is) (stands ys y d also s n) =
    absurd (apart y c (subst (λ (z : List ℕ). S z y) (sym also) s) (subst (λ (z : List ℕ). R z c) (sym held) is))
one_of_file word bytes R S Next once same apart next a b (stands xs x c held s n) (unread f) = absurd f
one_of_file word bytes R S Next once same apart next a b (stands xs x c held s n) (refused ys d also too) =
    absurd (apart x d (subst (λ (z : List ℕ). S z x) (sym held) s) (subst (λ (z : List ℕ). R z d) (sym also) too))
one_of_file {A = A} word bytes R S Next once same apart next a b (stands xs x c held s n) (stands ys y d also t m) =
    next x c d n
    (subst (λ (z : A). Next z d)
    (same x y (subst (λ (w : List ℕ). S w x) (sym held) s) (subst (λ (w : List ℕ). S w y) (sym also) t)) m)

-- ---- what was said of a file

pub say_refusal : (name : List ℕ) (R : List ℕ → Answer → Type 0) (old new : Shown) (bytes : List ℕ) (a : Answer)
    → ReadsBytes name old bytes
    → R bytes a → Says a.text old new → SaysRefusal name R old new
say_refusal name R old new bytes a held is says =
    record { answer = a; refused = record { bytes = bytes; held = held; such = is }; says = says }
