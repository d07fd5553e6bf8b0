-- What was said, piece by piece.
use Rattle.std.proofs.Common.{◌≡◌, ◌≢◌, ℕ, ◌+◌, inl, inr, List, ◌++◌, length, take, Option, Some, None, refl, sym}
use Rattle.std.proofs.Common.{◌∙◌, ap, subst, arith, length-append, append_assoc}
use Rattle.std.specs.Prelude.{option_map}
use Rattle.std.proofs.Math.Seq.{take-append-add}
use Rattle.std.proofs.lemmas.List.{take-append-le}
use Rattle.plan_desk.specs.Desk.{Shown}
use Rattle.plan_desk.specs.Contents.{Says}
use Rattle.plan_desk.proofs.Composed.{fails_since}
use Rattle.command_frame.specs.declared.refusal.Refusal.{Refusal}
use Rattle.command_frame.specs.declared.refusal.Refusal.TheVariants as refusal
use Rattle.command_frame.specs.Refusals.{SaysSome, SaysOrFails, status_of}

-- what was said after something else
pub says_more : (a b : List ℕ) (old mid new : Shown) → Says a old mid → Says b mid new → Says (a ++ b) old new
says_more a b old mid new first second = go old.said mid.said new.said first second
  where
    go : (o m n : Option (List ℕ)) → m ≡ option_map (λ said. said ++ a) o → n ≡ option_map (λ said. said ++ b) m
        → n ≡ option_map (λ said. said ++ (a ++ b)) o
    go None m n e f = f ∙ ap (option_map (λ said. said ++ b)) e
    go (Some s) m n e f = f ∙ ap (option_map (λ said. said ++ b)) e ∙ ap Some (append_assoc s a b)

-- nothing was said before
pub says_before : (old mid new : Shown) (text : List ℕ) → mid.said ≡ old.said → Says text mid new → Says text old new
says_before old mid new text same says =
    subst (λ (o : Option (List ℕ)). new.said ≡ option_map (λ said. said ++ text) o) same says

-- saying a first part failed
pub some_first : (a b : List ℕ) (old new : Shown) (status : ℕ) → SaysSome a old new status
    → SaysSome (a ++ b) old new status
some_first a b old new status some =
    record {
      status_is = some.status_is;
      part = some.part;
      within = omega (arith, some.within, length-append a b);
      says = subst (λ (t : List ℕ). Says t old new)
          (sym (take-append-le some.part a b (omega (arith, some.within)))) some.says;
      fails = some.fails;
    }

-- a first part was said, and the rest was said or failed
pub some_more : (a b : List ℕ) (old mid new : Shown) (status : ℕ) → Says a old mid → mid.faults ≡ old.faults
    → SaysSome b mid new status → SaysSome (a ++ b) old new status
some_more a b old mid new status first same some =
    record {
      status_is = some.status_is;
      part = length a + some.part;
      within = omega (arith, some.within, length-append a b);
      says = subst (λ (t : List ℕ). Says t old new) (sym (take-append-add a b some.part))
          (says_more a (take some.part b) old mid new first some.says);
      fails = fails_since old mid new same some.fails;
    }

pub or_more : (a b : List ℕ) (old mid new : Shown) (due status : ℕ) → Says a old mid → mid.faults ≡ old.faults
    → SaysOrFails due b mid new status → SaysOrFails due (a ++ b) old new status
or_more a b old mid new due status first same (inl all) =
    inl (record { status_is = all.status_is; says = says_more a b old mid new first all.says; same = all.same ∙ same })
or_more a b old mid new due status first same (inr some) = inr (some_more a b old mid new status first same some)

-- of all refusals only that of a file that could not be read has status 7
pub other_status : (r : Refusal) → ((word : ℕ) → r ≡ refusal.Unread word → ⊥) → status_of r ≢ 7
other_status (refusal.Unread word) other e = other word refl
other_status refusal.LongInstance other e = grind (arith, e)
other_status (refusal.Instance fault) other e = grind (arith, e)
other_status refusal.LongPlan other e = grind (arith, e)
other_status (refusal.Plan fault) other e = grind (arith, e)
other_status refusal.LongScript other e = grind (arith, e)
other_status (refusal.Script fault) other e = grind (arith, e)
other_status refusal.LongCertificate other e = grind (arith, e)
other_status (refusal.Certificate fault) other e = grind (arith, e)
other_status refusal.Memory other e = grind (arith, e)
