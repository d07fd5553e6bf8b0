-- One call of a desk after another, as its callers compose them.
use Rattle.std.proofs.Common.{◌≡◌, List, ℕ, ◌++◌, refl, sym, ◌∙◌, ap, subst, append_assoc}
use Rattle.std.specs.Prelude.{Bool, Option, Some, None, option_map, IfSome, IsSomeAnd}
use Rattle.plan_desk.specs.Desk.{Shown, Input, Output, Fault, Faults, ShowsSame, after_take_in, after_say}
use Rattle.plan_desk.specs.Faults.{FailsOnce, OneFails, one_more, count_after}
use Rattle.plan_desk.specs.Contents.{WhereToldHolds, TellsSuch, Says, OnlyReads, KeepsFiles}

-- a piece was said
pub says_all : (text : List ℕ) (old new : Shown) → ShowsSame new (after_say text old) → Says text old new
says_all text old new said = said.said

-- a piece was said after a file was read
pub says_after_read : (name rest text : List ℕ) (old mid new : Shown) → ShowsSame mid (after_take_in name rest old)
    → ShowsSame new (after_say text mid) → Says text old new
says_after_read name rest text old mid new read said = said.said ∙ ap (option_map (λ xs. xs ++ text)) read.said

-- one text was said after another
pub says_more : (a b : List ℕ) (old mid new : Shown) → Says a old mid → Says b mid new → Says (a ++ b) old new
says_more a b old mid new first later = later ∙ ap (option_map (λ xs. xs ++ b)) first ∙ more old.said
  where
    more : (o : Option (List ℕ)) → option_map (λ xs. xs ++ b) (option_map (λ xs. xs ++ a) o)
        ≡ option_map (λ xs. xs ++ (a ++ b)) o
    more None = refl
    more (Some xs) = ap (λ (l : List ℕ). Some l) (append_assoc xs a b)

-- what a file holds after another was read, it held before
pub holds_before : (name rest other : List ℕ) (P : List ℕ → Type 0) (old mid : Shown)
    → ShowsSame mid (after_take_in name rest old) → WhereToldHolds mid other P → WhereToldHolds old other P
holds_before name rest other P old mid read holds =
    let files : WhereToldHolds (record mid { output = old.output }) other P =
    subst (λ (o : Output). WhereToldHolds (record mid { output = o }) other P) read.output holds in
    go old.input.unread
    (subst (λ (i : Input). IfSome i.unread (λ _. IfSome old.output.holds (λ held. IsSomeAnd (held other) P)))
    read.input files)
  where
    go : (unread : Option (List ℕ))
        → IfSome (option_map (λ _. rest) unread) (λ _. IfSome old.output.holds (λ held. IsSomeAnd (held other) P))
        → IfSome unread (λ _. IfSome old.output.holds (λ held. IsSomeAnd (held other) P))
    go None h = h
    go (Some xs) h = h

-- what a file is told to hold before another is read, it is told to hold after
pub tells_after : (name rest other : List ℕ) (P : List ℕ → Type 0) (old mid : Shown)
    → ShowsSame mid (after_take_in name rest old) → TellsSuch old other P → TellsSuch mid other P
tells_after name rest other P old mid read tells =
    let files : TellsSuch (record old { output = mid.output }) other P =
    subst (λ (o : Output). TellsSuch (record old { output = o }) other P) (sym read.output) tells in
    subst (λ (i : Input). IsSomeAnd i.unread (λ _. IsSomeAnd mid.output.holds (λ held. IsSomeAnd (held other) P)))
    (sym read.input) (go old.input.unread files)
  where
    go : (unread : Option (List ℕ))
        → IsSomeAnd unread (λ _. IsSomeAnd mid.output.holds (λ held. IsSomeAnd (held other) P))
        → IsSomeAnd (option_map (λ _. rest) unread) (λ _. IsSomeAnd mid.output.holds (λ held. IsSomeAnd (held other) P))
    go None h = h
    go (Some xs) h = h

-- where the bytes of a file are told to be such, they are also whatever is concluded of them
pub told_holds : (name : List ℕ) (P Q : List ℕ → Type 0) (s : Shown) → TellsSuch s name P → WhereToldHolds s name Q
    → (bytes : List ℕ) × P bytes × Q bytes
told_holds name P Q s tells holds = go s.input.unread s.output.holds tells holds
  where
    held_such : (held : Option (List ℕ)) → IsSomeAnd held P → IsSomeAnd held Q → (bytes : List ℕ) × P bytes × Q bytes
    held_such None p q = absurd p
    held_such (Some xs) p q = (xs, p, q)

    go : (unread : Option (List ℕ)) (files : Option (List ℕ → Option (List ℕ)))
        → IsSomeAnd unread (λ _. IsSomeAnd files (λ held. IsSomeAnd (held name) P))
        → IfSome unread (λ _. IfSome files (λ held. IsSomeAnd (held name) Q)) → (bytes : List ℕ) × P bytes × Q bytes
    go None files p q = absurd p
    go (Some xs) None p q = absurd p
    go (Some xs) (Some files) p q = held_such (files name) p q

-- nothing failed before the call that did, nor after it
pub one_since : {say : Bool} (old mid new : Shown) → mid.faults ≡ old.faults → OneFails say mid new
    → OneFails say old new
one_since {say = say} old mid new same one = record {
  count = one.count ∙ ap (λ f. one_more f.count) same;
  of_say = one.of_say ∙ ap (λ f. count_after say f.of_say) same;
}

pub fails_since : {say : Bool} {Own : Fault → Type 0} (old mid new : Shown) → mid.faults ≡ old.faults
    → FailsOnce say Own mid new → FailsOnce say Own old new
fails_since old mid new same fails = record { one = one_since old mid new same fails.one; own = fails.own }

pub one_until : {say : Bool} (old mid new : Shown) → new.faults ≡ mid.faults → OneFails say old mid
    → OneFails say old new
one_until old mid new same one = record {
  count = ap (λ f. f.count) same ∙ one.count;
  of_say = ap (λ f. f.of_say) same ∙ one.of_say;
}

pub fails_until : {say : Bool} {Own : Fault → Type 0} (old mid new : Shown) → new.faults ≡ mid.faults
    → FailsOnce say Own old mid → FailsOnce say Own old new
fails_until {Own = Own} old mid new same fails = record {
  one = one_until old mid new same fails.one;
  own = subst (λ (f : Faults). IfSome f.last Own) (sym same) fails.own;
}

-- nothing was done
pub reads_none : (s : Shown) → OnlyReads s s
reads_none s = record { output = refl; said = refl }

pub keeps_none : (s : Shown) → KeepsFiles s s
keeps_none s = refl

-- one such call was made after another
pub reads_more : (old mid new : Shown) → OnlyReads old mid → OnlyReads mid new → OnlyReads old new
reads_more old mid new first next = record {
  output = next.output ∙ first.output;
  said = next.said ∙ first.said;
}

pub keeps_more : (old mid new : Shown) → KeepsFiles old mid → KeepsFiles mid new → KeepsFiles old new
keeps_more old mid new first next = next ∙ first

-- a call that only reads writes no file
pub reads_keeps : (old new : Shown) → OnlyReads old new → KeepsFiles old new
reads_keeps old new reads = reads.output

-- what is said after a call that only reads is said since before it
pub says_after : (text : List ℕ) (old mid new : Shown) → OnlyReads old mid → Says text mid new → Says text old new
says_after text old mid new reads said = said ∙ ap (option_map (λ xs. xs ++ text)) reads.said
