-- What is told of the files of a desk.
use Rattle.std.proofs.Common.{◌≡◌, ℕ, suc, ◌<◌, List, [], length, Option, Some, None, refl, subst, arith}
use Rattle.std.specs.Prelude.{replicate}
use Rattle.std.proofs.lemmas.List.{length-replicate}
use Rattle.std.specs.Prelude.{IfSome, IsSomeAnd, option_map}
use Rattle.plan_desk.specs.Desk.{Shown, Output}
use Rattle.plan_desk.specs.Contents.{WhereToldHolds, TellsSuch}
use Rattle.command_frame.specs.Files.{ReadsBytes, TellsMissing}

some_both : (o : Option (List ℕ)) (P Q : List ℕ → Type 0) → IsSomeAnd o P → IsSomeAnd o Q → (b : List ℕ) × P b × Q b
some_both None P Q p q = absurd p
some_both (Some b) P Q p q = (b, p, q)

-- the bytes that are told are such in both ways
pub told_both : (s : Shown) (name : List ℕ) (P Q : List ℕ → Type 0) → TellsSuch s name P → WhereToldHolds s name Q
    → (b : List ℕ) × P b × Q b
told_both s name P Q p q = go s.input.unread s.output.holds p q
  where
    go : (u : Option (List ℕ)) (h : Option (List ℕ → Option (List ℕ)))
        → IsSomeAnd u (λ _. IsSomeAnd h (λ holds. IsSomeAnd (holds name) P))
        → IfSome u (λ _. IfSome h (λ holds. IsSomeAnd (holds name) Q)) → (b : List ℕ) × P b × Q b
    go None h p q = absurd p
    go (Some u) None p q = absurd p
    go (Some u) (Some holds) p q = some_both (holds name) P Q p q

some_missing : (o : Option (List ℕ)) (Q : List ℕ → Type 0) → o ≡ None → IsSomeAnd o Q → ⊥
some_missing None Q e q = q
some_missing (Some b) Q e q = cc

-- a file that is told to be missing holds nothing
pub told_missing : (s : Shown) (name : List ℕ) (Q : List ℕ → Type 0) → TellsMissing s name → WhereToldHolds s name Q → ⊥
told_missing s name Q p q = go s.input.unread s.output.holds p q
  where
    go : (u : Option (List ℕ)) (h : Option (List ℕ → Option (List ℕ)))
        → IsSomeAnd u (λ _. IsSomeAnd h (λ holds. holds name ≡ None))
        → IfSome u (λ _. IfSome h (λ holds. IsSomeAnd (holds name) Q)) → ⊥
    go None h p q = p
    go (Some u) None p q = p
    go (Some u) (Some holds) p q = some_missing (holds name) Q p q

some_map : (o : Option (List ℕ)) (P Q : List ℕ → Type 0) → ((b : List ℕ) → P b → Q b) → IsSomeAnd o P → IsSomeAnd o Q
some_map None P Q f p = p
some_map (Some b) P Q f p = f b p

-- what follows of the bytes that are told
pub told_map : (s : Shown) (name : List ℕ) (P Q : List ℕ → Type 0) → ((b : List ℕ) → P b → Q b)
    → WhereToldHolds s name P → WhereToldHolds s name Q
told_map s name P Q f p = go s.input.unread s.output.holds p
  where
    go : (u : Option (List ℕ)) (h : Option (List ℕ → Option (List ℕ)))
        → IfSome u (λ _. IfSome h (λ holds. IsSomeAnd (holds name) P))
        → IfSome u (λ _. IfSome h (λ holds. IsSomeAnd (holds name) Q))
    go None h p = p
    go (Some u) None p = p
    go (Some u) (Some holds) p = some_map (holds name) P Q f p

-- what is told after a file was read was told before
pub told_before : (old mid : Shown) (name : List ℕ) (P : List ℕ → Type 0)
    → mid.input.unread ≡ option_map (λ _. []) old.input.unread → mid.output ≡ old.output → WhereToldHolds mid name P
    → WhereToldHolds old name P
told_before old mid name P read same held = go old.input.unread mid.input.unread mid.output read same held
  where
    go : (u v : Option (List ℕ)) (o : Output) → v ≡ option_map (λ _. []) u → o ≡ old.output
        → IfSome v (λ _. IfSome o.holds (λ holds. IsSomeAnd (holds name) P))
        → IfSome u (λ _. IfSome old.output.holds (λ holds. IsSomeAnd (holds name) P))
    go None v o e f p = tt
    go (Some u) v o e f p =
        let told : IfSome o.holds (λ holds. IsSomeAnd (holds name) P) = subst
        (λ (w : Option (List ℕ)). IfSome w (λ _. IfSome o.holds (λ holds. IsSomeAnd (holds name) P))) e p in
        subst (λ (q : Output). IfSome q.holds (λ holds. IsSomeAnd (holds name) P)) f told

-- the bytes that were read are such as it is told
pub read_such : (s : Shown) (name bytes : List ℕ) (P : List ℕ → Type 0) → ReadsBytes name s bytes → TellsSuch s name P
    → P bytes
read_such s name bytes P reads tells =
    let both = told_both s name P (λ held. held ≡ bytes) tells reads in subst P both.2 both.1

-- a file that is longer than a limit holds some bytes, where told, of which there are too many
pub long_held : (s : Shown) (name : List ℕ) (most : ℕ) → WhereToldHolds s name (λ held. most < length held)
    → (bytes : List ℕ) × ReadsBytes name s bytes × (most < length bytes)
long_held s name most p = go s.input.unread s.output.holds p
  where
    many : most < length {A = ℕ} (replicate (suc most) 0)
    many = omega (arith, length-replicate {A = ℕ} (suc most) 0)

    some : (o : Option (List ℕ)) → IsSomeAnd o (λ held. most < length held)
        → (bytes : List ℕ) × IsSomeAnd o (λ held. held ≡ bytes) × (most < length bytes)
    some None q = absurd q
    some (Some b) q = (b, refl, q)

    go : (u : Option (List ℕ)) (h : Option (List ℕ → Option (List ℕ)))
        → IfSome u (λ _. IfSome h (λ holds. IsSomeAnd (holds name) (λ held. most < length held)))
        → (bytes : List ℕ) × IfSome u (λ _. IfSome h (λ holds. IsSomeAnd (holds name) (λ held. held ≡ bytes)))
        × (most < length bytes)
    go None h q = (replicate (suc most) 0, tt, many)
    go (Some u) None q = (replicate (suc most) 0, tt, many)
    go (Some u) (Some holds) q = some (holds name) q
