-- What is told of a whole by what is told of its parts.
use Rattle.std.proofs.Common.{◌≡◌, ℕ, ◌<◌, List, map, length, get_or, Option, Some, None, sym, ◌∙◌, ap}
use Rattle.std.specs.Prelude.{slice_index_or}
use Rattle.std.proofs.lemmas.List.{get_or-map}
use Rattle.instance_model.specs.Rules.{first_of}
use Rattle.instance_shape.specs.CrossFaults.{CrossFault}
use Rattle.instance_rows.specs.declared.fault.RowsFault.{RowsFault}
use Rattle.instance_rows.specs.declared.fault.RowsFault.TheVariants.{Across, Memory}
use Rattle.instance_rows.specs.Answers.{TellsFault, fault_view}
use Rattle.instance_rows.proofs.Firsts.{first_found}

-- the fault of a part is that of the whole
pub told_on : (part whole : Option CrossFault) (e : RowsFault) → TellsFault part e
    → ((f : CrossFault) → part ≡ Some f → whole ≡ Some f) → TellsFault whole e
told_on part whole (Across f) h k = k (fault_view f) h
told_on part whole Memory h k = tt

-- the fault of the first number that has one
pub told_first : (n k : ℕ) (f : ℕ → Option CrossFault) (part : Option CrossFault) (e : RowsFault) → k < n
    → first_of k f ≡ None → part ≡ f k → TellsFault part e → TellsFault (first_of n f) e
told_first n k f part e l h same t = told_on part (first_of n f) e t (λ x i. first_found n k f x l h (sym same ∙ i))

-- what is made of an element that is read
pub mapped_at : {X Y : Type 0} (f : X → Y) (xs ys : List X) (i : ℕ) (x : X) (d : Y) → i < length xs → ys ≡ xs
    → x ≡ get_or ys i x → slice_index_or (map f xs) i d ≡ f x
mapped_at f xs ys i x d l same e = get_or-map f xs i x d l ∙ ap f (ap (λ zs. get_or zs i x) (sym same) ∙ sym e)
