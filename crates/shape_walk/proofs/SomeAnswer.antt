-- Each file has an answer: an instance, or a fault.
use Rattle.std.specs.Prelude.{◌≡◌, ℕ, ℤ, List, [], Option, Some, None}
use Rattle.std.proofs.Common.{inl, inr, refl}
use Rattle.json_grammar.specs.Tree.{Tree}
use Rattle.json_grammar.specs.laws.Answers as text
use Rattle.json_grammar.specs.laws.Answers.{TextAnswer, IsAnswerTo}
use Rattle.json_grammar.proofs.LawsAscending.{events_ascend}
use Rattle.json_grammar.proofs.LawsSettling as settling
use Rattle.instance_model.specs.declared.limits.Limits.{Limits}
use Rattle.instance_shape.specs.declared.fault.Fault.{Fault}
use Rattle.instance_shape.specs.ShapeFaults.{shape_faults}
use Rattle.instance_shape.specs.CrossFaults.{CrossFault, cross_fault}
use Rattle.instance_shape.specs.FileTables.{tables}
use Rattle.instance_shape.specs.Defined.{IsTreeOf}
use Rattle.instance_shape.specs.FileFaults as file
use Rattle.instance_shape.specs.FileFaults.{HaveSomeAnswer}
use Rattle.shape_walk.proofs.FirstIsLeast.{Answers, text_answered}

-- a text of the right shape
shaped : (limits : Limits) (slack : ℤ) (bytes : List ℕ) (root : Tree) → IsTreeOf bytes root
    → shape_faults limits root ≡ [] → (o : Option CrossFault) → cross_fault root ≡ o → HaveSomeAnswer limits slack bytes
shaped limits slack bytes root t s None e =
    inl (tables slack root, record { root = root; text = t; shaped = s; fitting = e; tables = refl })
shaped limits slack bytes root t s (Some f) e =
    inr (file.across f, record { root = root; text = t; shaped = s; first = e })

-- a text, by its fault of shape that counts
read : (limits : Limits) (slack : ℤ) (bytes : List ℕ) (root : Tree) → IsTreeOf bytes root → (o : Option Fault)
    → Answers (shape_faults limits root) o → HaveSomeAnswer limits slack bytes
read limits slack bytes root t None a = shaped limits slack bytes root t a (cross_fault root) refl
read limits slack bytes root t (Some f) a = inr (file.shape f, record { root = root; text = t; least = a })

told : (limits : Limits) (slack : ℤ) (bytes : List ℕ) (a : TextAnswer) → IsAnswerTo bytes a
    → HaveSomeAnswer limits slack bytes
told limits slack bytes (text.read root) h = read limits slack bytes root (record { text = h.0; shallow = h.1 }) _
    (text_answered limits root (events_ascend bytes root h.0))
told limits slack bytes (text.syntax at) h = inr (file.syntax at, h)
told limits slack bytes (text.too_deep at) h = inr (file.too_deep at, h)

pub some_answer : (limits : Limits) (slack : ℤ) (bytes : List ℕ) → HaveSomeAnswer limits slack bytes
some_answer limits slack bytes = let a = settling.some_answer bytes in told limits slack bytes a.answer a.is_answer
