use Rattle.std.proofs.Common.{◌≡◌, ◌∙◌, sym, ap, refl, rules, ℕ, List, Bool, None}
use Rattle.json_grammar.specs.Tree.{Node, Trees, Members}
use Rattle.json_grammar.specs.declared.tree.Node as Rust
use Rattle.json_grammar.specs.declared.tree.Node.TheBlock as block
use Rattle.json_grammar.specs.declared.tree.Node.{the_lemmas}
use Rattle.decimal_numbers.specs.Exact.{whole}
use Rattle.decimal_numbers.specs.Decimal.{IsWholeOf}
use Rattle.json_grammar.specs.Trees.{node_view, trees_view, members_view}
use Rattle.decimal_numbers.proofs.ExactLaws.{if_some, whole_sound, whole_found}
use Rattle.decimal_numbers.proofs.decimal.whole_of.Goals as goal

num_seen : (node : Rust.Node) (num : List ℕ) → node ≡ block.Num num → node_view node ≡ Node.number num
num_seen node num e = ap node_view e ∙ search (rules, the_lemmas)

text_seen : (node : Rust.Node) (text : List ℕ) → node ≡ block.Text text → node_view node ≡ Node.text text
text_seen node text e = ap node_view e ∙ search (rules, the_lemmas)

pub returns-in-Num-clause-function : goal.returns-in-Num-clause-function
returns-in-Num-clause-function c =
    c.whole_of_number.ensures.function ∙ sym (ap whole (num_seen c.args.node.now c.in-Num.num c.in-Num.is))

pub returns-in-Text-clause-function : goal.returns-in-Text-clause-function
returns-in-Text-clause-function c = c.whole_of_text.ensures.function
    ∙ ap (λ t. whole (Node.text t)) c.as_str.ensures.same
    ∙ sym (ap whole (text_seen c.args.node.now c.in-Text.text c.in-Text.is))

pub returns-in-Num-clause-whole : goal.returns-in-Num-clause-whole
returns-in-Num-clause-whole c = if_some (IsWholeOf (node_view c.args.node.now)) _ _ (returns-in-Num-clause-function c)
    (whole_sound (node_view c.args.node.now))

pub returns-in-Num-clause-no_other : goal.returns-in-Num-clause-no_other
returns-in-Num-clause-no_other c n h = returns-in-Num-clause-function c ∙ whole_found (node_view c.args.node.now) n h

pub returns-in-Text-clause-whole : goal.returns-in-Text-clause-whole
returns-in-Text-clause-whole c = if_some (IsWholeOf (node_view c.args.node.now)) _ _ (returns-in-Text-clause-function c)
    (whole_sound (node_view c.args.node.now))

pub returns-in-Text-clause-no_other : goal.returns-in-Text-clause-no_other
returns-in-Text-clause-no_other c n h = returns-in-Text-clause-function c ∙ whole_found (node_view c.args.node.now) n h

none_null : None ≡ whole Node.null
unfolding whole
none_null = refl

none_bool : (b : Bool) → None ≡ whole (Node.boolean b)
unfolding whole
none_bool b = refl

none_list : (ts : Trees) → None ≡ whole (Node.list ts)
unfolding whole
none_list ts = refl

none_object : (ms : Members) → None ≡ whole (Node.object ms)
unfolding whole
none_object ms = refl

pub returns-in-Null-clause-function : goal.returns-in-Null-clause-function
returns-in-Null-clause-function c = none_null ∙ sym (ap whole (ap node_view c.in-Null.is ∙ search (rules, the_lemmas)))

pub returns-in-Bool-clause-function : goal.returns-in-Bool-clause-function
returns-in-Bool-clause-function c =
    none_bool c.in-Bool.field-0 ∙ sym (ap whole (ap node_view c.in-Bool.is ∙ search (rules, the_lemmas)))

pub returns-in-List-clause-function : goal.returns-in-List-clause-function
returns-in-List-clause-function c = none_list (trees_view c.in-List.field-0.items)
    ∙ sym (ap whole (ap node_view c.in-List.is ∙ search (rules, the_lemmas)))

pub returns-in-Object-clause-function : goal.returns-in-Object-clause-function
returns-in-Object-clause-function c = none_object (members_view c.in-Object.field-0.items)
    ∙ sym (ap whole (ap node_view c.in-Object.is ∙ search (rules, the_lemmas)))
