use Rattle.std.proofs.Common.{◌≡◌, ◌∙◌, sym, ap, ◌++◌, true}
use Rattle.std.proofs.lemmas.Result.{IfOk-weaker}
use Rattle.instance_shape.specs.Keys.{is_digits, number_of}
use Rattle.instance_shape.specs.Seen.{numbers_of}
use Rattle.instance_shape.specs.Shape.{kind_of}
use Rattle.instance_shape.specs.declared.spot.Spot.{Spot}
use Rattle.shape_walk.specs.declared.judged.Judged.{Judged}
use Rattle.shape_walk.specs.declared.taken.Read.{Read}
use Rattle.shape_walk.specs.declared.taken.Taken.{Taken}
use Rattle.shape_walk.proofs.KeyLemmas.{number_case, are_digits, digits_write, number_key, number_read}
use Rattle.shape_walk.proofs.seen.take_number.Goals as goal
use Rattle.shape_walk.proofs.seen.take_number.Goals.{After-add_number}

abbrev told : Spot → Read → Taken
told spot read = record { spot = spot; read = read }

digits : (c : After-add_number) → is_digits c.args.key.now ≡ true
digits c = are_digits _ _ c.in-Some.number (sym c.in-Some.is ∙ c.number_of.ensures)

writes : (c : After-add_number) → number_of c.args.key.now ≡ c.in-Some.number
writes c = digits_write (is_digits c.args.key.now) _ _ (sym c.in-Some.is ∙ c.number_of.ensures)

pub returns-in-Some-clause-flaw : goal.returns-in-Some-clause-flaw
returns-in-Some-clause-flaw c =
    IfOk-weaker c.add_number.result _ _ (λ r flaw limits at. flaw limits at c.args.key.now (digits c) (writes c))
    c.add_number.ensures.flaw

pub returns-in-Some-clause-taken : goal.returns-in-Some-clause-taken
returns-in-Some-clause-taken c =
    IfOk-weaker c.add_number.result _ _ (λ r taken. taken ∙ ap (λ (read : Read). told c.args.spot read)
    (sym (number_read (kind_of c.args.spot) c.args.key.now c.in-Some.number c.requires (digits c) (writes c))))
    c.add_number.ensures.taken

pub returns-in-Some-clause-added : goal.returns-in-Some-clause-added
returns-in-Some-clause-added c =
    IfOk-weaker c.add_number.result _ _ (λ r added fine. added fine ∙ ap (λ ks. numbers_of c.args.numbers.now ++ ks)
    (sym (number_key (kind_of c.args.spot) c.args.key.now c.in-Some.number c.requires (digits c) (writes c))))
    c.add_number.ensures.added

pub returns-in-None-clause-flaw : goal.returns-in-None-clause-flaw
returns-in-None-clause-flaw c limits at =
    ap (λ (j : Judged). j.flaw) c.unread.ensures
    ∙ number_case limits c.args.spot c.args.numbers.now c.args.key.now at c.requires
    (sym c.in-None.is ∙ c.number_of.ensures)
