use Rattle.std.proofs.Common.{◌∙◌, sym, subst, refl, List, ℕ, arith}
use Rattle.std.proofs.lemmas.Bool.{false≢true}
use Rattle.plan_text.specs.Spelling.{Gives}
use Rattle.plan_text.proofs.StepLemmas.{taken_at}
use Rattle.plan_text.proofs.read.read_line.Goals as goal

pub returns-in_default-clause-err : goal.returns-in_default-clause-err
returns-in_default-clause-err c = (
  refl,
  record {
    not_blank = λ blank. false≢true (c.if-is_blank.ensures.1 blank);
    gives_nothing = λ name named. c.in_default.ensures.none name named.0 named.1;
  },
)

pub returns-then-is_some-clause-err : goal.returns-then-is_some-clause-err
returns-then-is_some-clause-err c =
    let found = c.in-Some-find_name.ensures in
    let taken = taken_at c.args.starts.now.items c.in-Some-find_name.i c.index.result.now c.index.ensures (omega
    arith) (sym c.is_some.ensures ∙ c.if-is_some.true) in (
      refl,
      record {
        i = c.in-Some-find_name.i;
        start = c.in-Some.start;
        given = record {
          place = found.found;
          gives = subst (λ (name : List ℕ). Gives c.args.line.now name c.in-Some.start) (sym found.name)
              c.in-Some.ensures.found;
        };
        had = taken.0;
        taken = taken.1;
      },
    )
