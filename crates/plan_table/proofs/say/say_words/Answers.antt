use Rattle.std.proofs.Common.{◌++◌, map, rules, codes}
use Rattle.plan_desk.specs.Written.Way.{saying}
use Rattle.plan_desk.proofs.Written.{put, cut, last}
use Rattle.plan_table.specs.Texts.{words_behind}
use Rattle.plan_table.proofs.say.say_words.Goals as goal

pub returns-in_err-say_all : goal.returns-in_err-say_all
returns-in_err-say_all g c =
    cut saying c.from_residual.result (search rules)
    (words_behind (map (λ word. word.now) c.args.rest.now) ++ codes "\n") c.in_err-say_all.ensures

pub returns-in_err-say_rest : goal.returns-in_err-say_rest
returns-in_err-say_rest g c =
    let r = c.from_residual-in_err-say_rest.result in
    last saying r (put saying c.in_ok-say_all.ensures)
    (cut saying r (search rules) (codes "\n") c.in_err-say_rest.ensures)

pub returns : goal.returns
returns g c =
    let r = c.say_all-2.result in
    last saying r (put saying c.in_ok-say_all.ensures)
    (last saying r (put saying c.in_ok-say_rest.ensures) c.say_all-2.ensures)
