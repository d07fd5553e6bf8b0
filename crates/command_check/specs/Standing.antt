-- What a plan that was given comes to, and what is then answered. No part of any promise.
use Rattle.std.specs.Prelude.{◌≡◌, ℕ, ◌<◌, ◌^◌, ℤ, List, Option, option_map, IfSome, unsigned_abs}
use Rattle.instance_model.specs.Tables.{Tables}
use Rattle.instance_model.specs.Values.{score_of}
use Rattle.certificate_tree.specs.Validity.{Claim}
use Rattle.command_check.specs.declared.check.Given.{Given}
use Rattle.command_check.specs.declared.check.Given.TheVariants.{Kept, Broken as BrokenRule}
use Rattle.command_frame.specs.Ending.{reply}
use Rattle.command_answers.specs.Check.{GivenKeeps, IsBroken, ChecksClaim}

-- what a plan that was given comes to
abbrev pub StandsAs : Tables → Option (List (Option ℕ)) → Given → Type 0
StandsAs inst given (Kept score) =
    GivenKeeps inst given × (score ≡ option_map (score_of inst) given) × IfSome score (λ z. unsigned_abs z < 10 ^ 36)
StandsAs inst given (BrokenRule rule) = IsBroken inst given rule

-- what is answered on a claim, whatever plan was given that has this score and keeps the rules
abbrev pub ChecksFor : Tables → Option ℤ → Claim → ℕ → List ℕ → Type 0
ChecksFor inst score claim status text = (given : Option (List (Option ℕ))) → GivenKeeps inst given
    → score ≡ option_map (score_of inst) given → ChecksClaim inst given claim (reply status text)
