use Rattle.quantile_index.proofs.HeightLimitLemmas.{IsHeightLimit-height_limit, height_limit_1, height_limit_2}
use Rattle.quantile_index.proofs.HeightLimitLemmas.{height_limit_8, height_limit_1024}
use Rattle.quantile_index.proofs.height.height_limits.Goals as goal

pub returns-clause-limit : goal.returns-clause-limit
returns-clause-limit c = IsHeightLimit-height_limit

pub returns-clause-of_one : goal.returns-clause-of_one
returns-clause-of_one c = height_limit_1

pub returns-clause-of_two : goal.returns-clause-of_two
returns-clause-of_two c = height_limit_2

pub returns-clause-of_eight : goal.returns-clause-of_eight
returns-clause-of_eight c = height_limit_8

pub returns-clause-of_most : goal.returns-clause-of_most
returns-clause-of_most c = height_limit_1024
