-- Defines the list that lent risks stand for.
use Rattle.std.specs.Prelude.{ℤ, List}
use Rattle.instance_model.specs.declared.risk_numbers.RiskNumbers.{RiskNumbers}
use Rattle.instance_model.specs.declared.risk_numbers.RiskNumbers.TheVariants.{Narrow, Wide}

-- the counts of 10^-12, in order
abbrev pub numbers_of : RiskNumbers → List ℤ
numbers_of (Narrow numbers) = numbers.now
numbers_of (Wide numbers) = numbers.now
