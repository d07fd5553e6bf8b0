-- What the fields of an instance stand for, and what holds of them.
use Rattle.instance_model.specs.declared.instance.Instance.TheInside.{Inside}
use Rattle.instance_model.specs.Tables.{Tables, scenarios_before, periods_before}
use Rattle.instance_model.specs.Fitting.{IsFitting}
use Rattle.instance_model.specs.View.{tables_of, IsColumnOf, AreOffsets}

-- the tables fit, and the offsets say where risks and soft flags stand
pub record IsIndexed (a : Inside) : Type 0 where
  pub fits : IsFitting (tables_of a.parts)
  pub risks : AreOffsets (tables_of a.parts) a.risks
  pub soft : AreOffsets (tables_of a.parts) a.soft
  pub risk_column : IsColumnOf a.parts.periods (scenarios_before (tables_of a.parts)) a.risks.before.items
  pub soft_column : IsColumnOf a.parts.periods periods_before a.soft.before.items

-- the tables of an instance
abbrev pub view_of : Inside → Tables
view_of a = tables_of a.parts
