use Rattle.refined_text.proofs.VersionsTextLemmas.{EachTextIsTold-from, AnyTextsAreInRange-from, AnyTextsTell-from}
use Rattle.refined_text.proofs.VersionsTextLemmas.{AnyTextsAreSound-from, AnyTextsAreTold-from}
use Rattle.refined_text.proofs.versions.laws.any_texts_tell.Goals as goal

pub returns-clause-each : goal.returns-clause-each
returns-clause-each c = EachTextIsTold-from

pub returns-clause-in_range : goal.returns-clause-in_range
returns-clause-in_range c = AnyTextsAreInRange-from c.versions_stay_in_range.ensures

pub returns-clause-one : goal.returns-clause-one
returns-clause-one c = AnyTextsTell-from c.texts_tell.ensures.texts c.refined_texts_tell.ensures.texts

pub returns-clause-sound : goal.returns-clause-sound
returns-clause-sound c = AnyTextsAreSound-from

pub returns-clause-told : goal.returns-clause-told
returns-clause-told c = AnyTextsAreTold-from c.texts_are_told.ensures.told c.refined_texts_are_told.ensures
