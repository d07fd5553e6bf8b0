pub mod TableLemmas
pub mod RefinedSoundness
pub mod SingleTails
pub mod SingleLists
