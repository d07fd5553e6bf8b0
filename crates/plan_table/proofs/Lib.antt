pub mod RangeLemmas
pub mod FigureLemmas
pub mod LineLemmas
pub mod LawLemmas
pub mod OneLemmas
pub mod TextLemmas
