pub mod ApartLemmas
