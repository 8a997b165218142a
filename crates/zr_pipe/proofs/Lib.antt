pub mod EndsLemmas
pub mod RelayLemmas
