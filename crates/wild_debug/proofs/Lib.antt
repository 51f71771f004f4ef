mod FieldLemmas
mod FaultLemmas
