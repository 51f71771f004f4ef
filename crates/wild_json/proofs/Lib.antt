mod DataLemmas
mod NameLemmas
mod TextLemmas
