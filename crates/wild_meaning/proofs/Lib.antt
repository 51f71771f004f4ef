pub mod Common
pub mod StringLemmas
pub mod SymbolLemmas
pub mod WorldLemmas
pub mod BitLemmas
pub mod PlacedLemmas
pub mod OutputLemmas
mod Legal
mod SymbolUnique
mod TextLemmas
mod SharedLegal
mod Read
mod FileBytes
mod SectionHeaderLemmas
mod DynamicLemmas
mod Refused
mod SlotPlaces
mod SharedRefused
mod SharedThreads
mod SharedStubs
mod ReplacedLemmas
mod CopyLegal
mod CopyRefused
mod StaticLegal
mod StaticRefused
mod StringsRefused
mod EffectLemmas
pub mod AmongLemmas
pub mod OneReference
pub mod PairLemmas
mod CodeRefused
mod SequenceRefused
mod SharedCode
mod SharedLoaded
mod SharedLinked
mod StaticLoaded
mod StaticLinked
mod PaddedLinked
mod StringsLinked
mod CopyLoaded
mod CopyLinked
mod SegmentsRefused
mod TermsRefused
mod SequencesRefused
mod WordsRefused
pub mod InstructionsAArch64
mod WordsLegal
mod WordsLoaded
mod WordsTemplates
mod WordsLinked
mod WordsCodeRefused
mod WordsUnknown
