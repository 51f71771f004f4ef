pub mod MayChange
pub mod ClauseLaws
pub mod ShareLaws
pub mod RefusalLaws
pub mod ChangedLaws
pub mod ValueLaws
pub mod GroupLaws
