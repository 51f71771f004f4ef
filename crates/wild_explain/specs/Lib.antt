pub mod Explain
pub use Rattle.wild_program.specs.Program
