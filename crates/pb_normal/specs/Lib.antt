pub use Rattle.pb_text.specs.meaning.Limits
pub mod meaning
pub mod contract
pub mod engine
