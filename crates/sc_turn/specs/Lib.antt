pub mod History
pub mod Views
pub mod Rule
pub mod Steps
pub mod Passes
pub use Rattle.atomic_table.specs.Seated.{TableId}
