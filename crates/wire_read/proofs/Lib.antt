pub mod ByKind
pub mod Form
