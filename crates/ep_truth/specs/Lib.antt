pub mod Labels
pub mod Common
pub mod FormulaTables
