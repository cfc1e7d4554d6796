pub mod PrintedLemmas
pub mod PrintedFormulas
pub mod LaidOutLemmas
pub mod LayoutTokens
pub mod SpelledFormulas
pub mod SpelledTasks
