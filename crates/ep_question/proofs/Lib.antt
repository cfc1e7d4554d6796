pub mod EvaluationLemmas
pub mod QuestionLemmas
pub mod OneAnswer
