pub mod AnswerWords
pub mod ThingWords
