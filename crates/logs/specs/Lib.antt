pub mod Answers
pub mod AnswerLaws
pub mod Log
pub mod LogRows
pub mod LogTable
pub mod RefusalNumbers
