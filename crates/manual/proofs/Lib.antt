pub mod DrawnTies
pub mod Below
pub mod EndQuestions
pub mod Passing
pub mod LastRows
pub mod ListWords
