mod TreeCauses
mod OneAnswer
mod Short
mod Answering
mod ControlAnswers
pub mod SomeAnswer
