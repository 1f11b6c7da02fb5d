pub mod Answers
pub mod Conclusion
