pub mod Words
pub mod Endings
pub mod AskedOnce
pub mod OneAnswer
pub mod Exact
pub mod Clean
pub mod Analysed
pub mod FaultlessRuns
