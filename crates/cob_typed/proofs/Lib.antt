pub mod AnswerLemmas
pub mod FoundLemmas
pub mod HeadLemmas
mod VerbHeads
pub mod ListLemmas
pub mod ParaLemmas
pub mod StmtLemmas
pub mod Weights
pub mod RuleNumbers
