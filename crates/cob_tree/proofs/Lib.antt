pub mod KeywordLemmas
pub mod InitialLemmas
pub mod PictureLemmas
pub mod PictureLaws
pub mod FormLaws
pub mod NumericLaws
pub mod KindLaws
