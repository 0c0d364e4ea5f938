pub mod Tests
pub mod PairLoop
pub mod RowLoop
pub mod MarkedLoop
pub mod WordLaws
pub mod MarkedLaws
pub mod ItemLaws
pub mod LineLaws
