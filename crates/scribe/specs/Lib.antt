pub mod Next
pub mod Page
pub mod PageLaws
pub mod Whole
