pub mod Lines
pub mod Fnv
pub mod Words
pub mod Text
pub mod TextLaws
pub mod Tally
pub mod LinesLaws
pub mod Summary
