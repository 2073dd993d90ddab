pub mod Bits
pub mod Calls
pub mod Numbers
pub mod Laws
pub mod Rows
pub mod PairLaws
