pub mod Fits
pub mod ListingFits
pub mod SummaryFits
pub mod WaveFits
