mod Listing
mod Labelling
pub mod StoreBack
pub mod LinesBack
