pub mod Canon
pub mod ReadBack
