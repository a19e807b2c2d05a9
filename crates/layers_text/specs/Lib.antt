pub mod LayersText
pub mod Asked
pub mod Laws
