pub mod Laws
pub mod RowsLaying
pub mod Content
