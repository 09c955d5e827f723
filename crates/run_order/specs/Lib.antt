pub mod Orderable
pub mod Laws
