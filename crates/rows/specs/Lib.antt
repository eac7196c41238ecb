pub mod Places
pub mod DeclarationRows
