pub mod CoreToken
