pub mod Strings
pub mod SoundDeclarations
pub mod SoundText
pub mod CompleteDeclarations
pub mod CompleteText
pub mod VersionPlace
pub mod Statements
