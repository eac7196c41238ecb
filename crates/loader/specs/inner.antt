-- Definitions that only contracts of inner functions cite: nobody has to believe them.
pub mod Stored
pub mod Tests
