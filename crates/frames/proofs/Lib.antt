pub mod OpenFrames
