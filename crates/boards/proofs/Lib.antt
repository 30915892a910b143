pub mod Effects
pub mod ByteWords
