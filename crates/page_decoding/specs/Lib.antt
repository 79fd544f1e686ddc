pub mod Decoding
pub mod ReplacedText
