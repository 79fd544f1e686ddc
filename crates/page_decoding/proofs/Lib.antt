pub mod DecoderReads
pub mod DecoderTable
pub mod DecoderText
