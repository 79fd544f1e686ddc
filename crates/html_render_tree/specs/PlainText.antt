-- Pages as plain text.
pub use Rattle.text_block_renderer.specs.PlainText.{plain_closes, plain_marking}
