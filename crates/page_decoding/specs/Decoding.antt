-- What contracts see of a `Utf8LossyDecoder`.
use Rattle.std.specs.Prelude.{ℕ, Bool, List}

-- the bytes held back, and whether a call was refused
pub record Decoding : Type 0 where
  pub held : List ℕ
  pub has_failed : Bool
