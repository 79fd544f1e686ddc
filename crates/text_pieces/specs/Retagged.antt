-- What is laid out, and what stands on lines, under other tags.
pub use Rattle.text_lines.specs.Tagged.{reitem}
use Rattle.text_pieces.specs.Sources.{Source, letter, fragment}

abbrev pub resource : {A B : Type 0} → (A → B) → Source A → Source B
resource f (letter c main further) = letter c (f main) (f further)
resource f (fragment name) = fragment name
