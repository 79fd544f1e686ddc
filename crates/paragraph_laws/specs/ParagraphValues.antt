-- The values of pages of paragraphs.
use Rattle.std.specs.Prelude.{ℕ, List, [], ◌∷◌}
use Rattle.render_values.specs.Values.{Values, none, value}
use Rattle.render_values.specs.declared.info.RenderInfo.TheVariants as infos
pub use Rattle.render_values.specs.Plain.{container, plain_head}

-- an empty text has no value
abbrev pub text_values : List ℕ → Values
text_values [] = none
text_values (c ∷ cs) = value (plain_head (infos.Text (c ∷ cs))) none none

-- a block for each text
abbrev pub block_values : List (List ℕ) → Values
block_values [] = none
block_values (text ∷ texts) = value (plain_head infos.Block) (text_values text) (block_values texts)

-- the document, `html` and `body`, each in the one before
abbrev pub paragraph_values : List (List ℕ) → Values
paragraph_values texts = container (container (container (block_values texts)))
