-- The text that a map of annotations makes of lines.
use Rattle.std.specs.Prelude.{◌≡◌, ℕ, List, [], ◌∷◌, ◌++◌, Ok, Result, String, Vec, string_bytes}
use Rattle.std.specs.Fn.{FnReturns, Shared}
use Rattle.std.specs.Global.{Global}
use Rattle.std.specs.Borrow.{Bor}
use Rattle.text_lines.specs.Tagged.{line_strings}
use Rattle.text_lines.specs.declared.tagged_line.TaggedLine.{TaggedLine}
use Rattle.text_lines.specs.declared.tagged_string.TaggedString.{TaggedString}

-- A call of the map with these annotations and this text answered that text.
pub record Colours {F T E : Type 0}
    (g : Shared F (Bor (List T) × (Bor (List ℕ) × Unit {0})) (Result (String Global) E)) (map : F) (tags : List T)
    (text made : List ℕ) : Type 0 where
  pub tags_shown : Bor (List T)
  pub text_shown : Bor (List ℕ)
  pub shows : (tags_shown.now ≡ tags) × (text_shown.now ≡ text)
  pub answer : String Global
  pub says : FnReturns g map (tags_shown, (text_shown, tt)) (Ok answer)
  pub same : string_bytes answer ≡ made

module _ {T : Type 0} (Makes : List T → List ℕ → List ℕ → Type 0) where
  -- what is made of each string of a line, side by side
  abbrev pub AreColoured : List (TaggedString (Vec T Global)) → List ℕ → Type 0
  AreColoured [] text = text ≡ []
  AreColoured (string ∷ strings) text = (made rest : List ℕ) × (text ≡ made ++ rest)
      × Makes string.tag.items (string_bytes string.s) made × AreColoured strings rest

  -- and a newline after each line
  abbrev pub AreColouredLines : List (TaggedLine (Vec T Global)) → List ℕ → Type 0
  AreColouredLines [] text = text ≡ []
  AreColouredLines (line ∷ lines) text = (made rest : List ℕ) × (text ≡ made ++ 10 ∷ rest)
      × AreColoured (line_strings line) made × AreColouredLines lines rest
