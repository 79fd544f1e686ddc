-- Whether a line has text; the columns of characters.
use Rattle.std.proofs.Common.{◌≡◌, ℕ, List, [], ◌∷◌, sym, ap, ◌∙◌, refl}
use Rattle.std.specs.Prelude.{Option, unwrap_or}
use Rattle.text_lines.specs.Columns.{columns_of, width_of}
use Rattle.text_lines.specs.Elements.{Item, character, marker, characters, elements_items, elements_text}
use Rattle.text_lines.specs.declared.tagged_string.TaggedLineElement.{TaggedLineElement}
use Rattle.text_lines.proofs.Joins.{elements_characters}
use Rattle.text_pieces.specs.Sources.{is_filled}
use Rattle.text_pieces.specs.Items.{has_text}

text_filled : {S : Type 0} (items : List (Item S)) → has_text items ≡ is_filled (characters items)
text_filled [] = refl
text_filled (character c tag ∷ rest) = refl
text_filled (marker name ∷ rest) = text_filled rest

pub filled_text : {T S : Type 0} (seen : T → S) (es : List (TaggedLineElement T))
    → is_filled (elements_text es) ≡ has_text (elements_items seen es)
filled_text seen es = sym (text_filled (elements_items seen es) ∙ ap is_filled (elements_characters seen es))

-- ---- the columns of a character

pub columns_read : (x w : ℕ) (o : Option ℕ) → o ≡ columns_of x → w ≡ unwrap_or o 0 → w ≡ width_of x
unfolding width_of
columns_read x w o eo ew = ew ∙ ap (λ p. unwrap_or p 0) eo
