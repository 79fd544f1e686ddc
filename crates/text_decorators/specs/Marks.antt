-- What a decorator is asked for, and what its answers are to keep.
use Rattle.std.specs.Prelude.{◌≡◌, ℕ, ◌≤◌, max, ℤ, Bool, FitsSigned, ◌≤ℤ◌, List, map}
use Rattle.std.specs.Int.{w64}
use Rattle.text_lines.specs.Columns.{text_columns}
use Rattle.text_lines.specs.Tagged.{Item, reitem}
use Rattle.text_decorators.specs.declared.colour.Colour.{Colour}

-- A place in a page at which a decorator is asked for a text, for an annotation, or for both.
pub data Mark : Type 0 where
  -- the target
  link_start : List ℕ → Mark
  link_end : Mark
  emphasis_start : Mark
  emphasis_end : Mark
  strong_start : Mark
  strong_end : Mark
  strikeout_start : Mark
  strikeout_end : Mark
  code_start : Mark
  code_end : Mark
  superscript_start : Mark
  superscript_end : Mark
  -- the source and the title
  image : List ℕ → List ℕ → Mark
  -- of a preformatted line that was not wrapped yet, and of one that was
  preformat_first : Mark
  preformat_further : Mark
  -- the level
  header : ℕ → Mark
  quote : Mark
  unordered_item : Mark
  -- the number
  ordered_item : ℤ → Mark
  colour_start : Colour → Mark
  colour_end : Mark
  background_start : Colour → Mark
  background_end : Mark
  -- the targets of the links, in order
  page_end : List (List ℕ) → Mark

-- a mark whose text stands before each line of a block
abbrev pub IsPrefix : Mark → Type 0
IsPrefix (header level) = Unit {0}
IsPrefix quote = Unit {0}
IsPrefix unordered_item = Unit {0}
IsPrefix (ordered_item number) = Unit {0}
IsPrefix _ = ⊥

-- Prefixes depend on the level or the number alone, whatever a decorator holds, so that sub-decorators answer alike;
-- and of three numbers in order the middle one's prefix is no wider than the wider of the others'.
pub record IsSteady {H : Type 0} (text : H → Mark → List ℕ) : Type 0 where
  pub alone : (h k : H) (m : Mark) → IsPrefix m → text h m ≡ text k m
  pub ends_are_widest : (h : H) (i j k : ℤ) → FitsSigned w64 i → FitsSigned w64 k → i ≤ℤ j → j ≤ℤ k
      → text_columns (text h (ordered_item j)) ≤ max (text_columns (text h (ordered_item i)))
      (text_columns (text h (ordered_item k)))

-- lines under what contracts see of their tags
abbrev pub seen_lines : {T S : Type 0} → (T → S) → List (List (Item T)) → List (List (Item S))
seen_lines seen lines = map (map (reitem seen)) lines

-- What a decorator is seen as: what it holds (H), and of each mark the text, the annotations that fit, whether there is
-- one, what is held after it and whether an annotation ends; what a decorator for a part of the page holds; and the
-- lines after the page.
pub record DecoratorView (D H T : Type 0) : Type 1 where
  pub held : D → H
  pub text : H → Mark → List ℕ
  pub gives : H → Mark → T → Type 0
  pub marks : H → Mark → Bool
  pub after : H → Mark → H
  pub pops : H → Mark → Bool
  pub sub : H → H
  pub closes : H → List (List ℕ) → List (List (Item T))
