-- Renderers of the parts of a page, one within the other.
use Rattle.std.specs.Prelude.{ℕ, ◌+◌, List, [], ◌∷◌, ◌++◌, Option, Some, length, codes, if◌then◌else◌}
use Rattle.std.specs.Fmt.{decimal}
use Rattle.std.specs.Option.{option_map, option_and_then}
use Rattle.text_decorators.specs.Marks.{link_start, link_end}
use Rattle.text_footnotes.specs.Targets.{last_number}
use Rattle.block_trait.specs.Renderers.{Marking, Sub, add_inline, begin_link, finish_link}

-- The renderers below the current one, the whole page's first; the current one, to which text goes; the targets of the
-- links so far.
pub record Parts (H A : Type 0) : Type 0 where
  pub below : List (Sub H A)
  pub current : Sub H A
  pub targets : List (List ℕ)

abbrev pub whole_page : {H A : Type 0} → Sub H A → Parts H A
whole_page s = record { below = []; current = s; targets = [] }

abbrev pub depth_of : {H A : Type 0} → Parts H A → ℕ
depth_of p = length p.below + 1

abbrev pub with_part : {H A : Type 0} → Sub H A → Parts H A → Parts H A
with_part s p = record p { below = p.below ++ p.current ∷ []; current = s }

abbrev pub with_current : {H A : Type 0} → Parts H A → Sub H A → Parts H A
with_current p s = record p { current = s }

abbrev pub with_target : {H A : Type 0} → List ℕ → Parts H A → Parts H A
with_target target p = record p { targets = p.targets ++ target ∷ [] }

abbrev pub begin_part_link : {H A : Type 0} → Marking H A → List ℕ → Parts H A → Option (Parts H A)
begin_part_link m target p =
    option_map (with_current (with_target target p)) (begin_link m (link_start target) p.current)

-- the number of the last link's footnote in brackets
abbrev pub footnote_mark : ℕ → List ℕ
footnote_mark n = codes "[" ++ decimal n ++ codes "]"

abbrev pub numbered : {H A : Type 0} → Marking H A → ℕ → Sub H A → Option (Sub H A)
numbered m n s = if s.options.include_link_footnotes then add_inline m (footnote_mark n) s else Some s

abbrev pub add_part_number : {H A : Type 0} → Marking H A → Parts H A → Option (Parts H A)
add_part_number m p = option_map (with_current p)
    (numbered m (last_number p.current.options.shared_footnotes p.targets) p.current)

-- after a link stands its number, where the targets of links stand after the page
abbrev pub finish_part_link : {H A : Type 0} → Marking H A → Parts H A → Option (Parts H A)
finish_part_link m p =
    option_and_then (add_part_number m) (option_map (with_current p) (finish_link m link_end p.current))
