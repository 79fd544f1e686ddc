-- A link's text between its marks.
use Rattle.std.specs.Prelude.{ℕ, List, ◌++◌}
use Rattle.text_decorators.specs.Marks.{Mark, link_start, link_end}

-- what is held after a link to a target
abbrev pub after_link : {H : Type 0} → (H → Mark → H) → H → List ℕ → H
after_link after h target = after (after h (link_start target)) link_end

abbrev pub linked : {H : Type 0} → (H → Mark → List ℕ) → (H → Mark → H) → H → List ℕ → List ℕ → List ℕ
linked text after h target label = text h (link_start target) ++ label ++ text (after h (link_start target)) link_end
