-- Words of the worked rows.
use Rattle.std.specs.Prelude.{ℕ, List, [], ◌∷◌, Option, codes}
use Rattle.tree_predicates.specs.RowWords.{attribute}
use Rattle.rules_table.specs.Encodings.{named_encoding}

-- what a `meta` names whose `http-equiv` is `Content-Type`
abbrev pub named_in : List ℕ → Option (List ℕ)
named_in content =
    named_encoding (attribute (codes "http-equiv") (codes "Content-Type") ∷ attribute (codes "content") content ∷ [])
