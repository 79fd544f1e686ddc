-- What a sink that keeps its tokens has kept: texts that follow each other are one, and errors are left out.
use Rattle.std.specs.Prelude.{ℕ, Bool, List, [], ◌∷◌, ◌++◌}
use Rattle.html_lexemes.specs.declared.token.TokenSinkResult.TheVariants.{Continue}
use Rattle.token_grammar.specs.Items.{Item, characters, error}
use Rattle.token_grammar.specs.Meaning.{Meaning}

-- a text after what was kept
abbrev pub with_text : List Item → List ℕ → List Item
with_text [] cs = characters cs ∷ []
with_text (characters ds ∷ []) cs = characters (ds ++ cs) ∷ []
with_text (item ∷ items) cs = item ∷ with_text items cs

abbrev pub kept : List Item → Item → List Item
kept items (characters []) = items
kept items (characters (c ∷ cs)) = with_text items (c ∷ cs)
kept items error = items
kept items item = items ++ item ∷ []

-- the items, in the order in which they were emitted, and whether the current node is foreign, which never changes
pub record Kept : Type 0 where
  pub items : List Item
  pub is_foreign : Bool

-- what is kept after an item
abbrev pub kept_after : Kept → Item → Kept
kept_after s item = record s { items = kept s.items item }

abbrev pub kept_meaning : {H : Type 0} → Meaning Kept H
kept_meaning = record { step = kept_after; reply = λ _ _. Continue; foreign = λ s. s.is_foreign }
