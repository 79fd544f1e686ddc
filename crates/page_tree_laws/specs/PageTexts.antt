-- What a reading of a page emits, and that its text is kept.
use Rattle.std.specs.Prelude.{◌≡◌, ℕ, ◌+◌, true, List, [], ◌∷◌, ◌++◌}
use Rattle.lex_base.specs.References.{References}
use Rattle.token_grammar.specs.Items.{Item, tag}
use Rattle.token_grammar.specs.Meaning.{Meaning}
use Rattle.token_grammar.specs.Reading.{Reading, ends, goes, tags}
use Rattle.token_grammar.specs.declared.modes.Mode.{Mode}
use Rattle.page_tree_laws.specs.KeptText.{IsAtBeginning, EmitsPlainTags, in_texts, in_emitted, is_kept}
use Rattle.rules_table.specs.Settling.{meaning}
use Rattle.rules_table.specs.State.{State}

-- the items that a reading emits, before the end
abbrev pub items_of : {A H : Type 0} → {table : References} → {means : Meaning A H} → {mode : Mode} → {state : A} →
    {cs : List ℕ} → {final : A} → Reading table means mode state cs final → List Item
items_of (ends _ _ _ _ _ _) = []
items_of (goes _ _ _ items _ _ _ _ further) = items ++ items_of further
items_of (tags _ _ _ t _ _ _ further) = tag t ∷ items_of further

abbrev pub KeepsTextOfPage : Type 0 → Type 0
KeepsTextOfPage H = (table : References) (handle : ℕ → H) (mode : Mode) (s : State) (cs : List ℕ) (final : State)
    (reading : Reading table (meaning handle) mode s cs final) →
    IsAtBeginning s → EmitsPlainTags (items_of reading) →
    (c : ℕ) → is_kept c ≡ true →
    in_texts c final.tree.forest ≡ in_texts c s.tree.forest + in_emitted c (items_of reading)
