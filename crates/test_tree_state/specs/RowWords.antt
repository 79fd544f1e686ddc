-- Small pages of the worked rows: what is read, word by word, and the tree as text.
use Rattle.std.specs.Prelude.{ℕ, zero, suc, false, true, List, [], ◌∷◌, ◌++◌, codes, flat_map}
use Rattle.tree_forest.specs.Forest.{Forest, Kind, children_at, comment, doctype, document, element, instruction}
use Rattle.tree_forest.specs.Forest.{kind_at, page_alone, text}
use Rattle.tree_forest.specs.declared.sink.QuirksMode.TheVariants.{NoQuirks}
use Rattle.html_lexemes.specs.declared.names.Namespace.TheVariants.{Svg}
use Rattle.html_lexemes.specs.declared.token.Tag.{Tag}
use Rattle.html_lexemes.specs.declared.token.TagKind.TheVariants.{StartTag}
use Rattle.html_tree_state.specs.Adoption.{adoption}
use Rattle.html_tree_state.specs.Building.{Building}
use Rattle.html_tree_state.specs.Foreign.{closed_by_foreign_end}
use Rattle.html_tree_state.specs.Formatting.{inserted_for, inserted_formatting, reconstructed}
use Rattle.html_tree_state.specs.Insertions.{inserted, said}
use Rattle.html_tree_state.specs.Scopes.{with_closed_p}

-- a tree as text, without attributes, as deep as a number
abbrev pub wrapped : Kind → List ℕ → List ℕ
wrapped (element e) inside =
    codes "<" ++ e.name.local ++ codes ">" ++ inside ++ codes "</" ++ e.name.local ++ codes ">"
wrapped (text cs) inside = cs
wrapped document inside = inside
wrapped (doctype name public system) inside = []
wrapped (comment cs) inside = []
wrapped (instruction target cs) inside = []

abbrev pub shown : ℕ → Forest → ℕ → List ℕ
shown zero f n = []
shown (suc k) f n = wrapped (kind_at n f) (flat_map (shown k f) (children_at n f))

abbrev pub tag_for : List ℕ → Tag
tag_for name = record {
  kind = StartTag;
  name = name;
  self_closing = false;
  attrs = [];
  had_duplicate_attributes = false;
}

abbrev pub nothing : Building
nothing = record {
  stack = [];
  formatting = [];
  fostering = false;
  forest = page_alone;
  quirks = NoQuirks;
  counted = true;
}

-- a page is read in the body, by its start tags, texts and end tags
pub data Part : Type 0 where
  start : List ℕ → Part
  format : List ℕ → Part
  words : List ℕ → Part
  end : List ℕ → Part
  end_p : Part
  foreign : List ℕ → Part
  end_foreign : List ℕ → Part

abbrev pub taken : Part → Building → Building
taken (start name) b = inserted_for (tag_for name) (with_closed_p b)
taken (format name) b = inserted_formatting (tag_for name) (reconstructed b)
taken (words cs) b = said cs (reconstructed b)
taken (end name) b = adoption name b
taken end_p b = with_closed_p b
taken (foreign name) b = inserted (record { ns = Svg; local = name }) [] (reconstructed b)
taken (end_foreign name) b = closed_by_foreign_end name b

abbrev pub all_taken : List Part → Building → Building
all_taken [] b = b
all_taken (part ∷ parts) b = all_taken parts (taken part b)

abbrev pub page : List Part → List ℕ
page parts = shown 20 (all_taken parts (inserted_for (tag_for (codes "body")) nothing)).forest 0
