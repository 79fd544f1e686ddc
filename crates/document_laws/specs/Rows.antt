-- Tiny contents of worked rows.
use Rattle.std.specs.Prelude.{ℕ, false, List, [], ◌∷◌, None, codes}
use Rattle.tree_formatting.specs.Entries.{Entry, formatted}
use Rattle.tree_forest.specs.Forest.{Forest, page_alone}
use Rattle.token_grammar.specs.Items.{Item}
use Rattle.html_lexemes.specs.declared.token.TagKind.TheVariants.{StartTag}
use Rattle.rules_table.specs.State.{State}
use Rattle.tree_predicates.specs.declared.modes.InsertionMode.TheVariants.{InBody}
use Rattle.document_laws.specs.Contents.{Content, end_of, none, say, span, start_of}
use Rattle.document_laws.specs.Planted.{with_new}

-- in a paragraph, which is node 1
abbrev pub with_paragraph : Forest
with_paragraph = with_new 0 (codes "p") [] page_alone

abbrev pub in_paragraph : State → State
in_paragraph s = record s {
  mode = InBody;
  context = None;
  skip_lf = false;
  tree = record s.tree { stack = 1 ∷ []; formatting = []; fostering = false; forest = with_paragraph };
}

abbrev pub bold : Content → Content
bold kids = span (codes "b") [] kids none

abbrev pub four_bold : Content
four_bold = bold (bold (bold (bold (say 120 [] none))))

abbrev pub bold_entry : ℕ → Entry
bold_entry n = formatted n (record {
  kind = StartTag;
  name = codes "b";
  self_closing = false;
  attrs = [];
  had_duplicate_attributes = false;
})

-- three are open, and then a fourth is opened and closed
abbrev pub opened_thrice : List Item → List Item
opened_thrice more = start_of (codes "b") [] ∷ start_of (codes "b") [] ∷ start_of (codes "b") [] ∷ more

abbrev pub a_fourth : List Item
a_fourth = start_of (codes "b") [] ∷ end_of (codes "b") ∷ []
