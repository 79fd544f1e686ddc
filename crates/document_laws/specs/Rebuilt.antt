-- Documents rebuild: the rule table over the tokens of a document's tree gives that tree (WHATWG HTML, 13.2.6 and
-- 13.3).
use Rattle.std.specs.Prelude.{◌≡◌, ℕ, false, List, [], ◌∷◌, Option, None, Some, codes, fold}
use Rattle.tree_forest.specs.Forest.{Forest, nodes, page_alone}
use Rattle.tree_forest.specs.Places.{with_doctype}
use Rattle.token_grammar.specs.Items.{Item, characters, doctype, end_of_file}
use Rattle.page_tree_laws.specs.KeptText.{IsAtBeginning}
use Rattle.document_laws.specs.Contents.{Content, IsBlocks, end_of, start_of, tokens_and}
use Rattle.document_laws.specs.Planted.{planted, with_new, with_text}
use Rattle.rules_table.specs.Settling.{step}
use Rattle.rules_table.specs.State.{State}

-- a whole document, with a title or without
abbrev pub html_doctype : Item
html_doctype = doctype (record {
  name = Some (codes "html");
  public_id = None;
  system_id = None;
  force_quirks = false;
})

abbrev pub text_tokens : List ℕ → List Item → List Item
text_tokens [] more = more
text_tokens (c ∷ cs) more = characters (c ∷ cs) ∷ more

abbrev pub title_tokens : Option (List ℕ) → List Item → List Item
title_tokens None more = more
title_tokens (Some title) more = start_of (codes "title") [] ∷ text_tokens title (end_of (codes "title") ∷ more)

abbrev pub document_tokens : Option (List ℕ) → Content → List Item
document_tokens title content = html_doctype ∷ start_of (codes "html") [] ∷ start_of (codes "head") []
    ∷ title_tokens title (end_of (codes "head") ∷ start_of (codes "body") []
    ∷ tokens_and content (end_of (codes "body") ∷ end_of (codes "html") ∷ end_of_file ∷ []))

-- its tree
abbrev pub with_title_text : ℕ → List ℕ → Forest → Forest
with_title_text n [] f = f
with_title_text n (c ∷ cs) f = with_text n (c ∷ cs) f

abbrev pub with_title : Option (List ℕ) → Forest → Forest
with_title None f = f
with_title (Some title) f = with_title_text 4 title (with_new 3 (codes "title") [] f)

-- the document is node 0, its doctype 1, `html` 2, `head` 3
abbrev pub head_alone : Forest
head_alone =
    with_new 2 (codes "head") [] (with_new 0 (codes "html") [] (with_doctype (codes "html") [] [] page_alone))

abbrev pub document_tree : Option (List ℕ) → Content → Forest
document_tree title content = let f = with_title title head_alone in
    planted (nodes f) content (with_new 2 (codes "body") [] f)

abbrev pub DocumentsRebuild : Type 0
DocumentsRebuild = (s : State) (title : Option (List ℕ)) (content : Content) →
    IsAtBeginning s → s.tree.forest ≡ page_alone → s.options.drop_doctype ≡ false → IsBlocks false content →
    (fold step s (document_tokens title content)).tree.forest ≡ document_tree title content
