-- Names of blocks, and what the rules of the body make of their tags.
use Rattle.std.proofs.Common.{◌≡◌, ℕ, ◌<◌, Bool, true, false, List, [], ◌∷◌, Some, codes, refl, ap, ◌∙◌}
use Rattle.tree_forest.specs.Forest.{Forest, name_of, nodes}
use Rattle.html_lexemes.specs.declared.names.Attribute.{Attribute}
use Rattle.html_lexemes.specs.declared.token.Tag.{Tag}
use Rattle.html_tree_state.specs.Scopes.{is_item_barrier}
use Rattle.tree_names.specs.ElementSets.{headings}
use Rattle.tree_names.specs.Sets.{is_element_of, is_html, is_one_of}
use Rattle.tree_names.specs.Wanted.{is_implied, one}
use Rattle.tree_names.specs.Groups.{tag_group}
use Rattle.tree_names.specs.declared.group.TagGroup.{TagGroup}
use Rattle.tree_names.specs.declared.group.TagGroup.TheVariants as groups
use Rattle.rules_table.specs.InBody.{in_body_start}
use Rattle.rules_table.specs.InBodyBlocks as blocks
use Rattle.rules_table.specs.InBodyEnds.{in_body_end}
use Rattle.rules_table.specs.State.{State}
use Rattle.document_laws.specs.Contents.{end_of, start_of, texts_of_blocks}
use Rattle.document_laws.specs.Planted.{of_html, with_new}
use Rattle.document_laws.proofs.BlockSteps.{AreOuter, IsList, IsOuter, block_closes, block_opens, heading_closes}
use Rattle.document_laws.proofs.BlockSteps.{heading_opens, item_closes, item_opens, paragraph_closes}
use Rattle.document_laws.proofs.InlineNames.{for_one}
use Rattle.document_laws.proofs.Standing.{now, stepped}

-- a block that opens wherever blocks are open alone, and is closed as the current node
abbrev pub Closes : List ℕ → Type 0
Closes name = (s : State) (ok : Bool) (n : ℕ) (low : List ℕ) (f : Forest) → name_of n f ≡ of_html name →
    stepped (now s ok (n ∷ low) [] f) (end_of name) ≡ Some (now s ok low [] f)

pub record IsBlockName (name : List ℕ) : Type 0 where
  pub plain : is_html (codes "template") (of_html name) ≡ false
  pub ends : is_one_of (codes "br" ∷ []) name ≡ false
  pub opens : (s : State) (ok : Bool) (p : ℕ) (rest : List ℕ) (f : Forest) (attributes : List Attribute) →
      AreOuter f (p ∷ rest) → stepped (now s ok (p ∷ rest) [] f) (start_of name attributes)
      ≡ Some (now s ok (nodes f ∷ p ∷ rest) [] (with_new p name attributes f))
  pub closes : Closes name

-- groups
group_p : tag_group (codes "p") ≡ groups.Paragraph
unfolding tag_group
group_p = refl

group_h1 : tag_group (codes "h1") ≡ groups.Heading
unfolding tag_group
group_h1 = refl

group_h2 : tag_group (codes "h2") ≡ groups.Heading
unfolding tag_group
group_h2 = refl

group_h3 : tag_group (codes "h3") ≡ groups.Heading
unfolding tag_group
group_h3 = refl

group_h4 : tag_group (codes "h4") ≡ groups.Heading
unfolding tag_group
group_h4 = refl

group_h5 : tag_group (codes "h5") ≡ groups.Heading
unfolding tag_group
group_h5 = refl

group_h6 : tag_group (codes "h6") ≡ groups.Heading
unfolding tag_group
group_h6 = refl

group_div : tag_group (codes "div") ≡ groups.Block
unfolding tag_group
group_div = refl

group_quote : tag_group (codes "blockquote") ≡ groups.Block
unfolding tag_group
group_quote = refl

group_ul : tag_group (codes "ul") ≡ groups.Block
unfolding tag_group
group_ul = refl

group_ol : tag_group (codes "ol") ≡ groups.Block
unfolding tag_group
group_ol = refl

group_li : tag_group (codes "li") ≡ groups.ListItem
unfolding tag_group
group_li = refl

-- rows
by_start : (group found : TagGroup) (t : Tag) (s : State) → group ≡ found →
    in_body_start group t s ≡ in_body_start found t s
by_start group found t s e = ap (λ g. in_body_start g t s) e

by_end : (group found : TagGroup) (t : Tag) (s : State) → group ≡ found →
    in_body_end group t s ≡ in_body_end found t s
by_end group found t s e = ap (λ g. in_body_end g t s) e

heading : (name : List ℕ) → is_html (codes "template") (of_html name) ≡ false →
    is_one_of (codes "br" ∷ []) name ≡ false → is_implied blocks.none (of_html name) ≡ false →
    is_element_of headings (of_html name) ≡ true → tag_group name ≡ groups.Heading → IsBlockName name
heading name plain ends stays found group = record {
  plain = plain;
  ends = ends;
  opens = λ s ok p rest f attributes are. heading_opens s ok p rest f name attributes are plain
      (λ t s. by_start (tag_group name) groups.Heading t s group);
  closes = λ s ok n low f named. heading_closes s ok n low f name named stays found
      (λ t s. by_end (tag_group name) groups.Heading t s group);
}

paragraph : IsBlockName (codes "p")
paragraph = record {
  plain = refl;
  ends = refl;
  opens = λ s ok p rest f attributes are. block_opens s ok p rest f (codes "p") attributes are refl
      (λ t s. by_start (tag_group (codes "p")) groups.Paragraph t s group_p);
  closes = λ s ok n low f named. paragraph_closes s ok n low f named
      (λ t s. by_end (tag_group (codes "p")) groups.Paragraph t s group_p);
}

pub text_block : (name : List ℕ) → is_one_of texts_of_blocks name ≡ true → IsBlockName name
text_block name is = for_one IsBlockName texts_of_blocks name (
  paragraph,
  (
    heading (codes "h1") refl refl refl refl group_h1,
    (
      heading (codes "h2") refl refl refl refl group_h2,
      (
        heading (codes "h3") refl refl refl refl group_h3,
        (
          heading (codes "h4") refl refl refl refl group_h4,
          (
            heading (codes "h5") refl refl refl refl group_h5,
            (heading (codes "h6") refl refl refl refl group_h6, tt),
          ),
        ),
      ),
    ),
  ),
) is

block : (name : List ℕ) → is_html (codes "template") (of_html name) ≡ false →
    is_one_of (codes "br" ∷ []) name ≡ false → is_implied blocks.none (of_html name) ≡ false →
    is_element_of (one name) (of_html name) ≡ true → tag_group name ≡ groups.Block → IsBlockName name
block name plain ends stays found group = record {
  plain = plain;
  ends = ends;
  opens = λ s ok p rest f attributes are. block_opens s ok p rest f name attributes are plain
      (λ t s. by_start (tag_group name) groups.Block t s group);
  closes = λ s ok n low f named. block_closes s ok n low f name named stays found
      (λ t s. by_end (tag_group name) groups.Block t s group);
}

pub div_block : IsBlockName (codes "div")
div_block = block (codes "div") refl refl refl refl group_div

pub quote_block : IsBlockName (codes "blockquote")
quote_block = block (codes "blockquote") refl refl refl refl group_quote

pub ul_block : IsBlockName (codes "ul")
ul_block = block (codes "ul") refl refl refl refl group_ul

pub ol_block : IsBlockName (codes "ol")
ol_block = block (codes "ol") refl refl refl refl group_ol

pub li_opens : (s : State) (ok : Bool) (p : ℕ) (rest : List ℕ) (f : Forest) (attributes : List Attribute) →
    AreOuter f (p ∷ rest) → IsList p f → stepped (now s ok (p ∷ rest) [] f) (start_of (codes "li") attributes)
    ≡ Some (now s false (nodes f ∷ p ∷ rest) [] (with_new p (codes "li") attributes f))
li_opens s ok p rest f attributes are list = item_opens s ok p rest f (codes "li") attributes are list refl
    (λ t s. by_start (tag_group (codes "li")) groups.ListItem t s group_li)

pub li_closes : Closes (codes "li")
li_closes s ok n low f named =
    item_closes s ok n low f named (λ t s. by_end (tag_group (codes "li")) groups.ListItem t s group_li)

-- elements that hold blocks
pub record IsOuterName (word : List ℕ) : Type 0 where
  pub no_paragraph : is_element_of (one (codes "p")) (of_html word) ≡ false
  pub no_heading : is_element_of headings (of_html word) ≡ false
  pub plain : is_html (codes "template") (of_html word) ≡ false

pub outer : (n : ℕ) (f : Forest) (word : List ℕ) → IsOuterName word → name_of n f ≡ of_html word → n < nodes f →
    IsOuter n f
outer n f word is named held = record {
  word = word;
  named = named;
  no_paragraph = is.no_paragraph;
  no_heading = is.no_heading;
  plain = is.plain;
  held = held;
}

pub outer_html : IsOuterName (codes "html")
outer_html = record { no_paragraph = refl; no_heading = refl; plain = refl }

pub outer_body : IsOuterName (codes "body")
outer_body = record { no_paragraph = refl; no_heading = refl; plain = refl }

pub outer_div : IsOuterName (codes "div")
outer_div = record { no_paragraph = refl; no_heading = refl; plain = refl }

pub outer_quote : IsOuterName (codes "blockquote")
outer_quote = record { no_paragraph = refl; no_heading = refl; plain = refl }

pub outer_ul : IsOuterName (codes "ul")
outer_ul = record { no_paragraph = refl; no_heading = refl; plain = refl }

pub outer_ol : IsOuterName (codes "ol")
outer_ol = record { no_paragraph = refl; no_heading = refl; plain = refl }

pub outer_li : IsOuterName (codes "li")
outer_li = record { no_paragraph = refl; no_heading = refl; plain = refl }

-- lists
list_named : (n : ℕ) (f : Forest) (word : List ℕ) → name_of n f ≡ of_html word →
    is_element_of (one (codes "li")) (of_html word) ≡ false → is_item_barrier (of_html word) ≡ true → IsList n f
list_named n f word named no_item barrier = record {
  no_item = ap (is_element_of (one (codes "li"))) named ∙ no_item;
  barrier = ap is_item_barrier named ∙ barrier;
}

pub ul_list : (n : ℕ) (f : Forest) → name_of n f ≡ of_html (codes "ul") → IsList n f
ul_list n f named = list_named n f (codes "ul") named refl refl

pub ol_list : (n : ℕ) (f : Forest) → name_of n f ≡ of_html (codes "ol") → IsList n f
ol_list n f named = list_named n f (codes "ol") named refl refl
