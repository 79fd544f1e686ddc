-- Trees of documents: what stands in a body, as paragraphs, headings, divisions, quotes, lists, line breaks, marks,
-- links and texts (WHATWG HTML, 4.3 to 4.5), each node with what is inside it and what follows it.
use Rattle.std.specs.Prelude.{◌≡◌, ℕ, Bool, true, false, List, [], ◌∷◌, codes, if◌then◌else◌}
use Rattle.token_grammar.specs.Items.{Item, characters, tag}
use Rattle.html_lexemes.specs.declared.names.Attribute.{Attribute}
use Rattle.html_lexemes.specs.declared.names.Namespace.TheVariants.{Other}
use Rattle.html_lexemes.specs.declared.token.TagKind.TheVariants.{EndTag, StartTag}
use Rattle.tree_names.specs.Sets.{is_one_of}

-- a text, by its first character and those after it; an element, by its name and attributes, with what is inside it
pub data Content : Type 0 where
  none : Content
  say : ℕ → List ℕ → Content → Content
  span : List ℕ → List Attribute → Content → Content → Content

-- its tokens
abbrev pub start_of : List ℕ → List Attribute → Item
start_of name attributes = tag (record {
  kind = StartTag;
  name = name;
  self_closing = false;
  attrs = attributes;
  had_duplicate_attributes = false;
})

abbrev pub end_of : List ℕ → Item
end_of name = tag (record {
  kind = EndTag;
  name = name;
  self_closing = false;
  attrs = [];
  had_duplicate_attributes = false;
})

-- a line break has no end tag
abbrev pub ended : List ℕ → List Item → List Item
ended name more = if is_one_of (codes "br" ∷ []) name then more else end_of name ∷ more

abbrev pub tokens_and : Content → List Item → List Item
tokens_and none more = more
tokens_and (say c cs rest) more = characters (c ∷ cs) ∷ tokens_and rest more
tokens_and (span name attributes kids rest) more =
    start_of name attributes ∷ tokens_and kids (ended name (tokens_and rest more))

abbrev pub tokens : Content → List Item
tokens content = tokens_and content []

-- names of elements
abbrev pub marks : List (List ℕ)
marks = codes "b" ∷ codes "i" ∷ codes "em" ∷ codes "code" ∷ codes "strong" ∷ []

abbrev pub texts_of_blocks : List (List ℕ)
texts_of_blocks = codes "p" ∷ codes "h1" ∷ codes "h2" ∷ codes "h3" ∷ codes "h4" ∷ codes "h5" ∷ codes "h6" ∷ []

-- no attribute, or one of this name
abbrev pub in_no_namespace : List ℕ → List ℕ → Attribute
in_no_namespace name value = record { name = record { ns = Other []; local = name }; value = value }

abbrev pub HasOne : List ℕ → List Attribute → Type 0
HasOne name attributes = (value : List ℕ) × (attributes ≡ in_no_namespace name value ∷ [])

-- What may stand in a paragraph, a heading, a mark or a link: no link within a link, and no two texts side by side.
pub data Inline : Type 0 where
  line_break : Inline
  mark : Inline
  link : Inline

abbrev pub IsInline : Inline → (linked : Bool) → List ℕ → List Attribute → Content → Type 0
IsInline line_break linked name attributes kids = (name ≡ codes "br") × ((attributes ≡ []) × (kids ≡ none))
IsInline mark linked name attributes kids = (is_one_of marks name ≡ true) × (attributes ≡ [])
IsInline link linked name attributes kids = (name ≡ codes "a") × (HasOne (codes "href") attributes × (linked ≡ false))

-- inside a link no link stands
abbrev pub linked_in : Inline → Bool → Bool
linked_in line_break linked = linked
linked_in mark linked = linked
linked_in link linked = true

pub data IsInlines : (linked after_text : Bool) → Content → Type 0 where
  nothing : (linked after_text : Bool) → IsInlines linked after_text none
  text : (linked : Bool) (c : ℕ) (cs : List ℕ) (rest : Content) → IsInlines linked true rest →
      IsInlines linked false (say c cs rest)
  inline : (linked after_text : Bool) (kind : Inline) (name : List ℕ) (attributes : List Attribute)
      (kids rest : Content) → IsInline kind linked name attributes kids → IsInlines (linked_in kind linked) false kids →
      IsInlines linked false rest → IsInlines linked after_text (span name attributes kids rest)

-- What may stand in a body, a division, a quote or an item, and the items of a list.
pub data IsBlocks : (of_list : Bool) → Content → Type 0 where
  no_more : (of_list : Bool) → IsBlocks of_list none
  of_text : (name : List ℕ) (kids rest : Content) → is_one_of texts_of_blocks name ≡ true →
      IsInlines false false kids → IsBlocks false rest → IsBlocks false (span name [] kids rest)
  division : (kids rest : Content) → IsBlocks false kids → IsBlocks false rest →
      IsBlocks false (span (codes "div") [] kids rest)
  quote : (kids rest : Content) → IsBlocks false kids → IsBlocks false rest →
      IsBlocks false (span (codes "blockquote") [] kids rest)
  bullets : (kids rest : Content) → IsBlocks true kids → IsBlocks false rest →
      IsBlocks false (span (codes "ul") [] kids rest)
  numbers : (attributes : List Attribute) (kids rest : Content) → HasOne (codes "start") attributes →
      IsBlocks true kids → IsBlocks false rest → IsBlocks false (span (codes "ol") attributes kids rest)
  item : (kids rest : Content) → IsBlocks false kids → IsBlocks true rest →
      IsBlocks true (span (codes "li") [] kids rest)
