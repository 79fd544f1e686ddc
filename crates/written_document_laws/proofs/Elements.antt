-- What a document holds is written as it is read: names, attributes and texts.
use Rattle.std.proofs.Common.{◌≡◌, ◌&&◌, ◌||◌, [], ◌∷◌, ◌∙◌, Bool, List, Some, ap, codes, false, not, refl, subst, sym}
use Rattle.std.proofs.Common.{true, ℕ}
use Rattle.std.proofs.lemmas.Slice.Eq.{bytes_eq-Decides}
use Rattle.std.specs.List.{list_all}
use Rattle.std.specs.Str.{bytes_eq}
use Rattle.document_laws.specs.Escaped.{HasNoNul}
use Rattle.token_grammar.specs.Characters.{is_letter, name_of}
use Rattle.token_grammar.specs.Slices.{first_passes}
use Rattle.token_grammar.specs.Tags.{ends_tag_name, first_of_each}
use Rattle.html_lexemes.specs.declared.names.Attribute.{Attribute}
use Rattle.tree_serializer.specs.Walks.{is_raw}
use Rattle.tree_names.specs.ElementSets.{raw_text_elements, void_elements}
use Rattle.tree_names.specs.Sets.{is_element_of, is_html, is_one_of}
use Rattle.document_laws.specs.Contents.{Content, HasOne, Inline, IsBlocks, IsInline, IsInlines, marks, none, say, span}
use Rattle.document_laws.specs.Contents.{texts_of_blocks}
use Rattle.document_laws.specs.Contents as kinds
use Rattle.document_laws.specs.Planted.{of_html}
use Rattle.written_document_laws.specs.Documents.{AreWithout, IsWithout, is_void}
use Rattle.written_document_laws.specs.Written.{AreAttributes, IsAttributeName, IsTagName}

-- ---- names

-- A name of an element in a body: no title, nothing raw, and void just where it is `br`.
pub record IsElementName (name : List ℕ) : Type 0 where
  pub written : IsTagName name
  pub untitled : is_one_of (codes "title" ∷ []) name ≡ false
  pub void : is_element_of void_elements (of_html name) ≡ is_void name
  pub no_raw : is_element_of raw_text_elements (of_html name) ≡ false
  pub no_script : is_html (codes "noscript") (of_html name) ≡ false

and_false : (b : Bool) → (b && false) ≡ false
and_false true = refl
and_false false = refl

pub never_raw : (scripting : Bool) (name : List ℕ) → IsElementName name → is_raw scripting (Some (of_html name)) ≡ false
never_raw scripting name is =
    ap (λ b. b || (scripting && is_html (codes "noscript") (of_html name))) is.no_raw
    ∙ ap (λ b. scripting && b) is.no_script ∙ and_false scripting

abbrev IsHolder : List ℕ → Type 0
IsHolder name = IsElementName name × (is_void name ≡ false)

is_element : (name : List ℕ) → first_passes is_letter name ≡ true → list_all (λ c. not (ends_tag_name c)) name ≡ true →
    name_of name ≡ name → is_one_of (codes "title" ∷ []) name ≡ false →
    is_element_of void_elements (of_html name) ≡ is_void name → is_element_of raw_text_elements (of_html name) ≡ false →
    is_html (codes "noscript") (of_html name) ≡ false → IsElementName name
is_element name begins goes_on lower untitled void no_raw no_script = record {
  written = record { begins = begins; goes_on = goes_on; lower = lower };
  untitled = untitled;
  void = void;
  no_raw = no_raw;
  no_script = no_script;
}

named_br : IsElementName (codes "br")
named_br = is_element (codes "br") refl refl refl refl refl refl refl

named_a : IsHolder (codes "a")
named_a = (is_element (codes "a") refl refl refl refl refl refl refl, refl)

named_b : IsHolder (codes "b")
named_b = (is_element (codes "b") refl refl refl refl refl refl refl, refl)

named_i : IsHolder (codes "i")
named_i = (is_element (codes "i") refl refl refl refl refl refl refl, refl)

named_em : IsHolder (codes "em")
named_em = (is_element (codes "em") refl refl refl refl refl refl refl, refl)

named_code : IsHolder (codes "code")
named_code = (is_element (codes "code") refl refl refl refl refl refl refl, refl)

named_strong : IsHolder (codes "strong")
named_strong = (is_element (codes "strong") refl refl refl refl refl refl refl, refl)

named_p : IsHolder (codes "p")
named_p = (is_element (codes "p") refl refl refl refl refl refl refl, refl)

named_h1 : IsHolder (codes "h1")
named_h1 = (is_element (codes "h1") refl refl refl refl refl refl refl, refl)

named_h2 : IsHolder (codes "h2")
named_h2 = (is_element (codes "h2") refl refl refl refl refl refl refl, refl)

named_h3 : IsHolder (codes "h3")
named_h3 = (is_element (codes "h3") refl refl refl refl refl refl refl, refl)

named_h4 : IsHolder (codes "h4")
named_h4 = (is_element (codes "h4") refl refl refl refl refl refl refl, refl)

named_h5 : IsHolder (codes "h5")
named_h5 = (is_element (codes "h5") refl refl refl refl refl refl refl, refl)

named_h6 : IsHolder (codes "h6")
named_h6 = (is_element (codes "h6") refl refl refl refl refl refl refl, refl)

named_div : IsHolder (codes "div")
named_div = (is_element (codes "div") refl refl refl refl refl refl refl, refl)

named_quote : IsHolder (codes "blockquote")
named_quote = (is_element (codes "blockquote") refl refl refl refl refl refl refl, refl)

named_ul : IsHolder (codes "ul")
named_ul = (is_element (codes "ul") refl refl refl refl refl refl refl, refl)

named_ol : IsHolder (codes "ol")
named_ol = (is_element (codes "ol") refl refl refl refl refl refl refl, refl)

named_li : IsHolder (codes "li")
named_li = (is_element (codes "li") refl refl refl refl refl refl refl, refl)

-- what holds of one of some names
either : (b c : Bool) (P : Type 0) → (b || c) ≡ true → (b ≡ true → P) → (c ≡ true → P) → P
either true c P e first later = first refl
either false c P e first later = later e

abbrev pub ForAll : (P : List ℕ → Type 0) → List (List ℕ) → Type 0
ForAll P [] = Unit {0}
ForAll P (word ∷ words) = P word × ForAll P words

pub for_one : (P : List ℕ → Type 0) (words : List (List ℕ)) (name : List ℕ) → ForAll P words →
    is_one_of words name ≡ true → P name
for_one P [] name all is = absurd (let k : false ≡ true = is in cc)
for_one P (word ∷ words) name all is = either (bytes_eq name word) (is_one_of words name) (P name) is
    (λ e. subst P (sym ((bytes_eq-Decides name word).0 e)) all.0)
    (λ e. for_one P words name all.1 e)

mark_named : (name : List ℕ) → is_one_of marks name ≡ true → IsHolder name
mark_named name is = for_one IsHolder marks name (named_b, (named_i, (named_em, (named_code, (named_strong, tt))))) is

text_named : (name : List ℕ) → is_one_of texts_of_blocks name ≡ true → IsHolder name
text_named name is = for_one IsHolder texts_of_blocks name
    (named_p, (named_h1, (named_h2, (named_h3, (named_h4, (named_h5, (named_h6, tt))))))) is

abbrev pub AreNamed : Content → Type 0
AreNamed none = Unit {0}
AreNamed (say c cs rest) = AreNamed rest
AreNamed (span name attributes kids rest) = IsElementName name × (AreNamed kids × AreNamed rest)

inline_named : (kind : Inline) (linked : Bool) (name : List ℕ) (attributes : List Attribute) (kids : Content) →
    IsInline kind linked name attributes kids → IsElementName name
inline_named kinds.line_break linked name attributes kids h = subst IsElementName (sym h.0) named_br
inline_named kinds.mark linked name attributes kids h = (mark_named name h.0).0
inline_named kinds.link linked name attributes kids h = subst IsElementName (sym h.0) named_a.0

inlines_named : (linked trailing : Bool) (content : Content) → IsInlines linked trailing content → AreNamed content
inlines_named linked trailing _ (kinds.nothing _ _) = tt
inlines_named linked trailing _ (kinds.text _ c cs rest is) = inlines_named linked true rest is
inlines_named linked trailing _ (kinds.inline _ _ kind name attributes kids rest is inner further) = (
  inline_named kind linked name attributes kids is,
  (inlines_named _ false kids inner, inlines_named linked false rest further),
)

pub blocks_named : (of_list : Bool) (content : Content) → IsBlocks of_list content → AreNamed content
blocks_named of_list _ (kinds.no_more _) = tt
blocks_named of_list _ (kinds.of_text name kids rest is inner further) =
    ((text_named name is).0, (inlines_named false false kids inner, blocks_named false rest further))
blocks_named of_list _ (kinds.division kids rest inner further) =
    (named_div.0, (blocks_named false kids inner, blocks_named false rest further))
blocks_named of_list _ (kinds.quote kids rest inner further) =
    (named_quote.0, (blocks_named false kids inner, blocks_named false rest further))
blocks_named of_list _ (kinds.bullets kids rest inner further) =
    (named_ul.0, (blocks_named true kids inner, blocks_named false rest further))
blocks_named of_list _ (kinds.numbers attributes kids rest one_start inner further) =
    (named_ol.0, (blocks_named true kids inner, blocks_named false rest further))
blocks_named of_list _ (kinds.item kids rest inner further) =
    (named_li.0, (blocks_named false kids inner, blocks_named true rest further))

-- ---- attributes and texts without NUL

pub record IsElement (name : List ℕ) (its_attributes : List Attribute) (kids : Content) : Type 0 where
  pub attributes : AreAttributes its_attributes
  pub once : first_of_each [] its_attributes ≡ its_attributes
  pub void : is_void name ≡ true → kids ≡ none

abbrev pub AreReadable : Content → Type 0
AreReadable none = Unit {0}
AreReadable (say c cs rest) = HasNoNul (c ∷ cs) × AreReadable rest
AreReadable (span name attributes kids rest) = IsElement name attributes kids × (AreReadable kids × AreReadable rest)

never : (b : Bool) (kids : Content) → b ≡ false → b ≡ true → kids ≡ none
never b kids e h = cc

one_attribute : (word : List ℕ) (attributes : List Attribute) → IsAttributeName word → HasOne word attributes →
    AreWithout 0 attributes → AreAttributes attributes
one_attribute word attributes named one without =
    subst AreAttributes (sym one.1) ((refl, (named, (subst (AreWithout 0) one.1 without).0)), tt)

one_alone : (word : List ℕ) (attributes : List Attribute) → HasOne word attributes →
    first_of_each [] attributes ≡ attributes
one_alone word attributes one = subst (λ xs. first_of_each [] xs ≡ xs) (sym one.1) refl

bare : (name : List ℕ) (attributes : List Attribute) (kids : Content) → attributes ≡ [] →
    (is_void name ≡ true → kids ≡ none) →
    IsElement name attributes kids
bare name attributes kids e void = record {
  attributes = subst AreAttributes (sym e) tt;
  once = subst (λ xs. first_of_each [] xs ≡ xs) (sym e) refl;
  void = void;
}

inline_element : (kind : Inline) (linked : Bool) (name : List ℕ) (attributes : List Attribute) (kids : Content) →
    IsInline kind linked name attributes kids → AreWithout 0 attributes → IsElement name attributes kids
inline_element kinds.line_break linked name attributes kids h without = bare name attributes kids h.1.0 (λ e. h.1.1)
inline_element kinds.mark linked name attributes kids h without =
    bare name attributes kids h.1 (never (is_void name) kids (mark_named name h.0).1)
inline_element kinds.link linked name attributes kids h without = record {
  attributes = one_attribute (codes "href") attributes (record { begins = refl; goes_on = refl; lower = refl }) h.1.0
      without;
  once = one_alone (codes "href") attributes h.1.0;
  void = never (is_void name) kids (ap is_void h.0);
}

inlines_readable : (linked trailing : Bool) (content : Content) → IsInlines linked trailing content →
    IsWithout 0 content →
    AreReadable content
inlines_readable linked trailing _ (kinds.nothing _ _) h = tt
inlines_readable linked trailing _ (kinds.text _ c cs rest is) h = (h.0, inlines_readable linked true rest is h.1)
inlines_readable linked trailing _ (kinds.inline _ _ kind name attributes kids rest is inner further) h = (
  inline_element kind linked name attributes kids is h.0,
  (inlines_readable _ false kids inner h.1.0, inlines_readable linked false rest further h.1.1),
)

plain_element : (name : List ℕ) (kids : Content) → is_void name ≡ false → IsElement name [] kids
plain_element name kids e = bare name [] kids refl (never (is_void name) kids e)

pub blocks_readable : (of_list : Bool) (content : Content) → IsBlocks of_list content → IsWithout 0 content →
    AreReadable content
blocks_readable of_list _ (kinds.no_more _) h = tt
blocks_readable of_list _ (kinds.of_text name kids rest is inner further) h = (
  plain_element name kids (text_named name is).1,
  (inlines_readable false false kids inner h.1.0, blocks_readable false rest further h.1.1),
)
blocks_readable of_list _ (kinds.division kids rest inner further) h = (
  plain_element (codes "div") kids refl,
  (blocks_readable false kids inner h.1.0, blocks_readable false rest further h.1.1),
)
blocks_readable of_list _ (kinds.quote kids rest inner further) h = (
  plain_element (codes "blockquote") kids refl,
  (blocks_readable false kids inner h.1.0, blocks_readable false rest further h.1.1),
)
blocks_readable of_list _ (kinds.bullets kids rest inner further) h = (
  plain_element (codes "ul") kids refl,
  (blocks_readable true kids inner h.1.0, blocks_readable false rest further h.1.1),
)
blocks_readable of_list _ (kinds.numbers attributes kids rest one_start inner further) h = (
  record {
    attributes = one_attribute (codes "start") attributes (record { begins = refl; goes_on = refl; lower = refl })
        one_start h.0;
    once = one_alone (codes "start") attributes one_start;
    void = never (is_void (codes "ol")) kids refl;
  },
  (blocks_readable true kids inner h.1.0, blocks_readable false rest further h.1.1),
)
blocks_readable of_list _ (kinds.item kids rest inner further) h = (
  plain_element (codes "li") kids refl,
  (blocks_readable false kids inner h.1.0, blocks_readable true rest further h.1.1),
)
