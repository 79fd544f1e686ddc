-- The skeleton of a page (WHATWG HTML, 4.1.1 and 13.2.6.4.1 to 13.2.6.4.7): the document has one child element, `html`,
-- whose first child elements are `head` and then `body`, or `frameset` where a page of frames was emitted.
use Rattle.std.specs.Prelude.{◌≡◌, ℕ, Bool, true, false, List, [], ◌∷◌, codes, if◌then◌else◌}
use Rattle.tree_forest.specs.Forest.{Forest, Kind, children_at, comment, doctype, document, element, instruction}
use Rattle.tree_forest.specs.Forest.{kind_at, name_of, text}
use Rattle.token_grammar.specs.Items.{Item}
use Rattle.token_grammar.specs.Items as items
use Rattle.token_grammar.specs.Reading.{Reading}
use Rattle.token_grammar.specs.declared.modes.Mode.{Mode}
use Rattle.lex_base.specs.References.{References}
use Rattle.html_lexemes.specs.declared.token.TagKind.{TagKind}
use Rattle.html_lexemes.specs.declared.token.TagKind.TheVariants.{EndTag, StartTag}
use Rattle.page_tree_laws.specs.KeptText.{IsAtBeginning}
use Rattle.page_tree_laws.specs.PageTexts.{items_of}
use Rattle.tree_names.specs.Sets.{html_elements, is_element_of, is_html, is_one_of}
use Rattle.rules_table.specs.Settling.{meaning}
use Rattle.rules_table.specs.State.{State}

-- the elements among the children of a node, in order
abbrev pub is_element : Kind → Bool
is_element (element e) = true
is_element document = false
is_element (doctype name public system) = false
is_element (text cs) = false
is_element (comment cs) = false
is_element (instruction target cs) = false

abbrev pub elements_among : Forest → List ℕ → List ℕ
elements_among f [] = []
elements_among f (n ∷ ns) = if is_element (kind_at n f) then n ∷ elements_among f ns else elements_among f ns

abbrev pub child_elements : ℕ → Forest → List ℕ
child_elements n f = elements_among f (children_at n f)

-- what stands after the head: the body, or, where framesets are emitted, one of them
abbrev pub bodies : (is_framed : Bool) → List (List ℕ)
bodies true = codes "body" ∷ codes "frameset" ∷ []
bodies false = codes "body" ∷ []

pub record IsSkeleton (is_framed : Bool) (f : Forest) : Type 0 where
  pub root : ℕ
  pub head : ℕ
  pub body : ℕ
  pub others : List ℕ
  pub below_document : child_elements 0 f ≡ root ∷ []
  pub below_root : child_elements root f ≡ head ∷ body ∷ others
  pub root_named : is_html (codes "html") (name_of root f) ≡ true
  pub head_named : is_html (codes "head") (name_of head f) ≡ true
  pub body_named : is_element_of (html_elements (bodies is_framed)) (name_of body f) ≡ true

-- no start tag of a frameset is emitted
abbrev pub is_unframed_name : TagKind → List ℕ → Bool
is_unframed_name StartTag name = if is_one_of (codes "frameset" ∷ []) name then false else true
is_unframed_name EndTag name = true

abbrev pub is_unframed : Item → Bool
is_unframed (items.tag t) = is_unframed_name t.kind t.name
is_unframed _ = true

abbrev pub EmitsNoFrames : List Item → Type 0
EmitsNoFrames [] = Unit {0}
EmitsNoFrames (item ∷ more) = (is_unframed item ≡ true) × EmitsNoFrames more

abbrev pub HasSkeletonOfPage : Type 0 → Type 0
HasSkeletonOfPage H = (table : References) (handle : ℕ → H) (mode : Mode) (s : State) (cs : List ℕ) (final : State)
    (reading : Reading table (meaning handle) mode s cs final) →
    IsAtBeginning s → child_elements 0 s.tree.forest ≡ [] →
    (is_framed : Bool) → (is_framed ≡ false → EmitsNoFrames (items_of reading)) →
    IsSkeleton is_framed final.tree.forest
