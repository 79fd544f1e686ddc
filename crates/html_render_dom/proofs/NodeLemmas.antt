-- What a write to one node leaves of all nodes.
use Rattle.std.proofs.Common.{◌≡◌, ◌<◌, [], ◌∷◌, ◌∙◌, Bool, List, Option, ap, arith, false, is_some, length, map}
use Rattle.std.proofs.Common.{option_map, refl, slice_index_or, slice_set, suc, sym, zero, ℕ}
use Rattle.std.proofs.Math.Seq.{map-set_same}
use Rattle.html_lexemes.specs.declared.names.Attribute.{Attribute}
use Rattle.html_lexemes.specs.declared.names.QualName.{QualName}
use Rattle.tree_forest.specs.Changes.{changed, kind_with}
use Rattle.tree_forest.specs.Forest.{Kind, Node, element, node_at, text_of}
use Rattle.html_render_dom.specs.Nodes.{kind_of, links_in, node_in}
use Rattle.html_render_dom.specs.Numbers.{number_of}
use Rattle.html_render_dom.specs.Siblings.{Links}
use Rattle.html_render_dom.specs.declared.node.Handle.{Handle}
use Rattle.html_render_dom.specs.declared.node.Node.{Node as HeldNode}
use Rattle.html_render_dom.specs.declared.node.NodeData.{NodeData}
use Rattle.html_render_dom.specs.declared.node.NodeData.TheVariants as data_of

-- a node by its parts
abbrev pub node_with : Kind → List ℕ → Node
node_with kind children = record { kind = kind; children = children }

abbrev pub element_with : QualName → List Attribute → Option Handle → Bool → Kind
element_with name attributes contents point = element (record {
  name = name;
  attributes = attributes;
  contents = option_map number_of contents;
  integration_point = point;
})

-- attributes more, for one node
abbrev pub adding : List Attribute → Node → Node
adding more x = record { kind = kind_with more x.kind; children = x.children }

node_at_or : (next : List (Option ℕ)) (xs : List HeldNode) (n : ℕ) (d : HeldNode) → n < length (map (node_in next) xs) →
    node_at n (map (node_in next) xs) ≡ node_in next (slice_index_or xs n d)
node_at_or next [] n d h = absurd (omega arith)
node_at_or next (x ∷ xs) zero d h = refl
node_at_or next (x ∷ xs) (suc n) d h = node_at_or next xs n d (omega arith)

pub node_read : (next : List (Option ℕ)) (xs : List HeldNode) (n : ℕ) (x : HeldNode) → x ≡ slice_index_or xs n x → n <
    length (map (node_in next) xs) →
    node_at n (map (node_in next) xs) ≡ node_in next x
node_read next xs n x read h = node_at_or next xs n x h ∙ sym (ap (node_in next) read)

changed_or : (next : List (Option ℕ)) (g : Node → Node) (xs : List HeldNode) (n : ℕ) (y d : HeldNode) → n < length
    (map (node_in next) xs) →
    node_in next y ≡ g (node_in next (slice_index_or xs n d)) → map (node_in next) (slice_set xs n y) ≡ changed n g
    (map (node_in next) xs)
changed_or next g [] n y d h is = absurd (omega arith)
changed_or next g (x ∷ xs) zero y d h is = ap (λ v. v ∷ map (node_in next) xs) is
changed_or next g (x ∷ xs) (suc n) y d h is = ap (λ v. node_in next x ∷ v) (changed_or next g xs n y d (omega arith) is)

node_changed : (next : List (Option ℕ)) (g : Node → Node) (xs : List HeldNode) (n : ℕ) (x y : HeldNode) → x ≡
    slice_index_or xs n x →
    n < length (map (node_in next) xs) → node_in next y ≡ g (node_in next x) →
    map (node_in next) (slice_set xs n y) ≡ changed n g (map (node_in next) xs)
node_changed next g xs n x y read h is = changed_or next g xs n y x h (is ∙ ap (λ v. g (node_in next v)) read)

-- a node that is no text, and one that is no element
pub no_text : (d : NodeData) → ((t : List ℕ) → d ≡ data_of.Text t → ⊥) → false ≡ is_some (text_of (kind_of d))
no_text data_of.Document isnt = refl
no_text (data_of.Doctype name public_id system_id) isnt = refl
no_text (data_of.Text contents) isnt = absurd (isnt contents refl)
no_text (data_of.Comment contents) isnt = refl
no_text (data_of.Element name attrs contents point) isnt = refl
no_text (data_of.ProcessingInstruction target contents) isnt = refl

pub no_element : (more : List Attribute) (d : NodeData) →
    ((n : QualName) (held : List Attribute) (t : Option Handle) (b : Bool) → d ≡ data_of.Element n held t b → ⊥) →
    kind_of d ≡ kind_with more (kind_of d)
no_element more data_of.Document isnt = refl
no_element more (data_of.Doctype name public_id system_id) isnt = refl
no_element more (data_of.Text contents) isnt = refl
no_element more (data_of.Comment contents) isnt = refl
no_element more (data_of.Element name attrs contents point) isnt = absurd (isnt name attrs contents point refl)
no_element more (data_of.ProcessingInstruction target contents) isnt = refl

-- all nodes, where one of them changes in what it is alone
pub forest_changed : (g : Node → Node) (xs : List HeldNode) (n : ℕ) (x y : HeldNode) → x ≡ slice_index_or xs n x →
    n < length (map (node_in (links_in xs).next) xs) →
    node_in (links_in xs).next y ≡ g (node_in (links_in xs).next x) → links_in (slice_set xs n y) ≡ links_in xs →
    map (node_in (links_in (slice_set xs n y)).next) (slice_set xs n y) ≡ changed n g
    (map (node_in (links_in xs).next) xs)
forest_changed g xs n x y read h is links =
    ap (λ (l : Links). map (node_in l.next) (slice_set xs n y)) links ∙ node_changed (links_in xs).next g xs n x y
    read h is

pub forest_same : (xs : List HeldNode) (n : ℕ) (x y : HeldNode) → x ≡ slice_index_or xs n x →
    node_in (links_in xs).next y ≡ node_in (links_in xs).next x → links_in (slice_set xs n y) ≡ links_in xs →
    map (node_in (links_in (slice_set xs n y)).next) (slice_set xs n y) ≡ map (node_in (links_in xs).next) xs
forest_same xs n x y read is links = ap (λ (l : Links). map (node_in l.next) (slice_set xs n y)) links
    ∙ map-set_same (node_in (links_in xs).next) xs n y x (is ∙ ap (node_in (links_in xs).next) read)
