-- What changes of a forest make of its texts and of the names of its elements.
use Rattle.std.proofs.Common.{◌≡◌, ◌+◌, ◌≤◌, ◌<◌, [], ◌∷◌, ◌∙◌, Bool, List, ap, arith, false, map, refl, suc, true}
use Rattle.std.proofs.Common.{zero, ℕ}
use Rattle.tree_forest.specs.Changes.{changed, childless, contents_number, detached, kind_with, made, made_element}
use Rattle.tree_forest.specs.Changes.{reparented, with_attributes, with_more, without_child}
use Rattle.tree_forest.specs.Forest.{Forest, Holds, Kind, Node, children_at, comment, doctype, document, element}
use Rattle.tree_forest.specs.Forest.{element_of, instruction, name_of, nodes, text}
use Rattle.tree_forest.specs.Places.{Place, before, below, in_front, put_node, trailing, with_doctype}
use Rattle.html_lexemes.specs.declared.names.Attribute.{Attribute}
use Rattle.html_lexemes.specs.declared.names.QualName.{QualName}
use Rattle.page_tree_laws.specs.KeptText.{characters_of, how_often, in_texts}

-- a forest that comes from another: its texts are the same, no node goes, and each element keeps its name
pub record Follows (f g : Forest) : Type 0 where
  pub texts : (c : ℕ) → in_texts c g ≡ in_texts c f
  pub names : (n : ℕ) → Holds n f → name_of n g ≡ name_of n f
  pub size : nodes f ≤ nodes g

pub no_fewer : (x y : ℕ) → y ≡ x → x ≤ y
no_fewer x y e = omega (arith, e)

pub further : (x y z : ℕ) → x ≤ y → y ≤ z → x ≤ z
further x y z h i = omega (arith, h, i)

pub still_held : (n x y : ℕ) → n < x → x ≤ y → n < y
still_held n x y h i = omega (arith, h, i)

pub follows_itself : (f : Forest) → Follows f f
follows_itself f = record { texts = λ c. refl; names = λ n h. refl; size = omega arith }

pub follows_on : (f g h : Forest) → Follows f g → Follows g h → Follows f h
follows_on f g h first second = record {
  texts = λ c. second.texts c ∙ first.texts c;
  names = λ n held. second.names n (still_held n (nodes f) (nodes g) held first.size) ∙ first.names n held;
  size = further (nodes f) (nodes g) (nodes h) first.size second.size;
}

-- what changes nodes, but neither their texts nor their names
abbrev KeepsTexts : (Node → Node) → Type 0
KeepsTexts h = (x : Node) → characters_of (h x).kind ≡ characters_of x.kind

abbrev KeepsNames : (Node → Node) → Type 0
KeepsNames h = (x : Node) → (element_of (h x).kind).name ≡ (element_of x.kind).name

texts_changed : (c : ℕ) (h : Node → Node) → KeepsTexts h → (p : ℕ) (f : Forest) →
    in_texts c (changed p h f) ≡ in_texts c f
texts_changed c h same p [] = refl
texts_changed c h same zero (x ∷ f) = ap (λ cs. how_often c cs + in_texts c f) (same x)
texts_changed c h same (suc p) (x ∷ f) =
    ap (λ k. how_often c (characters_of x.kind) + k) (texts_changed c h same p f)

texts_mapped : (c : ℕ) (h : Node → Node) → KeepsTexts h → (f : Forest) → in_texts c (map h f) ≡ in_texts c f
texts_mapped c h same [] = refl
texts_mapped c h same (x ∷ f) =
    ap (λ cs. how_often c cs + in_texts c (map h f)) (same x)
    ∙ ap (λ k. how_often c (characters_of x.kind) + k) (texts_mapped c h same f)

pub names_changed : (m : ℕ) (h : Node → Node) → KeepsNames h → (p : ℕ) (f : Forest) →
    name_of m (changed p h f) ≡ name_of m f
names_changed m h same p [] = refl
names_changed zero h same zero (x ∷ f) = same x
names_changed zero h same (suc p) (x ∷ f) = refl
names_changed (suc m) h same zero (x ∷ f) = refl
names_changed (suc m) h same (suc p) (x ∷ f) = names_changed m h same p f

names_mapped : (m : ℕ) (h : Node → Node) → KeepsNames h → (f : Forest) → name_of m (map h f) ≡ name_of m f
names_mapped m h same [] = refl
names_mapped zero h same (x ∷ f) = same x
names_mapped (suc m) h same (x ∷ f) = names_mapped m h same f

pub size_changed : (p : ℕ) (h : Node → Node) (f : Forest) → nodes (changed p h f) ≡ nodes f
size_changed p h [] = refl
size_changed zero h (x ∷ f) = refl
size_changed (suc p) h (x ∷ f) = ap suc (size_changed p h f)

size_mapped : (h : Node → Node) (f : Forest) → nodes (map h f) ≡ nodes f
size_mapped h [] = refl
size_mapped h (x ∷ f) = ap suc (size_mapped h f)

changed_follows : (h : Node → Node) → KeepsTexts h → KeepsNames h → (p : ℕ) (f : Forest) → Follows f (changed p h f)
changed_follows h texts names p f = record {
  texts = λ c. texts_changed c h texts p f;
  names = λ n held. names_changed n h names p f;
  size = no_fewer (nodes f) (nodes (changed p h f)) (size_changed p h f);
}

mapped_follows : (h : Node → Node) → KeepsTexts h → KeepsNames h → (f : Forest) → Follows f (map h f)
mapped_follows h texts names f = record {
  texts = λ c. texts_mapped c h texts f;
  names = λ n held. names_mapped n h names f;
  size = no_fewer (nodes f) (nodes (map h f)) (size_mapped h f);
}

-- what moves nodes
pub put_follows : (place : Place) (n : ℕ) (f : Forest) → Follows f (put_node place n f)
put_follows (below p) n f = changed_follows (trailing n) (λ x. refl) (λ x. refl) p f
put_follows (before s) n f = mapped_follows (in_front s n) (λ x. refl) (λ x. refl) f

pub detached_follows : (n : ℕ) (f : Forest) → Follows f (detached n f)
detached_follows n f = mapped_follows (without_child n) (λ x. refl) (λ x. refl) f

pub reparented_follows : (old new : ℕ) (f : Forest) → Follows f (reparented old new f)
reparented_follows old new f = follows_on f (changed old childless f) (reparented old new f)
    (changed_follows childless (λ x. refl) (λ x. refl) old f)
    (changed_follows (with_more (children_at old f)) (λ x. refl) (λ x. refl) new (changed old childless f))

-- attributes are added
attributed_text : (more : List Attribute) (kind : Kind) → characters_of (kind_with more kind) ≡ characters_of kind
attributed_text more (element e) = refl
attributed_text more document = refl
attributed_text more (doctype name public system) = refl
attributed_text more (text cs) = refl
attributed_text more (comment cs) = refl
attributed_text more (instruction target cs) = refl

attributed_name : (more : List Attribute) (kind : Kind) →
    (element_of (kind_with more kind)).name ≡ (element_of kind).name
attributed_name more (element e) = refl
attributed_name more document = refl
attributed_name more (doctype name public system) = refl
attributed_name more (text cs) = refl
attributed_name more (comment cs) = refl
attributed_name more (instruction target cs) = refl

pub attributes_follow : (n : ℕ) (more : List Attribute) (f : Forest) → Follows f (with_attributes n more f)
attributes_follow n more f = changed_follows
    (λ x. record { kind = kind_with more x.kind; children = x.children })
    (λ x. attributed_text more x.kind) (λ x. attributed_name more x.kind) n f

-- a node more
pub one_more : (x y z : ℕ) → z ≡ x + y → (k : ℕ) → k + z ≡ (k + x) + y
one_more x y z e k = omega (arith, e)

pub texts_made : (c : ℕ) (kind : Kind) (f : Forest) →
    in_texts c (made kind f) ≡ in_texts c f + how_often c (characters_of kind)
texts_made c kind [] = omega arith
texts_made c kind (x ∷ f) = one_more (in_texts c f) (how_often c (characters_of kind)) (in_texts c (made kind f))
    (texts_made c kind f) (how_often c (characters_of x.kind))

pub names_made : (n : ℕ) (kind : Kind) (f : Forest) → Holds n f → name_of n (made kind f) ≡ name_of n f
names_made n kind [] held = absurd (omega (arith, held))
names_made zero kind (x ∷ f) held = refl
names_made (suc n) kind (x ∷ f) held = names_made n kind f (omega (arith, held))

pub size_made : (kind : Kind) (f : Forest) → nodes (made kind f) ≡ suc (nodes f)
size_made kind [] = refl
size_made kind (x ∷ f) = ap suc (size_made kind f)

pub one_larger : (x y : ℕ) → y ≡ suc x → x ≤ y
one_larger x y e = omega (arith, e)

larger : (x y : ℕ) → y ≡ suc x → x < y
larger x y e = omega (arith, e)

no_text : (x y : ℕ) (c : ℕ) (cs : List ℕ) → cs ≡ [] → y ≡ x + how_often c cs → y ≡ x
no_text x y c cs none e = omega (arith, e, ap (how_often c) none)

made_follows : (kind : Kind) → characters_of kind ≡ [] → (f : Forest) → Follows f (made kind f)
made_follows kind silent f = record {
  texts = λ c. no_text (in_texts c f) (in_texts c (made kind f)) c (characters_of kind) silent (texts_made c kind f);
  names = λ n held. names_made n kind f held;
  size = one_larger (nodes f) (nodes (made kind f)) (size_made kind f);
}

pub leaf_follows : (place : Place) (kind : Kind) → characters_of kind ≡ [] → (f : Forest) →
    Follows f (put_node place (nodes f) (made kind f))
leaf_follows place kind silent f = follows_on f (made kind f) (put_node place (nodes f) (made kind f))
    (made_follows kind silent f) (put_follows place (nodes f) (made kind f))

pub doctype_follows : (name public_id system_id : List ℕ) (f : Forest) →
    Follows f (with_doctype name public_id system_id f)
doctype_follows name public_id system_id f = leaf_follows (below 0) (doctype name public_id system_id) refl f

-- an element more: its name, and that it is there
new_name : (kind : Kind) (f : Forest) → name_of (nodes f) (made kind f) ≡ (element_of kind).name
new_name kind [] = refl
new_name kind (x ∷ f) = new_name kind f

pub record IsNew (name : QualName) (f g : Forest) : Type 0 where
  pub follows : Follows f g
  pub held : Holds (nodes f) g
  pub named : name_of (nodes f) g ≡ name

pub new_then : (name : QualName) (f g h : Forest) → IsNew name f g → Follows g h → IsNew name f h
new_then name f g h new more = record {
  follows = follows_on f g h new.follows more;
  held = still_held (nodes f) (nodes g) (nodes h) new.held more.size;
  named = more.names (nodes f) new.held ∙ new.named;
}

kind_new : (kind : Kind) → characters_of kind ≡ [] → (f : Forest) → IsNew ((element_of kind).name) f (made kind f)
kind_new kind silent f = record {
  follows = made_follows kind silent f;
  held = larger (nodes f) (nodes (made kind f)) (size_made kind f);
  named = new_name kind f;
}

pub element_new : (name : QualName) (attributes : List Attribute) (t p : Bool) (f : Forest) →
    IsNew name f (made_element name attributes t p f)
element_new name attributes true p f =
    let kind = element (record {
      name = name;
      attributes = attributes;
      contents = contents_number true f;
      integration_point = p;
    }) in
    new_then name f (made kind f) (made document (made kind f)) (kind_new kind refl f)
    (made_follows document refl (made kind f))
element_new name attributes false p f = kind_new (element (record {
  name = name;
  attributes = attributes;
  contents = contents_number false f;
  integration_point = p;
})) refl f
