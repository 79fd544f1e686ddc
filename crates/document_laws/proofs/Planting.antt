-- What a tree that is planted keeps of the forest before, and what stands last below its node.
use Rattle.std.proofs.Common.{◌≡◌, ◌<◌, ◌≤◌, [], ◌∷◌, ◌++◌, ◌∙◌, List, None, Option, Some, ap, arith, length, refl, suc}
use Rattle.std.proofs.Common.{sym, zero, ℕ}
use Rattle.tree_forest.specs.Changes.{changed, saying}
use Rattle.tree_forest.specs.Forest.{Forest, Kind, Node, children_at, element_of, kind_at, name_of, node_at, nodes}
use Rattle.tree_forest.specs.Forest.{text, text_of}
use Rattle.tree_forest.specs.Places.{trailing, below, last_of, put_words}
use Rattle.html_lexemes.specs.declared.names.Attribute.{Attribute}
use Rattle.document_laws.specs.Contents.{Content, none, say, span}
use Rattle.document_laws.specs.Planted.{node_of_element, of_html, planted, with_new, with_text}
use Rattle.document_laws.proofs.Growing.{changed_last, kind_changed, length_grown, node_before, node_changed, node_here}
use Rattle.document_laws.proofs.Growing.{node_last}
pub use Rattle.document_laws.specs.Parts.{last_text, text_at}

-- a node without children, as the last child of another
abbrev pub leaf : Kind → Node
leaf kind = record { kind = kind; children = [] }

abbrev pub grown : ℕ → Kind → Forest → Forest
grown p kind f = changed p (trailing (nodes f)) (f ++ leaf kind ∷ [])

-- no node goes, and each is of the kind that it was
pub record Keeps (f g : Forest) : Type 0 where
  pub size : nodes f ≤ nodes g
  pub kinds : (q : ℕ) → q < nodes f → kind_at q g ≡ kind_at q f

pub further : (x y z : ℕ) → x ≤ y → y ≤ z → x ≤ z
further x y z h i = omega (arith, h, i)

pub still_held : (q x y : ℕ) → q < x → x ≤ y → q < y
still_held q x y h i = omega (arith, h, i)

one_larger : (x y : ℕ) → y ≡ suc x → x ≤ y
one_larger x y e = omega (arith, e)

pub last_held : (x y : ℕ) → y ≡ suc x → x < y
last_held x y e = omega (arith, e)

pub apart : (q n : ℕ) → q < n → ¬ (q ≡ n)
apart q n h e = absurd (omega (arith, h, e))

pub keeps_itself : (f : Forest) → Keeps f f
keeps_itself f = record { size = omega arith; kinds = λ q held. refl }

pub keeps_on : (f g h : Forest) → Keeps f g → Keeps g h → Keeps f h
keeps_on f g h first second = record {
  size = further (nodes f) (nodes g) (nodes h) first.size second.size;
  kinds = λ q held. second.kinds q (still_held q (nodes f) (nodes g) held first.size) ∙ first.kinds q held;
}

pub name_kept : (f g : Forest) → Keeps f g → (q : ℕ) → q < nodes f → name_of q g ≡ name_of q f
name_kept f g keeps q held = ap (λ kind. (element_of kind).name) (keeps.kinds q held)

-- one node more
pub size_grown : (p : ℕ) (kind : Kind) (f : Forest) → nodes (grown p kind f) ≡ suc (nodes f)
size_grown p kind f = length_grown p (nodes f) f (leaf kind)

pub grown_keeps : (p : ℕ) (kind : Kind) (f : Forest) → Keeps f (grown p kind f)
grown_keeps p kind f = record {
  size = one_larger (nodes f) (nodes (grown p kind f)) (size_grown p kind f);
  kinds = λ q held. kind_changed q p (nodes f) (f ++ leaf kind ∷ [])
      ∙ ap (λ x. x.kind) (node_before q f (leaf kind ∷ []) held);
}

pub grown_other : (q p : ℕ) (kind : Kind) (f : Forest) → q < nodes f → ¬ (q ≡ p) →
    node_at q (grown p kind f) ≡ node_at q f
grown_other q p kind f held other =
    node_changed q p (trailing (nodes f)) (f ++ leaf kind ∷ []) other ∙ node_before q f (leaf kind ∷ []) held

pub grown_kind : (p : ℕ) (kind : Kind) (f : Forest) → kind_at (nodes f) (grown p kind f) ≡ kind
grown_kind p kind f = kind_changed (nodes f) p (nodes f) (f ++ leaf kind ∷ [])
    ∙ ap (λ x. x.kind) (node_last f (leaf kind))

pub grown_children : (p : ℕ) (kind : Kind) (f : Forest) → p < nodes f → children_at (nodes f) (grown p kind f) ≡ []
grown_children p kind f held = ap (λ x. x.children)
    (node_changed (nodes f) p (trailing (nodes f)) (f ++ leaf kind ∷ []) (λ e. apart p (nodes f) held (sym e))
    ∙ node_last f (leaf kind))

last_put : (n : ℕ) (ns : List ℕ) → last_of (ns ++ n ∷ []) ≡ Some n
last_put n [] = refl
last_put n (m ∷ []) = refl
last_put n (m ∷ k ∷ ms) = last_put n (k ∷ ms)

more_held : (p : ℕ) (f : Forest) (x : Node) → p < length f → p < length (f ++ x ∷ [])
more_held p [] x held = absurd (omega (arith, held))
more_held zero (y ∷ f) x held = omega arith
more_held (suc p) (y ∷ f) x held = let k : p < length (f ++ x ∷ []) = more_held p f x (omega (arith, held)) in
    omega (arith, k)

pub grown_last : (p : ℕ) (kind : Kind) (f : Forest) → p < nodes f →
    last_of (children_at p (grown p kind f)) ≡ Some (nodes f)
grown_last p kind f held =
    ap (λ x. last_of x.children) (node_here p (trailing (nodes f)) (f ++ leaf kind ∷ [])
    (more_held p f (leaf kind) held))
    ∙ last_put (nodes f) (children_at p (f ++ leaf kind ∷ []))

-- a character after no text, and after one
first_by : (found : Option ℕ) (p c : ℕ) (f : Forest) → last_of (children_at p f) ≡ found → text_at found f ≡ None →
    put_words (below p) (c ∷ []) f ≡ with_text p (c ∷ []) f
first_by None p c f e no_text = rw e
first_by (Some n) p c f e no_text = rw (e, no_text)

pub first_said : (p c : ℕ) (f : Forest) → last_text p f ≡ None →
    put_words (below p) (c ∷ []) f ≡ with_text p (c ∷ []) f
first_said p c f no_text = first_by (last_of (children_at p f)) p c f refl no_text

said_after : (p c n : ℕ) (ds : List ℕ) (f : Forest) → last_of (children_at p f) ≡ Some n →
    text_of (kind_at n f) ≡ Some ds → put_words (below p) (c ∷ []) f ≡ changed n (saying (c ∷ [])) f
said_after p c n ds f e is = rw (e, is)

pub more_said : (p c : ℕ) (ds : List ℕ) (f : Forest) → p < nodes f →
    put_words (below p) (c ∷ []) (with_text p ds f) ≡ with_text p (ds ++ c ∷ []) f
more_said p c ds f held =
    said_after p c (nodes f) ds (with_text p ds f) (grown_last p (text ds) f held)
    (ap text_of (grown_kind p (text ds) f))
    ∙ changed_last p (saying (c ∷ [])) f (leaf (text ds)) held

-- a whole tree
abbrev pub element_kind : List ℕ → List Attribute → Kind
element_kind name attributes = (node_of_element name attributes []).kind

pub planted_keeps : (content : Content) (p : ℕ) (f : Forest) → Keeps f (planted p content f)
planted_keeps none p f = keeps_itself f
planted_keeps (say c cs rest) p f =
    let g = with_text p (c ∷ cs) f in
    keeps_on f g (planted p rest g) (grown_keeps p (text (c ∷ cs)) f) (planted_keeps rest p g)
planted_keeps (span name attributes kids rest) p f =
    let g = with_new p name attributes f in
    let h = planted (nodes f) kids g in
    keeps_on f h (planted p rest h)
    (keeps_on f g h (grown_keeps p (element_kind name attributes) f) (planted_keeps kids (nodes f) g))
    (planted_keeps rest p h)

pub planted_other : (content : Content) (q p : ℕ) (f : Forest) → q < nodes f → ¬ (q ≡ p) →
    node_at q (planted p content f) ≡ node_at q f
planted_other none q p f held other = refl
planted_other (say c cs rest) q p f held other =
    let kind : Kind = text (c ∷ cs) in
    planted_other rest q p (grown p kind f)
    (still_held q (nodes f) (nodes (grown p kind f)) held (grown_keeps p kind f).size) other
    ∙ grown_other q p kind f held other
planted_other (span name attributes kids rest) q p f held other =
    let g = with_new p name attributes f in
    let h = planted (nodes f) kids g in
    let in_g = still_held q (nodes f) (nodes g) held (grown_keeps p (element_kind name attributes) f).size in
    planted_other rest q p h (still_held q (nodes g) (nodes h) in_g (planted_keeps kids (nodes f) g).size) other
    ∙ planted_other kids q (nodes f) g in_g (apart q (nodes f) held)
    ∙ grown_other q p (element_kind name attributes) f held other

-- after an element and what is inside it no text stands last
text_at_last : (found : Option ℕ) (n : ℕ) (f : Forest) (kind : Kind) → found ≡ Some n → kind_at n f ≡ kind →
    text_of kind ≡ None → text_at found f ≡ None
text_at_last found n f kind e is no_text = rw (e, is) no_text

pub after_element : (p : ℕ) (name : List ℕ) (attributes : List Attribute) (kids : Content) (f : Forest) → p < nodes f →
    last_text p (planted (nodes f) kids (with_new p name attributes f)) ≡ None
after_element p name attributes kids f held =
    let n = nodes f in
    let kind = element_kind name attributes in
    let g = with_new p name attributes f in
    let h = planted n kids g in
    let keeps = planted_keeps kids n g in
    let in_g = still_held p n (nodes g) held (grown_keeps p kind f).size in
    text_at_last (last_of (children_at p h)) n h kind
    (ap (λ x. last_of x.children) (planted_other kids p n g in_g (apart p n held)) ∙ grown_last p kind f held)
    (keeps.kinds n (last_held n (nodes g) (size_grown p kind f)) ∙ grown_kind p kind f)
    refl

pub in_element : (p : ℕ) (name : List ℕ) (attributes : List Attribute) (f : Forest) → p < nodes f →
    last_text (nodes f) (with_new p name attributes f) ≡ None
in_element p name attributes f held =
    ap (λ ns. text_at (last_of ns) (with_new p name attributes f))
    (grown_children p (element_kind name attributes) f held)

pub new_name : (p : ℕ) (name : List ℕ) (attributes : List Attribute) (f : Forest) →
    name_of (nodes f) (with_new p name attributes f) ≡ of_html name
new_name p name attributes f =
    ap (λ kind. (element_of kind).name) (grown_kind p (element_kind name attributes) f)
