-- What stands above what after a change: as before, or by the edges that the change has added.
use Rattle.std.proofs.Common.{◌≡◌, ◌+◌, ◌⊎◌, ◌∙◌, [], ◌∷◌, Bool, List, None, Option, Some, arith, false, inl, inr, refl}
use Rattle.std.proofs.Common.{subst, sym, true, ℕ}
use Rattle.html_lexemes.specs.declared.names.Attribute.{Attribute}
use Rattle.html_lexemes.specs.declared.names.QualName.{QualName}
use Rattle.tree_forest.specs.Changes.{changed, detached, made, made_element, reparented, saying, with_attributes}
use Rattle.tree_forest.specs.Conditions.{CanPut, IsAbovePlace, IsPlace}
use Rattle.tree_forest.specs.Forest.{Forest, Holds, Kind, Node, children_at, document, element_of, kind_at, nodes, text}
use Rattle.tree_forest.specs.Forest.{text_of}
use Rattle.tree_forest.specs.Orders.{Above, AtOrAbove, IsForest, IsIn, IsParent, child, further, of_child, of_contents}
use Rattle.tree_forest.specs.Places.{Place, before, below, neighbour, node, put_node, put_words}
use Rattle.tree_forest.proofs.KeptForests.{edges_from}
use Rattle.tree_forest.proofs.LawTexts.{new_text, new_text_after, text_more}
use Rattle.tree_forest.proofs.MadeNodes.{edge_made, leaf_kept, leaf_put}
use Rattle.tree_forest.proofs.MovedNodes.{below_moved, edge_before, front_moved}
use Rattle.tree_forest.proofs.Nodes.{attributed, children_made, contents_made_at, contents_said, contents_with}
use Rattle.tree_forest.proofs.Nodes.{holds_parent, kept}
use Rattle.tree_forest.proofs.Relations.{IsThrough, above_in, either, first_edge, through}
use Rattle.tree_forest.proofs.Reparenting.{child_after, contents_after}

-- a path and an edge, and an edge and a path
pub above_by : (E : ℕ → ℕ → Type 0) (a b c : ℕ) → AtOrAbove E a b → E b c → Above E a c
above_by E a b c (inl e) edge = child a c (subst (λ x. E x c) (sym e) edge)
above_by E a b c (inr up) edge = further a b c up edge

pub above_from : (E : ℕ → ℕ → Type 0) (a b c : ℕ) → E a b → AtOrAbove E b c → Above E a c
above_from E a b c edge (inl e) = child a c (subst (E a) e edge)
above_from E a b c edge (inr (child _ _ next)) = further a b c (child a b edge) next
above_from E a b c edge (inr (further _ d _ up next)) = further a d c (above_from E a b d edge (inr up)) next

-- who stands above and who below is there
pub below_held : (a b : ℕ) (f : Forest) → IsForest f → Above (IsParent f) a b → Holds b f
below_held a b f forest (child _ _ e) = forest.within a b e
below_held a b f forest (further _ c _ up e) = forest.within c b e

pub above_held : (a b : ℕ) (f : Forest) → Above (IsParent f) a b → Holds a f
above_held a b f up = let edge = first_edge (IsParent f) a b up in holds_parent a edge.0 f edge.1

pub both_held : (a b : ℕ) (f : Forest) → IsForest f → Above (IsParent f) a b → Holds a f × Holds b f
both_held a b f forest up = (above_held a b f up, below_held a b f forest up)

-- a node that is made
pub above_made : (kind : Kind) (a b : ℕ) (f : Forest) → (element_of kind).contents ≡ None →
    Above (IsParent (made kind f)) a b → Above (IsParent f) a b
above_made kind a b f plain up = above_in (IsParent (made kind f)) (IsParent f) (edge_made kind f plain) a b up

edge_new : (kind : Kind) (a b : ℕ) (f : Forest) → IsParent (made kind f) a b →
    IsParent f a b ⊎ ((element_of kind).contents ≡ Some b)
edge_new kind a b f (of_child _ _ i) = inl (of_child a b (subst (IsIn b) (children_made a kind f) i))
edge_new kind a b f (of_contents _ _ e) = either (λ old. inl (of_contents a b (sym old ∙ e)))
    (λ new. inr (sym new.1 ∙ e)) (contents_made_at a kind f)

-- where a node's contents are no old node, a path to an old node is an old one
module _ (kind : Kind) (f : Forest) (far : (c : ℕ) → (element_of kind).contents ≡ Some c → ¬ (Holds c f)) where
  old_edge : (a b : ℕ) → Holds b f → IsParent (made kind f) a b → IsParent f a b
  old_edge a b held e = either (λ old. old) (λ new. absurd (far b new held)) (edge_new kind a b f e)

  old_path : (a b : ℕ) → Holds b f → Above (IsParent (made kind f)) a b → Above (IsParent f) a b
  old_path a b held (child _ _ e) = child a b (old_edge a b held e)
  old_path a b held (further _ c _ up e) =
      let edge : IsParent f c b = old_edge c b held e in
      further a c b (old_path a c (holds_parent c b f edge) up) edge

template_far : (f : Forest) (held : Option ℕ) → held ≡ Some (nodes f + 1) → (c : ℕ) → held ≡ Some c → ¬ (Holds c f)
template_far f held e c is there = let same : c ≡ nodes f + 1 = cc in absurd (omega arith)

template_path : (kind : Kind) (a b : ℕ) (f : Forest) → (element_of kind).contents ≡ Some (nodes f + 1) → Holds b f →
    Above (IsParent (made document (made kind f))) a b → Above (IsParent f) a b
template_path kind a b f is held up =
    old_path kind f (template_far f (element_of kind).contents is) a b held
    (above_made document a b (made kind f) refl up)

pub above_made_element : (name : QualName) (attributes : List Attribute) (is_template point : Bool) (a b : ℕ)
    (f : Forest) → Holds b f → Above (IsParent (made_element name attributes is_template point f)) a b →
    Above (IsParent f) a b
above_made_element name attributes true point a b f held up = template_path _ a b f refl held up
above_made_element name attributes false point a b f held up = above_made _ a b f refl up

-- a node that is put
through_node : (E : ℕ → ℕ → Type 0) (p n a b : ℕ) (A : Type 0) → (AtOrAbove E a p → A) →
    Above E a b ⊎ IsThrough E p (λ c. c ≡ n) a b → Above E a b ⊎ (A × AtOrAbove E n b)
through_node E p n a b A start (inl up) = inl up
through_node E p n a b A start (inr t) =
    inr (start t.start, subst (λ c. AtOrAbove E c b) t.taken t.onward)

pub above_put : (place : Place) (n a b : ℕ) (f : Forest) → IsForest f → CanPut place (node n) f →
    Above (IsParent (put_node place n f)) a b →
    Above (IsParent f) a b ⊎ (IsAbovePlace place a f × AtOrAbove (IsParent f) n b)
above_put (below p) n a b f forest can up =
    let change = below_moved p n f forest can.1.free in
    through_node (IsParent f) p n a b (AtOrAbove (IsParent f) a p) (λ start. start)
    (through (IsParent f) (IsParent (put_node (below p) n f)) p (λ c. c ≡ n)
    (edges_from f (put_node (below p) n f) p (λ c. c ≡ n) change.contents change.children) a b up)
above_put (before s) n a b f forest can up =
    let p : ℕ = can.0.0 in
    let change = front_moved p s n f forest can.0.1 can.1.free in
    through_node (IsParent f) p n a b (Above (IsParent f) a s)
    (λ start. above_by (IsParent f) a p s start (of_child p s can.0.1))
    (through (IsParent f) (IsParent (put_node (before s) n f)) p (λ c. c ≡ n)
    (edges_from f (put_node (before s) n f) p (λ c. c ≡ n) change.contents change.children) a b up)

-- a change that keeps children and contents adds no path
above_same : (g : Node → Node) (n a b : ℕ) (f : Forest) → ((x : Node) → (g x).children ≡ x.children) →
    ((x : Node) → (element_of (g x).kind).contents ≡ (element_of x.kind).contents) →
    Above (IsParent (changed n g f)) a b → Above (IsParent f) a b
above_same g n a b f children contents up = above_in (IsParent (changed n g f)) (IsParent f) same_edge a b up where
  same_edge : (p c : ℕ) → IsParent (changed n g f) p c → IsParent f p c
  same_edge p c (of_child _ _ i) = of_child p c (subst (IsIn c) (kept (λ x. x.children) g n p f children) i)
  same_edge p c (of_contents _ _ e) =
      of_contents p c (sym (kept (λ x. (element_of x.kind).contents) g n p f contents) ∙ e)

pub above_attributes : (n : ℕ) (more : List Attribute) (a b : ℕ) (f : Forest) →
    Above (IsParent (with_attributes n more f)) a b → Above (IsParent f) a b
above_attributes n more a b f up =
    above_same (attributed more) n a b f (λ x. refl) (λ x. contents_with more x.kind) up

-- a node that is taken out, and children that go to another node
pub above_taken_out : (n a b : ℕ) (f : Forest) → Above (IsParent (detached n f)) a b → Above (IsParent f) a b
above_taken_out n a b f up = above_in (IsParent (detached n f)) (IsParent f) (λ c d. edge_before n c d f) a b up

pub above_reparented : (old new a b : ℕ) (f : Forest) → Above (IsParent (reparented old new f)) a b →
    Above (IsParent f) a b ⊎ (AtOrAbove (IsParent f) a new × Above (IsParent f) old b)
above_reparented old new a b f up = either (λ before_it. inl before_it)
    (λ t. inr (t.start, above_from (IsParent f) old t.turn b (of_child old t.turn t.taken) t.onward))
    (through (IsParent f) (IsParent (reparented old new f)) new (λ c. IsIn c (children_at old f))
    (edges_from f (reparented old new f) new (λ c. IsIn c (children_at old f)) (λ c. contents_after c old new f)
    (λ c d i. either (λ h. inl h.0) (λ h. inr h) (child_after c d old new f i))) a b up)

-- characters are a new text node at their place, or a text that is there grows
found_by : (place : Place) (c : ℕ) (cs : List ℕ) (n : ℕ) (f : Forest) (said : Option (List ℕ)) →
    neighbour place f ≡ Some n → text_of (kind_at n f) ≡ said →
    (put_words place (c ∷ cs) f ≡ put_node place (nodes f) (made (text (c ∷ cs)) f)) ⊎
    ((m : ℕ) × (put_words place (c ∷ cs) f ≡ changed m (saying (c ∷ cs)) f))
found_by place c cs n f None e k = inl (new_text_after place c cs n f e k)
found_by place c cs n f (Some said) e k = inr (n, text_more place c cs said n f e k)

words_by : (place : Place) (c : ℕ) (cs : List ℕ) (f : Forest) (found : Option ℕ) → neighbour place f ≡ found →
    (put_words place (c ∷ cs) f ≡ put_node place (nodes f) (made (text (c ∷ cs)) f)) ⊎
    ((m : ℕ) × (put_words place (c ∷ cs) f ≡ changed m (saying (c ∷ cs)) f))
words_by place c cs f None e = inl (new_text place c cs f e)
words_by place c cs f (Some n) e = found_by place c cs n f (text_of (kind_at n f)) e refl

pub words_are : (place : Place) (c : ℕ) (cs : List ℕ) (f : Forest) →
    (put_words place (c ∷ cs) f ≡ put_node place (nodes f) (made (text (c ∷ cs)) f)) ⊎
    ((m : ℕ) × (put_words place (c ∷ cs) f ≡ changed m (saying (c ∷ cs)) f))
words_are place c cs f = words_by place c cs f (neighbour place f) refl

-- nothing old is below a node that is new
none_below : (kind : Kind) (b : ℕ) (f : Forest) → (element_of kind).contents ≡ None → Holds b f →
    ¬ (AtOrAbove (IsParent (made kind f)) (nodes f) b)
none_below kind b f plain held (inl e) = absurd (omega arith)
none_below kind b f plain held (inr up) =
    let there : Holds (nodes f) f = above_held (nodes f) b f (above_made kind (nodes f) b f plain up) in
    absurd (omega arith)

above_new_text : (place : Place) (cs : List ℕ) (a b : ℕ) (f : Forest) → IsForest f → IsPlace place f → Holds b f →
    Above (IsParent (put_node place (nodes f) (made (text cs) f))) a b → Above (IsParent f) a b
above_new_text place cs a b f forest there held up = either (λ old. above_made (text cs) a b f refl old)
    (λ new. absurd (none_below (text cs) b f refl held new.1))
    (above_put place (nodes f) a b (made (text cs) f) (leaf_kept (text cs) f forest refl)
    (leaf_put (text cs) f forest refl place there (λ e. absurd (cc))) up)

pub above_words : (place : Place) (cs : List ℕ) (a b : ℕ) (f : Forest) → IsForest f → IsPlace place f → Holds b f →
    Above (IsParent (put_words place cs f)) a b → Above (IsParent f) a b
above_words place [] a b f forest there held up = up
above_words place (c ∷ cs) a b f forest there held up = either
    (λ new. above_new_text place (c ∷ cs) a b f forest there held (subst (λ g. Above (IsParent g) a b) new up))
    (λ more. above_same (saying (c ∷ cs)) more.0 a b f (λ x. refl) (λ x. contents_said (c ∷ cs) x.kind)
    (subst (λ g. Above (IsParent g) a b) more.1 up))
    (words_are place c cs f)
