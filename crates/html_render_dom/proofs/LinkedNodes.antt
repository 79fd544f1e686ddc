-- Nodes in memory are a forest whose parents are noted, where their two parts are.
use Rattle.std.proofs.Common.{◌≡◌, ℕ, Bool, true, false, List, Option, None, Some, refl, sym, ap, ◌∙◌, subst}
use Rattle.html_lexemes.specs.declared.names.Attribute.{Attribute}
use Rattle.html_lexemes.specs.declared.names.QualName.{QualName}
use Rattle.tree_forest.specs.Changes.{contents_number, made, made_element}
use Rattle.tree_forest.specs.Forest.{Forest, Holds, Kind, children_at, document, element, parent_of}
use Rattle.tree_forest.specs.Orders.{HasNoParent, IsForest, IsIn, of_child}
use Rattle.tree_forest.proofs.Nodes.{holds_child}
use Rattle.html_render_dom.specs.Links.{AreLinks, IsLinked}
use Rattle.html_render_dom.specs.Nodes.{forest_of, links_of}
use Rattle.html_render_dom.specs.Siblings.{Links, link_at}
use Rattle.html_render_dom.proofs.LinkChanges.{down}
use Rattle.html_render_dom.specs.declared.nodes.Nodes.{Nodes}

pub linked_at : (held : Nodes) (f : Forest) (links : Links) → forest_of held ≡ f → links_of held ≡ links →
    IsForest f → AreLinks f links → IsLinked held
linked_at held f links e l forest are = record {
  forest = subst IsForest (sym e) forest;
  links = subst (λ g. AreLinks g (links_of held)) (sym e) (subst (AreLinks f) (sym l) are);
}

pub no_child : (n : ℕ) (f : Forest) → HasNoParent n f → (q : ℕ) → ¬ (IsIn n (children_at q f))
no_child n f free q h = free q (of_child q n h)

-- the parent that a child has noted
pub noted_child : (held : Nodes) (n p : ℕ) → IsLinked held → Some p ≡ link_at n (links_of held).parent →
    IsIn n (children_at p (forest_of held))
noted_child held n p linked e = linked.links.up n p (sym e)

pub noted_holds : (held : Nodes) (n p : ℕ) → IsLinked held → Some p
    ≡ link_at n (links_of held).parent → Holds p (forest_of held)
noted_holds held n p linked e = holds_child p n (forest_of held) (noted_child held n p linked e)

-- a node that has noted no parent stands nowhere
pub stands_nowhere : (held : Nodes) (n : ℕ) → IsLinked held → None ≡ link_at n (links_of held).parent →
    ((p : ℕ) → parent_of n (forest_of held) ≡ Some p → IsIn n (children_at p (forest_of held))) →
    parent_of n (forest_of held) ≡ None
stands_nowhere held n linked none found = of (parent_of n (forest_of held)) refl where
  of : (at : Option ℕ) → parent_of n (forest_of held) ≡ at → at ≡ None
  of None e = refl
  of (Some p) e = absurd (let both : None ≡ Some p = none ∙ down (forest_of held) (links_of held) n p linked.links
      (found p e) in cc)

-- what a node has noted is its parent
pub noted_parent : (held : Nodes) (n : ℕ) (at : Option ℕ) → IsLinked held → at ≡ link_at n (links_of held).parent →
    ((p : ℕ) → parent_of n (forest_of held) ≡ Some p → IsIn n (children_at p (forest_of held))) →
    ((p : ℕ) → IsIn n (children_at p (forest_of held)) → parent_of n (forest_of held) ≡ Some p) →
    at ≡ parent_of n (forest_of held)
noted_parent held n None linked noted found stands = sym (stands_nowhere held n linked noted found)
noted_parent held n (Some p) linked noted found stands = sym (stands p (noted_child held n p linked noted))

-- the changes by which an element is made
abbrev pub element_kind : QualName → List Attribute → Bool → Option ℕ → Kind
element_kind name attributes point contents =
    element (record { name = name; attributes = attributes; contents = contents; integration_point = point })

pub template_made : (name : QualName) (attributes : List Attribute) (is_template point : Bool) (contents : Option ℕ)
    (f : Forest) → contents ≡ contents_number is_template f → is_template ≡ true →
    made document (made (element_kind name attributes point contents) f)
    ≡ made_element name attributes is_template point f
template_made name attributes true point contents f e is =
    ap (λ (k : Option ℕ). made document (made (element_kind name attributes point k) f)) e
template_made name attributes false point contents f e is = absurd (let no : false ≡ true = is in cc)

pub plain_made : (name : QualName) (attributes : List Attribute) (is_template point : Bool) (contents : Option ℕ)
    (f : Forest) → contents ≡ contents_number is_template f → is_template ≡ false →
    made (element_kind name attributes point contents) f ≡ made_element name attributes is_template point f
plain_made name attributes true point contents f e is = absurd (let no : true ≡ false = is in cc)
plain_made name attributes false point contents f e is =
    ap (λ (k : Option ℕ). made (element_kind name attributes point k) f) e
