-- Actions that change neither the stack of open elements nor the child elements of the document and the root.
use Rattle.std.proofs.Common.{◌≡◌, ◌<◌, if◌then◌else◌, Bool, List, arith, codes, false, refl, subst, suc, sym, true, ℕ}
use Rattle.tree_forest.specs.Changes.{made, made_element}
use Rattle.tree_forest.specs.Forest.{Forest, Holds, comment, is_in, nodes}
use Rattle.tree_forest.specs.Places.{Place, below}
use Rattle.tree_forest.proofs.Nodes.{size_made}
use Rattle.html_lexemes.specs.declared.names.Attribute.{Attribute}
use Rattle.html_lexemes.specs.declared.names.QualName.{QualName}
use Rattle.html_tree_state.specs.Building.{Building}
use Rattle.html_tree_state.specs.Insertions.{here, with_attributes_of, with_element}
use Rattle.tree_names.specs.Sets.{is_html}
use Rattle.page_tree_laws.proofs.EarlySteps.{element_put, kept_same}
use Rattle.page_tree_laws.proofs.GuardedForests.{KeptOn}
use Rattle.page_tree_laws.proofs.GuardedTexts.{attributes_kept, leaf_kept, words_kept}
use Rattle.page_tree_laws.proofs.Guards.{Guard, IsKeptForest}
use Rattle.rules_table.specs.Actions.{act, add_attributes, insert_comment, say}
use Rattle.rules_table.specs.State.{State}
use Rattle.tree_predicates.specs.Attributes.{is_html_annotation}

pub record IsQuiet (g : Guard) (s t : State) : Type 0 where
  pub nodes : KeptOn g s.tree.forest t.tree.forest
  pub stack : t.tree.stack ≡ s.tree.stack
  pub formatting : t.tree.formatting ≡ s.tree.formatting
  pub fostering : t.tree.fostering ≡ s.tree.fostering
  pub mode : t.mode ≡ s.mode
  pub original : t.original ≡ s.original
  pub head : t.head ≡ s.head
  pub form : t.form ≡ s.form
  pub page : t.context ≡ s.context
  pub templates : t.template_modes ≡ s.template_modes
  pub ok : t.frameset_ok ≡ true → s.frameset_ok ≡ true

pub forest_quiet : (g : Guard) (s : State) (f : Forest) → KeptOn g s.tree.forest f →
    IsQuiet g s (record s { tree = record s.tree { forest = f } })
forest_quiet g s f on = record {
  nodes = on;
  stack = refl;
  formatting = refl;
  fostering = refl;
  mode = refl;
  original = refl;
  head = refl;
  form = refl;
  page = refl;
  templates = refl;
  ok = λ e. e;
}

pub stays_quiet : (g : Guard) (s : State) → IsKeptForest g s.tree.forest → IsQuiet g s s
stays_quiet g s held = forest_quiet g s s.tree.forest (kept_same g s.tree.forest held)

pub said_quiet : (g : Guard) (cs : List ℕ) (s : State) → IsKeptForest g s.tree.forest → IsQuiet g s (act (say cs) s)
unfolding act
said_quiet g cs s held = forest_quiet g s _ (words_kept g (here s.tree) cs s.tree.forest held)

pub comment_quiet : (g : Guard) (cs : List ℕ) (s : State) → IsKeptForest g s.tree.forest →
    IsQuiet g s (act (insert_comment cs) s)
unfolding act
comment_quiet g cs s held =
    forest_quiet g s _ (leaf_kept g (here s.tree) (comment cs) s.tree.forest refl refl held)

given_by : (g : Guard) (b : Bool) (s : State) (n : ℕ) (more : List Attribute) → IsKeptForest g s.tree.forest →
    IsQuiet g s (record s { tree = if b then with_attributes_of n more s.tree else s.tree })
given_by g true s n more held = forest_quiet g s _ (attributes_kept g n more s.tree.forest held)
given_by g false s n more held = stays_quiet g s held

pub attributes_quiet : (g : Guard) (n : ℕ) (more : List Attribute) (s : State) → IsKeptForest g s.tree.forest →
    IsQuiet g s (act (add_attributes n more) s)
unfolding act
attributes_quiet g n more s held = given_by g (is_in n s.tree.stack) s n more held

-- an element that is made is there
element_held : (name : QualName) (attributes : List Attribute) (is_template point : Bool) (f : Forest) →
    Holds (nodes f) (made_element name attributes is_template point f)
element_held name attributes true point f =
    two (nodes f) _ _ (size_made _ f) (size_made _ (made _ f)) where
      two : (x y z : ℕ) → y ≡ suc x → z ≡ suc y → x < z
      two x y z e k = omega (arith, e, k)
element_held name attributes false point f = one (nodes f) _ (size_made _ f) where
  one : (x y : ℕ) → y ≡ suc x → x < y
  one x y e = omega (arith, e)

pub element_below : (g : Guard) (n : ℕ) (name : QualName) (attributes : List Attribute) (b : Building) → ¬ (n ≡ 0) →
    ¬ (n ≡ g.root) → IsKeptForest g b.forest → KeptOn g b.forest (with_element (below n) name attributes b).forest
element_below g n name attributes b no_document no_root held =
    element_put g n name attributes (is_html (codes "template") name) (is_html_annotation name attributes) b.forest
    no_document no_root held
    (element_held name attributes (is_html (codes "template") name) (is_html_annotation name attributes) b.forest)

-- an element without contents, at a place that is below a node
pub void_quiet : (g : Guard) (n : ℕ) (place : Place) (name : QualName) (attributes : List Attribute) (s : State) →
    place ≡ below n → ¬ (n ≡ 0) → ¬ (n ≡ g.root) → IsKeptForest g s.tree.forest →
    IsQuiet g s (record s { tree = with_element place name attributes s.tree })
void_quiet g n place name attributes s e no_document no_root held =
    subst (λ p. IsQuiet g s (record s { tree = with_element p name attributes s.tree })) (sym e)
    (forest_quiet g s _ (element_below g n name attributes s.tree no_document no_root held))
