-- What actions make of a state in which the head stands and the body is to come.
use Rattle.std.proofs.Common.{◌≡◌, ◌≤◌, ◌&&◌, if◌then◌else◌, ◌∷◌, ◌∙◌, Bool, List, ap, arith, codes, false, inl, refl}
use Rattle.std.proofs.Common.{subst, sym, true, ℕ}
use Rattle.tree_formatting.specs.Entries.{Entry}
use Rattle.tree_forest.specs.Changes.{made_element}
use Rattle.tree_forest.specs.Forest.{Forest, Holds, contents_of, name_of, nodes}
use Rattle.tree_forest.specs.Places.{Place, below, put_node}
use Rattle.html_lexemes.specs.declared.names.Attribute.{Attribute}
use Rattle.html_lexemes.specs.declared.names.QualName.{QualName}
use Rattle.html_tree_state.specs.Building.{Building}
use Rattle.html_tree_state.specs.Insertions.{foster_place, here, holder, inside, place_for}
use Rattle.html_tree_state.specs.OpenElements.{current_of}
use Rattle.tree_names.specs.ElementSets.{foster_targets}
use Rattle.tree_names.specs.Sets.{is_element_of, is_html}
use Rattle.page_tree_laws.proofs.GuardedChanges.{element_kept}
use Rattle.page_tree_laws.proofs.GuardedForests.{KeptOn, kept_then, put_kept, still_held}
use Rattle.page_tree_laws.proofs.Guards.{AreFreeEntries, Guard, IsKeptForest, within}
use Rattle.page_tree_laws.proofs.Fits.{AreLater}
use Rattle.page_tree_laws.proofs.Phases.{IsEarly, IsEarlyStack, head_guard, in_head, in_noscript, past_head}
use Rattle.page_tree_laws.proofs.Phases.{text_of_head, text_of_noscript, text_past_head}
use Rattle.rules_table.specs.State.{State}

-- a forest that is what it was
pub kept_same : (g : Guard) (f : Forest) → IsKeptForest g f → KeptOn g f f
kept_same g f held = record {
  like = record {
    elements = λ n there. refl;
    names = λ n there. refl;
    size = omega arith;
    contents = λ n c e. inl e;
  };
  kept = held;
}

-- where a node is inserted: below the current one, where that is no part of a table and no template
never_fostered : (fostering b : Bool) (x y : Place) → b ≡ false → (if fostering && b then x else y) ≡ y
never_fostered true true x y e = absurd (let k : true ≡ false = e in cc)
never_fostered true false x y e = refl
never_fostered false b x y e = refl

itself : (b : Bool) (n m : ℕ) → b ≡ false → below (if b then m else n) ≡ below n
itself true n m e = absurd (let k : true ≡ false = e in cc)
itself false n m e = refl

pub here_below : (n : ℕ) (ns : List ℕ) (b : Building) → b.stack ≡ n ∷ ns →
    is_element_of foster_targets (name_of n b.forest) ≡ false →
    is_html (codes "template") (name_of n b.forest) ≡ false →
    here b ≡ below n
here_below n ns b e no_table no_template =
    ap (λ m. place_for m b) (ap current_of e)
    ∙ (never_fostered b.fostering (is_element_of foster_targets (name_of n b.forest)) (foster_place b.forest b.stack)
    (inside n b.forest) no_table
    ∙ itself (is_html (codes "template") (name_of n b.forest)) n (holder (contents_of n b.forest) n) no_template)

-- an element that is made is put below a node
pub element_put : (g : Guard) (n : ℕ) (name : QualName) (attributes : List Attribute) (is_template point : Bool)
    (f : Forest) → ¬ (n ≡ 0) → ¬ (n ≡ g.root) → IsKeptForest g f →
    Holds (nodes f) (made_element name attributes is_template point f) →
    KeptOn g f (put_node (below n) (nodes f) (made_element name attributes is_template point f))
element_put g n name attributes is_template point f no_document no_root held there =
    let h = made_element name attributes is_template point f in
    kept_then g f h (put_node (below n) (nodes f) h) (element_kept g name attributes is_template point f held)
    (λ kept. put_kept g (below n) (nodes f) h (within n no_document (λ e. no_root)) there kept)

pub entries_on : (g : Guard) (f h : Forest) (es : List Entry) → nodes f ≤ nodes h → AreFreeEntries g f es →
    AreFreeEntries g h es
entries_on g f h es size are n tag i =
    let is = are n tag i in (is.0, (still_held n (nodes f) (nodes h) is.1.0 size, is.1.1))

module _ (root head : ℕ) where
  -- what leaves all but the nodes, the mode and the stack as it was
  pub early_on : (s t : State) → IsEarly root head s → KeptOn (head_guard root head) s.tree.forest t.tree.forest →
      t.tree.formatting ≡ s.tree.formatting → t.head ≡ s.head → t.form ≡ s.form →
      t.template_modes ≡ s.template_modes → (t.frameset_ok ≡ true → s.frameset_ok ≡ true) →
      t.tree.fostering ≡ s.tree.fostering → IsEarly root head t
  early_on s t early on formatting known form templates ok fostering = record {
    root_made = early.root_made;
    head_made = early.head_made;
    head_root = early.head_root;
    nodes = on.kept;
    listed = entries_on (head_guard root head) s.tree.forest t.tree.forest t.tree.formatting on.like.size
        (subst (AreFreeEntries (head_guard root head) s.tree.forest) (sym formatting) early.listed);
    known = known ∙ early.known;
    form = λ n e. early.form n (sym form ∙ e);
    templates = subst AreLater (sym templates) early.templates;
    calm = λ e. fostering ∙ early.calm (ok e);
  }

  pub stack_on : (s t : State) → KeptOn (head_guard root head) s.tree.forest t.tree.forest → t.mode ≡ s.mode →
      t.original ≡ s.original → t.tree.stack ≡ s.tree.stack → IsEarlyStack root head s → IsEarlyStack root head t
  stack_on s t on mode original stack (in_head m e) = in_head (mode ∙ m) (stack ∙ e)
  stack_on s t on mode original stack (in_noscript n m e other held named) = in_noscript n (mode ∙ m) (stack ∙ e) other
      (still_held n (nodes s.tree.forest) (nodes t.tree.forest) held on.like.size) (on.like.names n held ∙ named)
  stack_on s t on mode original stack (past_head m e) = past_head (mode ∙ m) (stack ∙ e)
  stack_on s t on mode original stack (text_of_head n m o e) = text_of_head n (mode ∙ m) (original ∙ o) (stack ∙ e)
  stack_on s t on mode original stack (text_of_noscript k n m o e other held named) =
      text_of_noscript k n (mode ∙ m) (original ∙ o) (stack ∙ e) other
      (still_held n (nodes s.tree.forest) (nodes t.tree.forest) held on.like.size) (on.like.names n held ∙ named)
  stack_on s t on mode original stack (text_past_head n m o e) =
      text_past_head n (mode ∙ m) (original ∙ o) (stack ∙ e)
