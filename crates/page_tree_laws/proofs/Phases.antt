-- How far a page is built: nothing is open; the root is; the head stands, and the body is to come; or the body, or a
-- frameset,
-- stands after it.
use Rattle.std.proofs.Common.{◌≡◌, ℕ, ◌≤◌, Bool, true, false, [], ◌∷◌, length, None, Some, codes}
use Rattle.tree_forest.specs.Forest.{Holds, name_of}
use Rattle.page_tree_laws.proofs.Fits.{AreLater}
use Rattle.page_tree_laws.proofs.GuardKinds.{AreApart, body_guard, frames_guard, going_guard, is_of_body}
use Rattle.page_tree_laws.proofs.GuardKinds.{template_guard, titles}
use Rattle.page_tree_laws.proofs.Guards.{AreFreeEntries, Guard, IsFree, IsKeptForest, base_names}
use Rattle.page_tree_laws.proofs.Steady.{IsSteady}
use Rattle.page_tree_laws.proofs.TemplateLists.{templates_in}
use Rattle.page_tree_laws.specs.Skeleton.{child_elements}
use Rattle.rules_table.specs.Actions.{in_html}
use Rattle.rules_table.specs.State.{State}
use Rattle.tree_predicates.specs.declared.modes.InsertionMode.TheVariants as modes

-- before the root: nothing is open, and the document has no element
pub record IsBare (s : State) : Type 0 where
  pub stack : s.tree.stack ≡ []
  pub below_document : child_elements 0 s.tree.forest ≡ []
  pub formatting : s.tree.formatting ≡ []
  pub fostering : s.tree.fostering ≡ false
  pub head : s.head ≡ None
  pub form : s.form ≡ None
  pub templates : s.template_modes ≡ []

-- The root alone stands below the document, or the root and the head in it.
abbrev pub root_guard : ℕ → Guard
root_guard root = record {
  root = root;
  head = root;
  top = root;
  firsts = [];
  lowest = root ∷ [];
  title = titles root root root (codes "html");
  barred = base_names;
  is_open = false;
  fosters = false;
  resets = false;
  allows = is_of_body;
}

abbrev pub head_guard : (root head : ℕ) → Guard
head_guard root head = record {
  root = root;
  head = head;
  top = head;
  firsts = head ∷ [];
  lowest = root ∷ [];
  title = titles root head head (codes "head");
  barred = base_names;
  is_open = false;
  fosters = false;
  resets = false;
  allows = is_of_body;
}

pub record IsRooted (root : ℕ) (s : State) : Type 0 where
  pub made : ¬ (root ≡ 0)
  pub mode : s.mode ≡ modes.BeforeHead
  pub stack : s.tree.stack ≡ root ∷ []
  pub nodes : IsKeptForest (root_guard root) s.tree.forest
  pub formatting : s.tree.formatting ≡ []
  pub fostering : s.tree.fostering ≡ false
  pub head : s.head ≡ None
  pub form : s.form ≡ None
  pub templates : s.template_modes ≡ []

-- The head stands, and the body is to come. Only where no template was emitted may a frameset still come.
pub record IsEarly (root head : ℕ) (s : State) : Type 0 where
  pub root_made : ¬ (root ≡ 0)
  pub head_made : ¬ (head ≡ 0)
  pub head_root : ¬ (head ≡ root)
  pub nodes : IsKeptForest (head_guard root head) s.tree.forest
  pub listed : AreFreeEntries (head_guard root head) s.tree.forest s.tree.formatting
  pub known : s.head ≡ Some head
  pub form : (n : ℕ) → s.form ≡ Some n → IsFree (head_guard root head) n
  pub templates : AreLater s.template_modes
  pub calm : s.frameset_ok ≡ true → s.tree.fostering ≡ false

-- what is open then: in the mode "text" an element more, which is neither the root nor the head
abbrev pub IsOther : (root head : ℕ) → ℕ → Type 0
IsOther root head n = IsFree (head_guard root head) n

pub data IsEarlyStack (root head : ℕ) (s : State) : Type 0 where
  in_head : s.mode ≡ modes.InHead → s.tree.stack ≡ head ∷ root ∷ [] → IsEarlyStack root head s
  in_noscript : (n : ℕ) → s.mode ≡ modes.InHeadNoscript → s.tree.stack ≡ n ∷ head ∷ root ∷ [] → IsOther root head n →
      Holds n s.tree.forest → name_of n s.tree.forest ≡ in_html (codes "noscript") → IsEarlyStack root head s
  past_head : s.mode ≡ modes.AfterHead → s.tree.stack ≡ root ∷ [] → IsEarlyStack root head s
  text_of_head : (n : ℕ) → s.mode ≡ modes.Text → s.original ≡ modes.InHead → s.tree.stack ≡ n ∷ head ∷ root ∷ [] →
      IsEarlyStack root head s
  text_of_noscript : (m n : ℕ) → s.mode ≡ modes.Text → s.original ≡ modes.InHeadNoscript →
      s.tree.stack ≡ m ∷ n ∷ head ∷ root ∷ [] → IsOther root head n → Holds n s.tree.forest →
      name_of n s.tree.forest ≡ in_html (codes "noscript") → IsEarlyStack root head s
  text_past_head : (n : ℕ) → s.mode ≡ modes.Text → s.original ≡ modes.AfterHead → s.tree.stack ≡ n ∷ root ∷ [] →
      IsEarlyStack root head s

-- A body that may still give way to a frameset; a body, or a frameset in its place, after which elements may
-- follow; and a
-- page of frames.
pub data IsBuilt (is_framed : Bool) (s : State) : Type 0 where
  body_open : (root head body : ℕ) → AreApart root head body → IsSteady (body_guard root head body) s →
      IsBuilt is_framed s
  going_on : (root head body : ℕ) → AreApart root head body →
      IsSteady (going_guard (codes "body") root head body) s → s.frameset_ok ≡ false → IsBuilt is_framed s
  of_frames : (root head frameset : ℕ) → AreApart root head frameset → is_framed ≡ true →
      IsSteady (frames_guard root head frameset) s → IsBuilt is_framed s

-- Or, in front of the body, templates are open, each of which has a mode.
pub data IsPhase (is_framed : Bool) (s : State) : Type 0 where
  doctype_to_come : s.mode ≡ modes.Initial → IsBare s → IsPhase is_framed s
  root_to_come : s.mode ≡ modes.BeforeHtml → IsBare s → IsPhase is_framed s
  head_to_come : (root : ℕ) → IsRooted root s → IsPhase is_framed s
  body_to_come : (root head : ℕ) → IsEarly root head s → IsEarlyStack root head s → IsPhase is_framed s
  template_open : (in_head : Bool) (root head top : ℕ) → AreApart root head top →
      IsSteady (template_guard in_head root head top) s → s.frameset_ok ≡ false →
      templates_in s.tree.forest s.tree.stack ≤ length s.template_modes → IsPhase is_framed s
  built : IsBuilt is_framed s → IsPhase is_framed s
