-- What of a tree is guarded while it is built: the document's one element, the elements that its children begin
-- with, and
-- the lowest open elements. Nothing of it is moved, closed or named anew.
use Rattle.std.proofs.Common.{◌≡◌, ℕ, ◌⊎◌, Bool, true, false, List, [], ◌∷◌, ◌++◌, Some, codes}
use Rattle.tree_formatting.specs.Entries.{Entry}
use Rattle.tree_forest.specs.Forest.{Forest, Holds, children_at, contents_of, kind_at, name_of}
use Rattle.tree_forest.specs.Orders.{IsIn}
use Rattle.tree_forest.specs.Places.{Place, before, below}
use Rattle.html_lexemes.specs.declared.names.QualName.{QualName}
use Rattle.html_lexemes.specs.declared.token.Tag.{Tag}
use Rattle.html_tree_state.specs.Building.{Building}
use Rattle.html_tree_state.specs.Sound.{IsListed}
use Rattle.tree_names.specs.Sets.{Elements, html_elements, is_element_of, is_html, is_one_of}
use Rattle.tree_names.specs.TagSets.{formatting}
use Rattle.page_tree_laws.specs.Skeleton.{child_elements, is_element}
use Rattle.rules_table.specs.Actions.{out_of_text}
use Rattle.tree_predicates.specs.declared.modes.InsertionMode.{InsertionMode}
use Rattle.tree_predicates.specs.declared.modes.InsertionMode.TheVariants as modes

-- The root, and the elements that its child elements begin with; on the stack of open elements the lowest ones, and the
-- one above them; what all these are called; names that no other open element has; whether the root may have more child
-- elements, and that topmost one be closed; whether foster parenting may be on; whether the mode may be set by the open
-- elements; and the modes that may stand.
pub record Guard : Type 0 where
  pub root : ℕ
  pub head : ℕ
  pub top : ℕ
  pub firsts : List ℕ
  pub lowest : List ℕ
  pub title : ℕ → QualName
  pub barred : List (List ℕ)
  pub is_open : Bool
  pub fosters : Bool
  pub resets : Bool
  pub allows : InsertionMode → Bool

-- the nodes that are guarded, the document among them; all others are free
abbrev pub kept : Guard → List ℕ
kept g = 0 ∷ g.root ∷ g.top ∷ (g.firsts ++ g.lowest)

abbrev pub IsKept : Guard → ℕ → Type 0
IsKept g n = IsIn n (kept g)

abbrev pub IsFree : Guard → ℕ → Type 0
IsFree g n = ¬ (IsIn n (kept g))

abbrev pub is_barred : Guard → QualName → Bool
is_barred g name = is_element_of (html_elements g.barred) name

-- the names of what stands lowest on a stack
abbrev pub base_names : List (List ℕ)
base_names = codes "html" ∷ codes "head" ∷ codes "body" ∷ codes "frameset" ∷ codes "template" ∷ []

-- the modes that may stand where the body is open
abbrev pub may_stand : InsertionMode → Bool
may_stand modes.Initial = false
may_stand modes.BeforeHtml = false
may_stand modes.BeforeHead = false
may_stand modes.InHead = false
may_stand modes.InHeadNoscript = false
may_stand modes.Text = false
may_stand _ = true

-- the modes that templates have
abbrev pub is_of_templates : InsertionMode → Bool
is_of_templates modes.InBody = true
is_of_templates modes.InTable = true
is_of_templates modes.InCaption = true
is_of_templates modes.InColumnGroup = true
is_of_templates modes.InTableBody = true
is_of_templates modes.InRow = true
is_of_templates modes.InCell = true
is_of_templates modes.InTemplate = true
is_of_templates _ = false

-- what a guard is to be, whatever the tree
pub record IsGuard (g : Guard) : Type 0 where
  pub root_apart : ¬ (g.root ≡ 0)
  pub top_apart : ¬ (g.top ≡ g.root)
  pub top_no_document : ¬ (g.top ≡ 0)
  pub head_apart : ¬ (g.head ≡ 0) × ¬ (g.head ≡ g.root)
  pub head_kept : IsKept g g.head
  pub titled : (n : ℕ) → IsIn n (g.top ∷ g.lowest) → is_element_of (html_elements base_names) (g.title n) ≡ true
  pub root_titled : is_html (codes "html") (g.title g.root) ≡ true
  -- an open guard has the root alone lowest on the stack, and any guard has it last
  pub root_lowest : g.is_open ≡ true → g.lowest ≡ g.root ∷ []
  pub lowest_some : ¬ (g.lowest ≡ [])
  -- a guard that isn't open, under which foster parenting may be on, has a template topmost
  pub template_top : g.is_open ≡ false → g.fosters ≡ true → is_html (codes "template") (g.title g.top) ≡ true
  -- the mode that goes on after text may stand
  pub text_left : (mode : InsertionMode) → g.allows mode ≡ true → g.allows (out_of_text mode) ≡ true
  -- formatting elements have none of the names that are barred
  pub formatting_free : (name : List ℕ) → is_one_of formatting name ≡ true → is_one_of g.barred name ≡ false

-- a stack: free elements, and lowest what is guarded
pub data IsStack (g : Guard) : List ℕ → Type 0 where
  stands : IsStack g (g.top ∷ g.lowest)
  bare : g.is_open ≡ true → IsStack g g.lowest
  nearer : (n : ℕ) (ns : List ℕ) → IsFree g n → IsStack g ns → IsStack g (n ∷ ns)

-- of the nodes: the guarded ones are there, under their names; the document and the root have the child elements
-- that they
-- are to have; children are there; and what holds a template's contents is free
pub record IsKeptForest (g : Guard) (f : Forest) : Type 0 where
  pub held : (n : ℕ) → IsKept g n → Holds n f
  pub named : (n : ℕ) → IsKept g n → name_of n f ≡ g.title n
  pub others : List ℕ
  pub below_document : child_elements 0 f ≡ g.root ∷ []
  pub below_root : child_elements g.root f ≡ g.firsts ++ others
  pub closed : g.is_open ≡ false → others ≡ []
  pub within : (p c : ℕ) → IsIn c (children_at p f) → Holds c f
  pub contents : (n c : ℕ) → contents_of n f ≡ Some c → IsFree g c × Holds c f

-- open elements that are free are there, and have no barred name
abbrev pub AreUnbarred : Guard → Forest → List ℕ → Type 0
AreUnbarred g f ns = (n : ℕ) → IsIn n ns → IsFree g n → Holds n f × (is_barred g (name_of n f) ≡ false)

-- listed elements are free, and formatting elements by their tags
abbrev pub AreFreeEntries : Guard → Forest → List Entry → Type 0
AreFreeEntries g f es = (n : ℕ) (tag : Tag) → IsListed n tag es →
    IsFree g n × (Holds n f × (is_one_of formatting tag.name ≡ true))

pub record IsGuarded (g : Guard) (b : Building) : Type 0 where
  pub nodes : IsKeptForest g b.forest
  pub standing : IsStack g b.stack
  pub unbarred : AreUnbarred g b.forest b.stack
  pub listed : AreFreeEntries g b.forest b.formatting
  pub fostering : g.fosters ≡ false → b.fostering ≡ false

-- places where a node may be put: below what is neither the document nor, unless the guard is open, the root; or
-- before a
-- free element
pub data IsGoodPlace (g : Guard) (f : Forest) : Place → Type 0 where
  within : (p : ℕ) → ¬ (p ≡ 0) → (g.is_open ≡ false → ¬ (p ≡ g.root)) → IsGoodPlace g f (below p)
  beside : (s : ℕ) → IsFree g s → is_element (kind_at s f) ≡ true → IsGoodPlace g f (before s)

-- What words ask. A free element of a set is open:
pub record HasFree (g : Guard) (set : Elements) (f : Forest) (ns : List ℕ) : Type 0 where
  pub node : ℕ
  pub is_open : IsIn node ns
  pub free : IsFree g node
  pub named : is_element_of set (name_of node f) ≡ true

-- the current node may be popped: it is free, or the topmost guarded one of an open guard
abbrev pub MayPop : Guard → List ℕ → Type 0
MayPop g [] = ⊥
MayPop g (n ∷ ns) = IsFree g n ⊎ ((g.is_open ≡ true) × (n ≡ g.top))

-- the current node is free
abbrev pub HasFreeCurrent : Guard → List ℕ → Type 0
HasFreeCurrent g [] = ⊥
HasFreeCurrent g (n ∷ ns) = IsFree g n

-- no element of a set stands lowest
abbrev pub IsAboveBase : Guard → Elements → Type 0
IsAboveBase g set = (n : ℕ) → IsIn n (g.top ∷ g.lowest) → is_element_of set (g.title n) ≡ false

-- closing elements of a name stops above what stands lowest
abbrev pub StopsAbove : Guard → List ℕ → Type 0
StopsAbove g name = (g.is_open ≡ false → is_html name (g.title g.top) ≡ false)
    × (g.is_open ≡ true → is_html name (g.title g.root) ≡ false)

-- popping down to one of a set stops at a template or at the root
abbrev pub StopsAtBase : Guard → Elements → Type 0
StopsAtBase g set = (g.is_open ≡ false → is_element_of set (g.title g.top) ≡ true)
    × (g.is_open ≡ true → is_element_of set (g.title g.root) ≡ true)
