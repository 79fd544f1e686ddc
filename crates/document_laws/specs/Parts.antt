-- Parts of documents rebuild: inline contents, and blocks, below the current node of a state in the body.
use Rattle.std.specs.Prelude.{◌≡◌, ℕ, ◌<◌, ◌⊎◌, Bool, false, true, List, [], ◌∷◌, Option, None, Some, codes, fold}
use Rattle.tree_formatting.specs.Entries.{Entry, formatted, is_named, marker}
use Rattle.tree_forest.specs.Forest.{Forest, children_at, kind_at, name_of, nodes, text_of}
use Rattle.tree_forest.specs.Places.{last_of}
use Rattle.html_tree_state.specs.Insertions.{is_template}
use Rattle.tree_names.specs.Sets.{is_one_of}
use Rattle.rules_table.specs.Settling.{step}
use Rattle.rules_table.specs.State.{State}
use Rattle.tree_predicates.specs.declared.modes.InsertionMode.TheVariants.{InBody}
use Rattle.document_laws.specs.Contents.{Content, IsBlocks, IsInlines, tokens}
use Rattle.document_laws.specs.Planted.{of_html, planted}

-- a state in the body of a page
pub record IsInBody (s : State) : Type 0 where
  pub mode : s.mode ≡ InBody
  pub page : s.context ≡ None
  pub past : s.skip_lf ≡ false
  pub fostering : s.tree.fostering ≡ false

-- some of these entries, in their order
abbrev pub IsSub : List Entry → List Entry → Type 0
IsSub [] ys = Unit {0}
IsSub (x ∷ xs) [] = ⊥
IsSub (x ∷ xs) (y ∷ ys) = ((x ≡ y) × IsSub xs ys) ⊎ IsSub (x ∷ xs) ys

-- the entries are of open elements, in their order
abbrev pub AreOpen : List Entry → List ℕ → Type 0
AreOpen [] ns = Unit {0}
AreOpen (marker ∷ es) ns = ⊥
AreOpen (formatted m tag ∷ es) [] = ⊥
AreOpen (formatted m tag ∷ es) (n ∷ ns) = ((m ≡ n) × AreOpen es ns) ⊎ AreOpen (formatted m tag ∷ es) ns

-- each number is below another
abbrev pub AllUnder : ℕ → List ℕ → Type 0
AllUnder k [] = Unit {0}
AllUnder k (n ∷ ns) = (n < k) × AllUnder k ns

-- no link is listed, where none is open
abbrev pub NoLink : List Entry → Type 0
NoLink [] = Unit {0}
NoLink (marker ∷ es) = NoLink es
NoLink (formatted n tag ∷ es) = (is_named (codes "a") tag ≡ false) × NoLink es

abbrev pub IsFree : (linked : Bool) → List Entry → Type 0
IsFree true es = Unit {0}
IsFree false es = NoLink es

-- the text that stands last below a node: none, where no text came just before
abbrev pub text_at : Option ℕ → Forest → Option (List ℕ)
text_at None f = None
text_at (Some n) f = text_of (kind_at n f)

abbrev pub last_text : ℕ → Forest → Option (List ℕ)
last_text p f = text_at (last_of (children_at p f)) f

abbrev pub IsFresh : (after_text : Bool) → ℕ → Forest → Type 0
IsFresh true p f = Unit {0}
IsFresh false p f = last_text p f ≡ None

-- Of the list of active formatting elements some are left: where four bold elements stand in one another, the fourth
-- takes the first off it.
abbrev pub InlinesRebuild : Type 0
InlinesRebuild = (s : State) (p : ℕ) (rest : List ℕ) (word : List ℕ) (linked after_text : Bool) (content : Content) →
    IsInBody s → s.tree.stack ≡ p ∷ rest → name_of p s.tree.forest ≡ of_html word →
    is_template p s.tree.forest ≡ false → AllUnder (nodes s.tree.forest) (p ∷ rest) →
    AreOpen s.tree.formatting (p ∷ rest) → IsFree linked s.tree.formatting → IsFresh after_text p s.tree.forest →
    IsInlines linked after_text content →
    (ok : Bool) × (left : List Entry) × IsSub left s.tree.formatting × (fold step s (tokens content)
    ≡ record s {
      frameset_ok = ok;
      tree = record s.tree { formatting = left; forest = planted p content s.tree.forest };
    })

-- elements that hold blocks, and lists
abbrev pub holders_of_blocks : List (List ℕ)
holders_of_blocks = codes "html" ∷ codes "body" ∷ codes "div" ∷ codes "blockquote" ∷ codes "ul" ∷ codes "ol"
    ∷ codes "li" ∷ []

abbrev pub HoldBlocks : Forest → List ℕ → Type 0
HoldBlocks f [] = Unit {0}
HoldBlocks f (n ∷ ns) =
    ((word : List ℕ) × (name_of n f ≡ of_html word) × (is_one_of holders_of_blocks word ≡ true)) × HoldBlocks f ns

abbrev pub HoldsItems : (of_list : Bool) → ℕ → Forest → Type 0
HoldsItems false p f = Unit {0}
HoldsItems true p f = (name_of p f ≡ of_html (codes "ul")) ⊎ (name_of p f ≡ of_html (codes "ol"))

abbrev pub BlocksRebuild : Type 0
BlocksRebuild = (s : State) (p : ℕ) (rest : List ℕ) (of_list : Bool) (content : Content) → IsInBody s →
    s.tree.stack ≡ p ∷ rest → s.tree.formatting ≡ [] → AllUnder (nodes s.tree.forest) (p ∷ rest) →
    HoldBlocks s.tree.forest (p ∷ rest) → HoldsItems of_list p s.tree.forest → IsBlocks of_list content →
    (ok : Bool) × (fold step s (tokens content)
    ≡ record s { frameset_ok = ok; tree = record s.tree { forest = planted p content s.tree.forest } })
