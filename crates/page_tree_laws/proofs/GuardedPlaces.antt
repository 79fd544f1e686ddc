-- The place where a node is inserted is a good one: it leaves the child elements of the document, and those that the
-- root's begin with.
use Rattle.std.proofs.Common.{◌≡◌, ◌&&◌, if◌then◌else◌, [], ◌∷◌, ◌∙◌, Bool, List, None, Option, Some, ap, arith, codes}
use Rattle.std.proofs.Common.{false, inl, refl, subst, suc, true, zero, ℕ}
use Rattle.std.proofs.lemmas.Bool.{cond_both}
use Rattle.tree_forest.specs.Forest.{Forest, Holds, Kind, Node, comment, contents_of, doctype, document, element}
use Rattle.tree_forest.specs.Forest.{element_of, instruction, kind_at, name_of, parent_of, text}
use Rattle.tree_forest.specs.Places.{Place, based_on, below}
use Rattle.html_tree_state.specs.Building.{Building}
use Rattle.html_tree_state.specs.Insertions.{foster_at, foster_place, here, holder, inside, is_fostered, is_template}
use Rattle.html_tree_state.specs.Insertions.{place_for}
use Rattle.html_tree_state.specs.OpenElements.{current_of, first_of}
use Rattle.tree_names.specs.ElementSets.{foster_targets}
use Rattle.tree_names.specs.Sets.{Elements, is_element_of, is_html}
use Rattle.tree_names.specs.Wanted.{one}
use Rattle.page_tree_laws.proofs.BaseNames.{base_named, base_no_table}
use Rattle.page_tree_laws.proofs.GuardedForests.{IsLike}
use Rattle.page_tree_laws.proofs.GuardedStacks.{FitsBelow, at_root, base_kept, free_fits, never_both, stack_current}
use Rattle.page_tree_laws.proofs.Guards.{Guard, IsFree, IsGoodPlace, IsGuard, IsGuarded, IsKeptForest, IsStack, bare}
use Rattle.page_tree_laws.proofs.Guards.{beside, stands, within}
use Rattle.page_tree_laws.proofs.Guards as guards
use Rattle.page_tree_laws.specs.Skeleton.{is_element}

-- what has a name of a set is an element
kind_named : (set : Elements) (kind : Kind) → is_element_of set (element_of kind).name ≡ true → is_element kind ≡ true
kind_named set (element x) e = refl
kind_named set document e = absurd (let k : false ≡ true = e in cc)
kind_named set (doctype name public system) e = absurd (let k : false ≡ true = e in cc)
kind_named set (text cs) e = absurd (let k : false ≡ true = e in cc)
kind_named set (comment cs) e = absurd (let k : false ≡ true = e in cc)
kind_named set (instruction target cs) e = absurd (let k : false ≡ true = e in cc)

-- an element is there
first_held : (x : Node) (f : Forest) → Holds 0 (x ∷ f)
first_held x f = omega arith

later_held : (n : ℕ) (x : Node) (f : Forest) → Holds n f → Holds (suc n) (x ∷ f)
later_held n x f h = omega (arith, h)

element_held : (n : ℕ) (f : Forest) → is_element (kind_at n f) ≡ true → Holds n f
element_held n [] e = absurd (let k : false ≡ true = e in cc)
element_held zero (x ∷ f) e = first_held x f
element_held (suc n) (x ∷ f) e = later_held n x f (element_held n f e)

-- a good place stays one
pub good_on : (g : Guard) (f h : Forest) (place : Place) → IsLike f h → IsGoodPlace g f place → IsGoodPlace g h place
good_on g f h _ like (within p no_document no_root) = within p no_document no_root
good_on g f h _ like (beside s free is) = beside s free (like.elements s (element_held s f is) ∙ is)

-- the first open element is the current node
first_current : (m : ℕ) (ns : List ℕ) → first_of ns ≡ Some m → current_of ns ≡ m
first_current m [] e = absurd (let k : None ≡ Some m = e in cc)
first_current m (n ∷ ns) e = cc

module _ (g : Guard) (guard : IsGuard g) (f : Forest) (held : IsKeptForest g f) where
  -- inside an element, or what holds a template's contents
  holder_fits : (n : ℕ) (found : Option ℕ) → contents_of n f ≡ found → FitsBelow g n → FitsBelow g (holder found n)
  holder_fits n None e fits = fits
  holder_fits n (Some c) e fits = free_fits g c (held.contents n c e).0

  below_good : (n : ℕ) → FitsBelow g n → IsGoodPlace g f (below n)
  below_good n fits = within n fits.0 fits.1

  inside_good : (n : ℕ) → FitsBelow g n → IsGoodPlace g f (inside n f)
  inside_good n fits = below_good (if is_template n f then holder (contents_of n f) n else n)
      (cond_both (is_template n f) (holder (contents_of n f) n) n (FitsBelow g)
      (λ e. holder_fits n (contents_of n f) refl fits) (λ e. fits))

  -- a table's place
  based_good : (n m : ℕ) (found : Option ℕ) → parent_of n f ≡ found → IsFree g n →
      is_html (codes "table") (name_of n f) ≡ true → FitsBelow g m → IsGoodPlace g f (based_on n m f)
  based_good n m None e free table fits = rw e (below_good m fits)
  based_good n m (Some p) e free table fits =
      rw e (beside n free (kind_named (one (codes "table")) (kind_at n f) table))

  -- one step of the walk to the foster parent
  at_good : (n : ℕ) (above : Option ℕ) (rest : Place) → FitsBelow g n →
      (is_html (codes "table") (name_of n f) ≡ true → IsFree g n × ((m : ℕ) → above ≡ Some m → FitsBelow g m)) →
      (is_template n f ≡ false → IsGoodPlace g f rest) → IsGoodPlace g f (foster_at n above f rest)
  at_good n None rest fits table more = inside_good n fits
  at_good n (Some m) rest fits table more = cond_both (is_template n f) (inside n f)
      (if is_html (codes "table") (name_of n f) then based_on n m f else rest) (IsGoodPlace g f)
      (λ e. inside_good n fits)
      (λ e. cond_both (is_html (codes "table") (name_of n f)) (based_on n m f) rest (IsGoodPlace g f)
      (λ is. based_good n m (parent_of n f) refl (table is).0 is ((table is).1 m refl)) (λ isnt. more e))

  -- the foster parent's place
  first_fits : (ns : List ℕ) → IsStack g ns → (m : ℕ) → first_of ns ≡ Some m → FitsBelow g m
  first_fits ns stack m e = subst (FitsBelow g) (first_current m ns e) (stack_current g guard ns stack)

  -- in the root
  root_good : g.is_open ≡ true → IsGoodPlace g f (foster_place f g.lowest)
  root_good opened = at_root g guard opened (λ ns. IsGoodPlace g f (foster_place f ns)) (inside_good g.root
      (guard.root_apart, λ shut. absurd (never_both g.is_open opened shut)))

  lowest_good : (opened : Bool) → g.is_open ≡ opened → g.fosters ≡ true → is_template g.top f ≡ false →
      IsGoodPlace g f (foster_place f g.lowest)
  lowest_good true opened fosters isnt = root_good opened
  lowest_good false shut fosters isnt = absurd (never_both (is_template g.top f)
      (ap (is_html (codes "template")) (held.named g.top (base_kept g g.top (inl refl)))
      ∙ guard.template_top shut fosters) isnt)

  -- the topmost guarded element is no table
  no_table : is_html (codes "table") (name_of g.top f) ≡ true → ⊥
  no_table e = never_both (is_html (codes "table") (name_of g.top f)) e
      (base_no_table (name_of g.top f) (base_named g guard f held g.top (inl refl)))

  -- the whole walk
  pub foster_good : g.fosters ≡ true → (ns : List ℕ) → IsStack g ns → IsGoodPlace g f (foster_place f ns)
  foster_good fosters _ stands = at_good g.top (first_of g.lowest) (foster_place f g.lowest)
      (guard.top_no_document, λ shut. guard.top_apart) (λ e. absurd (no_table e))
      (lowest_good g.is_open refl fosters)
  foster_good fosters _ (bare opened) = root_good opened
  foster_good fosters _ (guards.nearer n ns free more) = at_good n (first_of ns) (foster_place f ns)
      (free_fits g n free) (λ e. (free, first_fits ns more)) (λ e. foster_good fosters ns more)

-- where foster parenting is on, the guard lets it be
pub first_true : (a b : Bool) → (a && b) ≡ true → a ≡ true
first_true true b e = refl
first_true false b e = e

fostering_on : (g : Guard) (b : Building) (fosters : Bool) → g.fosters ≡ fosters →
    (g.fosters ≡ false → b.fostering ≡ false) → b.fostering ≡ true → g.fosters ≡ true
fostering_on g b true e off is_on = e
fostering_on g b false e off is_on = absurd (never_both b.fostering is_on (off e))

-- the appropriate place for inserting a node
pub place_good : (n : ℕ) (g : Guard) (b : Building) → IsGuard g → IsGuarded g b → FitsBelow g n →
    IsGoodPlace g b.forest (place_for n b)
place_good n g b guard is fits = cond_both (is_fostered n b) (foster_place b.forest b.stack) (inside n b.forest)
    (IsGoodPlace g b.forest)
    (λ e. foster_good g guard b.forest is.nodes
    (fostering_on g b g.fosters refl is.fostering
    (first_true b.fostering (is_element_of foster_targets (name_of n b.forest)) e)) b.stack is.standing)
    (λ e. inside_good g guard b.forest is.nodes n fits)

-- and that for the current node
pub here_good : (g : Guard) (b : Building) → IsGuard g → IsGuarded g b → IsGoodPlace g b.forest (here b)
here_good g b guard is =
    place_good (current_of b.stack) g b guard is (stack_current g guard b.stack is.standing)
