-- Clearing the stack back to a context: after it the current node may be popped, where one of a set was in table scope
-- (WHATWG HTML, 13.2.6.4.13 and 13.2.6.4.14).
use Rattle.std.proofs.Common.{◌≡◌, if◌then◌else◌, [], ◌∷◌, Bool, List, codes, false, inl, inr, refl, subst, sym, true}
use Rattle.std.proofs.Common.{ℕ}
use Rattle.tree_forest.specs.Forest.{Forest, name_of}
use Rattle.tree_forest.specs.Orders.{IsIn}
use Rattle.html_lexemes.specs.declared.names.Namespace.{Namespace}
use Rattle.html_lexemes.specs.declared.names.Namespace.TheVariants.{Html, MathMl, Other, Svg}
use Rattle.html_lexemes.specs.declared.names.QualName.{QualName}
use Rattle.html_lexemes.specs.declared.token.Tag.{Tag}
use Rattle.html_tree_state.specs.OpenElements.{from_first, has_any, up_to}
use Rattle.tree_names.specs.ElementSets.{section_names, table_body_context, table_row_context, table_scope_barriers}
use Rattle.tree_names.specs.ElementSets.{table_sections}
use Rattle.tree_names.specs.Sets.{Elements, html_elements, is_element_of, is_one_of, words_in}
use Rattle.tree_names.specs.Wanted.{one}
use Rattle.page_tree_laws.proofs.Fits.{Fits}
use Rattle.page_tree_laws.proofs.FittingSteps.{RowFacts, above_base, named_free}
use Rattle.page_tree_laws.proofs.GroupNames.{all_pass, element_passes, opposite, passes, section_named}
use Rattle.page_tree_laws.proofs.Guards.{Guard, IsFree, IsGuard, IsGuarded, MayPop, StopsAtBase}
use Rattle.tree_names.specs.Groups.{tag_group}
use Rattle.tree_names.specs.declared.group.TagGroup.TheVariants as groups
use Rattle.rules_table.specs.Actions.{act, pop, pop_down_to}
use Rattle.rules_table.specs.Asking.{in_table_scope}
use Rattle.rules_table.specs.State.{State}

-- After clearing the stack back to a context the current node may be popped, where one of a set was in scope: the
-- context is of that set, or a barrier of the scope.
pub record IsContext (context set barriers : Elements) : Type 0 where
  pub within : (name : QualName) → is_element_of set name ≡ true → is_element_of context name ≡ true
  pub else_barrier : (name : QualName) → is_element_of context name ≡ true → is_element_of set name ≡ false →
      is_element_of barriers name ≡ true

cleared_by : (g : Guard) (n : ℕ) (ns left : List ℕ) (wanted here barrier later : Bool) →
    (wanted ≡ true → IsFree g n) → (wanted ≡ true → here ≡ true) →
    (here ≡ true → wanted ≡ false → barrier ≡ true) → (later ≡ true → MayPop g left) →
    (if wanted then true else (if barrier then false else later)) ≡ true →
    MayPop g (if here then n ∷ ns else left)
cleared_by g n ns left true true barrier later free within else_barrier more is = inl (free refl)
cleared_by g n ns left true false barrier later free within else_barrier more is =
    opposite false (within refl) refl
cleared_by g n ns left false true true later free within else_barrier more is =
    absurd (let k : false ≡ true = is in cc)
cleared_by g n ns left false true false later free within else_barrier more is =
    opposite false (else_barrier refl refl) refl
cleared_by g n ns left false false true later free within else_barrier more is =
    absurd (let k : false ≡ true = is in cc)
cleared_by g n ns left false false false later free within else_barrier more is = more is

any_if : (b : Bool) (set : Elements) (f : Forest) (ns : List ℕ) →
    has_any set f (if b then [] else ns) ≡ (if b then false else has_any set f ns)
any_if true set f ns = refl
any_if false set f ns = refl

any_first : (wanted b : Bool) (set : Elements) (f : Forest) (ns : List ℕ) →
    (if wanted then true else has_any set f (if b then [] else ns)) ≡ true →
    (if wanted then true else (if b then false else has_any set f ns)) ≡ true
any_first wanted b set f ns is = subst (λ x. (if wanted then true else x) ≡ true) (any_if b set f ns) is

cleared_free : (g : Guard) (context set barriers : Elements) (f : Forest) (ns : List ℕ) →
    IsContext context set barriers →
    ((n : ℕ) → IsIn n ns → is_element_of set (name_of n f) ≡ true → IsFree g n) →
    has_any set f (up_to barriers f ns) ≡ true → MayPop g (from_first context f ns)
cleared_free g context set barriers f [] is free has = absurd (let k : false ≡ true = has in cc)
cleared_free g context set barriers f (n ∷ ns) is free has =
    let name = name_of n f in
    cleared_by g n ns (from_first context f ns) (is_element_of set name) (is_element_of context name)
    (is_element_of barriers name) (has_any set f (up_to barriers f ns)) (free n (inl refl)) (is.within name)
    (is.else_barrier name) (cleared_free g context set barriers f ns is (λ m i. free m (inr i)))
    (any_first (is_element_of set name) (is_element_of barriers name) set f (up_to barriers f ns) has)

-- the same of sets of words of HTML
else_by : (b c : Bool) → (if b then true else c) ≡ true → b ≡ false → c ≡ true
else_by true c e off = absurd (let k : true ≡ false = off in cc)
else_by false c e off = e

else_in : (context set barriers : List (List ℕ)) (ns : Namespace) (local : List ℕ) →
    all_pass (λ word. if is_one_of set word then true else is_one_of barriers word) context ≡ true →
    is_one_of (words_in (html_elements context) ns) local ≡ true →
    is_one_of (words_in (html_elements set) ns) local ≡ false →
    is_one_of (words_in (html_elements barriers) ns) local ≡ true
else_in context set barriers Html local all is off = else_by (is_one_of set local) (is_one_of barriers local)
    (passes (λ word. if is_one_of set word then true else is_one_of barriers word) context local all is) off
else_in context set barriers MathMl local all is off = is
else_in context set barriers Svg local all is off = is
else_in context set barriers (Other text) local all is off = is

context_of : (context set barriers : List (List ℕ)) → all_pass (is_one_of context) set ≡ true →
    all_pass (λ word. if is_one_of set word then true else is_one_of barriers word) context ≡ true →
    IsContext (html_elements context) (html_elements set) (html_elements barriers)
context_of context set barriers all each = record {
  within = λ name is. element_passes set context name all is;
  else_barrier = λ name is off. else_in context set barriers name.ns name.local each is off;
}

-- one of some elements is one of more
more_by : (b c later found : Bool) → (b ≡ true → c ≡ true) → (later ≡ true → found ≡ true) →
    (if b then true else later) ≡ true → (if c then true else found) ≡ true
more_by b true later found own more is = refl
more_by true false later found own more is = opposite false (own refl) refl
more_by false false later found own more is = more is

has_more : (set more : Elements) (f : Forest) (ns : List ℕ) →
    ((name : QualName) → is_element_of set name ≡ true → is_element_of more name ≡ true) →
    has_any set f ns ≡ true → has_any more f ns ≡ true
has_more set more f [] in_more has = has
has_more set more f (n ∷ ns) in_more has = more_by (is_element_of set (name_of n f)) (is_element_of more (name_of n f))
    (has_any set f ns) (has_any more f ns) (in_more (name_of n f)) (has_more set more f ns in_more) has

word_of : (b : Bool) (words : List (List ℕ)) (name : List ℕ) → is_one_of words name ≡ b → b ≡ true →
    all_pass (is_one_of words) (name ∷ []) ≡ true
word_of true words name e is = subst (λ x. (if x then true else false) ≡ true) (sym e) refl
word_of false words name e is = absurd (let k : false ≡ true = is in cc)

-- a row of a table that is in table scope
pub pops_row : (g : Guard) → RowFacts g → (s : State) → IsGuarded g s.tree →
    in_table_scope (one (codes "tr")) s ≡ true → Fits g pop (act (pop_down_to table_row_context) s)
unfolding act
pops_row g facts s guarded is = cleared_free g table_row_context (one (codes "tr")) table_scope_barriers s.tree.forest
    s.tree.stack (context_of table_row_context.html (codes "tr" ∷ []) table_scope_barriers.html refl refl)
    (named_free g (one (codes "tr")) s.tree guarded (above_base g facts (codes "tr" ∷ []) refl)) is

-- a section of a table, or one of a tag's name
pub pops_section : (g : Guard) → RowFacts g → (s : State) → IsGuarded g s.tree →
    in_table_scope table_sections s ≡ true → Fits g pop (act (pop_down_to table_body_context) s)
unfolding act
pops_section g facts s guarded is = cleared_free g table_body_context table_sections table_scope_barriers s.tree.forest
    s.tree.stack (context_of table_body_context.html section_names table_scope_barriers.html refl refl)
    (named_free g table_sections s.tree guarded (above_base g facts section_names refl)) is

pub pops_own_section : (g : Guard) → RowFacts g → (t : Tag) (s : State) → tag_group t.name ≡ groups.Section →
    IsGuarded g s.tree → in_table_scope (one t.name) s ≡ true → Fits g pop (act (pop_down_to table_body_context) s)
pops_own_section g facts t s e guarded is = pops_section g facts s guarded
    (has_more (one t.name) table_sections s.tree.forest (up_to table_scope_barriers s.tree.forest s.tree.stack)
    (λ name own. element_passes (t.name ∷ []) section_names name
    (word_of (is_one_of section_names t.name) section_names t.name refl (section_named t.name e)) own) is)

-- clearing the stack stops at a template or at the root
pub stops_at_base : (g : Guard) → IsGuard g → g.fosters ≡ true → (words : List (List ℕ)) →
    all_pass (is_one_of words) (codes "template" ∷ []) ≡ true →
    all_pass (is_one_of words) (codes "html" ∷ []) ≡ true → StopsAtBase g (html_elements words)
stops_at_base g guard fosters words template root = (
  λ e. element_passes (codes "template" ∷ []) words (g.title g.top) template (guard.template_top e fosters),
  λ e. element_passes (codes "html" ∷ []) words (g.title g.root) root guard.root_titled,
)
