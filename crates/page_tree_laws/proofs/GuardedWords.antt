-- Words that change the nodes keep a guarded tree guarded: elements, comments, doctypes and characters are inserted,
-- attributes are added, and a free node is taken out.
use Rattle.std.proofs.Common.{◌≡◌, ◌∷◌, ◌∙◌, Bool, List, Some, ap, codes, false, inl, inr, refl, subst, sym, ℕ}
use Rattle.std.proofs.lemmas.Bool.{cond_both}
use Rattle.tree_formatting.specs.Entries.{Entry}
use Rattle.tree_forest.specs.Changes.{detached, made, made_element, with_attributes}
use Rattle.tree_forest.specs.Forest.{Forest, Holds, comment, doctype, is_in, name_of, nodes}
use Rattle.tree_forest.specs.Places.{Place, below, put_node, put_words}
use Rattle.tree_forest.specs.declared.sink.QuirksMode.{QuirksMode}
use Rattle.html_lexemes.specs.declared.names.Attribute.{Attribute}
use Rattle.html_lexemes.specs.declared.names.Namespace.{Namespace}
use Rattle.html_lexemes.specs.declared.names.QualName.{QualName}
use Rattle.html_lexemes.specs.declared.token.Doctype.{Doctype}
use Rattle.html_lexemes.specs.declared.token.Tag.{Tag}
use Rattle.html_tree_state.specs.Adoption.{out_of_place}
use Rattle.html_tree_state.specs.Building.{Building}
use Rattle.html_tree_state.specs.Formatting.{name_for}
use Rattle.html_tree_state.specs.Insertions.{commented_at, here, inserted, inserted_at, inserted_void, said}
use Rattle.html_tree_state.specs.Insertions.{text_or_none, with_attributes_of, with_doctype_of, with_element}
use Rattle.page_tree_laws.proofs.CleanWords.{element_put}
use Rattle.page_tree_laws.proofs.ForestTexts.{IsNew, element_new}
use Rattle.tree_names.specs.Sets.{is_html}
use Rattle.page_tree_laws.proofs.GuardedChanges.{detached_kept, element_kept}
use Rattle.page_tree_laws.proofs.GuardedForests.{IsLike, KeptOn, kept_then, new_is_free, put_kept, still_held}
use Rattle.page_tree_laws.proofs.GuardedPlaces.{good_on, here_good}
use Rattle.page_tree_laws.proofs.GuardedTexts.{attributes_kept, leaf_kept, words_kept}
use Rattle.page_tree_laws.proofs.Guards.{AreFreeEntries, AreUnbarred, Guard, IsFree, IsGoodPlace, IsGuard, IsGuarded}
use Rattle.page_tree_laws.proofs.Guards.{IsKeptForest, is_barred, within}
use Rattle.page_tree_laws.proofs.Guards as guards
use Rattle.rules_table.specs.Actions.{given_attributes, inserted_foreign, inserted_into, inserted_void_into}
use Rattle.tree_predicates.specs.Attributes.{is_html_annotation}

-- open and listed elements stay what they were
unbarred_one : (g : Guard) (f h : Forest) (n : ℕ) → IsLike f h → Holds n f × (is_barred g (name_of n f) ≡ false) →
    Holds n h × (is_barred g (name_of n h) ≡ false)
unbarred_one g f h n like is =
    (still_held n (nodes f) (nodes h) is.0 like.size, ap (is_barred g) (like.names n is.0) ∙ is.1)

pub unbarred_on : (g : Guard) (f h : Forest) (ns : List ℕ) → IsLike f h → AreUnbarred g f ns → AreUnbarred g h ns
unbarred_on g f h ns like are n i free = unbarred_one g f h n like (are n i free)

pub entries_on : (g : Guard) (f h : Forest) (es : List Entry) → IsLike f h → AreFreeEntries g f es →
    AreFreeEntries g h es
entries_on g f h es like are n tag i =
    let is = are n tag i in (is.0, (still_held n (nodes f) (nodes h) is.1.0 like.size, is.1.1))

-- a word that changes the nodes alone
pub forest_guarded : (g : Guard) (b : Building) (h : Forest) → KeptOn g b.forest h → IsGuarded g b →
    IsGuarded g (record b { forest = h })
forest_guarded g b h step is = record {
  nodes = step.kept;
  standing = is.standing;
  unbarred = unbarred_on g b.forest h b.stack step.like is.unbarred;
  listed = entries_on g b.forest h b.formatting step.like is.listed;
  fostering = is.fostering;
}

-- an element is made and put
pub made_and_put : (g : Guard) (place : Place) (name : QualName) (attributes : List Attribute) (b : Building) →
    IsGoodPlace g b.forest place → IsKeptForest g b.forest →
    KeptOn g b.forest (with_element place name attributes b).forest
made_and_put g place name attributes b good held =
    let t = is_html (codes "template") name in
    let p = is_html_annotation name attributes in
    let f = b.forest in
    let h = made_element name attributes t p f in
    let step : KeptOn g f h = element_kept g name attributes t p f held in
    kept_then g f h (put_node place (nodes f) h) step
    (put_kept g place (nodes f) h (good_on g f h place step.like good) (element_new name attributes t p f).held)

-- elements that were there, and a new one
pub new_unbarred : (g : Guard) (name : QualName) (f h : Forest) (ns : List ℕ) → IsNew name f h → IsLike f h →
    is_barred g name ≡ false → AreUnbarred g f ns → AreUnbarred g h (nodes f ∷ ns)
new_unbarred g name f h ns new like is are n (inl e) free = (
  subst (λ k. Holds k h) (sym e) new.held,
  subst (λ k. is_barred g (name_of k h) ≡ false) (sym e) (ap (is_barred g) new.named ∙ is),
)
new_unbarred g name f h ns new like is are n (inr i) free = unbarred_one g f h n like (are n i free)

-- at a place, and where the current node says
pub inserted_at_guarded : (place : Place) (name : QualName) (attributes : List Attribute) (g : Guard) (b : Building) →
    IsGuard g → IsGuarded g b → IsGoodPlace g b.forest place → is_barred g name ≡ false →
    IsGuarded g (inserted_at place name attributes b)
inserted_at_guarded place name attributes g b guard is good free =
    let h = (with_element place name attributes b).forest in
    let step : KeptOn g b.forest h = made_and_put g place name attributes b good is.nodes in
    record {
      nodes = step.kept;
      standing = guards.nearer (nodes b.forest) b.stack (new_is_free g b.forest is.nodes) is.standing;
      unbarred = new_unbarred g name b.forest h b.stack (element_put place name attributes b) step.like free
          is.unbarred;
      listed = entries_on g b.forest h b.formatting step.like is.listed;
      fostering = is.fostering;
    }

pub void_at_guarded : (place : Place) (name : QualName) (attributes : List Attribute) (g : Guard) (b : Building) →
    IsGuarded g b → IsGoodPlace g b.forest place → IsGuarded g (with_element place name attributes b)
void_at_guarded place name attributes g b is good = forest_guarded g b (with_element place name attributes b).forest
    (made_and_put g place name attributes b good is.nodes) is

pub inserted_guarded : (name : QualName) (attributes : List Attribute) (g : Guard) (b : Building) → IsGuard g →
    IsGuarded g b → is_barred g name ≡ false → IsGuarded g (inserted name attributes b)
inserted_guarded name attributes g b guard is =
    inserted_at_guarded (here b) name attributes g b guard is (here_good g b guard is)

pub void_guarded : (name : QualName) (attributes : List Attribute) (g : Guard) (b : Building) → IsGuard g →
    IsGuarded g b → IsGuarded g (inserted_void name attributes b)
void_guarded name attributes g b guard is =
    void_at_guarded (here b) name attributes g b is (here_good g b guard is)

-- into the head
head_good : (g : Guard) (f : Forest) → IsGuard g → IsGoodPlace g f (below g.head)
head_good g f guard = within g.head guard.head_apart.0 (λ shut. guard.head_apart.1)

pub into_head_guarded : (tag : Tag) (g : Guard) (b : Building) → IsGuard g → IsGuarded g b →
    is_barred g (name_for tag) ≡ false → IsGuarded g (inserted_into (Some g.head) tag b)
into_head_guarded tag g b guard is = inserted_at_guarded (below g.head) (name_for tag) tag.attrs g b guard is
    (head_good g b.forest guard)

pub void_into_head_guarded : (tag : Tag) (g : Guard) (b : Building) → IsGuard g → IsGuarded g b →
    IsGuarded g (inserted_void_into (Some g.head) tag b)
void_into_head_guarded tag g b guard is = void_at_guarded (below g.head) (name_for tag) tag.attrs g b is
    (head_good g b.forest guard)

-- a foreign element
pub foreign_guarded : (ns : Namespace) (tag : Tag) (g : Guard) (b : Building) → IsGuard g → IsGuarded g b →
    is_barred g (record { ns = ns; local = tag.name }) ≡ false → IsGuarded g (inserted_foreign ns tag b)
foreign_guarded ns tag g b guard is free =
    let name : QualName = record { ns = ns; local = tag.name } in
    cond_both tag.self_closing (inserted_void name tag.attrs b) (inserted name tag.attrs b) (IsGuarded g)
    (λ e. void_guarded name tag.attrs g b guard is) (λ e. inserted_guarded name tag.attrs g b guard is free)

-- what is no element is put anywhere
pub comment_guarded : (place : Place) (cs : List ℕ) (g : Guard) (b : Building) → IsGuard g → IsGuarded g b →
    IsGuarded g (commented_at place cs b)
comment_guarded place cs g b guard is =
    forest_guarded g b (put_node place (nodes b.forest) (made (comment cs) b.forest))
    (leaf_kept g place (comment cs) b.forest refl refl is.nodes) is

pub doctype_guarded : (d : Doctype) (g : Guard) (b : Building) → IsGuard g → IsGuarded g b →
    IsGuarded g (with_doctype_of d b)
doctype_guarded d g b guard is = forest_guarded g b (with_doctype_of d b).forest
    (leaf_kept g (below 0) (doctype (text_or_none d.name) (text_or_none d.public_id) (text_or_none d.system_id))
    b.forest refl refl is.nodes) is

pub said_guarded : (cs : List ℕ) (g : Guard) (b : Building) → IsGuard g → IsGuarded g b → IsGuarded g (said cs b)
said_guarded cs g b guard is =
    forest_guarded g b (put_words (here b) cs b.forest) (words_kept g (here b) cs b.forest is.nodes) is

-- attributes more
pub attributes_guarded : (n : ℕ) (attributes : List Attribute) (g : Guard) (b : Building) → IsGuard g →
    IsGuarded g b → IsGuarded g (given_attributes n attributes b)
attributes_guarded n attributes g b guard is = cond_both (is_in n b.stack) (with_attributes_of n attributes b) b
    (IsGuarded g)
    (λ e. forest_guarded g b (with_attributes n attributes b.forest)
    (attributes_kept g n attributes b.forest is.nodes) is) (λ e. is)

-- a free node is taken out
pub out_of_place_guarded : (n : ℕ) (g : Guard) (b : Building) → IsGuard g → IsGuarded g b → IsFree g n →
    IsGuarded g (out_of_place n b)
out_of_place_guarded n g b guard is free =
    forest_guarded g b (detached n b.forest) (detached_kept g n b.forest free is.nodes) is

-- what is no node
pub foster_guarded : (is_on : Bool) (g : Guard) (b : Building) → IsGuard g → IsGuarded g b →
    (g.fosters ≡ false → is_on ≡ false) → IsGuarded g (record b { fostering = is_on })
foster_guarded is_on g b guard is off = record {
  nodes = is.nodes;
  standing = is.standing;
  unbarred = is.unbarred;
  listed = is.listed;
  fostering = off;
}

pub quirks_guarded : (mode : QuirksMode) (g : Guard) (b : Building) → IsGuard g → IsGuarded g b →
    IsGuarded g (record b { quirks = mode })
quirks_guarded mode g b guard is = record {
  nodes = is.nodes;
  standing = is.standing;
  unbarred = is.unbarred;
  listed = is.listed;
  fostering = is.fostering;
}
