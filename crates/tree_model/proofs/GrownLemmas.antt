-- A node that is made for a tag, and what keeps a tree sound in which it becomes an open element.
use Rattle.std.proofs.Common.{◌≡◌, ◌<◌, ◌⊎◌, ◌∙◌, Some, ap, arith, codes, inl, inr, subst, sym, true, ℕ}
use Rattle.tree_formatting.specs.Alike.{AreFew}
use Rattle.tree_forest.specs.Changes.{contents_number, detached}
use Rattle.tree_forest.specs.Forest.{Forest, Holds, IsElement, IsElementKind, Kind, contents_of, document, element}
use Rattle.tree_forest.specs.Forest.{element_of, kind_at, nodes}
use Rattle.tree_forest.specs.Orders.{Above, AtOrAbove, HasNoParent, IsForest, IsIn, IsParent, child, further}
use Rattle.tree_forest.specs.Places.{below}
use Rattle.tree_names.specs.Sets.{is_html, is_one_of}
use Rattle.tree_names.specs.TagSets.{formatting}
use Rattle.html_lexemes.specs.declared.token.Tag.{Tag}
use Rattle.tree_model.specs.Building.{Building}
use Rattle.tree_model.specs.Formatting.{made_for, name_for}
use Rattle.tree_model.specs.Insertions.{is_template}
use Rattle.tree_model.specs.Laws.{Laws}
use Rattle.tree_model.specs.Sound.{IsFormatting, IsListed, Sound}
use Rattle.tree_model.proofs.InsertedLemmas.{new_contents, new_element, new_kind, not_itself}
use Rattle.tree_model.proofs.NearerLemmas.{IsNearer, distinct_by, order_by}
use Rattle.tree_model.proofs.SoundLemmas.{either}
use Rattle.tree_predicates.specs.Attributes.{is_html_annotation}

abbrev pub made_kind : Tag → Forest → Kind
made_kind tag f = element (record {
  name = name_for tag;
  attributes = tag.attrs;
  contents = contents_number (is_html (codes "template") (name_for tag)) f;
  integration_point = is_html_annotation (name_for tag) tag.attrs;
})

-- a node was made for a tag, and nothing stands above it, nor it above what was there
pub record IsApart (tag : Tag) (f g : Forest) : Type 0 where
  pub forest : IsForest g
  pub within : Holds (nodes f) g
  pub free : HasNoParent (nodes f) g
  pub kind : kind_at (nodes f) g ≡ made_kind tag f
  pub stays : (k : ℕ) → Holds k f → kind_at k g ≡ kind_at k f
  pub paths : (a b : ℕ) → Holds b f → Above (IsParent g) a b → Above (IsParent f) a b

pub made_apart : (laws : Laws) (tag : Tag) (f : Forest) → IsForest f → IsApart tag f (made_for tag f)
made_apart laws tag f forest =
    let t = is_html (codes "template") (name_for tag) in
    let p = is_html_annotation (name_for tag) tag.attrs in
    let new = new_element laws (below 0) (name_for tag) tag.attrs t p f forest forest.page.0 in
    record {
      forest = new.forest;
      within = new.may.1.within;
      free = new.may.1.free;
      kind = new_kind laws (name_for tag) tag.attrs t p f;
      stays = new.stays;
      paths = new.paths;
    }

pub none_above : (n : ℕ) (f : Forest) → HasNoParent n f → (a : ℕ) → ¬ (Above (IsParent f) a n)
none_above n f free a (child _ _ e) = free a e
none_above n f free a (further _ c _ up e) = free c e

pub out_apart : (laws : Laws) (tag : Tag) (last : ℕ) (f g : Forest) → IsApart tag f g →
    IsApart tag f (detached last g)
out_apart laws tag last f g apart = record {
  forest = laws.out_keeps last g apart.forest;
  within = subst (λ size. nodes f < size) (sym (laws.out_size last g)) apart.within;
  free = λ p e. none_above (nodes f) g apart.free p (laws.above_out last p (nodes f) g (child p (nodes f) e));
  kind = laws.out_stays last (nodes f) g ∙ apart.kind;
  stays = λ k held. laws.out_stays last k g ∙ apart.stays k held;
  paths = λ a b held up. apart.paths a b held (laws.above_out last a b g up);
}

pub old_held : (tag : Tag) (k : ℕ) (f g : Forest) → IsApart tag f g → Holds k f → Holds k g
old_held tag k f g apart held = let size = apart.within in omega arith

-- nothing old is at or above it, nor it at or above what is old
pub old_not_above : (tag : Tag) (k : ℕ) (f g : Forest) → IsApart tag f g → Holds k f →
    ¬ (AtOrAbove (IsParent g) k (nodes f))
old_not_above tag k f g apart held (inl e) = not_itself k (subst (λ n. k < n) (sym e) held)
old_not_above tag k f g apart held (inr up) = none_above (nodes f) g apart.free k up

pub not_above_old : (laws : Laws) (tag : Tag) (k : ℕ) (f g : Forest) → IsForest f → IsApart tag f g → Holds k f →
    ¬ (Above (IsParent g) (nodes f) k)
not_above_old laws tag k f g forest apart held up =
    not_itself (nodes f) (laws.there (nodes f) k f forest (apart.paths (nodes f) k held up)).0

-- no element is a document
pub no_document : (kind kind_before : Kind) → kind ≡ kind_before → IsElementKind kind_before → ¬ (kind ≡ document)
no_document kind was e is k = subst IsElementKind (sym e ∙ k) is

-- What becomes of a tree, in which open elements and entries are old ones, or the node that was made for a tag.
pub record IsGrown (tag : Tag) (b c : Building) : Type 0 where
  pub forest : IsForest c.forest
  pub stays : (k : ℕ) → Holds k b.forest → kind_at k c.forest ≡ kind_at k b.forest
  pub kind : kind_at (nodes b.forest) c.forest ≡ made_kind tag b.forest
  pub within : (k : ℕ) → IsIn k c.stack → IsIn k b.stack ⊎ (k ≡ nodes b.forest)
  pub distinct : (k : ℕ) → ¬ (IsNearer k k c.stack)
  pub ordered : (x y : ℕ) → IsNearer x y c.stack → ¬ (Above (IsParent c.forest) x y)
  pub listed : (k : ℕ) (held : Tag) → IsListed k held c.formatting →
      IsListed k held b.formatting ⊎ ((k ≡ nodes b.forest) × (held ≡ tag))
  pub few : AreFew c.formatting
  pub counted : c.counted ≡ true

-- what is asked of an open element
abbrev IsFit : Forest → ℕ → Type 0
IsFit f k = IsElement k f × (is_template k f ≡ true → (c : ℕ) × (contents_of k f ≡ Some c))

fit_stays : (k : ℕ) (f g : Forest) → kind_at k g ≡ kind_at k f → IsFit f k → IsFit g k
fit_stays k f g same fit = subst (λ kind. IsElementKind kind ×
    (is_html (codes "template") (element_of kind).name ≡ true → (c : ℕ) × ((element_of kind).contents ≡ Some c)))
    (sym same) fit

fit_new : (tag : Tag) (m : ℕ) (f g : Forest) → kind_at m g ≡ made_kind tag f → IsFit g m
fit_new tag m f g kind = subst (λ kind. IsElementKind kind ×
    (is_html (codes "template") (element_of kind).name ≡ true → (c : ℕ) × ((element_of kind).contents ≡ Some c)))
    (sym kind) (tt, new_contents (is_html (codes "template") (name_for tag)) f)

formatting_stays : (k : ℕ) (tag : Tag) (f g : Forest) → kind_at k g ≡ kind_at k f → IsFormatting k tag f →
    IsFormatting k tag g
formatting_stays k tag f g same was = record {
  element = subst IsElementKind (sym same) was.element;
  name = ap (λ kind. (element_of kind).name) same ∙ was.name;
  kind = was.kind;
}

formatting_new : (tag : Tag) (m : ℕ) (f g : Forest) → is_one_of formatting tag.name ≡ true →
    kind_at m g ≡ made_kind tag f → IsFormatting m tag g
formatting_new tag m f g is kind = record {
  element = subst IsElementKind (sym kind) tt;
  name = ap (λ kind. (element_of kind).name) kind;
  kind = is;
}

-- nodes are moved, and no open element comes above one that is farther
pub moved_sound : (b : Building) (g : Forest) → Sound b → IsForest g →
    ((k : ℕ) → kind_at k g ≡ kind_at k b.forest) →
    ((x y : ℕ) → IsNearer x y b.stack → ¬ (Above (IsParent g) x y)) → Sound (record b { forest = g })
moved_sound b g sound forest stays ordered = record {
  forest = forest;
  elements = λ k i. subst IsElementKind (sym (stays k)) (sound.elements k i);
  distinct = sound.distinct;
  ordered = order_by g b.stack ordered;
  templates = λ k i. (fit_stays k b.forest g (stays k) (sound.elements k i, sound.templates k i)).1;
  listed = λ k tag l. formatting_stays k tag b.forest g (stays k) (sound.listed k tag l);
  few = sound.few;
  counted = sound.counted;
}

pub grown_sound : (laws : Laws) (tag : Tag) (b c : Building) → Sound b → is_one_of formatting tag.name ≡ true →
    IsGrown tag b c → Sound c
grown_sound laws tag b c sound is grown =
    let m = nodes b.forest in
    let stays : (k : ℕ) → IsElement k b.forest → kind_at k c.forest ≡ kind_at k b.forest =
    λ k element. grown.stays k (laws.element_there k b.forest element) in
    let fit : (k : ℕ) → IsIn k c.stack → IsFit c.forest k = λ k i. either
    (λ old. fit_stays k b.forest c.forest (stays k (sound.elements k old))
    (sound.elements k old, sound.templates k old))
    (λ new. subst (IsFit c.forest) (sym new) (fit_new tag m b.forest c.forest grown.kind))
    (grown.within k i) in
    record {
      forest = grown.forest;
      elements = λ k i. (fit k i).0;
      distinct = distinct_by c.stack grown.distinct;
      ordered = order_by c.forest c.stack grown.ordered;
      templates = λ k i. (fit k i).1;
      listed = λ k held l. either
          (λ old. let was = sound.listed k held old in
          formatting_stays k held b.forest c.forest (stays k was.element) was)
          (λ new. subst (λ x. IsFormatting x held c.forest) (sym new.0)
          (subst (λ t. IsFormatting m t c.forest) (sym new.1)
          (formatting_new tag m b.forest c.forest is grown.kind)))
          (grown.listed k held l);
      few = grown.few;
      counted = grown.counted;
    }
