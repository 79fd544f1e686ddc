-- What is done to the list of active formatting elements keeps a tree that is being built sound.
use Rattle.std.proofs.Common.{◌≡◌, ◌==◌, ◌&&◌, ◌∙◌, [], ◌∷◌, if◌then◌else◌, Bool, List, ap, codes, false, inl, inr}
use Rattle.std.proofs.Common.{subst, sym, true, ℕ}
use Rattle.std.specs.Bool.{nat_lt}
use Rattle.tree_formatting.specs.Alike.{count_alike, is_alike}
use Rattle.tree_formatting.specs.Entries.{Entry, before_marker, formatted, marker, up_to_marker}
use Rattle.tree_formatting.specs.Pushing.{pushed, without_earliest}
use Rattle.tree_forest.specs.Forest.{IsElementKind, element_of, nodes}
use Rattle.tree_forest.specs.Places.{Place}
use Rattle.tree_names.specs.Sets.{is_html, is_one_of}
use Rattle.tree_names.specs.TagSets.{formatting}
use Rattle.html_lexemes.specs.declared.token.Tag.{Tag}
use Rattle.tree_model.specs.Building.{Building}
use Rattle.tree_model.specs.Formatting.{cleared, inserted_for, inserted_formatting, made_for, marked, name_for}
use Rattle.tree_model.specs.Insertions.{here, with_element}
use Rattle.tree_model.specs.Laws.{Laws}
use Rattle.tree_model.specs.Sound.{IsFormatting, IsListed, Sound}
use Rattle.tree_model.proofs.InsertedLemmas.{inserted_sound, new_kind}
use Rattle.tree_model.proofs.PlaceLemmas.{here_there}
use Rattle.tree_predicates.specs.Attributes.{is_html_annotation}

pub marked_sound : (laws : Laws) (b : Building) → Sound b → Sound (marked b)
marked_sound laws b sound = record {
  forest = sound.forest;
  elements = sound.elements;
  distinct = sound.distinct;
  ordered = sound.ordered;
  templates = sound.templates;
  listed = sound.listed;
  few = laws.few_marked b.formatting sound.few;
  counted = sound.counted;
}

cleared_listed : (n : ℕ) (tag : Tag) (entries : List Entry) → IsListed n tag (before_marker entries) →
    IsListed n tag entries
cleared_listed n tag [] l = l
cleared_listed n tag (marker ∷ rest) l = l
cleared_listed n tag (formatted m held ∷ rest) l = inr (cleared_listed n tag rest l)

pub cleared_sound : (laws : Laws) (b : Building) → Sound b → Sound (cleared b)
cleared_sound laws b sound = record {
  forest = sound.forest;
  elements = sound.elements;
  distinct = sound.distinct;
  ordered = sound.ordered;
  templates = sound.templates;
  listed = λ n tag l. sound.listed n tag (cleared_listed n tag b.formatting l);
  few = laws.few_cleared b.formatting sound.few;
  counted = sound.counted;
}

-- a new element is listed, of which the earliest of three alike goes
either_listed : (c : Bool) (n : ℕ) (tag : Tag) (xs ys zs : List Entry) → (IsListed n tag xs → IsListed n tag zs) →
    (IsListed n tag ys → IsListed n tag zs) → IsListed n tag (if c then xs else ys) → IsListed n tag zs
either_listed true n tag xs ys zs f g l = f l
either_listed false n tag xs ys zs f g l = g l

listed_after : (n m : ℕ) (tag held : Tag) (xs ys : List Entry) → (IsListed n tag xs → IsListed n tag ys) →
    IsListed n tag (formatted m held ∷ xs) → IsListed n tag (formatted m held ∷ ys)
listed_after n m tag held xs ys f (inl e) = inl e
listed_after n m tag held xs ys f (inr l) = inr (f l)

earliest_listed : (n : ℕ) (tag new : Tag) (entries : List Entry) → IsListed n tag (without_earliest new entries) →
    IsListed n tag entries
earliest_listed n tag new [] l = l
earliest_listed n tag new (marker ∷ rest) l = l
earliest_listed n tag new (formatted m held ∷ rest) l =
    either_listed (is_alike new (formatted m held) && (count_alike new (up_to_marker rest) == 0)) n tag rest
    (formatted m held ∷ without_earliest new rest) (formatted m held ∷ rest) (λ i. inr i)
    (listed_after n m tag held (without_earliest new rest) rest (earliest_listed n tag new rest)) l

kept_listed : (n : ℕ) (tag new : Tag) (entries : List Entry) →
    IsListed n tag (if nat_lt 2 (count_alike new (up_to_marker entries)) then without_earliest new entries else entries)
    → IsListed n tag entries
kept_listed n tag new entries l = either_listed (nat_lt 2 (count_alike new (up_to_marker entries))) n tag
    (without_earliest new entries) entries entries (earliest_listed n tag new entries) (λ i. i) l

-- a new element for a tag of formatting
pub new_formatting : (laws : Laws) (place : Place) (tag : Tag) (b : Building) →
    is_one_of formatting tag.name ≡ true →
    IsFormatting (nodes b.forest) tag (with_element place (name_for tag) tag.attrs b).forest
new_formatting laws place tag b is =
    let t = is_html (codes "template") (name_for tag) in
    let p = is_html_annotation (name_for tag) tag.attrs in
    let kind = laws.put_stays place (nodes b.forest) (nodes b.forest) (made_for tag b.forest)
    ∙ new_kind laws (name_for tag) tag.attrs t p b.forest in
    record {
      element = subst IsElementKind (sym kind) tt;
      name = ap (λ k. (element_of k).name) kind;
      kind = is;
    }

pub inserted_for_sound : (laws : Laws) (tag : Tag) (b : Building) → Sound b → Sound (inserted_for tag b)
inserted_for_sound laws tag b sound =
    inserted_sound laws (here b) (name_for tag) tag.attrs b sound (here_there laws b sound)

pushed_listed : (laws : Laws) (new : Tag) (b : Building) → Sound b → is_one_of formatting new.name ≡ true →
    (n : ℕ) (tag : Tag) → IsListed n tag (pushed (nodes b.forest) new b.formatting) →
    IsFormatting n tag (inserted_for new b).forest
pushed_listed laws new b sound is n tag (inl e) =
    subst (λ m. IsFormatting m tag (inserted_for new b).forest) (sym e.0)
    (subst (λ t. IsFormatting (nodes b.forest) t (inserted_for new b).forest) (sym e.1)
    (new_formatting laws (here b) new b is))
pushed_listed laws new b sound is n tag (inr l) =
    (inserted_for_sound laws new b sound).listed n tag (kept_listed n tag new b.formatting l)

pub inserted_formatting_sound : (laws : Laws) (tag : Tag) (b : Building) → Sound b →
    is_one_of formatting tag.name ≡ true → Sound (inserted_formatting tag b)
inserted_formatting_sound laws tag b sound is =
    let inserted = inserted_for_sound laws tag b sound in
    record {
      forest = inserted.forest;
      elements = inserted.elements;
      distinct = inserted.distinct;
      ordered = inserted.ordered;
      templates = inserted.templates;
      listed = pushed_listed laws tag b sound is;
      few = laws.few_pushed (nodes b.forest) tag b.formatting sound.few;
      counted = sound.counted;
    }
