-- What each change keeps of a tree that is being built.
use Rattle.std.proofs.Common.{◌≡◌, ◌⊎◌, ◌∙◌, [], ◌∷◌, Err, List, Ok, OnErr, OnOk, Result, Some, ap, codes, inl, inr}
use Rattle.std.proofs.Common.{refl, subst, sym, true, ℕ}
use Rattle.tree_forest.specs.Forest.{Forest, IsElement, IsElementKind, contents_of, element_of, kind_at, name_of}
use Rattle.tree_forest.specs.Orders.{Above, AreDistinct, IsForest, IsIn, IsParent}
use Rattle.tree_forest.specs.declared.sink.QuirksMode.{QuirksMode}
use Rattle.tree_names.specs.Sets.{is_html}
use Rattle.tree_model.specs.Building.{Building}
use Rattle.tree_model.specs.Insertions.{is_template}
use Rattle.tree_model.specs.OpenElements.{below_current}
use Rattle.tree_model.specs.Orders.{AreInOrder}
use Rattle.tree_model.specs.Scopes.{popped}
use Rattle.tree_model.specs.Sound.{Sound}

pub either : {A B C : Type 0} → (A → C) → (B → C) → A ⊎ B → C
either f g (inl a) = f a
either f g (inr b) = g b

-- What becomes of the open and the listed elements: each is what it was, and stands above no more of the open ones.
pub record Stays (f g : Forest) (ns : List ℕ) : Type 0 where
  pub elements : (n : ℕ) → IsElement n f → IsElement n g
  pub names : (n : ℕ) → IsElement n f → name_of n g ≡ name_of n f
  pub contents : (n : ℕ) → IsElement n f → contents_of n g ≡ contents_of n f
  pub paths : (a b : ℕ) → IsIn a ns → IsIn b ns → Above (IsParent g) a b → Above (IsParent f) a b

-- by what nodes are
pub by_kinds : (f g : Forest) (ns : List ℕ) → ((n : ℕ) → IsElement n f → kind_at n g ≡ kind_at n f) →
    ((a b : ℕ) → IsIn a ns → IsIn b ns → Above (IsParent g) a b → Above (IsParent f) a b) → Stays f g ns
by_kinds f g ns kinds paths = record {
  elements = λ n is. subst IsElementKind (sym (kinds n is)) is;
  names = λ n is. ap (λ k. (element_of k).name) (kinds n is);
  contents = λ n is. ap (λ k. (element_of k).contents) (kinds n is);
  paths = paths;
}

order_stays : (f g : Forest) (ns : List ℕ) →
    ((a b : ℕ) → IsIn a ns → IsIn b ns → Above (IsParent g) a b → Above (IsParent f) a b) →
    AreInOrder f ns → AreInOrder g ns
order_stays f g [] paths order = tt
order_stays f g (n ∷ ns) paths order = (
  (λ m i up. order.0 m i (paths n m (inl refl) (inr i) up)),
  order_stays f g ns (λ a b i j. paths a b (inr i) (inr j)) order.1,
)

template_stays : (f g : Forest) (n : ℕ) → name_of n g ≡ name_of n f → is_template n g ≡ true → is_template n f ≡ true
template_stays f g n e is = subst (λ name. is_html (codes "template") name ≡ true) e is

pub stays_sound : (b : Building) (g : Forest) → Sound b → IsForest g → Stays b.forest g b.stack →
    Sound (record b { forest = g })
stays_sound b g sound forest stays = record {
  forest = forest;
  elements = λ n i. stays.elements n (sound.elements n i);
  distinct = sound.distinct;
  ordered = order_stays b.forest g b.stack stays.paths sound.ordered;
  templates = λ n i is.
      let is_element = sound.elements n i in
      let had = sound.templates n i (template_stays b.forest g n (stays.names n is_element) is) in
      (had.0, stays.contents n is_element ∙ had.1);
  listed = λ n tag l.
      let was = sound.listed n tag l in
      record {
        element = stays.elements n was.element;
        name = stays.names n was.element ∙ was.name;
        kind = was.kind;
      };
  few = sound.few;
  counted = sound.counted;
}

-- a new element becomes the current node
pub pushed_sound : (b : Building) (n : ℕ) → Sound b → IsElement n b.forest → ¬ (IsIn n b.stack) →
    ((m : ℕ) → IsIn m b.stack → ¬ (Above (IsParent b.forest) n m)) →
    (is_template n b.forest ≡ true → (c : ℕ) × (contents_of n b.forest ≡ Some c)) →
    Sound (record b { stack = n ∷ b.stack })
pushed_sound b n sound is_element new apart template = record {
  forest = sound.forest;
  elements = λ m. either (λ e. subst (λ x. IsElement x b.forest) (sym e) is_element) (sound.elements m);
  distinct = (new, sound.distinct);
  ordered = (apart, sound.ordered);
  templates = λ m. either
      (λ e is. subst (λ x. (c : ℕ) × (contents_of x b.forest ≡ Some c)) (sym e)
      (template (subst (λ x. is_template x b.forest ≡ true) e is)))
      (sound.templates m);
  listed = sound.listed;
  few = sound.few;
  counted = sound.counted;
}

-- elements are popped or taken off
tail_distinct : (ns : List ℕ) → AreDistinct ns → AreDistinct (below_current ns)
tail_distinct [] d = tt
tail_distinct (n ∷ ns) d = d.1

tail_order : (f : Forest) (ns : List ℕ) → AreInOrder f ns → AreInOrder f (below_current ns)
tail_order f [] order = tt
tail_order f (n ∷ ns) order = order.1

tail_in : (n : ℕ) (ns : List ℕ) → IsIn n (below_current ns) → IsIn n ns
tail_in n [] i = i
tail_in n (m ∷ ns) i = inr i

pub popped_sound : (b : Building) → Sound b → Sound (popped b)
popped_sound b sound = record {
  forest = sound.forest;
  elements = λ n i. sound.elements n (tail_in n b.stack i);
  distinct = tail_distinct b.stack sound.distinct;
  ordered = tail_order b.forest b.stack sound.ordered;
  templates = λ n i. sound.templates n (tail_in n b.stack i);
  listed = sound.listed;
  few = sound.few;
  counted = sound.counted;
}

-- what is left of the nodes by a call that may be refused
pub forest_left : {T E : Type 0} (r : Result T E) (f g h : Forest) → OnErr r (h ≡ f) → OnOk r (h ≡ g) → IsForest f →
    IsForest g → IsForest h
forest_left (Ok x) f g h refused done old new = subst IsForest (sym done) new
forest_left (Err e) f g h refused done old new = subst IsForest (sym refused) old

pub sound_left : {T E : Type 0} (r : Result T E) (a b : Building) → OnOk r (a ≡ b) → Sound b → OnOk r (Sound a)
sound_left (Ok x) a b done sound = subst Sound (sym done) sound
sound_left (Err e) a b done sound = tt

pub on_ok : {T E : Type 0} (r : Result T E) (A B : Type 0) → (A → B) → OnOk r A → OnOk r B
on_ok (Ok x) A B change done = change done
on_ok (Err e) A B change done = tt

pub quirks_sound : (b : Building) (mode : QuirksMode) → Sound b → Sound (record b { quirks = mode })
quirks_sound b mode sound = record {
  forest = sound.forest;
  elements = sound.elements;
  distinct = sound.distinct;
  ordered = sound.ordered;
  templates = sound.templates;
  listed = sound.listed;
  few = sound.few;
  counted = sound.counted;
}
