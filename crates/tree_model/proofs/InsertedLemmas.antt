-- What is inserted keeps a tree that is being built sound.
use Rattle.std.proofs.Common.{◌≡◌, ◌<◌, ◌∙◌, ◌+◌, [], Bool, List, None, Option, Some, ap, arith, codes, false, inl, inr}
use Rattle.std.proofs.Common.{refl, subst, sym, true, ℕ}
use Rattle.std.specs.Option.{unwrap_or}
use Rattle.tree_forest.specs.Changes.{contents_number, made, made_element, with_attributes}
use Rattle.tree_forest.specs.Conditions.{CanPut, IsPlace}
use Rattle.tree_forest.specs.Forest.{Forest, Holds, IsElement, IsElementKind, Kind, comment, doctype, document, element}
use Rattle.tree_forest.specs.Forest.{element_of, kind_at, nodes}
use Rattle.tree_forest.specs.Orders.{Above, AtOrAbove, IsForest, IsIn, IsParent}
use Rattle.tree_forest.specs.Places.{Place, below, node, put, put_node, with_doctype, words}
use Rattle.tree_names.specs.Sets.{is_html}
use Rattle.html_lexemes.specs.declared.names.Attribute.{Attribute}
use Rattle.html_lexemes.specs.declared.names.QualName.{QualName}
use Rattle.html_lexemes.specs.declared.token.Doctype.{Doctype}
use Rattle.tree_model.specs.Building.{Building}
use Rattle.tree_model.specs.Insertions.{commented_at, here, inserted_at, inserted_by, said, text_or_none}
use Rattle.tree_model.specs.Insertions.{with_attributes_of, with_doctype_of, with_element}
use Rattle.tree_model.specs.Laws.{Laws}
use Rattle.tree_model.specs.Points.{place_of}
use Rattle.tree_model.specs.Sound.{Sound}
use Rattle.tree_model.specs.declared.push_flag.PushFlag.{PushFlag}
use Rattle.tree_model.specs.declared.push_flag.PushFlag.TheVariants.{NoPush, Push}
use Rattle.tree_model.specs.declared.insertion_point.InsertionPoint.{InsertionPoint}
use Rattle.tree_model.proofs.PlaceLemmas.{here_there}
use Rattle.tree_model.proofs.PointLemmas.{place_leaf, place_made}
use Rattle.tree_predicates.specs.Attributes.{is_html_annotation}
use Rattle.tree_model.proofs.SoundLemmas.{Stays, by_kinds, either, pushed_sound, stays_sound}

-- words
pub said_at : (laws : Laws) (place : Place) (cs : List ℕ) (b : Building) → Sound b → IsPlace place b.forest →
    Sound (record b { forest = put place (words cs) b.forest })
said_at laws place cs b sound there =
    let f = b.forest in
    stays_sound b (put place (words cs) f) sound (laws.put_keeps place (words cs) f sound.forest there)
    (by_kinds f (put place (words cs) f) b.stack (λ n is. laws.words_stay place cs n f is)
    (λ a m i j. laws.above_words place cs a m f sound.forest there
    (laws.element_there m f (sound.elements m j))))

pub said_sound : (laws : Laws) (cs : List ℕ) (b : Building) → Sound b → Sound (said cs b)
said_sound laws cs b sound = said_at laws (here b) cs b sound (here_there laws b sound)

-- a node that was made anew, and may be put
pub record IsNew (place : Place) (f g : Forest) : Type 0 where
  pub forest : IsForest g
  pub may : CanPut place (node (nodes f)) g
  pub stays : (m : ℕ) → Holds m f → kind_at m g ≡ kind_at m f
  pub paths : (a b : ℕ) → Holds b f → Above (IsParent g) a b → Above (IsParent f) a b

pub not_itself : (n : ℕ) → ¬ (n < n)
not_itself n h = absurd (omega arith)

nothing_old : (laws : Laws) (place : Place) (b : ℕ) (f g : Forest) → IsForest f → IsNew place f g → Holds b f →
    ¬ (AtOrAbove (IsParent g) (nodes f) b)
nothing_old laws place b f g forest new held (inl e) = not_itself b (subst (λ n. b < n) e held)
nothing_old laws place b f g forest new held (inr up) =
    not_itself (nodes f) (laws.there (nodes f) b f forest (new.paths (nodes f) b held up)).0

put_paths : (laws : Laws) (place : Place) (a b : ℕ) (f g : Forest) → IsForest f → IsNew place f g → Holds b f →
    Above (IsParent (put_node place (nodes f) g)) a b → Above (IsParent f) a b
put_paths laws place a b f g forest new held up = either
    (λ old. new.paths a b held old)
    (λ through. absurd (nothing_old laws place b f g forest new held through.1))
    (laws.above_put place (nodes f) a b g new.forest new.may up)

new_stays : (laws : Laws) (place : Place) (f g : Forest) (ns : List ℕ) → IsForest f → IsNew place f g →
    ((n : ℕ) → IsIn n ns → IsElement n f) → Stays f (put_node place (nodes f) g) ns
new_stays laws place f g ns forest new elements =
    by_kinds f (put_node place (nodes f) g) ns
    (λ m is. laws.put_stays place (nodes f) m g ∙ new.stays m (laws.element_there m f is))
    (λ a b i j. put_paths laws place a b f g forest new (laws.element_there b f (elements b j)))

put_sound : (laws : Laws) (place : Place) (b : Building) (g : Forest) → Sound b → IsNew place b.forest g →
    Sound (record b { forest = put_node place (nodes b.forest) g })
put_sound laws place b g sound new =
    stays_sound b (put_node place (nodes b.forest) g) sound
    (laws.put_keeps place (node (nodes b.forest)) g new.forest new.may)
    (new_stays laws place b.forest g b.stack sound.forest new sound.elements)

new_leaf : (laws : Laws) (place : Place) (kind : Kind) (f : Forest) → IsForest f → IsPlace place f →
    (element_of kind).contents ≡ None → ¬ (kind ≡ document) → IsNew place f (made kind f)
new_leaf laws place kind f forest there plain no_document = record {
  forest = laws.leaf_keeps kind f forest plain;
  may = laws.leaf_may place kind f forest there plain no_document;
  stays = λ m held. laws.leaf_stays kind m f held;
  paths = λ a b held. laws.above_leaf kind a b f plain;
}

pub new_element : (laws : Laws) (place : Place) (name : QualName) (attributes : List Attribute) (t p : Bool) (f :
    Forest) →
    IsForest f → IsPlace place f → IsNew place f (made_element name attributes t p f)
new_element laws place name attributes t p f forest there = record {
  forest = laws.element_keeps name attributes t p f forest;
  may = laws.element_may place name attributes t p f forest there;
  stays = λ m held. laws.element_stays name attributes t p m f held;
  paths = λ a b held. laws.above_element name attributes t p a b f held;
}

-- a comment
no_comment_document : (cs : List ℕ) → ¬ (comment cs ≡ document)
no_comment_document cs e = absurd (cc)

pub commented_sound : (laws : Laws) (place : Place) (cs : List ℕ) (b : Building) → Sound b → IsPlace place b.forest →
    Sound (commented_at place cs b)
commented_sound laws place cs b sound there =
    put_sound laws place b (made (comment cs) b.forest) sound
    (new_leaf laws place (comment cs) b.forest sound.forest there refl (no_comment_document cs))

-- an element
pub with_element_sound : (laws : Laws) (place : Place) (name : QualName) (attributes : List Attribute) (b : Building) →
    Sound b → IsPlace place b.forest → Sound (with_element place name attributes b)
with_element_sound laws place name attributes b sound there =
    put_sound laws place b _ sound (new_element laws place name attributes _ _ b.forest sound.forest there)

-- what an element that was made is
pub new_kind : (laws : Laws) (name : QualName) (attributes : List Attribute) (t p : Bool) (f : Forest) →
    kind_at (nodes f) (made_element name attributes t p f) ≡ element (record {
      name = name;
      attributes = attributes;
      contents = contents_number t f;
      integration_point = p;
    })
new_kind laws name attributes true p f =
    let kind = element (record {
      name = name;
      attributes = attributes;
      contents = contents_number true f;
      integration_point = p;
    }) in
    let size = laws.size_leaf kind f in
    let held : Holds (nodes f) (made kind f) = omega arith in
    laws.leaf_stays document (nodes f) (made kind f) held ∙ laws.made_leaf kind f
new_kind laws name attributes false p f = laws.made_leaf _ f

pub new_contents : (t : Bool) (f : Forest) → t ≡ true → (c : ℕ) × (contents_number t f ≡ Some c)
new_contents true f e = (nodes f + 1, refl)
new_contents false f e = absurd (cc)

pub inserted_sound : (laws : Laws) (place : Place) (name : QualName) (attributes : List Attribute) (b : Building) →
    Sound b → IsPlace place b.forest → Sound (inserted_at place name attributes b)
inserted_sound laws place name attributes b sound there =
    let f = b.forest in
    let t = is_html (codes "template") name in
    let p = is_html_annotation name attributes in
    let g = made_element name attributes t p f in
    let new = new_element laws place name attributes t p f sound.forest there in
    let kind = laws.put_stays place (nodes f) (nodes f) g ∙ new_kind laws name attributes t p f in
    let open_held : (m : ℕ) → IsIn m b.stack → Holds m f = λ m i. laws.element_there m f (sound.elements m i) in
    pushed_sound (with_element place name attributes b) (nodes f)
    (with_element_sound laws place name attributes b sound there)
    (subst IsElementKind (sym kind) tt)
    (λ i. not_itself (nodes f) (open_held (nodes f) i))
    (λ m i up. not_itself (nodes f) (laws.there (nodes f) m f sound.forest
    (put_paths laws place (nodes f) m f g sound.forest new (open_held m i) up)).0)
    (λ is.
    let named = ap (λ k. (element_of k).name) kind in
    let holds = new_contents t f (subst (λ n. is_html (codes "template") n ≡ true) named is) in
    (holds.0, ap (λ k. (element_of k).contents) kind ∙ holds.1))

pub inserted_by_sound : (laws : Laws) (push : PushFlag) (place : Place) (name : QualName)
    (attributes : List Attribute) (b : Building) → Sound b → IsPlace place b.forest →
    Sound (inserted_by push place name attributes b)
inserted_by_sound laws Push place name attributes b sound there =
    inserted_sound laws place name attributes b sound there
inserted_by_sound laws NoPush place name attributes b sound there =
    with_element_sound laws place name attributes b sound there

-- an element that was made in a sink may be put where there was a place
pub can_put_new : {H : Type 0} (laws : Laws) (number : H → ℕ) (point : InsertionPoint H) (e : ℕ) (name : QualName)
    (attributes : List Attribute) (t p : Bool) (f g : Forest) → g ≡ made_element name attributes t p f →
    e ≡ nodes f → IsForest f → IsPlace (place_of number f point) f → CanPut (place_of number g point) (node e) g
can_put_new laws number point e name attributes t p f g made_is e_is forest there =
    let h = made_element name attributes t p f in
    subst (λ x. CanPut (place_of number x point) (node e) x) (sym made_is)
    (subst (λ x. CanPut (place_of number h point) (node x) h) (sym e_is)
    (subst (λ x. CanPut x (node (nodes f)) h) (sym (place_made number point name attributes t p f))
    (laws.element_may (place_of number f point) name attributes t p f forest there)))

pub put_new : {H : Type 0} (number : H → ℕ) (point : InsertionPoint H) (e : ℕ) (name : QualName)
    (attributes : List Attribute) (t p : Bool) (f g h : Forest) → h ≡ put_node (place_of number g point) e g →
    g ≡ made_element name attributes t p f → e ≡ nodes f →
    h ≡ put_node (place_of number f point) (nodes f) (made_element name attributes t p f)
put_new number point e name attributes t p f g h put_is made_is e_is =
    let k = made_element name attributes t p f in
    put_is ∙ ap (λ x. put_node (place_of number x point) e x) made_is
    ∙ ap (λ x. put_node (place_of number k point) x k) e_is
    ∙ ap (λ x. put_node x (nodes f) k) (place_made number point name attributes t p f)

-- and so may a comment
pub can_put_comment : {H : Type 0} (laws : Laws) (number : H → ℕ) (point : InsertionPoint H) (e : ℕ) (cs : List ℕ)
    (f g : Forest) → g ≡ made (comment cs) f → e ≡ nodes f → IsForest f → IsPlace (place_of number f point) f →
    CanPut (place_of number g point) (node e) g
can_put_comment laws number point e cs f g made_is e_is forest there =
    let h = made (comment cs) f in
    subst (λ x. CanPut (place_of number x point) (node e) x) (sym made_is)
    (subst (λ x. CanPut (place_of number h point) (node x) h) (sym e_is)
    (subst (λ x. CanPut x (node (nodes f)) h) (sym (place_leaf number point (comment cs) f))
    (laws.leaf_may (place_of number f point) (comment cs) f forest there refl (no_comment_document cs))))

pub put_comment : {H : Type 0} (number : H → ℕ) (point : InsertionPoint H) (e : ℕ) (cs : List ℕ) (f g h : Forest) →
    h ≡ put_node (place_of number g point) e g → g ≡ made (comment cs) f → e ≡ nodes f →
    h ≡ put_node (place_of number f point) (nodes f) (made (comment cs) f)
put_comment number point e cs f g h put_is made_is e_is =
    let k = made (comment cs) f in
    put_is ∙ ap (λ x. put_node (place_of number x point) e x) made_is
    ∙ ap (λ x. put_node (place_of number k point) x k) e_is
    ∙ ap (λ x. put_node x (nodes f) k) (place_leaf number point (comment cs) f)

-- attributes
pub attributed_sound : (laws : Laws) (n : ℕ) (attributes : List Attribute) (b : Building) → Sound b →
    Sound (with_attributes_of n attributes b)
attributed_sound laws n attributes b sound =
    stays_sound b (with_attributes n attributes b.forest) sound
    (laws.attributes_keep n attributes b.forest sound.forest) (record {
      elements = λ m is. laws.attributes_stay n m attributes b.forest is;
      names = λ m is. laws.attribute_names n m attributes b.forest;
      contents = λ m is. laws.attribute_contents n m attributes b.forest;
      paths = λ a m i j. laws.above_attributes n attributes a m b.forest;
    })

-- a doctype
no_doctype_document : (name public_id system_id : List ℕ) → ¬ (doctype name public_id system_id ≡ document)
no_doctype_document name public_id system_id e = absurd (cc)

pub doctyped_sound : (laws : Laws) (d : Doctype) (b : Building) → Sound b → Sound (with_doctype_of d b)
doctyped_sound laws d b sound =
    let kind = doctype (text_or_none d.name) (text_or_none d.public_id) (text_or_none d.system_id) in
    put_sound laws (below 0) b (made kind b.forest) sound
    (new_leaf laws (below 0) kind b.forest sound.forest sound.forest.page.0 refl (no_doctype_document _ _ _))

-- what it doesn't name is empty
given_or_none : (o : Option (List ℕ)) (text none : List ℕ) → text ≡ unwrap_or o none → none ≡ [] →
    text ≡ text_or_none o
given_or_none None text none is empty = is ∙ empty
given_or_none (Some cs) text none is empty = is

pub doctype_is : (d : Doctype) (n p s x y z : List ℕ) (f : Forest) → n ≡ unwrap_or d.name x →
    p ≡ unwrap_or d.public_id y → s ≡ unwrap_or d.system_id z → x ≡ [] → y ≡ [] → z ≡ [] →
    with_doctype n p s f
    ≡ with_doctype (text_or_none d.name) (text_or_none d.public_id) (text_or_none d.system_id) f
doctype_is d n p s x y z f n_is p_is s_is x_is y_is z_is =
    ap (λ t. with_doctype t p s f) (given_or_none d.name n x n_is x_is)
    ∙ ap (λ t. with_doctype (text_or_none d.name) t s f) (given_or_none d.public_id p y p_is y_is)
    ∙ ap (λ t. with_doctype (text_or_none d.name) (text_or_none d.public_id) t f)
    (given_or_none d.system_id s z s_is z_is)
