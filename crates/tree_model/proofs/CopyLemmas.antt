-- An element that is copied in the adoption agency.
use Rattle.std.proofs.Common.{◌≡◌, ℕ, ◌<◌, ◌⊎◌, inl, inr, sym, ap, subst, ◌∙◌, List, Some, ◌==◌}
use Rattle.std.proofs.lemmas.Bool.{cases_Bool, eqb-false, eqb-true}
use Rattle.tree_forest.specs.Changes.{detached}
use Rattle.tree_forest.specs.Conditions.{CanMove, CanPut}
use Rattle.tree_forest.specs.Forest.{Forest, Holds, element_of, kind_at, name_of, nodes}
use Rattle.tree_forest.specs.Orders.{Above, AtOrAbove, IsIn, IsParent}
use Rattle.tree_forest.specs.Places.{below, node, put_node}
use Rattle.html_lexemes.specs.declared.token.Tag.{Tag}
use Rattle.tree_model.specs.Adoption.{copied}
use Rattle.tree_model.specs.Building.{Building, are_counted}
use Rattle.tree_model.specs.CanAdopt.{CanCopy}
use Rattle.tree_model.specs.Formatting.{made_for}
use Rattle.tree_model.specs.Laws.{Laws}
use Rattle.tree_model.specs.Sound.{Sound}
use Rattle.tree_model.proofs.CountsKept.{kept_by}
use Rattle.tree_model.proofs.GrownLemmas.{IsApart, grown_sound, made_apart, no_document, none_above, not_above_old}
use Rattle.tree_model.proofs.GrownLemmas.{old_held, old_not_above, out_apart}
use Rattle.tree_model.proofs.InsertedLemmas.{not_itself}
use Rattle.tree_model.proofs.ListedAfter.{listed_handed, tag_listed}
use Rattle.tree_model.proofs.NearerLemmas.{IsNearer, Was, farther_in, in_replaced, is_nearer, nearer_in, nearer_on}
use Rattle.tree_model.proofs.NearerLemmas.{nearer_replaced, never_above, not_twice}
use Rattle.tree_model.proofs.SoundLemmas.{either}

is_or_isnt : (a b : ℕ) → (a ≡ b) ⊎ ¬ (a ≡ b)
is_or_isnt a b = either (λ e. inl (eqb-true a b e)) (λ e. inr (eqb-false a b e)) (cases_Bool (a == b))

pub same_tag : (s t : Tag) → Some s ≡ Some t → s ≡ t
same_tag s t e = cc

-- the last node is nearer than the element
last_nearer : (n last : ℕ) (tag : Tag) (b : Building) → CanCopy n last tag b → IsNearer last n b.stack
last_nearer n last tag b can = is_nearer last n b.stack can.below_it can.is_open

-- the forest in which the copy is made and the last node taken out
copy_apart : (laws : Laws) (tag : Tag) (last : ℕ) (b : Building) → Sound b →
    IsApart tag b.forest (detached last (made_for tag b.forest))
copy_apart laws tag last b sound =
    out_apart laws tag last b.forest (made_for tag b.forest) (made_apart laws tag b.forest sound.forest)

pub can_move_to_copy : (n last : ℕ) (tag : Tag) (b : Building) → Laws → Sound b → CanCopy n last tag b →
    CanMove (below (nodes b.forest)) last (detached last (made_for tag b.forest))
can_move_to_copy n last tag b laws sound can =
    let f = b.forest in
    let g = made_for tag f in
    let apart = copy_apart laws tag last b sound in
    let made = made_apart laws tag f sound.forest in
    let is_element = sound.elements last (nearer_in last n b.stack (last_nearer n last tag b can)) in
    let held = laws.element_there last f is_element in
    record {
      within = old_held tag last f (detached last g) apart held;
      free = laws.out_free last g made.forest (no_document _ _ (made.stays last held) is_element);
      no_document = no_document _ _ (apart.stays last held) is_element;
      apart = old_not_above tag last f (detached last g) apart held;
    }

-- the same in a sink, where the copy was made and the last node taken out
pub can_put_copy : (n last copy : ℕ) (tag : Tag) (b : Building) (g h : Forest) → Laws → Sound b → CanCopy n last tag b →
    copy ≡ nodes b.forest → g ≡ made_for tag b.forest → h ≡ detached last g → CanPut (below copy) (node last) h
can_put_copy n last copy tag b g h laws sound can copy_is made_is out_is =
    let out = detached last (made_for tag b.forest) in
    subst (λ x. CanPut (below copy) (node last) x) (sym (out_is ∙ ap (detached last) made_is))
    (subst (λ x. CanPut (below x) (node last) out) (sym copy_is)
    ((copy_apart laws tag last b sound).within, can_move_to_copy n last tag b laws sound can))

-- A path to or from the copy, or between others. Here g is the forest before the last node is put.
copy_ordered : (n last : ℕ) (tag : Tag) (b : Building) → Laws → Sound b → CanCopy n last tag b →
    (x y a c : ℕ) → IsNearer x y b.stack → Was n (nodes b.forest) x a → Was n (nodes b.forest) y c →
    ¬ (Above (IsParent (copied n tag last b).forest) a c)
copy_ordered n last tag b laws sound can x y a c h first second up =
    let f = b.forest in
    let m = nodes f in
    let g = detached last (made_for tag f) in
    let apart = copy_apart laws tag last b sound in
    let may = can_move_to_copy n last tag b laws sound can in
    let held : (k : ℕ) → IsIn k b.stack → Holds k f = λ k i. laws.element_there k f (sound.elements k i) in
    let last_in = nearer_in last n b.stack (last_nearer n last tag b can) in
    let path = laws.above_put (below m) last a c g apart.forest (apart.within, may) up in
    let to_copy : c ≡ m → ⊥ = λ e. either
    (λ old. none_above m g apart.free a (subst (Above (IsParent g) a) e old))
    (λ new. old_not_above tag last f g apart (held last last_in) (subst (AtOrAbove (IsParent g) last) e new.1))
    path in
    let from_last : a ≡ m → c ≡ y → IsNearer n y b.stack → AtOrAbove (IsParent g) last c → ⊥ = λ e k far at.
    let on = nearer_on last n y b.stack sound.distinct (last_nearer n last tag b can) far in
    either (λ is. not_twice last b.stack sound.distinct (subst (λ z. IsNearer last z b.stack) (sym (is ∙ k)) on))
    (λ up. never_above f last y b.stack sound.ordered on
    (apart.paths last y (held y (farther_in n y b.stack far)) (subst (Above (IsParent g) last) k up))) at in
    let y_held : Holds y f = held y (farther_in x y b.stack h) in
    either (λ is. to_copy (second.new is))
    (λ off. let k : c ≡ y = second.old off in either
    (λ is. either
    (λ old. not_above_old laws tag y f g sound.forest apart y_held
    (subst (λ z. Above (IsParent g) z y) (first.new is) (subst (Above (IsParent g) a) k old)))
    (λ new. from_last (first.new is) k (subst (λ z. IsNearer z y b.stack) is h) new.1)
    path)
    (λ isnt. either
    (λ old. never_above f x y b.stack sound.ordered h (apart.paths x y y_held
    (subst (λ z. Above (IsParent g) z y) (first.old isnt) (subst (Above (IsParent g) a) k old))))
    (λ new. old_not_above tag x f g apart (held x (nearer_in x y b.stack h))
    (subst (λ z. AtOrAbove (IsParent g) z m) (first.old isnt) new.0))
    path)
    (is_or_isnt x n))
    (is_or_isnt y n)

copy_distinct : (n : ℕ) (b : Building) → Laws → Sound b → (x y a : ℕ) → IsNearer x y b.stack →
    Was n (nodes b.forest) x a → Was n (nodes b.forest) y a → ⊥
copy_distinct n b laws sound x y a h first second =
    let held : (k : ℕ) → IsIn k b.stack → k ≡ nodes b.forest → ⊥ = λ k i e.
    not_itself k (subst (λ z. k < z) (sym e) (laws.element_there k b.forest (sound.elements k i))) in
    let twice : x ≡ y → ⊥ = λ e. not_twice x b.stack sound.distinct (subst (λ z. IsNearer x z b.stack) (sym e) h) in
    either
    (λ is. either (λ also. twice (is ∙ sym also))
    (λ isnt. held y (farther_in x y b.stack h) (sym (second.old isnt) ∙ first.new is)) (is_or_isnt y n))
    (λ off. either (λ also. held x (nearer_in x y b.stack h) (sym (first.old off) ∙ second.new also))
    (λ isnt. twice (sym (first.old off) ∙ second.old isnt)) (is_or_isnt y n))
    (is_or_isnt x n)

pub copied_stays : (n last : ℕ) (tag : Tag) (b : Building) → Laws → Sound b → (k : ℕ) → Holds k b.forest →
    kind_at k (copied n tag last b).forest ≡ kind_at k b.forest
copied_stays n last tag b laws sound k held =
    laws.put_stays (below (nodes b.forest)) last k (detached last (made_for tag b.forest))
    ∙ (copy_apart laws tag last b sound).stays k held

pub copied_sound : (n last : ℕ) (tag : Tag) (b : Building) → Laws → Sound b → CanCopy n last tag b →
    Sound (copied n tag last b)
copied_sound n last tag b laws sound can =
    let f = b.forest in
    let m = nodes f in
    let g = detached last (made_for tag f) in
    let apart = copy_apart laws tag last b sound in
    let may = can_move_to_copy n last tag b laws sound can in
    grown_sound laws tag b (copied n tag last b) sound
    (sound.listed n tag (tag_listed n tag b.formatting can.listed)).kind (record {
      forest = laws.put_keeps (below m) (node last) g apart.forest (apart.within, may);
      stays = λ k held. laws.put_stays (below m) last k g ∙ apart.stays k held;
      kind = laws.put_stays (below m) last m g ∙ apart.kind;
      within = λ k i. let was = in_replaced n m k b.stack i in either (λ is. inr (was.1.1.new is))
          (λ off. inl (subst (λ z. IsIn z b.stack) (sym (was.1.1.old off)) was.1.0)) (is_or_isnt was.0 n);
      distinct = λ k h. let was = nearer_replaced n m k k b.stack h in
          copy_distinct n b laws sound was.0 was.1.0 k was.1.1.0 was.1.1.1.0 was.1.1.1.1;
      ordered = λ x y h. let was = nearer_replaced n m x y b.stack h in
          copy_ordered n last tag b laws sound can was.0 was.1.0 x y was.1.1.0 was.1.1.1.0 was.1.1.1.1;
      listed = λ k held l. either (λ old. inl old)
          (λ new. inr (new.0, same_tag held tag (sym new.1 ∙ can.listed)))
          (listed_handed n m k held b.formatting l);
      few = laws.few_handed n m b.formatting sound.few;
      counted = sound.counted;
    })

-- the forest after the steps of the copy
pub copied_forest : (n last copy : ℕ) (tag : Tag) (b : Building) (g h k : Forest) → copy ≡ nodes b.forest →
    g ≡ made_for tag b.forest → h ≡ detached last g → k ≡ put_node (below copy) last h →
    k ≡ (copied n tag last b).forest
copied_forest n last copy tag b g h k copy_is made_is out_is put_is = cc

-- the copy has the name of the element, and the others keep theirs
pub copied_names : (n last : ℕ) (tag : Tag) (b : Building) → Laws → Sound b → CanCopy n last tag b →
    name_of (nodes b.forest) (copied n tag last b).forest ≡ name_of n (copied n tag last b).forest
copied_names n last tag b laws sound can =
    let m = nodes b.forest in
    let apart = copy_apart laws tag last b sound in
    let is_element = sound.elements n can.is_open in
    ap (λ kind. (element_of kind).name)
    (laws.put_stays (below m) last m (detached last (made_for tag b.forest)) ∙ apart.kind)
    ∙ sym (sound.listed n tag (tag_listed n tag b.formatting can.listed)).name
    ∙ sym (ap (λ kind. (element_of kind).name)
    (copied_stays n last tag b laws sound n (laws.element_there n b.forest is_element)))

pub copied_kept : (n last : ℕ) (tag : Tag) (counts : List ℕ) (b : Building) → Laws → Sound b →
    are_counted counts b.stack (copied n tag last b).forest ≡ are_counted counts b.stack b.forest
copied_kept n last tag counts b laws sound = kept_by laws counts b sound (copied n tag last b).forest
    (λ k is. copied_stays n last tag b laws sound k (laws.element_there k b.forest is))
