-- The last node goes to the place for inserting into the common ancestor.
use Rattle.std.proofs.Common.{◌≡◌, ◌<◌, ◌||◌, ◌∙◌, [], ◌∷◌, IfSome, List, None, Option, Some, ap, codes, option_map}
use Rattle.std.proofs.Common.{refl, subst, sym, ℕ}
use Rattle.tree_forest.specs.Changes.{detached}
use Rattle.tree_forest.specs.Conditions.{CanMove, CanPut, IsPlace, is_from}
use Rattle.tree_forest.specs.Forest.{Holds, IsElementKind, element_of}
use Rattle.tree_forest.specs.Sinks.{SinkView}
use Rattle.tree_forest.specs.Orders.{Above, AtOrAbove, IsIn, IsParent}
use Rattle.tree_forest.specs.Places.{Place, node, put_node}
use Rattle.tree_names.specs.Sets.{is_html}
use Rattle.tree_model.specs.Adoption.{ancestor_of, out_of_place, placed}
use Rattle.tree_model.specs.Building.{Building, Parts, seen}
use Rattle.tree_model.specs.CanAdopt.{CanPlace, IsAncestor}
use Rattle.tree_model.specs.Insertions.{place_for}
use Rattle.tree_model.specs.Laws.{Laws}
use Rattle.tree_model.specs.OpenElements.{current_of, first_of}
use Rattle.tree_model.specs.Sound.{Sound}
use Rattle.tree_model.proofs.CountsKept.{kept_by, out_kept}
use Rattle.tree_model.proofs.SeenLemmas.{seen_changed}
use Rattle.tree_model.proofs.FosterLemmas.{IsOver, at_from, from_place}
use Rattle.tree_model.proofs.GrownLemmas.{moved_sound, no_document}
use Rattle.tree_model.proofs.NearerLemmas.{IsNearer, compared, in_after, in_front_part, nearer_across, nearer_in}
use Rattle.tree_model.proofs.NearerLemmas.{nearer_on, never_above, not_twice}
use Rattle.tree_model.proofs.PlaceLemmas.{current_there, first_in, place_for_there}
use Rattle.tree_model.proofs.SoundLemmas.{either}

-- a node is taken out
pub out_of_place_sound : (n : ℕ) (b : Building) → Laws → Sound b → Sound (out_of_place n b)
out_of_place_sound n b laws sound =
    moved_sound b (detached n b.forest) sound (laws.out_keeps n b.forest sound.forest)
    (λ k. laws.out_stays n k b.forest)
    (λ x y h up. never_above b.forest x y b.stack sound.ordered h (laws.above_out n x y b.forest up))

module _ (last : ℕ) (uppers lows : List ℕ) (b : Building) (laws : Laws) (sound : Sound b)
    (can : CanPlace last uppers lows b) where
  held_out : (k : ℕ) → IsIn k b.stack → Holds k (detached last b.forest)
  held_out k i = subst (λ size. k < size) (sym (laws.out_size last b.forest))
      (laws.element_there k b.forest (sound.elements k i))

  last_open : IsIn last b.stack
  last_open = subst (IsIn last) (sym can.whole) (in_front_part last uppers lows can.below_it)

  low_open : (q : ℕ) → IsIn q lows → IsIn q b.stack
  low_open q i = subst (IsIn q) (sym can.whole) (in_after q uppers lows i)

  pub is_place : IsPlace (place_for (current_of lows) (out_of_place last b)) (detached last b.forest)
  is_place =
      let out = out_of_place_sound last b laws sound in
      place_for_there laws (current_of lows) (out_of_place last b) out
      (current_there (detached last b.forest) lows out.forest (λ q i. held_out q (low_open q i)))

  -- an open element that is at or above the place is farther than the last node
  farther_by : (a : ℕ) → IsIn a b.stack → IsOver a (detached last b.forest) lows → IsNearer last a b.stack
  farther_by a i over =
      let q : ℕ = over.under in
      let far : IsNearer last q b.stack = subst (IsNearer last q) (sym can.whole)
      (nearer_across last q uppers lows can.below_it over.one) in
      either (λ e. subst (λ x. IsNearer last x b.stack) (sym e) far)
      (either
      (λ near. absurd (either (λ e. not_twice q b.stack sound.distinct (subst (λ x. IsNearer x q b.stack) e near))
      (λ up. never_above b.forest a q b.stack sound.ordered near (laws.above_out last a q b.forest up))
      over.over))
      (λ on. nearer_on last q a b.stack sound.distinct far on))
      (compared a q b.stack i (low_open q over.one))

  farther_than_last : (a : ℕ) → IsIn a b.stack →
      AtOrAbove (IsParent (detached last b.forest)) a (is_from (place_for (current_of lows) (out_of_place last b))) →
      IsNearer last a b.stack
  farther_than_last a i at = farther_by a i (from_place a uppers lows (out_of_place last b)
      (laws.out_keeps last b.forest sound.forest)
      (subst IsElementKind (sym (laws.out_stays last a b.forest)) (sound.elements a i)) can.whole
      (λ n j. ap (λ kind. is_html (codes "template") (element_of kind).name
      || is_html (codes "table") (element_of kind).name) (laws.out_stays last n b.forest) ∙ can.plain n j) at)

  pub can_move_to_place : CanMove (place_for (current_of lows) (out_of_place last b)) last (detached last b.forest)
  can_move_to_place =
      let is_element = sound.elements last last_open in
      record {
        within = held_out last last_open;
        free = laws.out_free last b.forest sound.forest (no_document _ _ refl is_element);
        no_document = no_document _ _ (laws.out_stays last last b.forest) is_element;
        apart = λ at. not_twice last b.stack sound.distinct (farther_than_last last last_open at);
      }

  placed_ordered : (x y : ℕ) → IsNearer x y b.stack → ¬ (Above (IsParent (placed last (current_of lows) b).forest) x y)
  placed_ordered x y h up =
      let place = place_for (current_of lows) (out_of_place last b) in
      let g = detached last b.forest in
      either
      (λ old. never_above b.forest x y b.stack sound.ordered h (laws.above_out last x y b.forest old))
      (λ new.
      let far : IsNearer last y b.stack = nearer_on last x y b.stack sound.distinct
      (farther_than_last x (nearer_in x y b.stack h) (at_from place x g new.0)) h in
      either (λ e. not_twice y b.stack sound.distinct (subst (λ z. IsNearer z y b.stack) e far))
      (λ on. never_above b.forest last y b.stack sound.ordered far (laws.above_out last last y b.forest on)) new.1)
      (laws.above_put place last x y g (laws.out_keeps last b.forest sound.forest) (is_place, can_move_to_place) up)

  pub placed_sound : Sound (placed last (current_of lows) b)
  placed_sound =
      let place = place_for (current_of lows) (out_of_place last b) in
      let g = detached last b.forest in
      moved_sound b (placed last (current_of lows) b).forest sound
      (laws.put_keeps place (node last) g (laws.out_keeps last b.forest sound.forest) (is_place, can_move_to_place))
      (λ k. laws.put_stays place last k g ∙ laws.out_stays last k b.forest)
      placed_ordered

-- the same by the common ancestor
ancestor_is : (lows : List ℕ) (ancestor : Option ℕ) → first_of lows ≡ ancestor → current_of lows ≡ ancestor_of ancestor
ancestor_is [] ancestor e = ap ancestor_of e
ancestor_is (n ∷ lows) ancestor e = ap ancestor_of e

pub ancestor_open : {H : Type 0} (number : H → ℕ) (ancestor : Option H) (last : ℕ) (b : Building) →
    IsAncestor last (option_map number ancestor) b → IfSome ancestor (λ element. IsIn (number element) b.stack)
ancestor_open number None last b is = tt
ancestor_open number (Some element) last b is =
    subst (IsIn (number element)) (sym is.can.whole)
    (in_after (number element) is.uppers is.lows (first_in (number element) is.lows is.first))

pub ancestor_sound : (last : ℕ) (ancestor : Option ℕ) (b : Building) → Laws → Sound b → IsAncestor last ancestor b →
    Sound (placed last (ancestor_of ancestor) b)
ancestor_sound last ancestor b laws sound is =
    subst (λ n. Sound (placed last n b)) (ancestor_is is.lows ancestor is.first)
    (placed_sound last is.uppers is.lows b laws sound is.can)

-- what is seen once the last node is taken out, and where it may then be put
pub seen_out : {H S : Type 0} (view : SinkView S H) (p : Parts H) (s t : S)
    (last : ℕ) → Laws → Sound (seen view p s) → view.forest t ≡ detached last (view.forest s) →
    view.quirks t ≡ view.quirks s → seen view p t ≡ out_of_place last (seen view p s)
seen_out view p s t last laws sound forest_is quirks_is =
    seen_changed view p p s t (detached last (view.forest s)) refl forest_is quirks_is
    (out_kept laws p.counts (seen view p s) sound last)

pub can_put_last : (last : ℕ) (ancestor : Option ℕ) (b out : Building) (place : Place) → Laws → Sound b →
    IsAncestor last ancestor b → out ≡ out_of_place last b → place ≡ place_for (ancestor_of ancestor) out →
    CanPut place (node last) out.forest
can_put_last last ancestor b out place laws sound is out_is place_is =
    let same = place_is ∙ ap (place_for (ancestor_of ancestor)) out_is
    ∙ ap (λ n. place_for n (out_of_place last b)) (sym (ancestor_is is.lows ancestor is.first)) in
    subst (λ (x : Building). CanPut place (node last) x.forest) (sym out_is)
    (subst (λ x. CanPut x (node last) (detached last b.forest)) (sym same) (
      is_place last is.uppers is.lows b laws sound is.can,
      can_move_to_place last is.uppers is.lows b laws sound is.can,
    ))

-- and what is seen once it is put
put_is : (last ancestor : ℕ) (b out : Building) (place : Place) → out ≡ out_of_place last b →
    place ≡ place_for ancestor out →
    (let x : Building = record out { forest = put_node place last out.forest } in x) ≡ placed last ancestor b
put_is last ancestor b out place out_is place_is =
    ap (λ p. let x : Building = record out { forest = put_node p last out.forest } in x) place_is
    ∙ ap (λ (y : Building). let x : Building =
    record y { forest = put_node (place_for ancestor y) last y.forest } in x) out_is

pub seen_placed : {H S : Type 0} (view : SinkView S H) (p q : Parts H)
    (s t : S) (last ancestor : ℕ) (b : Building) (place : Place) → Laws → Sound (seen view p s) →
    seen view p s ≡ out_of_place last b →
    place ≡ place_for ancestor (seen view p s) → q ≡ p →
    view.forest t ≡ put_node place last (view.forest s) → view.quirks t ≡ view.quirks s →
    seen view q t ≡ placed last ancestor b
seen_placed view p q s t last ancestor b place laws sound out_is place_is held_is forest_is quirks_is =
    let out = seen view p s in
    let changed : seen view q t ≡ record out { forest = put_node place last (view.forest s) } =
    seen_changed view p q s t (put_node place last (view.forest s)) held_is forest_is quirks_is
    (kept_by laws p.counts out sound (put_node place last (view.forest s))
    (λ n is. laws.put_stays place last n (view.forest s))) in
    changed ∙ put_is last ancestor b out place out_is place_is
