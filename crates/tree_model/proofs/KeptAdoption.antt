-- Reconstructing formatting elements and the adoption agency keep a sound tree sound, and its elements.
use Rattle.std.proofs.Common.{◌≡◌, ◌+◌, if◌then◌else◌, [], ◌∷◌, ◌++◌, Bool, List, None, Option, Some, ap, arith, false}
use Rattle.std.proofs.Common.{length, not, refl, subst, suc, sym, true, zero, ℕ}
use Rattle.std.proofs.lemmas.List.{length-append}
use Rattle.std.specs.Bool.{nat_lt}
use Rattle.tree_formatting.specs.Entries.{Entry, formatted, is_listed, last_named, marker, tag_in, up_to_marker}
use Rattle.tree_forest.specs.Changes.{detached, reparented}
use Rattle.tree_forest.specs.Forest.{is_in, nodes}
use Rattle.tree_forest.specs.Places.{below}
use Rattle.html_lexemes.specs.declared.token.Tag.{Tag}
use Rattle.tree_model.specs.Adoption.{Turn, Walk, adopted, adoption, after_turn, again, closed_by_other_end, farther}
use Rattle.tree_model.specs.Adoption.{furthest_block, is_current_unlisted, nearer, other_end, out_of_place, over}
use Rattle.tree_model.specs.Adoption.{placed, popped_with, stepped, taken_over, turn, turn_for, turn_with}
use Rattle.tree_model.specs.Adoption.{turn_with_block, turns, walked}
use Rattle.tree_model.specs.Building.{Building}
use Rattle.tree_model.specs.Formatting.{made_already, made_for, made_from, name_for, reconstructed, to_make, unlisted}
use Rattle.tree_model.specs.Insertions.{place_for}
use Rattle.tree_model.specs.Laws.{Laws}
use Rattle.tree_model.specs.OpenElements.{current_of, up_to}
use Rattle.tree_model.specs.Scopes.{popped}
use Rattle.tree_model.specs.Sound.{Sound}
use Rattle.tree_model.specs.Walks.{IsWalk, begun}
use Rattle.tree_model.specs.Words.{HasGrown, IsKept, Keeps}
use Rattle.tree_model.proofs.AdoptionLemmas.{popped_with_sound, unlisted_sound}
use Rattle.tree_model.proofs.KeptLemmas.{closed_other_kept, inserted_for_grows, kept_if, kept_itself, kept_nodes}
use Rattle.tree_model.proofs.KeptLemmas.{kept_on}
use Rattle.tree_model.proofs.KeptSizes.{element_grows, grown_itself, grown_on, kinds_stay, out_grows, put_grows}
use Rattle.tree_model.proofs.MadeAnewLemmas.{made_and_kept, made_from_end, made_from_first, marker_from, renewed}
use Rattle.tree_model.proofs.MadeAnewLemmas.{renewed_from, renewed_sound}
use Rattle.tree_model.proofs.PlacedLemmas.{placed_sound}
use Rattle.tree_model.proofs.SoundLemmas.{popped_sound}
use Rattle.tree_model.proofs.TakeOverLemmas.{taken_over_sound}
use Rattle.tree_model.proofs.TurnLemmas.{named_listed}
use Rattle.tree_model.proofs.WalkLemmas.{may_place, may_take_over, walk_begins, walk_goes_on}
use Rattle.tree_names.specs.ElementSets.{scope_barriers}

-- the entry after which so many are listed earlier
record IsCutAt (entries : List Entry) (index left : ℕ) : Type 0 where
  later : List Entry
  entry : Entry
  earlier : List Entry
  cut : entries ≡ later ++ entry ∷ earlier
  before_it : length later ≡ left
  after_it : length earlier ≡ index

cut_off : (entries : List Entry) (index left : ℕ) → length entries ≡ index + suc left → IsCutAt entries index left
cut_off [] index left size = absurd (omega (arith, size))
cut_off (e ∷ es) index zero size = record {
  later = [];
  entry = e;
  earlier = es;
  cut = refl;
  before_it = refl;
  after_it = omega (arith, size);
}
cut_off (e ∷ es) index (suc left) size =
    let rest = cut_off es index left (omega (arith, size)) in
    record {
      later = e ∷ rest.later;
      entry = rest.entry;
      earlier = rest.earlier;
      cut = ap (λ (v : List Entry). e ∷ v) rest.cut;
      before_it = ap suc rest.before_it;
      after_it = rest.after_it;
    }

module _ (laws : Laws) where
  -- so many entries are left to be made anew, of which the earliest is this one
  made_by : (left index : ℕ) (b : Building) (later earlier : List Entry) (e : Entry) → Sound b →
      b.formatting ≡ later ++ e ∷ earlier → length later ≡ left → length earlier ≡ index →
      ((c : Building) → Sound c → length c.formatting ≡ index + 1 + left → IsKept c (made_from (index + 1) c)) →
      IsKept b (made_from index b)
  made_by left index b later earlier marker sound cut before_it after_it more =
      let size : length b.formatting ≡ index + 1 + left
      = omega (arith, ap length cut, length-append later (marker ∷ earlier), before_it, after_it) in
      subst (IsKept b) (marker_from later earlier index b cut after_it) (more b sound size)
  made_by left index b later earlier (formatted n tag) sound cut before_it after_it more =
      let c : Building = renewed later tag earlier b in
      let step : IsKept b c = record {
        sound = renewed_sound laws later earlier n tag b cut sound;
        grown = inserted_for_grows laws tag b;
      } in
      let size : length c.formatting ≡ index + 1 + left
      = omega (arith, length-append later (formatted (nodes b.forest) tag ∷ earlier), before_it, after_it) in
      subst (IsKept b) (renewed_from later earlier n tag index b cut after_it)
      (kept_on b c (made_from (index + 1) c) step (more c step.sound size))

  made_kept : (left index : ℕ) (b : Building) → Sound b → length b.formatting ≡ index + left →
      IsKept b (made_from index b)
  made_kept zero index b sound size = subst (IsKept b) (sym (made_from_end b index (omega (arith, size))))
      (kept_itself b sound)
  made_kept (suc left) index b sound size =
      let at = cut_off b.formatting index left size in
      made_by left index b at.later at.earlier at.entry sound at.cut at.before_it at.after_it
      (made_kept left (index + 1))

  pub reconstructed_kept : Keeps reconstructed
  reconstructed_kept b sound =
      let new = to_make b.stack b.formatting in
      let old = made_already b.stack b.formatting in
      let size : length b.formatting ≡ length old + length new
      = omega (arith, ap length (made_and_kept b.stack b.formatting), length-append new old) in
      subst (IsKept b) (made_from_first b (length old) refl) (made_kept (length new) (length old) b sound size)

-- the walk of the adoption agency
module _ (laws : Laws) (n block : ℕ) (tag : Tag) (lows : List ℕ) where
  step_grown : (t : Option Tag) (is_late : Bool) (m : ℕ) (w : Walk) →
      HasGrown w.tree.forest (stepped t is_late block m w).tree.forest
  step_grown None is_late m w = grown_itself w.tree.forest
  step_grown (Some held) true m w = grown_itself w.tree.forest
  step_grown (Some held) false m w =
      let f = w.tree.forest in
      let made_one = made_for held f in
      put_grows laws (below (nodes f)) w.last f (detached w.last made_one)
      (grown_on f made_one (detached w.last made_one) (element_grows laws (name_for held) held.attrs _ _ f)
      (out_grows laws w.last made_one))

  record IsWalkedOn (first last : Walk) : Type 0 where
    walk : IsWalk n block tag [] lows last
    grown : HasGrown first.tree.forest last.tree.forest

  walked_on : (left : List ℕ) (count : ℕ) (w : Walk) → IsWalk n block tag left lows w →
      IsWalkedOn w (walked block count left w)
  walked_on [] count w walk = record { walk = walk; grown = grown_itself w.tree.forest }
  walked_on (m ∷ left) count w walk =
      let t = tag_in m w.tree.formatting in
      let is_late = nat_lt 2 count in
      let next = stepped t is_late block m w in
      let rest = walked_on left (suc count) next (walk_goes_on n block m tag left lows w laws walk is_late) in
      record {
        walk = rest.walk;
        grown = grown_on w.tree.forest next.tree.forest (walked block (suc count) left next).tree.forest
            (step_grown t is_late m w) rest.grown;
      }

-- the parts of a turn
module _ (laws : Laws) where
  placed_grown : (last ancestor : ℕ) (b : Building) → HasGrown b.forest (placed last ancestor b).forest
  placed_grown last ancestor b =
      let f = b.forest in
      put_grows laws (place_for ancestor (out_of_place last b)) last f (detached last f)
      (out_grows laws last f)

  taken_over_grown : (bookmark : Option ℕ) (n block : ℕ) (tag : Tag) (b : Building) →
      HasGrown b.forest (taken_over bookmark n block tag b).forest
  taken_over_grown bookmark n block tag b =
      let f = b.forest in
      let made_one = made_for tag f in
      let given = reparented block (nodes f) made_one in
      put_grows laws (below block) (nodes f) f given
      (grown_on f made_one given (element_grows laws (name_for tag) tag.attrs _ _ f)
      (kinds_stay made_one given (laws.given_size block (nodes f) made_one)
      (λ m. laws.given_stay block (nodes f) m made_one)))

  adopted_kept : (n block : ℕ) (tag : Tag) (b : Building) → Sound b → is_in n b.stack ≡ true →
      is_in n (up_to scope_barriers b.forest b.stack) ≡ true → furthest_block n b ≡ Some block →
      tag_in n b.formatting ≡ Some tag → is_listed n (up_to_marker b.formatting) ≡ true →
      IsKept b (adopted n block tag b)
  adopted_kept n block tag b sound there scope found tagged listed =
      let lows = farther n b.stack in
      let left = farther block (nearer n b.stack) in
      let on = walked_on laws n block tag lows left 0 (begun block b)
      (walk_begins n block tag b sound there scope found tagged listed) in
      let w : Walk = walked block 0 left (begun block b) in
      let c : Building = placed w.last (current_of lows) w.tree in
      let put : Sound c = placed_sound w.last (on.walk.uppers ++ n ∷ []) lows w.tree laws on.walk.sound
      (may_place n block tag lows w on.walk) in
      record {
        sound = taken_over_sound n block tag c laws put (may_take_over n block tag lows w on.walk c.forest) w.bookmark;
        grown = grown_on b.forest w.tree.forest (adopted n block tag b).forest on.grown
            (grown_on w.tree.forest c.forest (adopted n block tag b).forest
            (placed_grown w.last (current_of lows) w.tree) (taken_over_grown w.bookmark n block tag c));
      }

-- what a turn leaves
abbrev left_by : Turn → Building
left_by (over b) = b
left_by (again b) = b
left_by (other_end b) = b

module _ (laws : Laws) where
  unlisted_kept : (n : ℕ) → Keeps (unlisted n)
  unlisted_kept n b sound = kept_nodes b (unlisted n b) refl (unlisted_sound n b laws sound)

  block_kept : (block : Option ℕ) (n : ℕ) (tag : Tag) (b : Building) → Sound b → is_in n b.stack ≡ true →
      is_in n (up_to scope_barriers b.forest b.stack) ≡ true → furthest_block n b ≡ block →
      tag_in n b.formatting ≡ Some tag → is_listed n (up_to_marker b.formatting) ≡ true →
      IsKept b (left_by (turn_with_block block n tag b))
  block_kept None n tag b sound there scope found tagged listed =
      let first = kept_nodes b (popped_with n b) refl (popped_with_sound n b sound) in
      kept_on b (popped_with n b) (unlisted n (popped_with n b)) first
      (unlisted_kept n (popped_with n b) first.sound)
  block_kept (Some block) n tag b sound there scope found tagged listed =
      adopted_kept laws n block tag b sound there scope found tagged listed

  scope_kept : (scope : Bool) (n : ℕ) (tag : Tag) (b : Building) → Sound b → is_in n b.stack ≡ true →
      is_in n (up_to scope_barriers b.forest b.stack) ≡ scope → tag_in n b.formatting ≡ Some tag →
      is_listed n (up_to_marker b.formatting) ≡ true →
      IsKept b (left_by (if not scope then over b else turn_with_block (furthest_block n b) n tag b))
  scope_kept false n tag b sound there e tagged listed = kept_itself b sound
  scope_kept true n tag b sound there e tagged listed =
      block_kept (furthest_block n b) n tag b sound there e refl tagged listed

  open_kept : (is_there : Bool) (n : ℕ) (tag : Tag) (b : Building) → Sound b → is_in n b.stack ≡ is_there →
      tag_in n b.formatting ≡ Some tag → is_listed n (up_to_marker b.formatting) ≡ true →
      IsKept b (left_by (if not is_there then over (unlisted n b)
      else if not (is_in n (up_to scope_barriers b.forest b.stack)) then over b
      else turn_with_block (furthest_block n b) n tag b))
  open_kept false n tag b sound e tagged listed = unlisted_kept n b sound
  open_kept true n tag b sound e tagged listed =
      scope_kept (is_in n (up_to scope_barriers b.forest b.stack)) n tag b sound e refl tagged listed

  with_kept : (tag : Option Tag) (n : ℕ) (b : Building) → Sound b → tag_in n b.formatting ≡ tag →
      is_listed n (up_to_marker b.formatting) ≡ true → IsKept b (left_by (turn_with tag n b))
  with_kept None n b sound tagged listed = kept_itself b sound
  with_kept (Some tag) n b sound tagged listed = open_kept (is_in n b.stack) n tag b sound refl tagged listed

  for_kept : (found : Option ℕ) (name : List ℕ) (b : Building) → Sound b → last_named name b.formatting ≡ found →
      IsKept b (left_by (turn_for found b))
  for_kept None name b sound e = kept_itself b sound
  for_kept (Some n) name b sound e =
      with_kept (tag_in n b.formatting) n b sound refl (named_listed name n b.formatting e)

  turn_kept : (name : List ℕ) (b : Building) → Sound b → IsKept b (left_by (turn name b))
  turn_kept name b sound = for_kept (last_named name b.formatting) name b sound refl

  after_kept : (t : Turn) (name : List ℕ) (further : Building → Building) (b : Building) → Keeps further →
      IsKept b (left_by t) → IsKept b (after_turn t name further b)
  after_kept (over c) name further b keeps kept = kept
  after_kept (again c) name further b keeps kept = kept_on b c (further c) kept (keeps c kept.sound)
  after_kept (other_end c) name further b keeps kept =
      kept_on b c (closed_by_other_end name c) kept (closed_other_kept name c kept.sound)

  turns_kept : (count : ℕ) (name : List ℕ) → Keeps (turns count name)
  turns_kept zero name b sound = kept_itself b sound
  turns_kept (suc count) name b sound =
      after_kept (turn name b) name (turns count name) b (turns_kept count name) (turn_kept name b sound)

  pub adoption_kept : (name : List ℕ) → Keeps (adoption name)
  adoption_kept name b sound = kept_if (is_current_unlisted name b) b (popped b) (turns 8 name b)
      (kept_nodes b (popped b) refl (popped_sound b sound)) (turns_kept 8 name b sound)
