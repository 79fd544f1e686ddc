-- A copy of the formatting element takes the children of the furthest block, and becomes its child.
use Rattle.std.proofs.Common.{◌≡◌, ℕ, ◌<◌, true, ◌⊎◌, inl, inr, sym, ap, ap₂, subst, ◌∙◌, List, Option, None, Some}
use Rattle.std.proofs.lemmas.Bool.{cond_both}
use Rattle.tree_formatting.specs.Alike.{AreFew}
use Rattle.tree_formatting.specs.Entries.{Entry, handed_over, is_listed, moved_after, tag_in, up_to_marker}
use Rattle.tree_formatting.specs.Entries.{without_entry}
use Rattle.tree_forest.specs.Changes.{left_out, reparented}
use Rattle.tree_forest.specs.Conditions.{CanMove, CanPut, CanReparent}
use Rattle.tree_forest.specs.Forest.{Forest, Holds, IsElement, IsElementKind, kind_at, nodes}
use Rattle.tree_forest.specs.Orders.{Above, AtOrAbove, IsForest, IsIn, IsParent, child}
use Rattle.tree_forest.specs.Places.{below, node, put_node}
use Rattle.tree_forest.proofs.Relations.{above_on}
use Rattle.html_lexemes.specs.declared.token.Tag.{Tag}
use Rattle.tree_model.specs.Adoption.{taken_over, with_entry_at}
use Rattle.tree_model.specs.Building.{Building, are_counted}
use Rattle.tree_model.specs.CanAdopt.{CanTakeOver}
use Rattle.tree_model.specs.Formatting.{made_for}
use Rattle.tree_model.specs.Laws.{Laws}
use Rattle.tree_model.specs.Sound.{IsListed, Sound}
use Rattle.tree_model.proofs.CopyLemmas.{same_tag}
use Rattle.tree_model.proofs.CountsKept.{kept_by}
use Rattle.tree_model.proofs.GrownLemmas.{IsApart, grown_sound, made_apart, no_document, none_above, not_above_old}
use Rattle.tree_model.proofs.GrownLemmas.{old_held, old_not_above}
use Rattle.tree_model.proofs.InsertedLemmas.{not_itself}
use Rattle.tree_model.proofs.ListedAfter.{listed_handed, listed_moved, tag_listed}
use Rattle.tree_model.proofs.NearerLemmas.{IsLeft, IsNearer, NearerPut, farther_in, in_put_before, left_out_left}
use Rattle.tree_model.proofs.NearerLemmas.{nearer_in, nearer_put, never_above, not_twice}
use Rattle.tree_model.proofs.SoundLemmas.{either}

-- A path in the forest in which the children were given away, to an old node: from an old node it is an old path, and
-- from the copy the block is above its end. Nothing is above the copy, nor it above the block.
module _ (laws : Laws) (tag : Tag) (block : ℕ) (f : Forest) (forest : IsForest f) (held : Holds block f) where
  made : IsApart tag f (made_for tag f)
  made = made_apart laws tag f forest

  pub can_give : CanReparent block (nodes f) (made_for tag f)
  can_give = record {
    given = old_held tag block f (made_for tag f) made held;
    holds = made.within;
    apart = old_not_above tag block f (made_for tag f) made held;
  }

  given_path : (a b : ℕ) → Above (IsParent (reparented block (nodes f) (made_for tag f))) a b →
      Above (IsParent (made_for tag f)) a b ⊎ (AtOrAbove (IsParent (made_for tag f)) a (nodes f)
      × Above (IsParent (made_for tag f)) block b)
  given_path a b up = laws.above_given block (nodes f) a b (made_for tag f) made.forest can_give up

  pub given_old : (a b : ℕ) → Holds a f → Holds b f →
      Above (IsParent (reparented block (nodes f) (made_for tag f))) a b → Above (IsParent f) a b
  given_old a b h k up = either (made.paths a b k)
      (λ new. absurd (old_not_above tag a f (made_for tag f) made h new.0)) (given_path a b up)

  pub given_new : (b : ℕ) → Holds b f → Above (IsParent (reparented block (nodes f) (made_for tag f))) (nodes f) b →
      Above (IsParent f) block b
  given_new b k up = either (λ old. absurd (not_above_old laws tag b f (made_for tag f) forest made k old))
      (λ new. made.paths block b k new.1) (given_path (nodes f) b up)

  pub given_none : (a : ℕ) → ¬ (Above (IsParent (reparented block (nodes f) (made_for tag f))) a (nodes f))
  given_none a up = either (none_above (nodes f) (made_for tag f) made.free a)
      (λ new. none_above (nodes f) (made_for tag f) made.free block new.1) (given_path a (nodes f) up)

  pub given_forest : IsForest (reparented block (nodes f) (made_for tag f))
  given_forest = laws.given_keep block (nodes f) (made_for tag f) made.forest can_give

  pub given_held : (k : ℕ) → Holds k (made_for tag f) → Holds k (reparented block (nodes f) (made_for tag f))
  given_held k h = subst (λ size. k < size) (sym (laws.given_size block (nodes f) (made_for tag f))) h

  pub can_take : CanMove (below block) (nodes f) (reparented block (nodes f) (made_for tag f))
  can_take = record {
    within = given_held (nodes f) made.within;
    free = λ p e. given_none p (child p (nodes f) e);
    no_document = no_document _ _ (laws.given_stay block (nodes f) (nodes f) (made_for tag f) ∙ made.kind) tt;
    apart = either (λ e. not_itself block (subst (λ n. block < n) e held))
        (λ up. forest.acyclic block (given_new block held up));
  }

  block_there : Holds block (reparented block (nodes f) (made_for tag f))
  block_there = given_held block (old_held tag block f (made_for tag f) made held)

  -- the forest when the copy has become a child of the block
  abbrev pub taken : Forest
  taken = put_node (below block) (nodes f) (reparented block (nodes f) (made_for tag f))

  taken_path : (a b : ℕ) → Above (IsParent taken) a b →
      Above (IsParent (reparented block (nodes f) (made_for tag f))) a b
      ⊎ (AtOrAbove (IsParent (reparented block (nodes f) (made_for tag f))) a block
      × AtOrAbove (IsParent (reparented block (nodes f) (made_for tag f))) (nodes f) b)
  taken_path a b up = laws.above_put (below block) (nodes f) a b (reparented block (nodes f) (made_for tag f))
      given_forest (block_there, can_take) up

  -- between old nodes are old paths; what the copy is above, the block was above, and what is above it, is the block or
  -- was above it
  pub taken_old : (a b : ℕ) → Holds a f → Holds b f → Above (IsParent taken) a b → Above (IsParent f) a b
  taken_old a b h k up = either (given_old a b h k)
      (λ new.
      let on : Above (IsParent f) block b = either (λ e. absurd (not_itself b (subst (λ n. b < n) e k)))
      (given_new b k) new.1 in
      either (λ e. subst (λ x. Above (IsParent f) x b) (sym e) on)
      (λ first. above_on (IsParent f) a block b (given_old a block h held first) on) new.0)
      (taken_path a b up)

  pub taken_new : (b : ℕ) → Holds b f → Above (IsParent taken) (nodes f) b → Above (IsParent f) block b
  taken_new b k up = either (given_new b k) (λ new. absurd (can_take.apart new.0)) (taken_path (nodes f) b up)

  pub taken_to : (a : ℕ) → Holds a f → Above (IsParent taken) a (nodes f) → AtOrAbove (IsParent f) a block
  taken_to a h up = either (λ old. absurd (given_none a old))
      (λ new. either (λ e. inl e) (λ first. inr (given_old a block h held first)) new.0)
      (taken_path a (nodes f) up)

  pub taken_forest : IsForest taken
  taken_forest = laws.put_keeps (below block) (node (nodes f)) (reparented block (nodes f) (made_for tag f))
      given_forest (block_there, can_take)

  pub taken_stays : (k : ℕ) → kind_at k taken ≡ kind_at k (made_for tag f)
  taken_stays k = laws.put_stays (below block) (nodes f) k (reparented block (nodes f) (made_for tag f))
      ∙ laws.given_stay block (nodes f) k (made_for tag f)

-- the copy is listed with the tag
handed_tag : (n m k : ℕ) (tag held : Tag) (es : List Entry) → tag_in n es ≡ Some tag →
    IsListed k held (handed_over n m es) → IsListed k held es ⊎ ((k ≡ m) × (held ≡ tag))
handed_tag n m k tag held es e l = either (λ old. inl old) (λ new. inr (new.0, same_tag held tag (sym new.1 ∙ e)))
    (listed_handed n m k held es l)

entry_listed : (bookmark : Option ℕ) (n m k : ℕ) (tag held : Tag) (b : Building) → tag_in n b.formatting ≡ Some tag →
    IsListed k held (with_entry_at bookmark n m b).formatting →
    IsListed k held b.formatting ⊎ ((k ≡ m) × (held ≡ tag))
entry_listed None n m k tag held b e l = handed_tag n m k tag held b.formatting e l
entry_listed (Some after) n m k tag held b e l =
    cond_both (is_listed after (up_to_marker (without_entry n b.formatting)))
    (moved_after n m after b.formatting) (handed_over n m b.formatting)
    (λ es. IsListed k held es → IsListed k held b.formatting ⊎ ((k ≡ m) × (held ≡ tag)))
    (λ _. listed_moved n m after k held tag b.formatting e)
    (λ _. handed_tag n m k tag held b.formatting e) l

entry_few : (laws : Laws) (bookmark : Option ℕ) (n m : ℕ) (b : Building) → AreFew b.formatting →
    is_listed n (up_to_marker b.formatting) ≡ true → AreFew (with_entry_at bookmark n m b).formatting
entry_few laws None n m b few listed = laws.few_handed n m b.formatting few
entry_few laws (Some after) n m b few listed =
    cond_both (is_listed after (up_to_marker (without_entry n b.formatting)))
    (moved_after n m after b.formatting) (handed_over n m b.formatting) AreFew
    (λ there. laws.few_moved n m after b.formatting few listed there)
    (λ _. laws.few_handed n m b.formatting few)

module _ (n block : ℕ) (tag : Tag) (b : Building) (laws : Laws) (sound : Sound b)
    (can : CanTakeOver n block tag b) where
  open_held : (k : ℕ) → IsIn k b.stack → Holds k b.forest
  open_held k i = laws.element_there k b.forest (sound.elements k i)

  block_held : Holds block b.forest
  block_held = open_held block can.is_open

  pub can_reparent : CanReparent block (nodes b.forest) (made_for tag b.forest)
  can_reparent = can_give laws tag block b.forest sound.forest block_held

  pub can_take_over : CanMove (below block) (nodes b.forest) (reparented block (nodes b.forest) (made_for tag b.forest))
  can_take_over = can_take laws tag block b.forest sound.forest block_held

  open_old : (k : ℕ) → IsIn k b.stack → ¬ (k ≡ nodes b.forest)
  open_old k i e = not_itself k (subst (λ x. k < x) (sym e) (open_held k i))

  left : IsLeft (left_out n b.stack) b.stack
  left = left_out_left n b.stack

  over_ordered : (x y : ℕ) → NearerPut block (nodes b.forest) x y (left_out n b.stack) →
      ¬ (Above (IsParent (taken laws tag block b.forest sound.forest block_held)) x y)
  over_ordered x y (inl h) up =
      let near = left.nearer x y h in
      never_above b.forest x y b.stack sound.ordered near
      (taken_old laws tag block b.forest sound.forest block_held x y (open_held x (nearer_in x y b.stack near))
      (open_held y (farther_in x y b.stack near)) up)
  over_ordered x y (inr (inl (e, inl k))) up = sound.forest.acyclic block
      (taken_new laws tag block b.forest sound.forest block_held block block_held
      (subst (λ z. Above (IsParent (taken laws tag block b.forest sound.forest block_held)) z block) e
      (subst (Above (IsParent (taken laws tag block b.forest sound.forest block_held)) x) k up)))
  over_ordered x y (inr (inl (e, inr h))) up =
      let near = left.nearer block y h in
      never_above b.forest block y b.stack sound.ordered near
      (taken_new laws tag block b.forest sound.forest block_held y (open_held y (farther_in block y b.stack near))
      (subst (λ z. Above (IsParent (taken laws tag block b.forest sound.forest block_held)) z y) e up))
  over_ordered x y (inr (inr (e, h))) up =
      let near = left.nearer x block h in
      either (λ same. not_twice block b.stack sound.distinct (subst (λ z. IsNearer z block b.stack) same near))
      (never_above b.forest x block b.stack sound.ordered near)
      (taken_to laws tag block b.forest sound.forest block_held x (open_held x (nearer_in x block b.stack near))
      (subst (Above (IsParent (taken laws tag block b.forest sound.forest block_held)) x) e up))

  over_distinct : (k : ℕ) → ¬ (NearerPut block (nodes b.forest) k k (left_out n b.stack))
  over_distinct k (inl h) = not_twice k b.stack sound.distinct (left.nearer k k h)
  over_distinct k (inr (inl (e, inl same))) = open_old block can.is_open (sym same ∙ e)
  over_distinct k (inr (inl (e, inr h))) = open_old k (left.within k (farther_in block k (left_out n b.stack) h)) e
  over_distinct k (inr (inr (e, h))) = open_old k (left.within k (nearer_in k block (left_out n b.stack) h)) e

  -- what is open stays what it is, and the copy is an element
  abbrev pub over_forest : Forest
  over_forest = put_node (below block) (nodes b.forest) (reparented block (nodes b.forest) (made_for tag b.forest))

  over_kind : (k : ℕ) → Holds k b.forest →
      kind_at k (taken laws tag block b.forest sound.forest block_held) ≡ kind_at k b.forest
  over_kind k held = taken_stays laws tag block b.forest sound.forest block_held k
      ∙ (made_apart laws tag b.forest sound.forest).stays k held

  pub over_elements : (over : Forest) → over ≡ over_forest → (k : ℕ) →
      IsIn k b.stack → IsElement k over
  over_elements over is k i = subst (IsElement k) (sym is)
      (subst IsElementKind (sym (over_kind k (open_held k i))) (sound.elements k i))

  pub over_new : (over : Forest) → over ≡ over_forest → (copy : ℕ) →
      copy ≡ nodes b.forest → IsElement copy over
  over_new over is copy copy_is = subst (λ k. IsElement k over) (sym copy_is) (subst (IsElement (nodes b.forest)) (sym
      is)
      (subst IsElementKind (sym (taken_stays laws tag block b.forest sound.forest block_held (nodes b.forest)
      ∙ (made_apart laws tag b.forest sound.forest).kind)) tt))

  pub over_kept : (over : Forest) → over ≡ over_forest → (counts : List ℕ) →
      are_counted counts b.stack over ≡ are_counted counts b.stack b.forest
  over_kept over is counts = ap (are_counted counts b.stack) is
      ∙ kept_by laws counts b sound (taken laws tag block b.forest sound.forest block_held)
      (λ k e. over_kind k (laws.element_there k b.forest e))

  pub taken_over_sound : (bookmark : Option ℕ) → Sound (taken_over bookmark n block tag b)
  taken_over_sound bookmark =
      let m = nodes b.forest in
      let made = made_apart laws tag b.forest sound.forest in
      let stays = taken_stays laws tag block b.forest sound.forest block_held in
      grown_sound laws tag b (taken_over bookmark n block tag b) sound
      (sound.listed n tag (tag_listed n tag b.formatting can.tagged)).kind (record {
        forest = taken_forest laws tag block b.forest sound.forest block_held;
        stays = λ k held. stays k ∙ made.stays k held;
        kind = stays m ∙ made.kind;
        within = λ k i. either (λ old. inl (left.within k old)) (λ new. inr new.0)
            (in_put_before k block m (left_out n b.stack) i);
        distinct = λ k h. over_distinct k (nearer_put block m k k (left_out n b.stack) h);
        ordered = λ x y h. over_ordered x y (nearer_put block m x y (left_out n b.stack) h);
        listed = λ k held l. entry_listed bookmark n m k tag held b can.tagged l;
        few = entry_few laws bookmark n m b sound.few can.listed;
        counted = sound.counted;
      })

-- What is asked of the forests that are at hand, and that they are forests: the copy's number, the forest in which it
-- was made, and those after each change.
module _ (laws : Laws) (block n : ℕ) (f : Forest) (can : CanReparent block n f) where
  pub may_give : (m : ℕ) (g : Forest) → m ≡ n → g ≡ f → CanReparent block m g
  may_give m g e is = subst (λ x. CanReparent block x g) (sym e) (subst (CanReparent block n) (sym is) can)

  given_is : (m : ℕ) (g given : Forest) → m ≡ n → g ≡ f → given ≡ reparented block m g →
      given ≡ reparented block n f
  given_is m g given e is now = now ∙ ap₂ (λ x h. reparented block x h) e is

  pub given_is_forest : (m : ℕ) (g given : Forest) → IsForest f → m ≡ n → g ≡ f →
      given ≡ reparented block m g → IsForest given
  given_is_forest m g given forest e is now =
      subst IsForest (sym (given_is m g given e is now)) (laws.given_keep block n f forest can)

  pub may_take : (m : ℕ) (g given : Forest) → CanMove (below block) n (reparented block n f) → m ≡ n → g ≡ f →
      given ≡ reparented block m g → CanPut (below block) (node m) given
  may_take m g given move e is now = subst (λ x. CanPut (below block) (node x) given) (sym e)
      (subst (CanPut (below block) (node n)) (sym (given_is m g given e is now))
      (subst (λ size. block < size) (sym (laws.given_size block n f)) can.given, move))

  pub taken_is_forest : (m : ℕ) (g given over : Forest) → IsForest f →
      CanMove (below block) n (reparented block n f) → m ≡ n → g ≡ f → given ≡ reparented block m g →
      over ≡ put_node (below block) m given → IsForest over
  taken_is_forest m g given over forest move e is now then = subst IsForest (sym then)
      (laws.put_keeps (below block) (node m) given (given_is_forest m g given forest e is now)
      (may_take m g given move e is now))

-- the forest after the steps of the taking over
pub taken_is : (block n m : ℕ) (tag : Tag) (f g given over : Forest) → m ≡ n → g ≡ made_for tag f →
    given ≡ reparented block m g → over ≡ put_node (below block) m given →
    over ≡ put_node (below block) n (reparented block n (made_for tag f))
taken_is block n m tag f g given over e is now then = cc
