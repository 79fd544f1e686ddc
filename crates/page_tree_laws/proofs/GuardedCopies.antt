-- The adoption agency's copies, and what it moves, keep a guarded tree guarded.
use Rattle.std.proofs.Common.{◌≡◌, ℕ, suc, inl, inr, Bool, true, false, List, [], ◌∷◌, Option, None, Some, codes, refl}
use Rattle.std.specs.Bool.{nat_lt}
use Rattle.tree_formatting.specs.Entries.{handed_over, tag_in}
use Rattle.tree_forest.specs.Changes.{detached, left_out, reparented}
use Rattle.tree_forest.specs.Forest.{Forest, Holds, nodes}
use Rattle.tree_forest.specs.Orders.{IsIn}
use Rattle.tree_forest.specs.Places.{below, put_node}
use Rattle.html_lexemes.specs.declared.token.Tag.{Tag}
use Rattle.html_tree_state.specs.Adoption.{Walk, copied, entries_at, out_of_place, placed, stepped, taken_over, walked}
use Rattle.html_tree_state.specs.Building.{Building}
use Rattle.html_tree_state.specs.Formatting.{made_for, name_for, unlisted}
use Rattle.html_tree_state.specs.Insertions.{place_for}
use Rattle.page_tree_laws.proofs.CleanLists.{left_out_left, put_before_left, replaced_left}
use Rattle.page_tree_laws.proofs.ForestTexts.{IsNew, detached_follows, element_new, new_then, put_follows}
use Rattle.page_tree_laws.proofs.ForestTexts.{reparented_follows}
use Rattle.tree_names.specs.Sets.{is_html, is_one_of}
use Rattle.tree_names.specs.TagSets.{formatting}
use Rattle.page_tree_laws.proofs.GuardedChanges.{detached_kept, element_kept, reparented_kept}
use Rattle.page_tree_laws.proofs.GuardedEntries.{all_entries_at, all_handed, all_tag, each_of}
use Rattle.page_tree_laws.proofs.GuardedForests.{KeptOn, kept_then, new_is_free, put_kept, still_held}
use Rattle.page_tree_laws.proofs.GuardedLists.{IsFreeEntry, all_listed, all_on_like, unlisted_guarded}
use Rattle.page_tree_laws.proofs.GuardedPlaces.{place_good}
use Rattle.page_tree_laws.proofs.GuardedPops.{taken_off_guarded}
use Rattle.page_tree_laws.proofs.GuardedStacks.{FitsBelow, free_fits, stack_left_out, stack_put_before, stack_replaced}
use Rattle.page_tree_laws.proofs.GuardedWords.{forest_guarded, new_unbarred, out_of_place_guarded}
use Rattle.page_tree_laws.proofs.Guards.{Guard, IsFree, IsGoodPlace, IsGuard, IsGuarded, IsKeptForest, within}
use Rattle.tree_predicates.specs.Attributes.{is_html_annotation}

-- below a free node is a good place
free_below : (g : Guard) (f : Forest) (n : ℕ) → IsFree g n → IsGoodPlace g f (below n)
free_below g f n free = let fits = free_fits g n free in within n fits.0 fits.1

-- an element that is made for a tag keeps what is guarded, and is new
made_kept_for : (tag : Tag) (g : Guard) (f : Forest) → IsKeptForest g f → KeptOn g f (made_for tag f)
made_kept_for tag g f held = element_kept g (name_for tag) tag.attrs (is_html (codes "template") (name_for tag))
    (is_html_annotation (name_for tag) tag.attrs) f held

made_new : (tag : Tag) (f : Forest) → IsNew (name_for tag) f (made_for tag f)
made_new tag f = element_new (name_for tag) tag.attrs (is_html (codes "template") (name_for tag))
    (is_html_annotation (name_for tag) tag.attrs) f

-- an entry that a new element takes over is one of a free element
new_takes : (g : Guard) (f h : Forest) (tag : Tag) → IsKeptForest g f → IsNew (name_for tag) f h →
    (k : ℕ) (held : Tag) → IsFreeEntry g h k held → IsFreeEntry g h (nodes f) held
new_takes g f h tag kept new k held entry = (new_is_free g f kept, (new.held, entry.1.1))

-- A copy of a free element takes its place on the stack and in the list, and the last node as its child.
module _ (n : ℕ) (tag : Tag) (last : ℕ) (g : Guard) (b : Building) (guard : IsGuard g) (is : IsGuarded g b)
    (free : IsFree g n) (other : IsFree g last) (there : Holds last b.forest)
    (formats : is_one_of formatting tag.name ≡ true) where
  -- the nodes before, with the copy made, and at the end
  abbrev old : Forest
  old = b.forest

  abbrev grown : Forest
  grown = made_for tag old

  abbrev copy : Forest
  copy = (copied n tag last b).forest

  -- the copy keeps what is guarded
  copy_kept : KeptOn g old copy
  copy_kept =
      let one : KeptOn g old grown = made_kept_for tag g old is.nodes in
      let two : KeptOn g grown (detached last grown) = detached_kept g last grown other one.kept in
      let three : KeptOn g (detached last grown) copy = put_kept g (below (nodes old)) last (detached last grown)
      (free_below g (detached last grown) (nodes old) (new_is_free g old is.nodes))
      (still_held last (nodes grown) (nodes (detached last grown))
      (still_held last (nodes old) (nodes grown) there one.like.size) two.like.size) two.kept in
      kept_then g old grown copy one (λ k. kept_then g grown (detached last grown) copy two (λ l. three))

  -- the copy is new
  pub copy_new : IsNew (name_for tag) old copy
  copy_new = new_then (name_for tag) old (detached last grown) copy
      (new_then (name_for tag) old grown (detached last grown) (made_new tag old) (detached_follows last grown))
      (put_follows (below (nodes old)) last (detached last grown))

  -- copying keeps a guarded tree guarded
  pub copied_guarded : IsGuarded g (copied n tag last b)
  copied_guarded = record {
    nodes = copy_kept.kept;
    standing = stack_replaced g n (nodes old) free (new_is_free g old is.nodes) b.stack is.standing;
    unbarred = λ k i apart. new_unbarred g (name_for tag) old copy b.stack copy_new copy_kept.like
        (guard.formatting_free tag.name formats) is.unbarred k (replaced_left n (nodes old) b.stack k i) apart;
    listed = each_of (IsFreeEntry g copy) (handed_over n (nodes old) b.formatting)
        (all_handed (IsFreeEntry g copy) (nodes old) (new_takes g old copy tag is.nodes copy_new) n b.formatting
        (all_on_like g old copy b.formatting copy_kept.like (all_listed g b is)));
    fostering = is.fostering;
  }

-- the walk up the stack, over free elements
pub record IsGuardedWalk (g : Guard) (w : Walk) : Type 0 where
  pub tree : IsGuarded g w.tree
  pub free : IsFree g w.last
  pub there : Holds w.last w.tree.forest

-- an element that is listed with a tag is free, and the tag one of formatting
pub tag_formats : (n : ℕ) (tag : Tag) (g : Guard) (b : Building) → IsGuarded g b → tag_in n b.formatting ≡ Some tag →
    IsFreeEntry g b.forest n tag
tag_formats n tag g b is e = all_tag (IsFreeEntry g b.forest) n b.formatting tag (all_listed g b is) e

-- a step of the walk
stepped_guarded : (found : Option Tag) (is_late : Bool) (block n : ℕ) (w : Walk) (g : Guard) → IsGuard g →
    tag_in n w.tree.formatting ≡ found → IsFree g n → IsGuardedWalk g w →
    IsGuardedWalk g (stepped found is_late block n w)
stepped_guarded None is_late block n w g guard e free walk = record {
  tree = taken_off_guarded n g w.tree guard walk.tree free;
  free = walk.free;
  there = walk.there;
}
stepped_guarded (Some tag) true block n w g guard e free walk = record {
  tree = taken_off_guarded n g (unlisted n w.tree) guard (unlisted_guarded n g w.tree guard walk.tree) free;
  free = walk.free;
  there = walk.there;
}
stepped_guarded (Some tag) false block n w g guard e free walk =
    let formats = (tag_formats n tag g w.tree walk.tree e).1.1 in
    record {
      tree = copied_guarded n tag w.last g w.tree guard walk.tree free walk.free walk.there formats;
      free = new_is_free g w.tree.forest walk.tree.nodes;
      there = (copy_new n tag w.last g w.tree guard walk.tree free walk.free walk.there formats).held;
    }

-- the whole walk
pub walked_guarded : (block count : ℕ) (ns : List ℕ) (w : Walk) (g : Guard) → IsGuard g →
    ((m : ℕ) → IsIn m ns → IsFree g m) → IsGuardedWalk g w → IsGuardedWalk g (walked block count ns w)
walked_guarded block count [] w g guard free walk = walk
walked_guarded block count (n ∷ ns) w g guard free walk =
    let next = stepped (tag_in n w.tree.formatting) (nat_lt 2 count) block n w in
    walked_guarded block (suc count) ns next g guard (λ m i. free m (inr i))
    (stepped_guarded (tag_in n w.tree.formatting) (nat_lt 2 count) block n w g guard refl (free n (inl refl)) walk)

-- the last node goes to the place for the common ancestor
pub placed_guarded : (last ancestor : ℕ) (g : Guard) (b : Building) → IsGuard g → IsGuarded g b → IsFree g last →
    Holds last b.forest → FitsBelow g ancestor → IsGuarded g (placed last ancestor b)
placed_guarded last ancestor g b guard is free there fits =
    let out = out_of_place last b in
    let apart : IsGuarded g out = out_of_place_guarded last g b guard is free in
    let step : KeptOn g b.forest (detached last b.forest) = detached_kept g last b.forest free is.nodes in
    forest_guarded g out (put_node (place_for ancestor out) last (detached last b.forest))
    (put_kept g (place_for ancestor out) last (detached last b.forest) (place_good ancestor g out guard apart fits)
    (still_held last (nodes b.forest) (nodes (detached last b.forest)) there step.like.size) step.kept) apart

-- A copy of the formatting element takes the children of the furthest block, and becomes its child.
module _ (bookmark : Option ℕ) (n block : ℕ) (tag : Tag) (g : Guard) (b : Building) (guard : IsGuard g)
    (is : IsGuarded g b) (free : IsFree g n) (other : IsFree g block)
    (formats : is_one_of formatting tag.name ≡ true) where
  -- the nodes before, with the copy made, and at the end
  abbrev prior : Forest
  prior = b.forest

  abbrev larger : Forest
  larger = made_for tag prior

  abbrev taken : Forest
  taken = (taken_over bookmark n block tag b).forest

  -- the copy is new
  taken_new : IsNew (name_for tag) prior taken
  taken_new = new_then (name_for tag) prior (reparented block (nodes prior) larger) taken
      (new_then (name_for tag) prior larger (reparented block (nodes prior) larger) (made_new tag prior)
      (reparented_follows block (nodes prior) larger))
      (put_follows (below block) (nodes prior) (reparented block (nodes prior) larger))

  -- it keeps what is guarded
  taken_kept : KeptOn g prior taken
  taken_kept =
      let one : KeptOn g prior larger = made_kept_for tag g prior is.nodes in
      let two : KeptOn g larger (reparented block (nodes prior) larger) =
      reparented_kept g block (nodes prior) larger other (new_is_free g prior is.nodes) one.kept in
      let three : KeptOn g (reparented block (nodes prior) larger) taken =
      put_kept g (below block) (nodes prior) (reparented block (nodes prior) larger)
      (free_below g (reparented block (nodes prior) larger) block other)
      (still_held (nodes prior) (nodes larger) (nodes (reparented block (nodes prior) larger)) (made_new tag prior).held
      two.like.size) two.kept in
      kept_then g prior larger taken one
      (λ k. kept_then g larger (reparented block (nodes prior) larger) taken two (λ l. three))

  -- taking over keeps a guarded tree guarded
  pub taken_over_guarded : IsGuarded g (taken_over bookmark n block tag b)
  taken_over_guarded = record {
    nodes = taken_kept.kept;
    standing = stack_put_before g block (nodes prior) other (new_is_free g prior is.nodes) (left_out n b.stack)
        (stack_left_out g n free b.stack is.standing);
    unbarred = λ k i apart. new_unbarred g (name_for tag) prior taken (left_out n b.stack) taken_new taken_kept.like
        (guard.formatting_free tag.name formats) (λ m j. is.unbarred m (left_out_left n b.stack m j)) k
        (put_before_left block (nodes prior) (left_out n b.stack) k i) apart;
    listed = each_of (IsFreeEntry g taken) (entries_at bookmark n (nodes prior) b.formatting)
        (all_entries_at (IsFreeEntry g taken) (nodes prior) (new_takes g prior taken tag is.nodes taken_new) bookmark n
        b.formatting (all_on_like g prior taken b.formatting taken_kept.like (all_listed g b is)));
    fostering = is.fostering;
  }
