-- Popping, closing and the adoption agency keep the texts of a tree, and its open elements clean.
use Rattle.std.proofs.Common.{◌≡◌, ◌⊎◌, if◌then◌else◌, [], ◌∷◌, ◌∙◌, Bool, List, None, Option, Some, ap, codes, false}
use Rattle.std.proofs.Common.{inl, inr, not, refl, subst, suc, sym, true, zero, ℕ}
use Rattle.std.specs.Bool.{nat_lt}
use Rattle.tree_formatting.specs.Entries.{Entry, handed_over, is_listed, last_named, moved_after, tag_in, up_to_marker}
use Rattle.tree_formatting.specs.Entries.{without_entry}
use Rattle.tree_forest.specs.Changes.{detached, left_out, reparented}
use Rattle.tree_forest.specs.Forest.{Forest, Holds, is_in, name_of, nodes}
use Rattle.tree_forest.specs.Orders.{IsIn}
use Rattle.tree_forest.specs.Places.{below, put_before, put_node}
use Rattle.html_lexemes.specs.declared.names.QualName.{QualName}
use Rattle.html_lexemes.specs.declared.token.Tag.{Tag}
use Rattle.html_tree_state.specs.Adoption.{Turn, Walk, adopted, adoption, after_turn, again, closed_by_other_end}
use Rattle.html_tree_state.specs.Adoption.{closed_with, copied, entries_at, furthest_block, is_current_unlisted}
use Rattle.html_tree_state.specs.Adoption.{named_before_special, other_end, out_of_place, over, placed, popped_with}
use Rattle.html_tree_state.specs.Adoption.{replaced, stepped, taken_over, turn, turn_for, turn_with, turn_with_block}
use Rattle.html_tree_state.specs.Adoption.{turns, walked}
use Rattle.html_tree_state.specs.Building.{Building}
use Rattle.html_tree_state.specs.Foreign.{broken_out, closed_by_foreign_end, from_html, named_foreign, popped_with_any}
use Rattle.html_tree_state.specs.Formatting.{made_for, name_for, unlisted}
use Rattle.html_tree_state.specs.Insertions.{place_for}
use Rattle.html_tree_state.specs.OpenElements.{below_current, below_first, current_of, farther, from_first, nearer}
use Rattle.html_tree_state.specs.OpenElements.{up_to}
use Rattle.html_tree_state.specs.Scopes.{has_item, implied, is_in_scope, popped, popped_down_to, popped_to, taken_off}
use Rattle.html_tree_state.specs.Scopes.{with_closed_item, with_closed_p, without_implied}
use Rattle.html_tree_state.specs.Walks.{begun}
use Rattle.tree_names.specs.ElementSets.{button_scope_barriers, scope_barriers}
use Rattle.tree_names.specs.Sets.{Elements, is_html, is_one_of}
use Rattle.tree_names.specs.TagSets.{formatting}
use Rattle.tree_names.specs.Wanted.{one}
use Rattle.tree_predicates.specs.Attributes.{is_html_annotation}
use Rattle.page_tree_laws.proofs.CleanLists.{AreFormatting, AreLeftOr, below_current_left, below_first_left}
use Rattle.page_tree_laws.proofs.CleanLists.{farther_left, formatting_by, formatting_free, from_first_left}
use Rattle.page_tree_laws.proofs.CleanLists.{from_html_left, handed_formatting, is_barred, left_out_left}
use Rattle.page_tree_laws.proofs.CleanLists.{moved_formatting, put_before_left, replaced_left, tag_formatting}
use Rattle.page_tree_laws.proofs.CleanLists.{without_formatting, without_implied_left}
use Rattle.page_tree_laws.proofs.CleanWords.{AreFree, IsCarried, IsClean, carried_if, carried_itself, carried_on}
use Rattle.page_tree_laws.proofs.CleanWords.{forest_carried, free_left, free_on, list_carried, popped_carried}
use Rattle.page_tree_laws.proofs.ForestTexts.{IsNew, detached_follows, element_new, follows_on, new_then, put_follows}
use Rattle.page_tree_laws.proofs.ForestTexts.{reparented_follows}

-- what pops
pub pop_carried : (b : Building) → IsClean b → IsCarried b (popped b)
pop_carried b clean = popped_carried b (below_current b.stack) (below_current_left b.stack) clean

pub implied_carried : (except : Elements) (b : Building) → IsClean b → IsCarried b (implied except b)
implied_carried except b clean =
    popped_carried b (without_implied except b.forest b.stack) (without_implied_left except b.forest b.stack) clean

pub popped_to_carried : (set : Elements) (b : Building) → IsClean b → IsCarried b (popped_to set b)
popped_to_carried set b clean =
    popped_carried b (below_first set b.forest b.stack) (below_first_left set b.forest b.stack) clean

pub popped_down_to_carried : (set : Elements) (b : Building) → IsClean b → IsCarried b (popped_down_to set b)
popped_down_to_carried set b clean =
    popped_carried b (from_first set b.forest b.stack) (from_first_left set b.forest b.stack) clean

pub taken_off_carried : (n : ℕ) (b : Building) → IsClean b → IsCarried b (taken_off n b)
taken_off_carried n b clean = popped_carried b (left_out n b.stack) (left_out_left n b.stack) clean

pub popped_with_carried : (n : ℕ) (b : Building) → IsClean b → IsCarried b (popped_with n b)
popped_with_carried n b clean = popped_carried b (farther n b.stack) (farther_left n b.stack) clean

pub broken_out_carried : (b : Building) → IsClean b → IsCarried b (broken_out b)
broken_out_carried b clean = popped_carried b (from_html b.forest b.stack) (from_html_left b.forest b.stack) clean

implied_and_popped : (except set : Elements) (b : Building) → IsClean b → IsCarried b (popped_to set (implied except b))
implied_and_popped except set b clean = carried_on b (implied except b) (popped_to set (implied except b))
    (implied_carried except b clean) (popped_to_carried set (implied except b))

pub closed_p_carried : (b : Building) → IsClean b → IsCarried b (with_closed_p b)
closed_p_carried b clean = carried_if (is_in_scope button_scope_barriers (one (codes "p")) b) _ _ b
    (implied_and_popped (one (codes "p")) (one (codes "p")) b clean) (carried_itself b clean)

pub closed_item_carried : (set : Elements) (b : Building) → IsClean b → IsCarried b (with_closed_item set b)
closed_item_carried set b clean = carried_if (has_item set b.forest b.stack) _ _ b
    (implied_and_popped set set b clean) (carried_itself b clean)

foreign_end : (found : Option ℕ) (b : Building) → IsClean b → IsCarried b (popped_with_any found b)
foreign_end None b clean = carried_itself b clean
foreign_end (Some n) b clean = popped_with_carried n b clean

pub foreign_end_carried : (name : List ℕ) (b : Building) → IsClean b → IsCarried b (closed_by_foreign_end name b)
foreign_end_carried name b clean = foreign_end (named_foreign name b.forest b.stack) b clean

other_by : (found : Option ℕ) (name : List ℕ) (b : Building) → IsClean b → IsCarried b (closed_with found name b)
other_by None name b clean = carried_itself b clean
other_by (Some n) name b clean =
    carried_on b (implied (one name) b) (popped_with n (implied (one name) b)) (implied_carried (one name) b clean)
    (popped_with_carried n (implied (one name) b))

pub other_end_carried : (name : List ℕ) (b : Building) → IsClean b → IsCarried b (closed_by_other_end name b)
other_end_carried name b clean = other_by (named_before_special name b.forest b.stack) name b clean

-- what takes off the list, and out of the tree
pub unlisted_carried : (n : ℕ) (b : Building) → IsClean b → IsCarried b (unlisted n b)
unlisted_carried n b clean =
    list_carried b (without_entry n b.formatting) (without_formatting n b.formatting clean.listed) clean

pub out_of_place_carried : (n : ℕ) (b : Building) → IsClean b → IsCarried b (out_of_place n b)
out_of_place_carried n b clean = forest_carried b (detached n b.forest) (detached_follows n b.forest) clean

placed_carried : (last ancestor : ℕ) (b : Building) → IsClean b → IsCarried b (placed last ancestor b)
placed_carried last ancestor b clean =
    let place = place_for ancestor (out_of_place last b) in
    forest_carried b (put_node place last (detached last b.forest))
    (follows_on b.forest (detached last b.forest) (put_node place last (detached last b.forest))
    (detached_follows last b.forest) (put_follows place last (detached last b.forest))) clean

-- a copy among the open elements
with_new : (name : QualName) (f g : Forest) (ns ms : List ℕ) → IsNew name f g → is_barred name ≡ false →
    AreFree f ns → AreLeftOr (nodes f) ms ns → AreFree g ms
with_new name f g ns ms new is free left n i = by (left n i) where
  by : (n ≡ nodes f) ⊎ IsIn n ns → Holds n g × (is_barred (name_of n g) ≡ false)
  by (inl e) = (
    subst (λ k. Holds k g) (sym e) new.held,
    subst (λ k. is_barred (name_of k g) ≡ false) (sym e) (ap is_barred new.named ∙ is),
  )
  by (inr j) = free_on f g n new.follows (free n j)

made_new : (tag : Tag) (f : Forest) → IsNew (name_for tag) f (made_for tag f)
made_new tag f = element_new (name_for tag) tag.attrs (is_html (codes "template") (name_for tag))
    (is_html_annotation (name_for tag) tag.attrs) f

copied_carried : (n : ℕ) (tag : Tag) (last : ℕ) (b : Building) → is_one_of formatting tag.name ≡ true → IsClean b →
    IsCarried b (copied n tag last b)
copied_carried n tag last b is clean =
    let f = b.forest in
    let g = made_for tag f in
    let h = detached last g in
    let k = put_node (below (nodes f)) last h in
    let new : IsNew (name_for tag) f k = new_then (name_for tag) f h k
    (new_then (name_for tag) f g h (made_new tag f) (detached_follows last g)) (put_follows (below (nodes f)) last h) in
    record {
      texts = new.follows.texts;
      clean = record {
        free = with_new (name_for tag) f k b.stack (replaced n (nodes f) b.stack) new (formatting_free tag.name is)
            clean.free (replaced_left n (nodes f) b.stack);
        listed = handed_formatting n (nodes f) b.formatting clean.listed;
      };
    }

-- the walk up the stack
stepped_carried : (found : Option Tag) (is_late : Bool) (block n : ℕ) (w : Walk) →
    tag_in n w.tree.formatting ≡ found → IsClean w.tree → IsCarried w.tree (stepped found is_late block n w).tree
stepped_carried None is_late block n w e clean = taken_off_carried n w.tree clean
stepped_carried (Some tag) true block n w e clean =
    carried_on w.tree (unlisted n w.tree) (taken_off n (unlisted n w.tree)) (unlisted_carried n w.tree clean)
    (taken_off_carried n (unlisted n w.tree))
stepped_carried (Some tag) false block n w e clean =
    copied_carried n tag w.last w.tree (tag_formatting n w.tree.formatting tag clean.listed e) clean

walked_carried : (block count : ℕ) (ns : List ℕ) (w : Walk) → IsClean w.tree →
    IsCarried w.tree (walked block count ns w).tree
walked_carried block count [] w clean = carried_itself w.tree clean
walked_carried block count (n ∷ ns) w clean =
    let next = stepped (tag_in n w.tree.formatting) (nat_lt 2 count) block n w in
    carried_on w.tree next.tree (walked block (suc count) ns next).tree
    (stepped_carried (tag_in n w.tree.formatting) (nat_lt 2 count) block n w refl clean)
    (walked_carried block (suc count) ns next)

entries_at_formatting : (bookmark : Option ℕ) (n copy : ℕ) (es : List Entry) → AreFormatting es →
    AreFormatting (entries_at bookmark n copy es)
entries_at_formatting None n copy es are = handed_formatting n copy es are
entries_at_formatting (Some after) n copy es are =
    formatting_by (is_listed after (up_to_marker (without_entry n es))) (moved_after n copy after es)
    (handed_over n copy es) (moved_formatting n copy after es are) (handed_formatting n copy es are)

taken_over_carried : (bookmark : Option ℕ) (n block : ℕ) (tag : Tag) (b : Building) →
    is_one_of formatting tag.name ≡ true → IsClean b → IsCarried b (taken_over bookmark n block tag b)
taken_over_carried bookmark n block tag b is clean =
    let f = b.forest in
    let g = made_for tag f in
    let h = reparented block (nodes f) g in
    let k = put_node (below block) (nodes f) h in
    let new : IsNew (name_for tag) f k = new_then (name_for tag) f h k
    (new_then (name_for tag) f g h (made_new tag f) (reparented_follows block (nodes f) g))
    (put_follows (below block) (nodes f) h) in
    record {
      texts = new.follows.texts;
      clean = record {
        free = with_new (name_for tag) f k (left_out n b.stack) (put_before block (nodes f) (left_out n b.stack)) new
            (formatting_free tag.name is)
            (free_left f (left_out n b.stack) b.stack (left_out_left n b.stack) clean.free)
            (put_before_left block (nodes f) (left_out n b.stack));
        listed = entries_at_formatting bookmark n (nodes f) b.formatting clean.listed;
      };
    }

adopted_carried : (n block : ℕ) (tag : Tag) (b : Building) → is_one_of formatting tag.name ≡ true → IsClean b →
    IsCarried b (adopted n block tag b)
adopted_carried n block tag b is clean =
    let w = walked block 0 (farther block (nearer n b.stack)) (begun block b) in
    let ancestor = current_of (farther n b.stack) in
    let d = placed w.last ancestor w.tree in
    carried_on b d (taken_over w.bookmark n block tag d)
    (carried_on b w.tree d (walked_carried block 0 (farther block (nearer n b.stack)) (begun block b) clean)
    (placed_carried w.last ancestor w.tree))
    (taken_over_carried w.bookmark n block tag d is)

-- turns
abbrev IsTurned : Building → Turn → Type 0
IsTurned b (over d) = IsCarried b d
IsTurned b (again d) = IsCarried b d
IsTurned b (other_end d) = IsCarried b d

turned_if : (x : Bool) (b : Building) (t u : Turn) → IsTurned b t → IsTurned b u → IsTurned b (if x then t else u)
turned_if true b t u f g = f
turned_if false b t u f g = g

block_turned : (block : Option ℕ) (n : ℕ) (tag : Tag) (b : Building) → is_one_of formatting tag.name ≡ true →
    IsClean b → IsTurned b (turn_with_block block n tag b)
block_turned None n tag b is clean = carried_on b (popped_with n b) (unlisted n (popped_with n b))
    (popped_with_carried n b clean) (unlisted_carried n (popped_with n b))
block_turned (Some block) n tag b is clean = adopted_carried n block tag b is clean

tag_turned : (found : Option Tag) (n : ℕ) (b : Building) → tag_in n b.formatting ≡ found → IsClean b →
    IsTurned b (turn_with found n b)
tag_turned None n b e clean = carried_itself b clean
tag_turned (Some tag) n b e clean = turned_if (not (is_in n b.stack)) b _ _ (unlisted_carried n b clean)
    (turned_if (not (is_in n (up_to scope_barriers b.forest b.stack))) b _ _ (carried_itself b clean)
    (block_turned (furthest_block n b) n tag b (tag_formatting n b.formatting tag clean.listed e) clean))

named_turned : (found : Option ℕ) (b : Building) → IsClean b → IsTurned b (turn_for found b)
named_turned None b clean = carried_itself b clean
named_turned (Some n) b clean = tag_turned (tag_in n b.formatting) n b refl clean

after_carried : (t : Turn) (name : List ℕ) (further : Building → Building) (b : Building) → IsTurned b t →
    ((d : Building) → IsClean d → IsCarried d (further d)) → IsCarried b (after_turn t name further b)
after_carried (over d) name further b turned more = turned
after_carried (again d) name further b turned more = carried_on b d (further d) turned (more d)
after_carried (other_end d) name further b turned more =
    carried_on b d (closed_by_other_end name d) turned (other_end_carried name d)

turns_carried : (k : ℕ) (name : List ℕ) (b : Building) → IsClean b → IsCarried b (turns k name b)
turns_carried zero name b clean = carried_itself b clean
turns_carried (suc k) name b clean = after_carried (turn name b) name (turns k name) b
    (named_turned (last_named name b.formatting) b clean) (turns_carried k name)

pub adoption_carried : (name : List ℕ) (b : Building) → IsClean b → IsCarried b (adoption name b)
adoption_carried name b clean = carried_if (is_current_unlisted name b) (popped b) (turns 8 name b) b
    (pop_carried b clean) (turns_carried 8 name b clean)
