-- Popping, closing and the adoption agency open no template.
use Rattle.std.proofs.Common.{◌≡◌, if◌then◌else◌, [], ◌∷◌, Bool, List, None, Option, Some, codes, false, not, refl, suc}
use Rattle.std.proofs.Common.{true, zero, ℕ}
use Rattle.std.specs.Bool.{nat_lt}
use Rattle.tree_formatting.specs.Entries.{Entry, handed_over, is_listed, last_named, moved_after, tag_in, up_to_marker}
use Rattle.tree_formatting.specs.Entries.{without_entry}
use Rattle.tree_forest.specs.Changes.{detached, left_out, reparented}
use Rattle.tree_forest.specs.Forest.{Forest, Holds, is_in, nodes}
use Rattle.tree_forest.specs.Orders.{IsIn}
use Rattle.tree_forest.specs.Places.{below, put_before, put_node}
use Rattle.html_lexemes.specs.declared.token.Tag.{Tag}
use Rattle.html_tree_state.specs.Adoption.{Turn, Walk, adopted, adoption, after_turn, again, closed_by_other_end}
use Rattle.html_tree_state.specs.Adoption.{closed_with, copied, entries_at, furthest_block, is_current_unlisted}
use Rattle.html_tree_state.specs.Adoption.{named_before_special, other_end, out_of_place, over, placed, popped_with}
use Rattle.html_tree_state.specs.Adoption.{replaced, stepped, taken_over, turn, turn_for, turn_with, turn_with_block}
use Rattle.html_tree_state.specs.Adoption.{turns, walked}
use Rattle.html_tree_state.specs.Building.{Building}
use Rattle.html_tree_state.specs.Foreign.{broken_out, closed_by_foreign_end, from_html, named_foreign, popped_with_any}
use Rattle.html_tree_state.specs.Formatting.{made_for, name_for, unlisted}
use Rattle.html_tree_state.specs.Insertions.{place_for}
use Rattle.html_tree_state.specs.OpenElements.{below_current, below_first, current_of, farther, from_first, nearer}
use Rattle.html_tree_state.specs.OpenElements.{up_to}
use Rattle.html_tree_state.specs.Scopes.{has_item, implied, is_in_scope, popped, popped_down_to, popped_to, taken_off}
use Rattle.html_tree_state.specs.Scopes.{with_closed_item, with_closed_p, without_implied}
use Rattle.html_tree_state.specs.Walks.{begun}
use Rattle.tree_names.specs.ElementSets.{button_scope_barriers, scope_barriers}
use Rattle.tree_names.specs.Sets.{Elements, is_html, is_one_of}
use Rattle.tree_names.specs.TagSets.{formatting}
use Rattle.tree_names.specs.Wanted.{one}
use Rattle.tree_predicates.specs.Attributes.{is_html_annotation}
use Rattle.page_tree_laws.proofs.ForestTexts.{IsNew, detached_follows, element_new, follows_on, new_then, put_follows}
use Rattle.page_tree_laws.proofs.ForestTexts.{reparented_follows}
use Rattle.page_tree_laws.proofs.CleanLists.{AreFormatting, below_current_left, below_first_left, farther_left}
use Rattle.page_tree_laws.proofs.CleanLists.{formatting_by, from_first_left, from_html_left, handed_formatting}
use Rattle.page_tree_laws.proofs.CleanLists.{left_out_left, moved_formatting, put_before_left, replaced_left}
use Rattle.page_tree_laws.proofs.CleanLists.{tag_formatting, without_formatting, without_implied_left}
use Rattle.page_tree_laws.proofs.TemplateLists.{below_current_fewer, below_first_fewer, farther_fewer, fewer_on}
use Rattle.page_tree_laws.proofs.TemplateLists.{from_first_fewer, from_html_fewer, left_out_fewer, put_before_fewer}
use Rattle.page_tree_laws.proofs.TemplateLists.{replaced_fewer, templates_in, without_implied_fewer}
use Rattle.page_tree_laws.proofs.TemplateWords.{IsPresent, OpensNone, fewer_with, forest_none, formatting_none}
use Rattle.page_tree_laws.proofs.TemplateWords.{list_none, new_none, none_if, none_itself, none_on, popped_none}
use Rattle.page_tree_laws.proofs.TemplateWords.{with_new}

-- what pops
pub pop_none : (b : Building) → IsPresent b → OpensNone b (popped b)
pop_none b present = popped_none b (below_current b.stack) (below_current_left b.stack)
    (below_current_fewer b.forest b.stack) present

pub implied_none : (except : Elements) (b : Building) → IsPresent b → OpensNone b (implied except b)
implied_none except b present =
    popped_none b (without_implied except b.forest b.stack) (without_implied_left except b.forest b.stack)
    (without_implied_fewer except b.forest b.stack) present

pub popped_to_none : (set : Elements) (b : Building) → IsPresent b → OpensNone b (popped_to set b)
popped_to_none set b present =
    popped_none b (below_first set b.forest b.stack) (below_first_left set b.forest b.stack)
    (below_first_fewer set b.forest b.stack) present

pub popped_down_to_none : (set : Elements) (b : Building) → IsPresent b → OpensNone b (popped_down_to set b)
popped_down_to_none set b present =
    popped_none b (from_first set b.forest b.stack) (from_first_left set b.forest b.stack)
    (from_first_fewer set b.forest b.stack) present

pub taken_off_none : (n : ℕ) (b : Building) → IsPresent b → OpensNone b (taken_off n b)
taken_off_none n b present = popped_none b (left_out n b.stack) (left_out_left n b.stack)
    (left_out_fewer n b.forest b.stack) present

popped_with_none : (n : ℕ) (b : Building) → IsPresent b → OpensNone b (popped_with n b)
popped_with_none n b present = popped_none b (farther n b.stack) (farther_left n b.stack)
    (farther_fewer n b.forest b.stack) present

pub broken_out_none : (b : Building) → IsPresent b → OpensNone b (broken_out b)
broken_out_none b present = popped_none b (from_html b.forest b.stack) (from_html_left b.forest b.stack)
    (from_html_fewer b.forest b.stack) present

implied_and_popped : (except set : Elements) (b : Building) → IsPresent b →
    OpensNone b (popped_to set (implied except b))
implied_and_popped except set b present = none_on b (implied except b) (popped_to set (implied except b))
    (implied_none except b present) (popped_to_none set (implied except b))

pub closed_p_none : (b : Building) → IsPresent b → OpensNone b (with_closed_p b)
closed_p_none b present = none_if (is_in_scope button_scope_barriers (one (codes "p")) b) _ _ b
    (implied_and_popped (one (codes "p")) (one (codes "p")) b present) (none_itself b present)

pub closed_item_none : (set : Elements) (b : Building) → IsPresent b → OpensNone b (with_closed_item set b)
closed_item_none set b present = none_if (has_item set b.forest b.stack) _ _ b
    (implied_and_popped set set b present) (none_itself b present)

foreign_end : (found : Option ℕ) (b : Building) → IsPresent b → OpensNone b (popped_with_any found b)
foreign_end None b present = none_itself b present
foreign_end (Some n) b present = popped_with_none n b present

pub foreign_end_none : (name : List ℕ) (b : Building) → IsPresent b → OpensNone b (closed_by_foreign_end name b)
foreign_end_none name b present = foreign_end (named_foreign name b.forest b.stack) b present

other_by : (found : Option ℕ) (name : List ℕ) (b : Building) → IsPresent b → OpensNone b (closed_with found name b)
other_by None name b present = none_itself b present
other_by (Some n) name b present =
    none_on b (implied (one name) b) (popped_with n (implied (one name) b)) (implied_none (one name) b present)
    (popped_with_none n (implied (one name) b))

pub other_end_none : (name : List ℕ) (b : Building) → IsPresent b → OpensNone b (closed_by_other_end name b)
other_end_none name b present = other_by (named_before_special name b.forest b.stack) name b present

-- what takes off the list, and out of the tree
pub unlisted_none : (n : ℕ) (b : Building) → IsPresent b → OpensNone b (unlisted n b)
unlisted_none n b present =
    list_none b (without_entry n b.formatting) (without_formatting n b.formatting present.listed) present

pub out_of_place_none : (n : ℕ) (b : Building) → IsPresent b → OpensNone b (out_of_place n b)
out_of_place_none n b present = forest_none b (detached n b.forest) (detached_follows n b.forest) present

placed_none : (last ancestor : ℕ) (b : Building) → IsPresent b → OpensNone b (placed last ancestor b)
placed_none last ancestor b present =
    let place = place_for ancestor (out_of_place last b) in
    forest_none b (put_node place last (detached last b.forest))
    (follows_on b.forest (detached last b.forest) (put_node place last (detached last b.forest))
    (detached_follows last b.forest) (put_follows place last (detached last b.forest))) present

-- a copy of a formatting element is made
made_new : (tag : Tag) (f : Forest) → IsNew (name_for tag) f (made_for tag f)
made_new tag f = element_new (name_for tag) tag.attrs (is_html (codes "template") (name_for tag))
    (is_html_annotation (name_for tag) tag.attrs) f

copied_none : (n : ℕ) (tag : Tag) (last : ℕ) (b : Building) → is_one_of formatting tag.name ≡ true → IsPresent b →
    OpensNone b (copied n tag last b)
copied_none n tag last b is present =
    let f = b.forest in
    let g = made_for tag f in
    let h = detached last g in
    let k = put_node (below (nodes f)) last h in
    let new : IsNew (name_for tag) f k = new_then (name_for tag) f h k
    (new_then (name_for tag) f g h (made_new tag f) (detached_follows last g)) (put_follows (below (nodes f)) last h) in
    let other = new_none (name_for tag) f k new (formatting_none tag is) in
    record {
      fewer = fewer_with f k b.stack (replaced n (nodes f) b.stack) new.follows present.held
          (replaced_fewer n (nodes f) k b.stack other);
      present = record {
        held = with_new (name_for tag) f k b.stack (replaced n (nodes f) b.stack) new present.held
            (replaced_left n (nodes f) b.stack);
        listed = handed_formatting n (nodes f) b.formatting present.listed;
      };
    }

-- the walk up the stack
stepped_none : (found : Option Tag) (is_late : Bool) (block n : ℕ) (w : Walk) →
    tag_in n w.tree.formatting ≡ found → IsPresent w.tree → OpensNone w.tree (stepped found is_late block n w).tree
stepped_none None is_late block n w e present = taken_off_none n w.tree present
stepped_none (Some tag) true block n w e present =
    none_on w.tree (unlisted n w.tree) (taken_off n (unlisted n w.tree)) (unlisted_none n w.tree present)
    (taken_off_none n (unlisted n w.tree))
stepped_none (Some tag) false block n w e present =
    copied_none n tag w.last w.tree (tag_formatting n w.tree.formatting tag present.listed e) present

walked_none : (block count : ℕ) (ns : List ℕ) (w : Walk) → IsPresent w.tree →
    OpensNone w.tree (walked block count ns w).tree
walked_none block count [] w present = none_itself w.tree present
walked_none block count (n ∷ ns) w present =
    let next = stepped (tag_in n w.tree.formatting) (nat_lt 2 count) block n w in
    none_on w.tree next.tree (walked block (suc count) ns next).tree
    (stepped_none (tag_in n w.tree.formatting) (nat_lt 2 count) block n w refl present)
    (walked_none block (suc count) ns next)

entries_at_formatting : (bookmark : Option ℕ) (n copy : ℕ) (es : List Entry) → AreFormatting es →
    AreFormatting (entries_at bookmark n copy es)
entries_at_formatting None n copy es are = handed_formatting n copy es are
entries_at_formatting (Some after) n copy es are =
    formatting_by (is_listed after (up_to_marker (without_entry n es))) (moved_after n copy after es)
    (handed_over n copy es) (moved_formatting n copy after es are) (handed_formatting n copy es are)

taken_over_none : (bookmark : Option ℕ) (n block : ℕ) (tag : Tag) (b : Building) →
    is_one_of formatting tag.name ≡ true → IsPresent b → OpensNone b (taken_over bookmark n block tag b)
taken_over_none bookmark n block tag b is present =
    let f = b.forest in
    let g = made_for tag f in
    let h = reparented block (nodes f) g in
    let k = put_node (below block) (nodes f) h in
    let new : IsNew (name_for tag) f k = new_then (name_for tag) f h k
    (new_then (name_for tag) f g h (made_new tag f) (reparented_follows block (nodes f) g))
    (put_follows (below block) (nodes f) h) in
    let other = new_none (name_for tag) f k new (formatting_none tag is) in
    let rest = left_out n b.stack in
    let left : (m : ℕ) → IsIn m rest → Holds m f = λ m i. present.held m (left_out_left n b.stack m i) in
    record {
      fewer = fewer_on (templates_in k (put_before block (nodes f) rest)) (templates_in f rest)
          (templates_in f b.stack) (fewer_with f k rest (put_before block (nodes f) rest) new.follows left
          (put_before_fewer block (nodes f) k rest other)) (left_out_fewer n f b.stack);
      present = record {
        held = with_new (name_for tag) f k rest (put_before block (nodes f) rest) new left
            (put_before_left block (nodes f) rest);
        listed = entries_at_formatting bookmark n (nodes f) b.formatting present.listed;
      };
    }

adopted_none : (n block : ℕ) (tag : Tag) (b : Building) → is_one_of formatting tag.name ≡ true → IsPresent b →
    OpensNone b (adopted n block tag b)
adopted_none n block tag b is present =
    let w = walked block 0 (farther block (nearer n b.stack)) (begun block b) in
    let ancestor = current_of (farther n b.stack) in
    let d = placed w.last ancestor w.tree in
    none_on b d (taken_over w.bookmark n block tag d)
    (none_on b w.tree d (walked_none block 0 (farther block (nearer n b.stack)) (begun block b) present)
    (placed_none w.last ancestor w.tree))
    (taken_over_none w.bookmark n block tag d is)

-- turns
abbrev IsTurned : Building → Turn → Type 0
IsTurned b (over d) = OpensNone b d
IsTurned b (again d) = OpensNone b d
IsTurned b (other_end d) = OpensNone b d

turned_if : (x : Bool) (b : Building) (t u : Turn) → IsTurned b t → IsTurned b u → IsTurned b (if x then t else u)
turned_if true b t u f g = f
turned_if false b t u f g = g

block_turned : (block : Option ℕ) (n : ℕ) (tag : Tag) (b : Building) → is_one_of formatting tag.name ≡ true →
    IsPresent b → IsTurned b (turn_with_block block n tag b)
block_turned None n tag b is present = none_on b (popped_with n b) (unlisted n (popped_with n b))
    (popped_with_none n b present) (unlisted_none n (popped_with n b))
block_turned (Some block) n tag b is present = adopted_none n block tag b is present

tag_turned : (found : Option Tag) (n : ℕ) (b : Building) → tag_in n b.formatting ≡ found → IsPresent b →
    IsTurned b (turn_with found n b)
tag_turned None n b e present = none_itself b present
tag_turned (Some tag) n b e present = turned_if (not (is_in n b.stack)) b _ _ (unlisted_none n b present)
    (turned_if (not (is_in n (up_to scope_barriers b.forest b.stack))) b _ _ (none_itself b present)
    (block_turned (furthest_block n b) n tag b (tag_formatting n b.formatting tag present.listed e) present))

named_turned : (found : Option ℕ) (b : Building) → IsPresent b → IsTurned b (turn_for found b)
named_turned None b present = none_itself b present
named_turned (Some n) b present = tag_turned (tag_in n b.formatting) n b refl present

after_none : (t : Turn) (name : List ℕ) (further : Building → Building) (b : Building) → IsTurned b t →
    ((d : Building) → IsPresent d → OpensNone d (further d)) → OpensNone b (after_turn t name further b)
after_none (over d) name further b turned more = turned
after_none (again d) name further b turned more = none_on b d (further d) turned (more d)
after_none (other_end d) name further b turned more =
    none_on b d (closed_by_other_end name d) turned (other_end_none name d)

turns_none : (k : ℕ) (name : List ℕ) (b : Building) → IsPresent b → OpensNone b (turns k name b)
turns_none zero name b present = none_itself b present
turns_none (suc k) name b present = after_none (turn name b) name (turns k name) b
    (named_turned (last_named name b.formatting) b present) (turns_none k name)

pub adoption_none : (name : List ℕ) (b : Building) → IsPresent b → OpensNone b (adoption name b)
adoption_none name b present = none_if (is_current_unlisted name b) (popped b) (turns 8 name b) b
    (pop_none b present) (turns_none 8 name b present)
