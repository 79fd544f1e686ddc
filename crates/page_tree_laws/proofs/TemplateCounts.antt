-- How many templates are open, and their modes: an action that is even opens none, and leaves the modes as they are.
use Rattle.std.proofs.Common.{◌≡◌, ◌⊎◌, if◌then◌else◌, [], ◌∷◌, Bool, List, None, Option, Some, codes, false, inl, inr}
use Rattle.std.proofs.Common.{refl, true, ℕ}
use Rattle.tree_formatting.specs.Entries.{Entry, before_marker, formatted, marker}
use Rattle.tree_forest.specs.Changes.{with_attributes}
use Rattle.tree_forest.specs.Forest.{Forest, Holds, comment, is_in}
use Rattle.tree_forest.specs.Orders.{IsIn}
use Rattle.tree_forest.specs.Places.{Place, below}
use Rattle.tree_forest.specs.declared.sink.QuirksMode.{QuirksMode}
use Rattle.html_lexemes.specs.declared.names.Attribute.{Attribute}
use Rattle.html_lexemes.specs.declared.names.Namespace.{Namespace}
use Rattle.html_lexemes.specs.declared.token.Doctype.{Doctype}
use Rattle.html_lexemes.specs.declared.token.Tag.{Tag}
use Rattle.html_tree_state.specs.Adoption.{adoption}
use Rattle.html_tree_state.specs.Building.{Building}
use Rattle.html_tree_state.specs.Formatting.{inserted_for, inserted_formatting, name_for, reconstructed}
use Rattle.html_tree_state.specs.Insertions.{commented_at, here, root_of, text_or_none, with_doctype_of}
use Rattle.html_tree_state.specs.Scopes.{is_in_scope}
use Rattle.page_tree_laws.proofs.CleanLists.{AreFormatting, before_marker_formatting}
use Rattle.page_tree_laws.proofs.ForestTexts.{attributes_follow, doctype_follows, leaf_follows}
use Rattle.tree_names.specs.ElementSets.{scope_barriers}
use Rattle.tree_names.specs.Sets.{Elements, is_html, is_one_of}
use Rattle.tree_names.specs.TagSets.{formatting}
use Rattle.tree_names.specs.Wanted.{one}
use Rattle.page_tree_laws.proofs.EvenRows.{IsEven}
use Rattle.page_tree_laws.proofs.FittingSteps.{base_kept, each_open}
use Rattle.page_tree_laws.proofs.Guards.{AreFreeEntries, Guard, IsFree, IsGuarded}
use Rattle.page_tree_laws.proofs.TemplateAdoption.{adoption_none, broken_out_none, closed_item_none, closed_p_none}
use Rattle.page_tree_laws.proofs.TemplateAdoption.{foreign_end_none, implied_none, other_end_none, out_of_place_none}
use Rattle.page_tree_laws.proofs.TemplateAdoption.{pop_none, popped_down_to_none, popped_to_none, taken_off_none}
use Rattle.page_tree_laws.proofs.TemplateAdoption.{unlisted_none}
use Rattle.page_tree_laws.proofs.TemplateLists.{all_fewer}
pub use Rattle.page_tree_laws.proofs.TemplateLists.{one_template_less, templates_in}
use Rattle.page_tree_laws.proofs.TemplateWords.{IsPresent, OpensNone, forest_none, inserted_none, list_none}
use Rattle.page_tree_laws.proofs.TemplateWords.{listed_none, none_if, none_itself, none_on, reconstructed_none}
use Rattle.page_tree_laws.proofs.TemplateWords.{said_none, void_none}
use Rattle.rules_table.specs.Actions.{Action, act, add_attributes, adopt, adopt_in_scope, adopted_in_scope}
use Rattle.rules_table.specs.Actions.{append_doctype, break_out, clear_to_marker, close_foreign, close_item}
use Rattle.rules_table.specs.Actions.{close_other, close_p, comment_to_document, comment_to_root, forget_form}
use Rattle.rules_table.specs.Actions.{forget_pending, foster, given_attributes, go_back, go_to, hold_mode, imply_but}
use Rattle.rules_table.specs.Actions.{in_html, insert, insert_comment, insert_foreign, insert_formatting, insert_named}
use Rattle.rules_table.specs.Actions.{insert_void, inserted_foreign, inserted_into, inserted_void_into, is_current}
use Rattle.rules_table.specs.Actions.{keep_form, keep_head, keep_pending, pop, pop_down_to, pop_if, pop_template_mode}
use Rattle.rules_table.specs.Actions.{pop_to, popped_if, push_template_mode, put_marker, reconstruct, refuse_frameset}
use Rattle.rules_table.specs.Actions.{reset, say, set_quirks, skip_next_line_feed, take_off, take_out, unlist}
use Rattle.rules_table.specs.State.{State}
use Rattle.rules_table.specs.declared.target.Target.TheVariants as targets

-- words of which actions are made
for_none : (tag : Tag) (b : Building) → is_html (codes "template") (name_for tag) ≡ false → IsPresent b →
    OpensNone b (inserted_for tag b)
for_none tag b is present = inserted_none (here b) (name_for tag) tag.attrs b is present

into_none : (head : Option ℕ) (tag : Tag) (b : Building) → is_html (codes "template") (name_for tag) ≡ false →
    IsPresent b → OpensNone b (inserted_into head tag b)
into_none None tag b is present = for_none tag b is present
into_none (Some head) tag b is present = inserted_none (below head) (name_for tag) tag.attrs b is present

void_into_none : (head : Option ℕ) (tag : Tag) (b : Building) → IsPresent b →
    OpensNone b (inserted_void_into head tag b)
void_into_none None tag b present = void_none (here b) (name_for tag) tag.attrs b present
void_into_none (Some head) tag b present = void_none (below head) (name_for tag) tag.attrs b present

foreign_none : (ns : Namespace) (tag : Tag) (b : Building) →
    is_html (codes "template") (record { ns = ns; local = tag.name }) ≡ false → IsPresent b →
    OpensNone b (inserted_foreign ns tag b)
foreign_none ns tag b is present = none_if tag.self_closing _ _ b
    (void_none (here b) (record { ns = ns; local = tag.name }) tag.attrs b present)
    (inserted_none (here b) (record { ns = ns; local = tag.name }) tag.attrs b is present)

comment_none : (place : Place) (cs : List ℕ) (b : Building) → IsPresent b → OpensNone b (commented_at place cs b)
comment_none place cs b present =
    forest_none b (commented_at place cs b).forest (leaf_follows place (comment cs) refl b.forest) present

doctype_none : (doctype : Doctype) (b : Building) → IsPresent b → OpensNone b (with_doctype_of doctype b)
doctype_none doctype b present = forest_none b (with_doctype_of doctype b).forest
    (doctype_follows (text_or_none doctype.name) (text_or_none doctype.public_id) (text_or_none doctype.system_id)
    b.forest) present

given_none : (n : ℕ) (attributes : List Attribute) (b : Building) → IsPresent b →
    OpensNone b (given_attributes n attributes b)
given_none n attributes b present = none_if (is_in n b.stack) _ _ b
    (forest_none b (with_attributes n attributes b.forest) (attributes_follow n attributes b.forest) present)
    (none_itself b present)

popped_if_none : (set : Elements) (b : Building) → IsPresent b → OpensNone b (popped_if set b)
popped_if_none set b present =
    none_if (is_current set b b.stack) _ _ b (pop_none b present) (none_itself b present)

listed_by : (x : Bool) (tag : Tag) (b : Building) → is_one_of formatting tag.name ≡ x →
    is_html (codes "template") (name_for tag) ≡ false → IsPresent b →
    OpensNone b (if x then inserted_formatting tag b else inserted_for tag b)
listed_by true tag b e is present = listed_none tag b e present
listed_by false tag b e is present = for_none tag b is present

adopted_in_scope_none : (name : List ℕ) (b : Building) → IsPresent b → OpensNone b (adopted_in_scope name b)
adopted_in_scope_none name b present = none_if (is_in_scope scope_barriers (one name) b) _ _ b
    (none_on b (adoption name b) (reconstructed (adoption name b)) (adoption_none name b present)
    (reconstructed_none (adoption name b)))
    (none_itself b present)

flagged : (b : Building) (is_on : Bool) → IsPresent b → OpensNone b (record b { fostering = is_on })
flagged b is_on present =
    record {
      fewer = all_fewer b.forest b.stack;
      present = record { held = present.held; listed = present.listed };
    }

with_quirks : (b : Building) (mode : QuirksMode) → IsPresent b → OpensNone b (record b { quirks = mode })
with_quirks b mode present =
    record {
      fewer = all_fewer b.forest b.stack;
      present = record { held = present.held; listed = present.listed };
    }

-- an even action opens no template
pub act_none : (action : Action) → IsEven action → (s : State) → IsPresent s.tree → OpensNone s.tree (act action s).tree
unfolding act
act_none (insert targets.AtPlace tag) is s present = for_none tag s.tree is present
act_none (insert targets.IntoHead tag) is s present = into_none s.head tag s.tree is present
act_none (insert_void targets.AtPlace tag) is s present =
    void_none (here s.tree) (name_for tag) tag.attrs s.tree present
act_none (insert_void targets.IntoHead tag) is s present = void_into_none s.head tag s.tree present
act_none (insert_named name) is s present = inserted_none (here s.tree) (in_html name) [] s.tree is present
act_none (insert_foreign ns tag) is s present = foreign_none ns tag s.tree is present
act_none (insert_comment cs) is s present = comment_none (here s.tree) cs s.tree present
act_none (comment_to_document cs) is s present = comment_none (below 0) cs s.tree present
act_none (comment_to_root cs) is s present = comment_none (below (root_of s.tree.stack)) cs s.tree present
act_none (append_doctype doctype) is s present = doctype_none doctype s.tree present
act_none (set_quirks mode) is s present = with_quirks s.tree mode present
act_none (say cs) is s present = said_none cs s.tree present
act_none (add_attributes n attributes) is s present = given_none n attributes s.tree present
act_none (take_out n) is s present = out_of_place_none n s.tree present
act_none (foster is_on) is s present = flagged s.tree is_on present
act_none pop is s present = pop_none s.tree present
act_none (pop_if set) is s present = popped_if_none set s.tree present
act_none (pop_to set) is s present = popped_to_none set s.tree present
act_none (pop_down_to set) is s present = popped_down_to_none set s.tree present
act_none (take_off n) is s present = taken_off_none n s.tree present
act_none (imply_but set) is s present = implied_none set s.tree present
act_none close_p is s present = closed_p_none s.tree present
act_none (close_item set) is s present = closed_item_none set s.tree present
act_none (close_other name) is s present = other_end_none name s.tree present
act_none break_out is s present = broken_out_none s.tree present
act_none (close_foreign name) is s present = foreign_end_none name s.tree present
act_none (insert_formatting tag) is s present =
    listed_by (is_one_of formatting tag.name) tag s.tree refl is present
act_none reconstruct is s present = reconstructed_none s.tree present
act_none put_marker is s present = list_none s.tree (marker ∷ s.tree.formatting) present.listed present
act_none clear_to_marker is s present = (list_none s.tree (before_marker s.tree.formatting)
    (before_marker_formatting s.tree.formatting present.listed) present)
act_none (unlist n) is s present = unlisted_none n s.tree present
act_none (adopt name) is s present = adoption_none name s.tree present
act_none (adopt_in_scope name) is s present = adopted_in_scope_none name s.tree present
act_none (go_to mode) is s present = none_itself s.tree present
act_none hold_mode is s present = none_itself s.tree present
act_none go_back is s present = none_itself s.tree present
act_none (push_template_mode mode) is s present = absurd is
act_none pop_template_mode is s present = absurd is
act_none reset is s present = none_itself s.tree present
act_none keep_head is s present = none_itself s.tree present
act_none keep_form is s present = none_itself s.tree present
act_none forget_form is s present = none_itself s.tree present
act_none refuse_frameset is s present = none_itself s.tree present
act_none skip_next_line_feed is s present = none_itself s.tree present
act_none (keep_pending c) is s present = none_itself s.tree present
act_none forget_pending is s present = none_itself s.tree present

-- the modes of open templates stay
pub modes_stay : (action : Action) → IsEven action → (s : State) → (act action s).template_modes ≡ s.template_modes
unfolding act
modes_stay (insert targets.AtPlace tag) is s = refl
modes_stay (insert targets.IntoHead tag) is s = refl
modes_stay (insert_void targets.AtPlace tag) is s = refl
modes_stay (insert_void targets.IntoHead tag) is s = refl
modes_stay (push_template_mode mode) is s = absurd is
modes_stay pop_template_mode is s = absurd is
modes_stay action is s = refl

-- in a guarded tree open elements are there, and listed tags are of formatting elements
open_held : (g : Guard) (b : Building) → IsGuarded g b → (n : ℕ) → IsIn n b.stack → Holds n b.forest
open_held g b guarded n i = by (each_open g b.stack guarded.standing n i) where
  by : IsFree g n ⊎ IsIn n (g.top ∷ g.lowest) → Holds n b.forest
  by (inl free) = (guarded.unbarred n i free).0
  by (inr low) = guarded.nodes.held n (base_kept g n low)

tags_listed : (g : Guard) (f : Forest) (es : List Entry) → AreFreeEntries g f es → AreFormatting es
tags_listed g f [] listed = tt
tags_listed g f (marker ∷ rest) listed = tags_listed g f rest listed
tags_listed g f (formatted n tag ∷ rest) listed =
    ((listed n tag (inl (refl, refl))).1.1, tags_listed g f rest (λ m held i. listed m held (inr i)))

pub guarded_present : (g : Guard) (b : Building) → IsGuarded g b → IsPresent b
guarded_present g b guarded = record {
  held = open_held g b guarded;
  listed = tags_listed g b.forest b.formatting guarded.listed;
}
