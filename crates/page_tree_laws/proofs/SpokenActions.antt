-- What actions say, and that they keep the open elements clean where they insert no element of a barred name.
use Rattle.std.proofs.Common.{◌≡◌, ◌+◌, if◌then◌else◌, [], ◌∷◌, Bool, List, None, Option, Some, arith, false, refl}
use Rattle.std.proofs.Common.{true, ℕ}
use Rattle.tree_formatting.specs.Entries.{before_marker, marker}
use Rattle.tree_forest.specs.Forest.{comment, is_in}
use Rattle.tree_forest.specs.Changes.{with_attributes}
use Rattle.tree_forest.specs.Places.{Place, below}
use Rattle.tree_forest.specs.declared.sink.QuirksMode.{QuirksMode}
use Rattle.html_lexemes.specs.declared.names.Attribute.{Attribute}
use Rattle.html_lexemes.specs.declared.names.Namespace.{Namespace}
use Rattle.html_lexemes.specs.declared.token.Doctype.{Doctype}
use Rattle.html_lexemes.specs.declared.token.Tag.{Tag}
use Rattle.html_tree_state.specs.Adoption.{adoption}
use Rattle.html_tree_state.specs.Building.{Building}
use Rattle.html_tree_state.specs.Formatting.{inserted_for, inserted_formatting, name_for, reconstructed}
use Rattle.html_tree_state.specs.Insertions.{commented_at, here, root_of, text_or_none, with_doctype_of}
use Rattle.html_tree_state.specs.Scopes.{is_in_scope}
use Rattle.tree_names.specs.ElementSets.{scope_barriers}
use Rattle.tree_names.specs.Sets.{Elements, is_one_of}
use Rattle.tree_names.specs.TagSets.{formatting}
use Rattle.tree_names.specs.Wanted.{one}
use Rattle.rules_table.specs.Actions.{Action, act, act_all, add_attributes, adopt, adopt_in_scope, adopted_in_scope}
use Rattle.rules_table.specs.Actions.{append_doctype, break_out, clear_to_marker, close_foreign, close_item}
use Rattle.rules_table.specs.Actions.{close_other, close_p, comment_to_document, comment_to_root, forget_form}
use Rattle.rules_table.specs.Actions.{forget_pending, foster, given_attributes, go_back, go_to, hold_mode, imply_but}
use Rattle.rules_table.specs.Actions.{in_html, insert, insert_comment, insert_foreign, insert_formatting, insert_named}
use Rattle.rules_table.specs.Actions.{insert_void, inserted_foreign, inserted_into, inserted_void_into, is_current}
use Rattle.rules_table.specs.Actions.{keep_form, keep_head, keep_pending, pop, pop_down_to, pop_if, pop_template_mode}
use Rattle.rules_table.specs.Actions.{pop_to, popped_if, push_template_mode, put_marker, reconstruct, refuse_frameset}
use Rattle.rules_table.specs.Actions.{reset, say, set_quirks, skip_next_line_feed, take_off, take_out, unlist}
use Rattle.rules_table.specs.State.{State}
use Rattle.rules_table.specs.declared.target.Target.TheVariants as targets
use Rattle.page_tree_laws.proofs.CleanAdoption.{adoption_carried, broken_out_carried, closed_item_carried}
use Rattle.page_tree_laws.proofs.CleanAdoption.{closed_p_carried, foreign_end_carried, implied_carried}
use Rattle.page_tree_laws.proofs.CleanAdoption.{other_end_carried, out_of_place_carried, pop_carried}
use Rattle.page_tree_laws.proofs.CleanAdoption.{popped_down_to_carried, popped_to_carried, taken_off_carried}
use Rattle.page_tree_laws.proofs.CleanAdoption.{unlisted_carried}
use Rattle.page_tree_laws.proofs.CleanLists.{before_marker_formatting, is_barred}
use Rattle.page_tree_laws.proofs.CleanWords.{IsCarried, IsClean, IsSpoken, carried_if, carried_itself, carried_on}
use Rattle.page_tree_laws.proofs.CleanWords.{carried_silent, forest_carried, inserted_carried, list_carried}
use Rattle.page_tree_laws.proofs.CleanWords.{listed_carried, reconstructed_carried, said_spoken, void_carried}
use Rattle.page_tree_laws.proofs.ForestTexts.{attributes_follow, doctype_follows, leaf_follows}
use Rattle.page_tree_laws.specs.KeptText.{how_often, in_texts}

-- the characters that an action says, and whether it opens no element of a barred name
abbrev pub said_by : Action → List ℕ
said_by (say cs) = cs
said_by _ = []

abbrev pub IsNamed : Action → Type 0
IsNamed (insert at tag) = is_barred (name_for tag) ≡ false
IsNamed (insert_named name) = is_barred (in_html name) ≡ false
IsNamed (insert_foreign ns tag) = is_barred (record { ns = ns; local = tag.name }) ≡ false
IsNamed (insert_formatting tag) = is_barred (name_for tag) ≡ false
IsNamed _ = Unit {0}

-- words of which actions are made
for_carried : (tag : Tag) (b : Building) → is_barred (name_for tag) ≡ false → IsClean b →
    IsCarried b (inserted_for tag b)
for_carried tag b is clean = inserted_carried (here b) (name_for tag) tag.attrs b is clean

into_carried : (head : Option ℕ) (tag : Tag) (b : Building) → is_barred (name_for tag) ≡ false → IsClean b →
    IsCarried b (inserted_into head tag b)
into_carried None tag b is clean = for_carried tag b is clean
into_carried (Some head) tag b is clean = inserted_carried (below head) (name_for tag) tag.attrs b is clean

void_into_carried : (head : Option ℕ) (tag : Tag) (b : Building) → IsClean b →
    IsCarried b (inserted_void_into head tag b)
void_into_carried None tag b clean = void_carried (here b) (name_for tag) tag.attrs b clean
void_into_carried (Some head) tag b clean = void_carried (below head) (name_for tag) tag.attrs b clean

foreign_carried : (ns : Namespace) (tag : Tag) (b : Building) →
    is_barred (record { ns = ns; local = tag.name }) ≡ false → IsClean b → IsCarried b (inserted_foreign ns tag b)
foreign_carried ns tag b is clean = carried_if tag.self_closing _ _ b
    (void_carried (here b) (record { ns = ns; local = tag.name }) tag.attrs b clean)
    (inserted_carried (here b) (record { ns = ns; local = tag.name }) tag.attrs b is clean)

comment_carried : (place : Place) (cs : List ℕ) (b : Building) → IsClean b → IsCarried b (commented_at place cs b)
comment_carried place cs b clean =
    forest_carried b (commented_at place cs b).forest (leaf_follows place (comment cs) refl b.forest) clean

doctype_carried : (doctype : Doctype) (b : Building) → IsClean b → IsCarried b (with_doctype_of doctype b)
doctype_carried doctype b clean = forest_carried b (with_doctype_of doctype b).forest
    (doctype_follows (text_or_none doctype.name) (text_or_none doctype.public_id) (text_or_none doctype.system_id)
    b.forest) clean

given_carried : (n : ℕ) (attributes : List Attribute) (b : Building) → IsClean b →
    IsCarried b (given_attributes n attributes b)
given_carried n attributes b clean = carried_if (is_in n b.stack) _ _ b
    (forest_carried b (with_attributes n attributes b.forest) (attributes_follow n attributes b.forest) clean)
    (carried_itself b clean)

popped_if_carried : (set : Elements) (b : Building) → IsClean b → IsCarried b (popped_if set b)
popped_if_carried set b clean =
    carried_if (is_current set b b.stack) _ _ b (pop_carried b clean) (carried_itself b clean)

listed_by : (x : Bool) (tag : Tag) (b : Building) → is_one_of formatting tag.name ≡ x →
    is_barred (name_for tag) ≡ false → IsClean b →
    IsCarried b (if x then inserted_formatting tag b else inserted_for tag b)
listed_by true tag b e is clean = listed_carried tag b e clean
listed_by false tag b e is clean = for_carried tag b is clean

adopted_in_scope_carried : (name : List ℕ) (b : Building) → IsClean b → IsCarried b (adopted_in_scope name b)
adopted_in_scope_carried name b clean = carried_if (is_in_scope scope_barriers (one name) b) _ _ b
    (carried_on b (adoption name b) (reconstructed (adoption name b)) (adoption_carried name b clean)
    (reconstructed_carried (adoption name b)))
    (carried_itself b clean)

flagged : (b : Building) (is_on : Bool) → IsClean b → IsCarried b (record b { fostering = is_on })
flagged b is_on clean =
    record { texts = λ c. refl; clean = record { free = clean.free; listed = clean.listed } }

with_quirks : (b : Building) (mode : QuirksMode) → IsClean b → IsCarried b (record b { quirks = mode })
with_quirks b mode clean =
    record { texts = λ c. refl; clean = record { free = clean.free; listed = clean.listed } }

by : (s : State) (b : Building) → IsCarried s.tree b → IsSpoken [] s.tree b
by s b step = carried_silent s.tree b step

-- what one action says
pub act_spoken : (action : Action) → IsNamed action → (s : State) → IsClean s.tree →
    IsSpoken (said_by action) s.tree (act action s).tree
unfolding act
act_spoken (insert targets.AtPlace tag) is s clean = by s _ (for_carried tag s.tree is clean)
act_spoken (insert targets.IntoHead tag) is s clean = by s _ (into_carried s.head tag s.tree is clean)
act_spoken (insert_void targets.AtPlace tag) is s clean =
    by s _ (void_carried (here s.tree) (name_for tag) tag.attrs s.tree clean)
act_spoken (insert_void targets.IntoHead tag) is s clean = by s _ (void_into_carried s.head tag s.tree clean)
act_spoken (insert_named name) is s clean = by s _ (inserted_carried (here s.tree) (in_html name) [] s.tree is clean)
act_spoken (insert_foreign ns tag) is s clean = by s _ (foreign_carried ns tag s.tree is clean)
act_spoken (insert_comment cs) is s clean = by s _ (comment_carried (here s.tree) cs s.tree clean)
act_spoken (comment_to_document cs) is s clean = by s _ (comment_carried (below 0) cs s.tree clean)
act_spoken (comment_to_root cs) is s clean = by s _ (comment_carried (below (root_of s.tree.stack)) cs s.tree clean)
act_spoken (append_doctype doctype) is s clean = by s _ (doctype_carried doctype s.tree clean)
act_spoken (set_quirks mode) is s clean = by s _ (with_quirks s.tree mode clean)
act_spoken (say cs) is s clean = said_spoken cs s.tree clean
act_spoken (add_attributes n attributes) is s clean = by s _ (given_carried n attributes s.tree clean)
act_spoken (take_out n) is s clean = by s _ (out_of_place_carried n s.tree clean)
act_spoken (foster is_on) is s clean = by s _ (flagged s.tree is_on clean)
act_spoken pop is s clean = by s _ (pop_carried s.tree clean)
act_spoken (pop_if set) is s clean = by s _ (popped_if_carried set s.tree clean)
act_spoken (pop_to set) is s clean = by s _ (popped_to_carried set s.tree clean)
act_spoken (pop_down_to set) is s clean = by s _ (popped_down_to_carried set s.tree clean)
act_spoken (take_off n) is s clean = by s _ (taken_off_carried n s.tree clean)
act_spoken (imply_but set) is s clean = by s _ (implied_carried set s.tree clean)
act_spoken close_p is s clean = by s _ (closed_p_carried s.tree clean)
act_spoken (close_item set) is s clean = by s _ (closed_item_carried set s.tree clean)
act_spoken (close_other name) is s clean = by s _ (other_end_carried name s.tree clean)
act_spoken break_out is s clean = by s _ (broken_out_carried s.tree clean)
act_spoken (close_foreign name) is s clean = by s _ (foreign_end_carried name s.tree clean)
act_spoken (insert_formatting tag) is s clean =
    by s _ (listed_by (is_one_of formatting tag.name) tag s.tree refl is clean)
act_spoken reconstruct is s clean = by s _ (reconstructed_carried s.tree clean)
act_spoken put_marker is s clean = by s _ (list_carried s.tree (marker ∷ s.tree.formatting) clean.listed clean)
act_spoken clear_to_marker is s clean = by s _ (list_carried s.tree (before_marker s.tree.formatting)
    (before_marker_formatting s.tree.formatting clean.listed) clean)
act_spoken (unlist n) is s clean = by s _ (unlisted_carried n s.tree clean)
act_spoken (adopt name) is s clean = by s _ (adoption_carried name s.tree clean)
act_spoken (adopt_in_scope name) is s clean = by s _ (adopted_in_scope_carried name s.tree clean)
act_spoken (go_to mode) is s clean = by s _ (carried_itself s.tree clean)
act_spoken hold_mode is s clean = by s _ (carried_itself s.tree clean)
act_spoken go_back is s clean = by s _ (carried_itself s.tree clean)
act_spoken (push_template_mode mode) is s clean = by s _ (carried_itself s.tree clean)
act_spoken pop_template_mode is s clean = by s _ (carried_itself s.tree clean)
act_spoken reset is s clean = by s _ (carried_itself s.tree clean)
act_spoken keep_head is s clean = by s _ (carried_itself s.tree clean)
act_spoken keep_form is s clean = by s _ (carried_itself s.tree clean)
act_spoken forget_form is s clean = by s _ (carried_itself s.tree clean)
act_spoken refuse_frameset is s clean = by s _ (carried_itself s.tree clean)
act_spoken skip_next_line_feed is s clean = by s _ (carried_itself s.tree clean)
act_spoken (keep_pending c) is s clean = by s _ (carried_itself s.tree clean)
act_spoken forget_pending is s clean = by s _ (carried_itself s.tree clean)

-- and what many say, one after the other
abbrev pub AreNamed : List Action → Type 0
AreNamed [] = Unit {0}
AreNamed (action ∷ actions) = IsNamed action × AreNamed actions

abbrev pub uttered : ℕ → List Action → ℕ
uttered c [] = 0
uttered c (action ∷ actions) = how_often c (said_by action) + uttered c actions

pub record AreSpoken (actions : List Action) (b d : Building) : Type 0 where
  pub texts : (c : ℕ) → in_texts c d.forest ≡ in_texts c b.forest + uttered c actions
  pub clean : IsClean d

both_said : (x y z u v : ℕ) → y ≡ x + u → z ≡ y + v → z ≡ x + (u + v)
both_said x y z u v e h = omega (arith, e, h)

nothing_said : (x : ℕ) → x ≡ x + 0
nothing_said x = omega arith

pub all_spoken : (actions : List Action) → AreNamed actions → (s : State) → IsClean s.tree →
    AreSpoken actions s.tree (act_all actions s).tree
all_spoken [] are s clean = record { texts = λ c. nothing_said (in_texts c s.tree.forest); clean = clean }
all_spoken (action ∷ actions) are s clean =
    let first = act_spoken action are.0 s clean in
    let rest = all_spoken actions are.1 (act action s) first.clean in
    record {
      texts = λ c. both_said (in_texts c s.tree.forest) (in_texts c (act action s).tree.forest)
          (in_texts c (act_all actions (act action s)).tree.forest) (how_often c (said_by action)) (uttered c actions)
          (first.texts c) (rest.texts c);
      clean = rest.clean;
    }
