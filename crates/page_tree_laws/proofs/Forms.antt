-- The form element that is known is one of the nodes.
use Rattle.std.proofs.Common.{◌≡◌, ℕ, ◌≤◌, suc, List, [], ◌∷◌, Option, None, Some, arith}
use Rattle.tree_forest.specs.Forest.{Holds, nodes}
use Rattle.tree_forest.specs.Changes.{made_element}
use Rattle.tree_forest.specs.Places.{Place, below, put_node}
use Rattle.html_tree_state.specs.Building.{Building}
use Rattle.html_tree_state.specs.Formatting.{name_for}
use Rattle.html_tree_state.specs.Insertions.{here, with_element}
use Rattle.page_tree_laws.proofs.ForestTexts.{element_new, new_then, put_follows}
use Rattle.tree_names.specs.Sets.{is_html}
use Rattle.page_tree_laws.proofs.PageReady.{ActionsKeep, Ready}
use Rattle.rules_table.specs.Actions.{Action, act, act_all, forget_form, insert, insert_void, inserted_into}
use Rattle.rules_table.specs.Actions.{inserted_void_into, keep_form, keep_head}
use Rattle.rules_table.specs.State.{State}
use Rattle.rules_table.specs.declared.target.Target.TheVariants as targets
use Rattle.html_lexemes.specs.declared.names.Attribute.{Attribute}
use Rattle.html_lexemes.specs.declared.names.QualName.{QualName}
use Rattle.html_lexemes.specs.declared.token.Tag.{Tag}
use Rattle.tree_predicates.specs.Attributes.{is_html_annotation}

abbrev pub IsFormed : State → Type 0
IsFormed s = (n : ℕ) → s.form ≡ Some n → Holds n s.tree.forest

still : (n x y : ℕ) → suc n ≤ x → x ≤ y → suc n ≤ y
still n x y less most = omega (arith, less, most)

-- an element more takes no node away
larger : (place : Place) (name : QualName) (attributes : List Attribute) (b : Building) →
    nodes b.forest ≤ nodes (with_element place name attributes b).forest
larger place name attributes b =
    let h = made_element name attributes (is_html _ name) (is_html_annotation name attributes) b.forest in
    (new_then name b.forest h (put_node place (nodes b.forest) h)
    (element_new name attributes (is_html _ name) (is_html_annotation name attributes) b.forest)
    (put_follows place (nodes b.forest) h)).follows.size

into_larger : (known : Option ℕ) (tag : Tag) (b : Building) →
    nodes b.forest ≤ nodes (inserted_into known tag b).forest
into_larger None tag b = larger (here b) (name_for tag) tag.attrs b
into_larger (Some n) tag b = larger (below n) (name_for tag) tag.attrs b

void_larger : (known : Option ℕ) (tag : Tag) (b : Building) →
    nodes b.forest ≤ nodes (inserted_void_into known tag b).forest
void_larger None tag b = larger (here b) (name_for tag) tag.attrs b
void_larger (Some n) tag b = larger (below n) (name_for tag) tag.attrs b

-- as if the form were the head
abbrev as_head : State → State
as_head s = record s { head = s.form }

as_ready : (s : State) → Ready s → IsFormed s → Ready (as_head s)
as_ready s ready formed = record { sound = ready.sound; head = formed; page = ready.page }

pub act_formed : ActionsKeep → (action : Action) (s : State) → Ready s → IsFormed s → IsFormed (act action s)
unfolding act
act_formed keep keep_form s ready formed n e = (keep keep_head s ready).head n e
act_formed keep forget_form s ready formed n e = absurd (let k : None ≡ Some n = e in cc)
act_formed keep keep_head s ready formed n e = formed n e
act_formed keep (insert targets.IntoHead tag) s ready formed n e =
    still n (nodes s.tree.forest) (nodes (inserted_into s.head tag s.tree).forest) (formed n e)
    (into_larger s.head tag s.tree)
act_formed keep (insert_void targets.IntoHead tag) s ready formed n e =
    still n (nodes s.tree.forest) (nodes (inserted_void_into s.head tag s.tree).forest) (formed n e)
    (void_larger s.head tag s.tree)
act_formed keep (insert targets.AtPlace tag) s ready formed n e =
    (keep (insert targets.AtPlace tag) (as_head s) (as_ready s ready formed)).head n e
act_formed keep (insert_void targets.AtPlace tag) s ready formed n e =
    (keep (insert_void targets.AtPlace tag) (as_head s) (as_ready s ready formed)).head n e
act_formed keep action s ready formed n e = (keep action (as_head s) (as_ready s ready formed)).head n e

pub all_formed : ActionsKeep → (actions : List Action) (s : State) → Ready s → IsFormed s →
    Ready (act_all actions s) × IsFormed (act_all actions s)
all_formed keep [] s ready formed = (ready, formed)
all_formed keep (action ∷ more) s ready formed =
    all_formed keep more (act action s) (keep action s ready) (act_formed keep action s ready formed)
