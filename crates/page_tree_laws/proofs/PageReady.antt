-- What holds between two items of a page: what holds of any tree that is built, and that there is no context.
use Rattle.std.proofs.Common.{◌≡◌, ℕ, Option, None, Some, refl, ◌∙◌}
use Rattle.tree_forest.specs.Forest.{Holds}
use Rattle.html_tree_state.specs.Sound.{Sound}
use Rattle.rules_table.specs.Actions as actions
use Rattle.rules_table.specs.Actions.{Action, act}
use Rattle.rules_table.specs.Settling as building
use Rattle.rules_table.specs.State.{State}
use Rattle.rules_table.specs.Welcome as building_laws
use Rattle.rules_table.specs.declared.target.Target.TheVariants as targets

pub record Ready (s : State) : Type 0 where
  pub sound : Sound s.tree
  pub head : (n : ℕ) → s.head ≡ Some n → Holds n s.tree.forest
  pub page : s.context ≡ None

abbrev pub ActionsKeep : Type 0
ActionsKeep = (action : Action) (s : State) → Ready s → Ready (act action s)

no_context : (n : ℕ) (context : Option ℕ) → context ≡ None → ¬ (context ≡ Some n)
no_context n context none e = cc

pub for_building : (s : State) → Ready s → building.Ready s
for_building s ready = record {
  sound = ready.sound;
  head = ready.head;
  context = λ n e. absurd (no_context n s.context ready.page e);
}

pub of_page : (s : State) → building.Ready s → s.context ≡ None → Ready s
of_page s ready page = record { sound = ready.sound; head = ready.head; page = page }

-- no action changes the context
context_stays : (action : Action) (s : State) → (act action s).context ≡ s.context
unfolding act
context_stays (actions.insert targets.AtPlace tag) s = refl
context_stays (actions.insert targets.IntoHead tag) s = refl
context_stays (actions.insert_void targets.AtPlace tag) s = refl
context_stays (actions.insert_void targets.IntoHead tag) s = refl
context_stays (actions.insert_named name) s = refl
context_stays (actions.insert_foreign ns tag) s = refl
context_stays (actions.insert_comment cs) s = refl
context_stays (actions.comment_to_document cs) s = refl
context_stays (actions.comment_to_root cs) s = refl
context_stays (actions.append_doctype d) s = refl
context_stays (actions.set_quirks mode) s = refl
context_stays (actions.say cs) s = refl
context_stays (actions.add_attributes n attributes) s = refl
context_stays (actions.take_out n) s = refl
context_stays (actions.foster is_on) s = refl
context_stays actions.pop s = refl
context_stays (actions.pop_if set) s = refl
context_stays (actions.pop_to set) s = refl
context_stays (actions.pop_down_to set) s = refl
context_stays (actions.take_off n) s = refl
context_stays (actions.imply_but set) s = refl
context_stays actions.close_p s = refl
context_stays (actions.close_item set) s = refl
context_stays (actions.close_other name) s = refl
context_stays actions.break_out s = refl
context_stays (actions.close_foreign name) s = refl
context_stays (actions.insert_formatting tag) s = refl
context_stays actions.reconstruct s = refl
context_stays actions.put_marker s = refl
context_stays actions.clear_to_marker s = refl
context_stays (actions.unlist n) s = refl
context_stays (actions.adopt name) s = refl
context_stays (actions.adopt_in_scope name) s = refl
context_stays (actions.go_to mode) s = refl
context_stays actions.hold_mode s = refl
context_stays actions.go_back s = refl
context_stays (actions.push_template_mode mode) s = refl
context_stays actions.pop_template_mode s = refl
context_stays actions.reset s = refl
context_stays actions.keep_head s = refl
context_stays actions.keep_form s = refl
context_stays actions.forget_form s = refl
context_stays actions.refuse_frameset s = refl
context_stays actions.skip_next_line_feed s = refl
context_stays (actions.keep_pending c) s = refl
context_stays actions.forget_pending s = refl

pub keep_pages : building_laws.ActionsKeep → ActionsKeep
keep_pages keep action s ready =
    of_page (act action s) (keep action s (for_building s ready)) (context_stays action s ∙ ready.page)
