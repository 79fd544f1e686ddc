-- What a mark comes to in the mode "text" where the body, or a frameset, stands.
use Rattle.std.proofs.Common.{◌≡◌, ℕ, true, false, List, [], ◌∷◌, refl, sym, ap, subst, ◌∙◌}
use Rattle.page_tree_laws.proofs.Acting.{ResetsWell, act_held, all_held}
use Rattle.page_tree_laws.proofs.BuiltRules.{text_takes}
use Rattle.page_tree_laws.proofs.EarlyPhases.{ComesTo}
use Rattle.page_tree_laws.proofs.EvenRows.{AreEven}
use Rattle.page_tree_laws.proofs.FittingPages.{text_left_fits}
use Rattle.page_tree_laws.proofs.Guards.{Guard, HasFreeCurrent, IsGuard}
use Rattle.page_tree_laws.proofs.Steady.{IsSteady, left_text}
use Rattle.tree_names.specs.Groups.{tag_group}
use Rattle.tree_names.specs.declared.group.TagGroup.{TagGroup}
use Rattle.tree_names.specs.declared.group.TagGroup.TheVariants as groups
use Rattle.rules_table.specs.Actions.{Action, act, act_all, go_back, insert_comment, is_text, pop, say}
use Rattle.rules_table.specs.Rule.{rule}
use Rattle.rules_table.specs.State.{TreeToken, State, character, comment, doctype, end_of_file, finish, null, start}
use Rattle.rules_table.specs.Table.{row}
use Rattle.rules_table.specs.TextMode.{text_mode_end}
use Rattle.tree_predicates.specs.declared.modes.InsertionMode.TheVariants as modes

-- characters and comments leave the stack of open elements
said_stack : (cs : List ℕ) (s : State) → (act (say cs) s).tree.stack ≡ s.tree.stack
unfolding act
said_stack cs s = refl

comment_stack : (cs : List ℕ) (s : State) → (act (insert_comment cs) s).tree.stack ≡ s.tree.stack
unfolding act
comment_stack cs s = refl

left_mode : (s : State) → is_text (act_all (pop ∷ go_back ∷ []) s).mode ≡ false
unfolding act
left_mode s = left_text s.original

module _ (g : Guard) (is : IsGuard g) (resets : ResetsWell g) (s : State)
    (at : s.mode ≡ modes.Text) (steady : IsSteady g s)
    (P : State → Type 0)
    (leads : (actions : List Action) → AreEven actions → IsSteady g (act_all actions s) → P (act_all actions s)) where
  free : HasFreeCurrent g s.tree.stack
  free = steady.current (ap is_text at)

  said : (cs : List ℕ) → P (act (say cs) s)
  said cs = leads (say cs ∷ []) (tt, tt) (record {
    held = act_held g is resets (say cs) s tt steady.held;
    current = λ e. subst (HasFreeCurrent g) (sym (said_stack cs s)) free;
  })

  commented : (cs : List ℕ) → P (act (insert_comment cs) s)
  commented cs = leads (insert_comment cs ∷ []) (tt, tt) (record {
    held = act_held g is resets (insert_comment cs) s tt steady.held;
    current = λ e. subst (HasFreeCurrent g) (sym (comment_stack cs s)) free;
  })

  left : P (act_all (pop ∷ go_back ∷ []) s)
  left = leads (pop ∷ go_back ∷ []) (tt, (tt, tt)) (record {
    held = all_held g is resets (pop ∷ go_back ∷ []) s (text_left_fits g s free at) steady.held;
    current = λ e. absurd (let k : true ≡ false = sym e ∙ left_mode s in cc);
  })

  ended : (group : TagGroup) → ComesTo P s (text_mode_end group s)
  ended groups.Script = left
  ended group = left

  text_row : (mark : TreeToken) → ComesTo P s (row modes.Text mark s)
  text_row (character c) = said (c ∷ [])
  text_row null = leads [] tt steady
  text_row (comment cs) = commented cs
  text_row (doctype d) = leads [] tt steady
  text_row (start t) = leads [] tt steady
  text_row (finish t) = ended (tag_group t.name)
  text_row end_of_file = left

  pub text_rule : (mark : TreeToken) → ComesTo P s (rule mark s)
  text_rule mark = text_takes P mark s (ap is_text at)
      (subst (λ m. ComesTo P s (row m mark s)) (sym at) (text_row mark))
