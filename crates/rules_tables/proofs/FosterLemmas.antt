-- What is taken with foster parenting is taken as without it, between its beginning and its end.
use Rattle.std.proofs.Common.{◌≡◌, if◌then◌else◌, [], ◌∷◌, ◌++◌, ◌∙◌, Bool, List, None, Option, Some, ap, codes, false}
use Rattle.std.proofs.Common.{refl, sym, true, ℕ}
use Rattle.html_lexemes.specs.declared.token.Tag.{Tag}
use Rattle.tree_names.specs.Wanted.{one}
use Rattle.tree_names.specs.declared.group.TagGroup.{TagGroup}
use Rattle.tree_names.specs.declared.group.TagGroup.TheVariants as groups
use Rattle.rules_actions.specs.Outcomes.{Outcome, came_to, finished, goes_on, outcome}
use Rattle.rules_actions.specs.declared.flow.Flow.{Flow}
use Rattle.rules_actions.specs.declared.flow.Flow.TheVariants as flows
use Rattle.rules_table.specs.Actions.{Action, act, act_all, foster, imply_but, pop_to}
use Rattle.rules_table.specs.Asking.{has_template, in_scope}
use Rattle.rules_table.specs.InBody.{in_body_start}
use Rattle.rules_table.specs.InBodyBlocks.{none}
use Rattle.rules_table.specs.InBodyEnds.{form_pointer_end, in_body_end}
use Rattle.rules_table.specs.Rows.{Row, again, asks, done, fostered, ignored}
use Rattle.rules_table.specs.Settling.{answer_of, entered}
use Rattle.rules_table.specs.State.{Ask, State, encoding, nothing, plaintext, raw, script}

-- Rows of the body read no flag of fostering.
start_reads_none : (group : TagGroup) (t : Tag) (is_on : Bool) (s : State) →
    in_body_start group t (act (foster is_on) s) ≡ in_body_start group t s
unfolding act
start_reads_none groups.Anchor t is_on s = refl
start_reads_none groups.Base t is_on s = refl
start_reads_none groups.Block t is_on s = refl
start_reads_none groups.Body t is_on s = refl
start_reads_none groups.Button t is_on s = refl
start_reads_none groups.Caption t is_on s = refl
start_reads_none groups.Cell t is_on s = refl
start_reads_none groups.Column t is_on s = refl
start_reads_none groups.ColumnGroup t is_on s = refl
start_reads_none groups.Definition t is_on s = refl
start_reads_none groups.Form t is_on s = refl
start_reads_none groups.Formatting t is_on s = refl
start_reads_none groups.Frame t is_on s = refl
start_reads_none groups.Frameset t is_on s = refl
start_reads_none groups.Head t is_on s = refl
start_reads_none groups.Heading t is_on s = refl
start_reads_none groups.HorizontalRule t is_on s = refl
start_reads_none groups.Html t is_on s = refl
start_reads_none groups.Iframe t is_on s = refl
start_reads_none groups.Image t is_on s = refl
start_reads_none groups.Input t is_on s = refl
start_reads_none groups.LineBreak t is_on s = refl
start_reads_none groups.Link t is_on s = refl
start_reads_none groups.ListItem t is_on s = refl
start_reads_none groups.Marked t is_on s = refl
start_reads_none groups.Math t is_on s = refl
start_reads_none groups.Meta t is_on s = refl
start_reads_none groups.NoBreak t is_on s = refl
start_reads_none groups.Noembed t is_on s = refl
start_reads_none groups.Noframes t is_on s = refl
start_reads_none groups.Noscript t is_on s = refl
start_reads_none groups.OptionItem t is_on s = refl
start_reads_none groups.OptionGroup t is_on s = refl
start_reads_none groups.Paragraph t is_on s = refl
start_reads_none groups.Plaintext t is_on s = refl
start_reads_none groups.Preformatted t is_on s = refl
start_reads_none groups.Row t is_on s = refl
start_reads_none groups.RubyBase t is_on s = refl
start_reads_none groups.RubyText t is_on s = refl
start_reads_none groups.Script t is_on s = refl
start_reads_none groups.Section t is_on s = refl
start_reads_none groups.Select t is_on s = refl
start_reads_none groups.Style t is_on s = refl
start_reads_none groups.Svg t is_on s = refl
start_reads_none groups.Table t is_on s = refl
start_reads_none groups.Template t is_on s = refl
start_reads_none groups.Textarea t is_on s = refl
start_reads_none groups.Title t is_on s = refl
start_reads_none groups.VoidPhrase t is_on s = refl
start_reads_none groups.VoidSource t is_on s = refl
start_reads_none groups.Xmp t is_on s = refl
start_reads_none groups.Other t is_on s = refl

pointer_reads_none : (h : Option ℕ) (is_on : Bool) (s : State) →
    form_pointer_end h (act (foster is_on) s) ≡ form_pointer_end h s
unfolding act
pointer_reads_none None is_on s = refl
pointer_reads_none (Some n) is_on s = refl

-- the row of the end tag "form", by what stands for the form that is known
abbrev form_row : State → Row → Row
form_row s known = if has_template s then (if in_scope (one (codes "form")) s
    then done (imply_but none ∷ pop_to (one (codes "form")) ∷ []) else ignored) else known

end_reads_none : (group : TagGroup) (t : Tag) (is_on : Bool) (s : State) →
    in_body_end group t (act (foster is_on) s) ≡ in_body_end group t s
unfolding act
end_reads_none groups.Anchor t is_on s = refl
end_reads_none groups.Base t is_on s = refl
end_reads_none groups.Block t is_on s = refl
end_reads_none groups.Body t is_on s = refl
end_reads_none groups.Button t is_on s = refl
end_reads_none groups.Caption t is_on s = refl
end_reads_none groups.Cell t is_on s = refl
end_reads_none groups.Column t is_on s = refl
end_reads_none groups.ColumnGroup t is_on s = refl
end_reads_none groups.Definition t is_on s = refl
end_reads_none groups.Form t is_on s = ap (form_row s) (pointer_reads_none s.form is_on s)
end_reads_none groups.Formatting t is_on s = refl
end_reads_none groups.Frame t is_on s = refl
end_reads_none groups.Frameset t is_on s = refl
end_reads_none groups.Head t is_on s = refl
end_reads_none groups.Heading t is_on s = refl
end_reads_none groups.HorizontalRule t is_on s = refl
end_reads_none groups.Html t is_on s = refl
end_reads_none groups.Iframe t is_on s = refl
end_reads_none groups.Image t is_on s = refl
end_reads_none groups.Input t is_on s = refl
end_reads_none groups.LineBreak t is_on s = refl
end_reads_none groups.Link t is_on s = refl
end_reads_none groups.ListItem t is_on s = refl
end_reads_none groups.Marked t is_on s = refl
end_reads_none groups.Math t is_on s = refl
end_reads_none groups.Meta t is_on s = refl
end_reads_none groups.NoBreak t is_on s = refl
end_reads_none groups.Noembed t is_on s = refl
end_reads_none groups.Noframes t is_on s = refl
end_reads_none groups.Noscript t is_on s = refl
end_reads_none groups.OptionItem t is_on s = refl
end_reads_none groups.OptionGroup t is_on s = refl
end_reads_none groups.Paragraph t is_on s = refl
end_reads_none groups.Plaintext t is_on s = refl
end_reads_none groups.Preformatted t is_on s = refl
end_reads_none groups.Row t is_on s = refl
end_reads_none groups.RubyBase t is_on s = refl
end_reads_none groups.RubyText t is_on s = refl
end_reads_none groups.Script t is_on s = refl
end_reads_none groups.Section t is_on s = refl
end_reads_none groups.Select t is_on s = refl
end_reads_none groups.Style t is_on s = refl
end_reads_none groups.Svg t is_on s = refl
end_reads_none groups.Table t is_on s = refl
end_reads_none groups.Template t is_on s = refl
end_reads_none groups.Textarea t is_on s = refl
end_reads_none groups.Title t is_on s = refl
end_reads_none groups.VoidPhrase t is_on s = refl
end_reads_none groups.VoidSource t is_on s = refl
end_reads_none groups.Xmp t is_on s = refl
end_reads_none groups.Other t is_on s = refl

-- fostering ends after what a token comes to
abbrev unfostered : {H : Type 0} → Outcome H → Outcome H
unfostered (finished answer s) = finished answer (act (foster false) s)
unfostered (goes_on s) = goes_on (act (foster false) s)

came_unfostered : {H : Type 0} → (flow : Flow H) (s : State) →
    came_to flow (act (foster false) s) ≡ unfostered (came_to flow s)
came_unfostered flows.Done s = refl
came_unfostered (flows.Asks answer) s = refl
came_unfostered flows.Again s = refl

act_all_over : (first later : List Action) (s : State) → act_all (first ++ later) s ≡ act_all later (act_all first s)
act_all_over [] later s = refl
act_all_over (action ∷ actions) later s = act_all_over actions later (act action s)

entered_unfostered : (ask : Ask) (s : State) → act (foster false) (entered ask s) ≡ entered ask (act (foster false) s)
unfolding act
entered_unfostered nothing s = refl
entered_unfostered plaintext s = refl
entered_unfostered (raw kind) s = refl
entered_unfostered (script n) s = refl
entered_unfostered (encoding name) s = refl

-- all actions between the beginning and the end
between : (actions : List Action) (s : State) →
    act (foster false) (act_all actions (act (foster true) s))
    ≡ act_all (foster true ∷ actions ++ foster false ∷ []) s
between actions s = sym (act_all_over actions (foster false ∷ []) (act (foster true) s))

outcome_unfostered : {H : Type 0} → (handle : ℕ → H) (row : Row) (s : State) →
    unfostered (outcome handle row (act (foster true) s)) ≡ outcome handle (fostered row) s
outcome_unfostered handle (done actions) s = ap (finished (answer_of handle nothing)) (between actions s)
outcome_unfostered handle (asks ask actions) s =
    ap (finished (answer_of handle ask)) (entered_unfostered ask (act_all actions (act (foster true) s))
    ∙ ap (entered ask) (between actions s))
outcome_unfostered handle (again actions) s = ap goes_on (between actions s)

-- A row that is taken at a state with fostering, and is that of the state before.
taken_fostered : {H : Type 0} → (handle : ℕ → H) (row now : Row) (flow : Flow H) (old begun taken new : State) →
    now ≡ row → begun ≡ act (foster true) old → came_to flow taken ≡ outcome handle now begun →
    new ≡ act (foster false) taken → came_to flow new ≡ outcome handle (fostered row) old
taken_fostered handle row now flow old begun taken new same begins came ends =
    ap (came_to flow) ends ∙ (came_unfostered flow taken ∙ (ap unfostered (came
    ∙ (ap (λ (r : Row). outcome handle r begun) same ∙ ap (outcome handle row) begins))
    ∙ outcome_unfostered handle row old))

pub started_fostered : {H : Type 0} → (handle : ℕ → H) (group : TagGroup) (t : Tag) (flow : Flow H)
    (old begun taken new : State) → begun ≡ act (foster true) old →
    came_to flow taken ≡ outcome handle (in_body_start group t begun) begun → new ≡ act (foster false) taken →
    came_to flow new ≡ outcome handle (fostered (in_body_start group t old)) old
started_fostered handle group t flow old begun taken new begins came ends =
    taken_fostered handle (in_body_start group t old) (in_body_start group t begun) flow old begun taken new
    (ap (in_body_start group t) begins ∙ start_reads_none group t true old) begins came ends

pub ended_fostered : {H : Type 0} → (handle : ℕ → H) (group : TagGroup) (t : Tag) (flow : Flow H)
    (old begun taken new : State) → begun ≡ act (foster true) old →
    came_to flow taken ≡ outcome handle (in_body_end group t begun) begun → new ≡ act (foster false) taken →
    came_to flow new ≡ outcome handle (fostered (in_body_end group t old)) old
ended_fostered handle group t flow old begun taken new begins came ends =
    taken_fostered handle (in_body_end group t old) (in_body_end group t begun) flow old begun taken new
    (ap (in_body_end group t) begins ∙ end_reads_none group t true old) begins came ends
