-- Nothing that is emitted but the end of the page says that it is over, and nothing says that a call was refused.
use Rattle.std.specs.Prelude.{◌≡◌, ◌==◌, ◌&&◌, [], ◌∷◌, if◌then◌else◌, Bool, List, false, fold, refl, suc, true, zero}
use Rattle.std.specs.Prelude.{ℕ}
use Rattle.std.proofs.Common.{ap, ◌∙◌}
use Rattle.token_grammar.specs.Items.{Item}
use Rattle.token_grammar.specs.Items as items
use Rattle.token_grammar.specs.Kinds.{IsWithin}
use Rattle.html_lexemes.specs.declared.token.Tag.{Tag}
use Rattle.rules_table.specs.Actions.{Action, act, act_all, add_attributes, adopt, adopt_in_scope, append_doctype}
use Rattle.rules_table.specs.Actions.{break_out, clear_to_marker, close_foreign, close_item, close_other, close_p}
use Rattle.rules_table.specs.Actions.{comment_to_document, comment_to_root, forget_form, forget_pending, foster}
use Rattle.rules_table.specs.Actions.{go_back, go_to, hold_mode, imply_but, insert, insert_comment, insert_foreign}
use Rattle.rules_table.specs.Actions.{insert_formatting, insert_named, insert_void, keep_form, keep_head, keep_pending}
use Rattle.rules_table.specs.Actions.{pop, pop_down_to, pop_if, pop_template_mode, pop_to, push_template_mode}
use Rattle.rules_table.specs.Actions.{put_marker, reconstruct, refuse_frameset, reset, say, set_quirks}
use Rattle.rules_table.specs.Actions.{skip_next_line_feed, take_off, take_out, unlist}
use Rattle.rules_table.specs.Rank.{rank}
use Rattle.rules_table.specs.Rows.{Row, again, asks, done}
use Rattle.rules_table.specs.Rule.{rule}
use Rattle.rules_table.specs.Settling.{Settled, entered, given_by, mark_by, past_tag, settle, step, taken}
use Rattle.rules_table.specs.Settling.{taken_character}
use Rattle.rules_table.specs.State.{Ask, State, TreeToken, character, comment, doctype, encoding, end_of_file, nothing}
use Rattle.rules_table.specs.State.{null, plaintext, raw, script}
use Rattle.rules_table.specs.declared.target.Target.TheVariants as targets

-- whether the page is over, and whether a call was refused
abbrev Flags : Type 0
Flags = Bool × Bool

abbrev flags : State → Flags
flags s = (s.is_over, s.has_failed)

act-flags : (action : Action) (s : State) → flags (act action s) ≡ flags s
unfolding act
act-flags (insert targets.AtPlace tag) s = refl
act-flags (insert targets.IntoHead tag) s = refl
act-flags (insert_void targets.AtPlace tag) s = refl
act-flags (insert_void targets.IntoHead tag) s = refl
act-flags (insert_named x) s = refl
act-flags (insert_foreign x y) s = refl
act-flags (insert_comment x) s = refl
act-flags (comment_to_document x) s = refl
act-flags (comment_to_root x) s = refl
act-flags (append_doctype x) s = refl
act-flags (set_quirks x) s = refl
act-flags (say x) s = refl
act-flags (add_attributes x y) s = refl
act-flags (take_out x) s = refl
act-flags (foster x) s = refl
act-flags pop s = refl
act-flags (pop_if x) s = refl
act-flags (pop_to x) s = refl
act-flags (pop_down_to x) s = refl
act-flags (take_off x) s = refl
act-flags (imply_but x) s = refl
act-flags close_p s = refl
act-flags (close_item x) s = refl
act-flags (close_other x) s = refl
act-flags break_out s = refl
act-flags (close_foreign x) s = refl
act-flags (insert_formatting x) s = refl
act-flags reconstruct s = refl
act-flags put_marker s = refl
act-flags clear_to_marker s = refl
act-flags (unlist x) s = refl
act-flags (adopt x) s = refl
act-flags (adopt_in_scope x) s = refl
act-flags (go_to x) s = refl
act-flags hold_mode s = refl
act-flags go_back s = refl
act-flags (push_template_mode x) s = refl
act-flags pop_template_mode s = refl
act-flags reset s = refl
act-flags keep_head s = refl
act-flags keep_form s = refl
act-flags forget_form s = refl
act-flags refuse_frameset s = refl
act-flags skip_next_line_feed s = refl
act-flags (keep_pending x) s = refl
act-flags forget_pending s = refl

act_all-flags : (actions : List Action) (s : State) → flags (act_all actions s) ≡ flags s
act_all-flags [] s = refl
act_all-flags (action ∷ actions) s = act_all-flags actions (act action s) ∙ act-flags action s

entered-flags : (ask : Ask) (s : State) → flags (entered ask s) ≡ flags s
entered-flags nothing s = refl
entered-flags plaintext s = refl
entered-flags (raw kind) s = refl
entered-flags (script n) s = refl
entered-flags (encoding name) s = refl

given_by-flags : (row : Row) (s : State) (further : State → Settled) →
    ((t : State) → flags (further t).state ≡ flags t) → flags (given_by row s further).state ≡ flags s
given_by-flags (done actions) s further later = act_all-flags actions s
given_by-flags (asks ask actions) s further later =
    entered-flags ask (act_all actions s) ∙ act_all-flags actions s
given_by-flags (again actions) s further later = later (act_all actions s) ∙ act_all-flags actions s

settle-flags : (k : ℕ) (mark : TreeToken) (s : State) → flags (settle k mark s).state ≡ flags s
settle-flags zero mark s = refl
settle-flags (suc k) mark s = given_by-flags (rule mark s) s (settle k mark) (settle-flags k mark)

taken-flags : (mark : TreeToken) (s : State) → flags (taken mark (past_tag s)).state ≡ flags s
taken-flags mark s = settle-flags (suc (rank mark (past_tag s))) mark (past_tag s)

either-flags : (b : Bool) (s t u : State) → flags s ≡ flags u → flags t ≡ flags u →
    flags (if b then s else t) ≡ flags u
either-flags true s t u p q = p
either-flags false s t u p q = q

characters-flags : (cs : List ℕ) (s : State) → flags (fold taken_character s cs) ≡ flags s
characters-flags [] s = refl
characters-flags (c ∷ cs) s = characters-flags cs (taken_character s c)
    ∙ either-flags (s.skip_lf && c == 10) (past_tag s) (taken (character c) (past_tag s)).state s refl
    (taken-flags (character c) s)

over_of : {one two : Flags} → one ≡ two → one.0 ≡ two.0
over_of e = ap (λ (p : Flags). p.0) e

failed_of : {one two : Flags} → one ≡ two → one.1 ≡ two.1
failed_of e = ap (λ (p : Flags). p.1) e

pub act-works : (action : Action) (s : State) → (act action s).has_failed ≡ s.has_failed
act-works action s = failed_of (act-flags action s)

pub tag-goes_on : (s : State) (t : Tag) → (step s (items.tag t)).is_over ≡ s.is_over
tag-goes_on s t = over_of (taken-flags (mark_by t.kind t) s)

pub step-goes_on : (s : State) (item : Item) → IsWithin item → (step s item).is_over ≡ s.is_over
step-goes_on s (items.characters cs) within = over_of (characters-flags cs s)
step-goes_on s items.null_character within = over_of (taken-flags null s)
step-goes_on s (items.tag t) within = absurd within
step-goes_on s (items.comment cs) within = over_of (taken-flags (comment cs) s)
step-goes_on s (items.doctype d) within = over_of (taken-flags (doctype d) s)
step-goes_on s items.error within = refl
step-goes_on s items.end_of_file within = absurd within

pub step-works : (s : State) (item : Item) → (step s item).has_failed ≡ s.has_failed
step-works s (items.characters cs) = failed_of (characters-flags cs s)
step-works s items.null_character = failed_of (taken-flags null s)
step-works s (items.tag t) = failed_of (taken-flags (mark_by t.kind t) s)
step-works s (items.comment cs) = failed_of (taken-flags (comment cs) s)
step-works s (items.doctype d) = failed_of (taken-flags (doctype d) s)
step-works s items.error = refl
step-works s items.end_of_file = failed_of (taken-flags end_of_file s)
