-- Tree construction hears what it asks for (WHATWG HTML, 13.2.6.2): the mode "text" is entered only where the text of
-- an element is asked for, and left only after an end tag.
use Rattle.std.specs.Prelude.{◌≡◌, ◌==◌, ◌&&◌, ◌||◌, [], ◌∷◌, if◌then◌else◌, Bool, List, false, fold, refl, suc, true}
use Rattle.std.specs.Prelude.{zero, ℕ}
use Rattle.std.proofs.Common.{sym, ap, subst, ◌∙◌}
use Rattle.token_grammar.specs.Items.{Item}
use Rattle.token_grammar.specs.Items as items
use Rattle.token_grammar.specs.Kinds.{IsHearing, IsOf, IsOfTag, IsWithin}
use Rattle.token_grammar.specs.Modes.{text_after}
use Rattle.token_grammar.specs.declared.modes.TextKind.TheVariants.{Plain, Raw}
use Rattle.html_lexemes.specs.declared.states.RawKind.{RawKind}
use Rattle.html_lexemes.specs.declared.token.Doctype.{Doctype}
use Rattle.html_lexemes.specs.declared.token.Tag.{Tag}
use Rattle.html_lexemes.specs.declared.token.TagKind.{TagKind}
use Rattle.html_lexemes.specs.declared.token.TagKind.TheVariants.{EndTag, StartTag}
use Rattle.tree_names.specs.Groups.{tag_group}
use Rattle.tree_names.specs.declared.group.TagGroup.{TagGroup}
use Rattle.tree_names.specs.declared.group.TagGroup.TheVariants as groups
use Rattle.rules_table_laws.specs.Flags.{step-goes_on, step-works, tag-goes_on}
use Rattle.rules_table.specs.Actions.{Action, act, act_all, add_attributes, adopt, adopt_in_scope, append_doctype}
use Rattle.rules_table.specs.Actions.{break_out, but_text, clear_to_marker, close_foreign, close_item, close_other}
use Rattle.rules_table.specs.Actions.{close_p, comment_to_document, comment_to_root, forget_form, forget_pending}
use Rattle.rules_table.specs.Actions.{foster, go_back, go_to, hold_mode, imply_but, insert, insert_comment}
use Rattle.rules_table.specs.Actions.{insert_foreign, insert_formatting, insert_named, insert_void, is_text, keep_form}
use Rattle.rules_table.specs.Actions.{keep_head, keep_pending, out_of_text, pop, pop_down_to, pop_if, pop_template_mode}
use Rattle.rules_table.specs.Actions.{pop_to, push_template_mode, put_marker, reconstruct, refuse_frameset, reset, say}
use Rattle.rules_table.specs.Actions.{set_quirks, skip_next_line_feed, take_off, take_out, unlist}
use Rattle.rules_table.specs.ForeignContent.{foreign_text, is_by_mode, is_taken_at, node_here}
use Rattle.rules_table.specs.Rank.{rank}
use Rattle.rules_table.specs.Rows.{Row, TextRow, again, asks, done, dropped, for_character, for_null, is_white_space}
use Rattle.rules_table.specs.Rows.{kept, said_after, then_again}
use Rattle.rules_table.specs.Rule.{foreign_row, rule}
use Rattle.rules_table.specs.Settling.{Settled, answer_of, entered, given_by, mark_by, meaning, past_tag, reply, settle}
use Rattle.rules_table.specs.Settling.{step, taken, taken_character}
use Rattle.rules_table.specs.State.{Ask, State, TreeToken, character, comment, doctype, encoding, end_of_file, finish}
use Rattle.rules_table.specs.State.{nothing, null, plaintext, raw, script, start}
use Rattle.rules_table.specs.Table.{comment_row, doctype_row, row, text_row}
use Rattle.rules_table.specs.TextMode.{text_mode_end}
use Rattle.rules_table.specs.Welcome.{IsHeard, IsWelcome}
use Rattle.rules_table.specs.declared.target.Target.TheVariants as targets
use Rattle.tree_predicates.specs.declared.modes.InsertionMode.{InsertionMode}
use Rattle.tree_predicates.specs.declared.modes.InsertionMode.TheVariants as modes

-- no action leads into the mode "text"
but_text-stays : (mode : InsertionMode) → is_text (but_text mode) ≡ false
but_text-stays modes.Initial = refl
but_text-stays modes.BeforeHtml = refl
but_text-stays modes.BeforeHead = refl
but_text-stays modes.InHead = refl
but_text-stays modes.InHeadNoscript = refl
but_text-stays modes.AfterHead = refl
but_text-stays modes.InBody = refl
but_text-stays modes.Text = refl
but_text-stays modes.InTable = refl
but_text-stays modes.InTableText = refl
but_text-stays modes.InCaption = refl
but_text-stays modes.InColumnGroup = refl
but_text-stays modes.InTableBody = refl
but_text-stays modes.InRow = refl
but_text-stays modes.InCell = refl
but_text-stays modes.InTemplate = refl
but_text-stays modes.AfterBody = refl
but_text-stays modes.InFrameset = refl
but_text-stays modes.AfterFrameset = refl
but_text-stays modes.AfterAfterBody = refl
but_text-stays modes.AfterAfterFrameset = refl

out_of_text-stays : (mode : InsertionMode) → is_text (out_of_text mode) ≡ false
out_of_text-stays modes.Initial = refl
out_of_text-stays modes.BeforeHtml = refl
out_of_text-stays modes.BeforeHead = refl
out_of_text-stays modes.InHead = refl
out_of_text-stays modes.InHeadNoscript = refl
out_of_text-stays modes.AfterHead = refl
out_of_text-stays modes.InBody = refl
out_of_text-stays modes.Text = refl
out_of_text-stays modes.InTable = refl
out_of_text-stays modes.InTableText = refl
out_of_text-stays modes.InCaption = refl
out_of_text-stays modes.InColumnGroup = refl
out_of_text-stays modes.InTableBody = refl
out_of_text-stays modes.InRow = refl
out_of_text-stays modes.InCell = refl
out_of_text-stays modes.InTemplate = refl
out_of_text-stays modes.AfterBody = refl
out_of_text-stays modes.InFrameset = refl
out_of_text-stays modes.AfterFrameset = refl
out_of_text-stays modes.AfterAfterBody = refl
out_of_text-stays modes.AfterAfterFrameset = refl

act-stays : (action : Action) (s : State) → is_text s.mode ≡ false → is_text (act action s).mode ≡ false
unfolding act
act-stays (insert targets.AtPlace tag) s h = h
act-stays (insert targets.IntoHead tag) s h = h
act-stays (insert_void targets.AtPlace tag) s h = h
act-stays (insert_void targets.IntoHead tag) s h = h
act-stays (insert_named x) s h = h
act-stays (insert_foreign x y) s h = h
act-stays (insert_comment x) s h = h
act-stays (comment_to_document x) s h = h
act-stays (comment_to_root x) s h = h
act-stays (append_doctype x) s h = h
act-stays (set_quirks x) s h = h
act-stays (say x) s h = h
act-stays (add_attributes x y) s h = h
act-stays (take_out x) s h = h
act-stays (foster x) s h = h
act-stays pop s h = h
act-stays (pop_if x) s h = h
act-stays (pop_to x) s h = h
act-stays (pop_down_to x) s h = h
act-stays (take_off x) s h = h
act-stays (imply_but x) s h = h
act-stays close_p s h = h
act-stays (close_item x) s h = h
act-stays (close_other x) s h = h
act-stays break_out s h = h
act-stays (close_foreign x) s h = h
act-stays (insert_formatting x) s h = h
act-stays reconstruct s h = h
act-stays put_marker s h = h
act-stays clear_to_marker s h = h
act-stays (unlist x) s h = h
act-stays (adopt x) s h = h
act-stays (adopt_in_scope x) s h = h
act-stays (go_to x) s h = but_text-stays x
act-stays hold_mode s h = h
act-stays go_back s h = out_of_text-stays s.original
act-stays (push_template_mode x) s h = h
act-stays pop_template_mode s h = h
act-stays reset s h = but_text-stays _
act-stays keep_head s h = h
act-stays keep_form s h = h
act-stays forget_form s h = h
act-stays refuse_frameset s h = h
act-stays skip_next_line_feed s h = h
act-stays (keep_pending x) s h = h
act-stays forget_pending s h = h

act_all-stays : (actions : List Action) (s : State) → is_text s.mode ≡ false → is_text (act_all actions s).mode ≡ false
act_all-stays [] s h = h
act_all-stays (action ∷ actions) s h = act_all-stays actions (act action s) (act-stays action s h)

-- a mark that is no tag asks for nothing
abbrev IsQuiet : Row → Type 0
IsQuiet (done actions) = Unit {0}
IsQuiet (asks ask actions) = ⊥
IsQuiet (again actions) = Unit {0}

for_character-quiet : (c : ℕ) (r : TextRow) → IsQuiet (for_character c r)
for_character-quiet c dropped = tt
for_character-quiet c (said_after actions) = tt
for_character-quiet c kept = tt
for_character-quiet c (then_again actions) = tt

for_null-quiet : (r : TextRow) → IsQuiet (for_null r)
for_null-quiet dropped = tt
for_null-quiet (said_after actions) = tt
for_null-quiet kept = tt
for_null-quiet (then_again actions) = tt

comment_row-quiet : (mode : InsertionMode) (cs : List ℕ) (s : State) → IsQuiet (comment_row mode cs s)
comment_row-quiet modes.Initial cs s = tt
comment_row-quiet modes.BeforeHtml cs s = tt
comment_row-quiet modes.BeforeHead cs s = tt
comment_row-quiet modes.InHead cs s = tt
comment_row-quiet modes.InHeadNoscript cs s = tt
comment_row-quiet modes.AfterHead cs s = tt
comment_row-quiet modes.InBody cs s = tt
comment_row-quiet modes.Text cs s = tt
comment_row-quiet modes.InTable cs s = tt
comment_row-quiet modes.InTableText cs s = tt
comment_row-quiet modes.InCaption cs s = tt
comment_row-quiet modes.InColumnGroup cs s = tt
comment_row-quiet modes.InTableBody cs s = tt
comment_row-quiet modes.InRow cs s = tt
comment_row-quiet modes.InCell cs s = tt
comment_row-quiet modes.InTemplate cs s = tt
comment_row-quiet modes.AfterBody cs s = tt
comment_row-quiet modes.InFrameset cs s = tt
comment_row-quiet modes.AfterFrameset cs s = tt
comment_row-quiet modes.AfterAfterBody cs s = tt
comment_row-quiet modes.AfterAfterFrameset cs s = tt

-- one of two rows
either-quiet : (b : Bool) (r q : Row) → IsQuiet r → IsQuiet q → IsQuiet (if b then r else q)
either-quiet true r q h i = h
either-quiet false r q h i = i

doctype_row-quiet : (mode : InsertionMode) (d : Doctype) (s : State) → IsQuiet (doctype_row mode d s)
doctype_row-quiet modes.Initial d s = either-quiet s.options.drop_doctype _ _ tt tt
doctype_row-quiet modes.BeforeHtml d s = tt
doctype_row-quiet modes.BeforeHead d s = tt
doctype_row-quiet modes.InHead d s = tt
doctype_row-quiet modes.InHeadNoscript d s = tt
doctype_row-quiet modes.AfterHead d s = tt
doctype_row-quiet modes.InBody d s = tt
doctype_row-quiet modes.Text d s = tt
doctype_row-quiet modes.InTable d s = tt
doctype_row-quiet modes.InTableText d s = tt
doctype_row-quiet modes.InCaption d s = tt
doctype_row-quiet modes.InColumnGroup d s = tt
doctype_row-quiet modes.InTableBody d s = tt
doctype_row-quiet modes.InRow d s = tt
doctype_row-quiet modes.InCell d s = tt
doctype_row-quiet modes.InTemplate d s = tt
doctype_row-quiet modes.AfterBody d s = tt
doctype_row-quiet modes.InFrameset d s = tt
doctype_row-quiet modes.AfterFrameset d s = tt
doctype_row-quiet modes.AfterAfterBody d s = tt
doctype_row-quiet modes.AfterAfterFrameset d s = tt

abbrev IsNoTag : TreeToken → Type 0
IsNoTag (character c) = Unit {0}
IsNoTag null = Unit {0}
IsNoTag (comment cs) = Unit {0}
IsNoTag (doctype d) = Unit {0}
IsNoTag (start t) = ⊥
IsNoTag (finish t) = ⊥
IsNoTag end_of_file = ⊥

row-quiet : (mark : TreeToken) (mode : InsertionMode) (s : State) → IsNoTag mark → IsQuiet (row mode mark s)
row-quiet (character c) mode s h = for_character-quiet c (text_row mode (is_white_space c) s)
row-quiet null mode s h = for_null-quiet (text_row mode false s)
row-quiet (comment cs) mode s h = comment_row-quiet mode cs s
row-quiet (doctype d) mode s h = doctype_row-quiet mode d s
row-quiet (start t) mode s h = absurd h
row-quiet (finish t) mode s h = absurd h
row-quiet end_of_file mode s h = absurd h

foreign_row-quiet : (mark : TreeToken) (s : State) → IsNoTag mark → IsQuiet (foreign_row mark s)
foreign_row-quiet (character c) s h = for_character-quiet c (foreign_text (is_white_space c))
foreign_row-quiet null s h = tt
foreign_row-quiet (comment cs) s h = tt
foreign_row-quiet (doctype d) s h = tt
foreign_row-quiet (start t) s h = absurd h
foreign_row-quiet (finish t) s h = absurd h
foreign_row-quiet end_of_file s h = absurd h

rule-quiet : (mark : TreeToken) (s : State) → IsNoTag mark → IsQuiet (rule mark s)
rule-quiet mark s h =
    either-quiet (is_by_mode mark s) _ _ (row-quiet mark s.mode s h) (foreign_row-quiet mark s h)

-- after such a mark the mode is not "text", where it was another
given_by-stays : (row : Row) (s : State) (further : State → Settled) → is_text s.mode ≡ false → IsQuiet row →
    ((t : State) → is_text t.mode ≡ false → is_text (further t).state.mode ≡ false) →
    is_text (given_by row s further).state.mode ≡ false
given_by-stays (done actions) s further h quiet later = act_all-stays actions s h
given_by-stays (asks ask actions) s further h quiet later = absurd quiet
given_by-stays (again actions) s further h quiet later = later (act_all actions s) (act_all-stays actions s h)

settle-stays : (k : ℕ) (mark : TreeToken) (s : State) → IsNoTag mark → is_text s.mode ≡ false →
    is_text (settle k mark s).state.mode ≡ false
settle-stays zero mark s no_tag h = h
settle-stays (suc k) mark s no_tag h = given_by-stays (rule mark s) s (settle k mark) h (rule-quiet mark s no_tag)
    (λ t i. settle-stays k mark t no_tag i)

taken-stays : (mark : TreeToken) (s : State) → IsNoTag mark → is_text s.mode ≡ false →
    is_text (taken mark s).state.mode ≡ false
taken-stays mark s no_tag h = settle-stays (suc (rank mark s)) mark s no_tag h

-- In the mode "text" the rules of the mode hold, and a character is said.
text_mode : (mode : InsertionMode) → is_text mode ≡ true → mode ≡ modes.Text
text_mode modes.Initial h = absurd (cc)
text_mode modes.BeforeHtml h = absurd (cc)
text_mode modes.BeforeHead h = absurd (cc)
text_mode modes.InHead h = absurd (cc)
text_mode modes.InHeadNoscript h = absurd (cc)
text_mode modes.AfterHead h = absurd (cc)
text_mode modes.InBody h = absurd (cc)
text_mode modes.Text h = refl
text_mode modes.InTable h = absurd (cc)
text_mode modes.InTableText h = absurd (cc)
text_mode modes.InCaption h = absurd (cc)
text_mode modes.InColumnGroup h = absurd (cc)
text_mode modes.InTableBody h = absurd (cc)
text_mode modes.InRow h = absurd (cc)
text_mode modes.InCell h = absurd (cc)
text_mode modes.InTemplate h = absurd (cc)
text_mode modes.AfterBody h = absurd (cc)
text_mode modes.InFrameset h = absurd (cc)
text_mode modes.AfterFrameset h = absurd (cc)
text_mode modes.AfterAfterBody h = absurd (cc)
text_mode modes.AfterAfterFrameset h = absurd (cc)

by_mode : (a b : Bool) (r q : Row) → a ≡ true → (if a || b then r else q) ≡ r
by_mode true b r q h = refl
by_mode false b r q h = absurd (cc)

in_text : (mark : TreeToken) (s : State) → is_text s.mode ≡ true → rule mark s ≡ row modes.Text mark s
in_text mark s h = by_mode (is_text s.mode) (is_taken_at mark s.tree.forest (node_here s)) (row s.mode mark s)
    (foreign_row mark s) h ∙ ap (λ (m : InsertionMode). row m mark s) (text_mode s.mode h)

said-in_text : (c : ℕ) (s : State) → is_text (act (say (c ∷ [])) s).mode ≡ is_text s.mode
unfolding act
said-in_text c s = refl

-- a row in its place
by_row : (old new : Row) (s : State) (further : State → Settled) (P : Settled → Type 0) → old ≡ new →
    P (given_by new s further) → P (given_by old s further)
by_row old new s further P e p = subst (λ (r : Row). P (given_by r s further)) (sym e) p

taken-in_text : (c : ℕ) (s : State) → is_text s.mode ≡ true → is_text (taken (character c) s).state.mode ≡ true
taken-in_text c s h = by_row (rule (character c) s) (done (say (c ∷ []) ∷ [])) s
    (settle (rank (character c) s) (character c)) (λ r. is_text r.state.mode ≡ true) (in_text (character c) s h)
    (said-in_text c s ∙ h)

-- Text leaves it whether the mode is "text", and the page as over as it was.
either-kept : (b : Bool) (s t : State) (P : State → Type 0) → P s → P t → P (if b then s else t)
either-kept true s t P p q = p
either-kept false s t P p q = q

taken-keeps : (b : Bool) (c : ℕ) (s : State) → is_text s.mode ≡ b → is_text (taken (character c) s).state.mode ≡ b
taken-keeps true c s h = taken-in_text c s h
taken-keeps false c s h = taken-stays (character c) s tt h

characters-keep : (b : Bool) (cs : List ℕ) (s : State) → is_text s.mode ≡ b →
    is_text (fold taken_character s cs).mode ≡ b
characters-keep b [] s h = h
characters-keep b (c ∷ cs) s h = characters-keep b cs (taken_character s c)
    (either-kept (s.skip_lf && c == 10) (past_tag s) (taken (character c) (past_tag s)).state
    (λ t. is_text t.mode ≡ b) h (taken-keeps b c (past_tag s) h))

-- In the mode "text" neither NUL nor a comment nor a doctype is welcome.
step-keeps : (b : Bool) (s : State) (item : Item) → IsWithin item → IsHeard b item → is_text s.mode ≡ b →
    is_text (step s item).mode ≡ b
step-keeps b s (items.characters cs) within heard h = characters-keep b cs s h
step-keeps true s items.null_character within heard h = absurd heard
step-keeps false s items.null_character within heard h = taken-stays null (past_tag s) tt h
step-keeps b s (items.tag t) within heard h = absurd within
step-keeps true s (items.comment cs) within heard h = absurd heard
step-keeps false s (items.comment cs) within heard h = taken-stays (comment cs) (past_tag s) tt h
step-keeps true s (items.doctype d) within heard h = absurd heard
step-keeps false s (items.doctype d) within heard h = taken-stays (doctype d) (past_tag s) tt h
step-keeps b s items.error within heard h = h
step-keeps b s items.end_of_file within heard h = absurd within

step-hears : (s : State) (item later : Item) → IsWithin item → IsWelcome s item → IsWelcome s later →
    IsWelcome (step s item) later
step-hears s item later within hears hears_later = record {
  works = step-works s item ∙ hears.works;
  goes_on = step-goes_on s item within ∙ hears.goes_on;
  heard = subst (λ (b : Bool). IsHeard b later)
      (sym (step-keeps (is_text s.mode) s item within hears.heard refl)) hears_later.heard;
}

-- After a tag the mode is "text" only where the text of an element was asked for.
abbrev IsAsked : {H : Type 0} → (ℕ → H) → Item → Settled → Type 0
IsAsked handle later r = IsOf (text_after (answer_of handle r.ask)) later → IsHeard (is_text r.state.mode) later

heard-elsewhere : (b : Bool) (item : Item) → b ≡ false → IsHeard b item
heard-elsewhere true item h = absurd (cc)
heard-elsewhere false item h = tt

-- what is emitted in the text of an element is emitted in plain text too
raw-plain : (kind : RawKind) (item : Item) → IsOf (Raw kind) item → IsOf Plain item
raw-plain kind (items.characters cs) h = tt
raw-plain kind items.null_character h = h
raw-plain kind (items.tag t) h = raw-plain_tag t.kind h where
  raw-plain_tag : (k : TagKind) → IsOfTag (Raw kind) k → IsOfTag Plain k
  raw-plain_tag StartTag i = i
  raw-plain_tag EndTag i = i
raw-plain kind (items.comment cs) h = h
raw-plain kind (items.doctype d) h = h
raw-plain kind items.error h = tt
raw-plain kind items.end_of_file h = tt

entered-asked : {H : Type 0} (handle : ℕ → H) (later : Item) (ask : Ask) (s : State) → is_text s.mode ≡ false →
    IsAsked handle later (record { ask = ask; state = entered ask s })
entered-asked handle later nothing s h = λ _. heard-elsewhere (is_text s.mode) later h
entered-asked handle later plaintext s h = λ _. heard-elsewhere (is_text s.mode) later h
entered-asked handle later (raw kind) s h = raw-plain kind later
entered-asked handle later (script n) s h = λ _. heard-elsewhere (is_text s.mode) later h
entered-asked handle later (encoding name) s h = λ _. heard-elsewhere (is_text s.mode) later h

given_by-asked : {H : Type 0} (handle : ℕ → H) (later : Item) (row : Row) (s : State) (further : State → Settled) →
    is_text s.mode ≡ false → ((t : State) → is_text t.mode ≡ false → IsAsked handle later (further t)) →
    IsAsked handle later (given_by row s further)
given_by-asked handle later (done actions) s further h on =
    λ _. heard-elsewhere (is_text (act_all actions s).mode) later (act_all-stays actions s h)
given_by-asked handle later (asks ask actions) s further h on =
    entered-asked handle later ask (act_all actions s) (act_all-stays actions s h)
given_by-asked handle later (again actions) s further h on =
    on (act_all actions s) (act_all-stays actions s h)

settle-asked : {H : Type 0} (handle : ℕ → H) (later : Item) (k : ℕ) (mark : TreeToken) (s : State) →
    is_text s.mode ≡ false → IsAsked handle later (settle k mark s)
settle-asked handle later zero mark s h = λ _. heard-elsewhere (is_text s.mode) later h
settle-asked handle later (suc k) mark s h =
    given_by-asked handle later (rule mark s) s (settle k mark) h (settle-asked handle later k mark)

-- From the mode "text" an end tag leads to another.
left : (s : State) → is_text (act go_back (act pop s)).mode ≡ false
unfolding act
left s = out_of_text-stays s.original

text_mode_end-asked : {H : Type 0} (handle : ℕ → H) (later : Item) (group : TagGroup) (s : State)
    (further : State → Settled) → IsAsked handle later (given_by (text_mode_end group s) s further)
text_mode_end-asked handle later groups.Anchor s further =
    λ _. heard-elsewhere (is_text (act go_back (act pop s)).mode) later (left s)
text_mode_end-asked handle later groups.Base s further =
    λ _. heard-elsewhere (is_text (act go_back (act pop s)).mode) later (left s)
text_mode_end-asked handle later groups.Block s further =
    λ _. heard-elsewhere (is_text (act go_back (act pop s)).mode) later (left s)
text_mode_end-asked handle later groups.Body s further =
    λ _. heard-elsewhere (is_text (act go_back (act pop s)).mode) later (left s)
text_mode_end-asked handle later groups.Button s further =
    λ _. heard-elsewhere (is_text (act go_back (act pop s)).mode) later (left s)
text_mode_end-asked handle later groups.Caption s further =
    λ _. heard-elsewhere (is_text (act go_back (act pop s)).mode) later (left s)
text_mode_end-asked handle later groups.Cell s further =
    λ _. heard-elsewhere (is_text (act go_back (act pop s)).mode) later (left s)
text_mode_end-asked handle later groups.Column s further =
    λ _. heard-elsewhere (is_text (act go_back (act pop s)).mode) later (left s)
text_mode_end-asked handle later groups.ColumnGroup s further =
    λ _. heard-elsewhere (is_text (act go_back (act pop s)).mode) later (left s)
text_mode_end-asked handle later groups.Definition s further =
    λ _. heard-elsewhere (is_text (act go_back (act pop s)).mode) later (left s)
text_mode_end-asked handle later groups.Form s further =
    λ _. heard-elsewhere (is_text (act go_back (act pop s)).mode) later (left s)
text_mode_end-asked handle later groups.Formatting s further =
    λ _. heard-elsewhere (is_text (act go_back (act pop s)).mode) later (left s)
text_mode_end-asked handle later groups.Frame s further =
    λ _. heard-elsewhere (is_text (act go_back (act pop s)).mode) later (left s)
text_mode_end-asked handle later groups.Frameset s further =
    λ _. heard-elsewhere (is_text (act go_back (act pop s)).mode) later (left s)
text_mode_end-asked handle later groups.Head s further =
    λ _. heard-elsewhere (is_text (act go_back (act pop s)).mode) later (left s)
text_mode_end-asked handle later groups.Heading s further =
    λ _. heard-elsewhere (is_text (act go_back (act pop s)).mode) later (left s)
text_mode_end-asked handle later groups.HorizontalRule s further =
    λ _. heard-elsewhere (is_text (act go_back (act pop s)).mode) later (left s)
text_mode_end-asked handle later groups.Html s further =
    λ _. heard-elsewhere (is_text (act go_back (act pop s)).mode) later (left s)
text_mode_end-asked handle later groups.Iframe s further =
    λ _. heard-elsewhere (is_text (act go_back (act pop s)).mode) later (left s)
text_mode_end-asked handle later groups.Image s further =
    λ _. heard-elsewhere (is_text (act go_back (act pop s)).mode) later (left s)
text_mode_end-asked handle later groups.Input s further =
    λ _. heard-elsewhere (is_text (act go_back (act pop s)).mode) later (left s)
text_mode_end-asked handle later groups.LineBreak s further =
    λ _. heard-elsewhere (is_text (act go_back (act pop s)).mode) later (left s)
text_mode_end-asked handle later groups.Link s further =
    λ _. heard-elsewhere (is_text (act go_back (act pop s)).mode) later (left s)
text_mode_end-asked handle later groups.ListItem s further =
    λ _. heard-elsewhere (is_text (act go_back (act pop s)).mode) later (left s)
text_mode_end-asked handle later groups.Marked s further =
    λ _. heard-elsewhere (is_text (act go_back (act pop s)).mode) later (left s)
text_mode_end-asked handle later groups.Math s further =
    λ _. heard-elsewhere (is_text (act go_back (act pop s)).mode) later (left s)
text_mode_end-asked handle later groups.Meta s further =
    λ _. heard-elsewhere (is_text (act go_back (act pop s)).mode) later (left s)
text_mode_end-asked handle later groups.NoBreak s further =
    λ _. heard-elsewhere (is_text (act go_back (act pop s)).mode) later (left s)
text_mode_end-asked handle later groups.Noembed s further =
    λ _. heard-elsewhere (is_text (act go_back (act pop s)).mode) later (left s)
text_mode_end-asked handle later groups.Noframes s further =
    λ _. heard-elsewhere (is_text (act go_back (act pop s)).mode) later (left s)
text_mode_end-asked handle later groups.Noscript s further =
    λ _. heard-elsewhere (is_text (act go_back (act pop s)).mode) later (left s)
text_mode_end-asked handle later groups.OptionItem s further =
    λ _. heard-elsewhere (is_text (act go_back (act pop s)).mode) later (left s)
text_mode_end-asked handle later groups.OptionGroup s further =
    λ _. heard-elsewhere (is_text (act go_back (act pop s)).mode) later (left s)
text_mode_end-asked handle later groups.Paragraph s further =
    λ _. heard-elsewhere (is_text (act go_back (act pop s)).mode) later (left s)
text_mode_end-asked handle later groups.Plaintext s further =
    λ _. heard-elsewhere (is_text (act go_back (act pop s)).mode) later (left s)
text_mode_end-asked handle later groups.Preformatted s further =
    λ _. heard-elsewhere (is_text (act go_back (act pop s)).mode) later (left s)
text_mode_end-asked handle later groups.Row s further =
    λ _. heard-elsewhere (is_text (act go_back (act pop s)).mode) later (left s)
text_mode_end-asked handle later groups.RubyBase s further =
    λ _. heard-elsewhere (is_text (act go_back (act pop s)).mode) later (left s)
text_mode_end-asked handle later groups.RubyText s further =
    λ _. heard-elsewhere (is_text (act go_back (act pop s)).mode) later (left s)
text_mode_end-asked handle later groups.Script s further =
    λ _. heard-elsewhere (is_text (act go_back (act pop s)).mode) later (left s)
text_mode_end-asked handle later groups.Section s further =
    λ _. heard-elsewhere (is_text (act go_back (act pop s)).mode) later (left s)
text_mode_end-asked handle later groups.Select s further =
    λ _. heard-elsewhere (is_text (act go_back (act pop s)).mode) later (left s)
text_mode_end-asked handle later groups.Style s further =
    λ _. heard-elsewhere (is_text (act go_back (act pop s)).mode) later (left s)
text_mode_end-asked handle later groups.Svg s further =
    λ _. heard-elsewhere (is_text (act go_back (act pop s)).mode) later (left s)
text_mode_end-asked handle later groups.Table s further =
    λ _. heard-elsewhere (is_text (act go_back (act pop s)).mode) later (left s)
text_mode_end-asked handle later groups.Template s further =
    λ _. heard-elsewhere (is_text (act go_back (act pop s)).mode) later (left s)
text_mode_end-asked handle later groups.Textarea s further =
    λ _. heard-elsewhere (is_text (act go_back (act pop s)).mode) later (left s)
text_mode_end-asked handle later groups.Title s further =
    λ _. heard-elsewhere (is_text (act go_back (act pop s)).mode) later (left s)
text_mode_end-asked handle later groups.VoidPhrase s further =
    λ _. heard-elsewhere (is_text (act go_back (act pop s)).mode) later (left s)
text_mode_end-asked handle later groups.VoidSource s further =
    λ _. heard-elsewhere (is_text (act go_back (act pop s)).mode) later (left s)
text_mode_end-asked handle later groups.Xmp s further =
    λ _. heard-elsewhere (is_text (act go_back (act pop s)).mode) later (left s)
text_mode_end-asked handle later groups.Other s further =
    λ _. heard-elsewhere (is_text (act go_back (act pop s)).mode) later (left s)

finish-asked : {H : Type 0} (handle : ℕ → H) (later : Item) (t : Tag) (s : State) → is_text s.mode ≡ true →
    IsAsked handle later (taken (finish t) s)
finish-asked handle later t s h = by_row (rule (finish t) s) (text_mode_end (tag_group t.name) s) s
    (settle (rank (finish t) s) (finish t)) (IsAsked handle later) (in_text (finish t) s h)
    (text_mode_end-asked handle later (tag_group t.name) s (settle (rank (finish t) s) (finish t)))

-- in the mode "text" an end tag alone is welcome
mark-asked : {H : Type 0} (handle : ℕ → H) (later : Item) (b : Bool) (t : Tag) (kind : TagKind) (s : State) →
    is_text s.mode ≡ b → (b ≡ true → IsOfTag Plain kind) → IsAsked handle later (taken (mark_by kind t) s)
mark-asked handle later true t StartTag s h allowed = absurd (allowed refl)
mark-asked handle later true t EndTag s h allowed = finish-asked handle later t s h
mark-asked handle later false t kind s h allowed =
    settle-asked handle later (suc (rank (mark_by kind t) s)) (mark_by kind t) s h

plain_tag : (b : Bool) (t : Tag) → IsHeard b (items.tag t) → b ≡ true → IsOfTag Plain t.kind
plain_tag true t heard h = heard
plain_tag false t heard h = absurd (cc)

tag-hears : {H : Type 0} (handle : ℕ → H) (s : State) (t : Tag) (later : Item) → IsWelcome s (items.tag t) →
    IsOf (text_after (reply handle s (items.tag t))) later → IsWelcome (step s (items.tag t)) later
tag-hears handle s t later hears asked = record {
  works = step-works s (items.tag t) ∙ hears.works;
  goes_on = tag-goes_on s t ∙ hears.goes_on;
  heard = mark-asked handle later (is_text s.mode) t t.kind (past_tag s) refl
      (plain_tag (is_text s.mode) t hears.heard) asked;
}

pub meaning-hearing : {H : Type 0} → (handle : ℕ → H) → IsHearing (meaning handle) IsWelcome
meaning-hearing handle = record { goes_on = step-hears; asks = tag-hears handle }
