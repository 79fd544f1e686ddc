-- Tree construction is lawful to a tokenizer (WHATWG HTML, 13.2.6): texts that follow each other are as one, tags alone
-- are answered, what holds between two items is kept, and an error ends at most the rule of the line feed.
use Rattle.std.specs.Prelude.{◌≡◌, ◌==◌, ◌&&◌, [], ◌∷◌, ◌++◌, if◌then◌else◌, Bool, List, false, fold, refl, suc, true}
use Rattle.std.specs.Prelude.{zero, ℕ}
use Rattle.std.proofs.Common.{sym, ap, ◌∙◌}
use Rattle.std.proofs.lemmas.Bool.{ne_eqb}
use Rattle.std.proofs.lemmas.List.Sums.{fold-append}
use Rattle.token_grammar.specs.Items.{Item}
use Rattle.token_grammar.specs.Items as items
use Rattle.token_grammar.specs.Reading.{IsAfterError, IsAnswered, IsLawful}
use Rattle.html_lexemes.specs.declared.token.TokenSinkResult.TheVariants as answers
use Rattle.rules_table_laws.specs.Flags.{act-works}
use Rattle.rules_table.specs.Actions.{Action, act, act_all}
use Rattle.rules_table.specs.Rank.{rank}
use Rattle.rules_table.specs.Rows.{Row, again, asks, done}
use Rattle.rules_table.specs.Rule.{rule}
use Rattle.rules_table.specs.Settling.{Settled, entered, given_by, mark_by, meaning, over, past_tag, reply, settle}
use Rattle.rules_table.specs.Settling.{step, taken, taken_character}
use Rattle.rules_table.specs.State.{Ask, State, TreeToken, character, comment, doctype, encoding, end_of_file, nothing}
use Rattle.rules_table.specs.State.{null, plaintext, raw, script}
use Rattle.rules_table.specs.Welcome.{IsReady}

-- flags and modes are not read by what holds between two items
past_tag-ready : (s : State) → IsReady s → IsReady (past_tag s)
past_tag-ready s r = record {
  works = r.works;
  ready = record { sound = r.ready.sound; head = r.ready.head; context = r.ready.context };
  actions = r.actions;
}

over-ready : (s : State) → IsReady s → IsReady (over s)
over-ready s r = record {
  works = r.works;
  ready = record { sound = r.ready.sound; head = r.ready.head; context = r.ready.context };
  actions = r.actions;
}

entered-ready : (ask : Ask) (s : State) → IsReady s → IsReady (entered ask s)
entered-ready nothing s r = r
entered-ready plaintext s r = r
entered-ready (raw kind) s r = record {
  works = r.works;
  ready = record { sound = r.ready.sound; head = r.ready.head; context = r.ready.context };
  actions = r.actions;
}
entered-ready (script n) s r = r
entered-ready (encoding name) s r = r

act-ready : (action : Action) (s : State) → IsReady s → IsReady (act action s)
act-ready action s r = record {
  works = act-works action s ∙ r.works;
  ready = r.actions action s r.ready;
  actions = r.actions;
}

act_all-ready : (actions : List Action) (s : State) → IsReady s → IsReady (act_all actions s)
act_all-ready [] s r = r
act_all-ready (action ∷ actions) s r = act_all-ready actions (act action s) (act-ready action s r)

given_by-ready : (row : Row) (s : State) (further : State → Settled) → IsReady s →
    ((t : State) → IsReady t → IsReady (further t).state) → IsReady (given_by row s further).state
given_by-ready (done actions) s further r later = act_all-ready actions s r
given_by-ready (asks ask actions) s further r later = entered-ready ask (act_all actions s) (act_all-ready actions s r)
given_by-ready (again actions) s further r later = later (act_all actions s) (act_all-ready actions s r)

settle-ready : (k : ℕ) (mark : TreeToken) (s : State) → IsReady s → IsReady (settle k mark s).state
settle-ready zero mark s r = r
settle-ready (suc k) mark s r = given_by-ready (rule mark s) s (settle k mark) r (settle-ready k mark)

taken-ready : (mark : TreeToken) (s : State) → IsReady s → IsReady (taken mark (past_tag s)).state
taken-ready mark s r = settle-ready (suc (rank mark (past_tag s))) mark (past_tag s) (past_tag-ready s r)

either-ready : (b : Bool) (s t : State) → IsReady s → IsReady t → IsReady (if b then s else t)
either-ready true s t r q = r
either-ready false s t r q = q

characters-ready : (cs : List ℕ) (s : State) → IsReady s → IsReady (fold taken_character s cs)
characters-ready [] s r = r
characters-ready (c ∷ cs) s r = characters-ready cs (taken_character s c)
    (either-ready (s.skip_lf && c == 10) (past_tag s) (taken (character c) (past_tag s)).state (past_tag-ready s r)
    (taken-ready (character c) s r))

step-ready : (s : State) (item : Item) → IsReady s → IsReady (step s item)
step-ready s (items.characters cs) r = characters-ready cs s r
step-ready s items.null_character r = taken-ready null s r
step-ready s (items.tag t) r = taken-ready (mark_by t.kind t) s r
step-ready s (items.comment cs) r = taken-ready (comment cs) s r
step-ready s (items.doctype d) r = taken-ready (doctype d) s r
step-ready s items.error r = past_tag-ready s r
step-ready s items.end_of_file r = over-ready (taken end_of_file (past_tag s)).state (taken-ready end_of_file s r)

no_line_feed : (b : Bool) (c : ℕ) → ¬ (c ≡ 10) → false ≡ (b && c == 10)
no_line_feed true c h = sym (ne_eqb c 10 h)
no_line_feed false c h = refl

-- a character that is no line feed is taken alike after an error
character-forgets : (s : State) (c : ℕ) → ¬ (c ≡ 10) → taken_character (past_tag s) c ≡ taken_character s c
character-forgets s c h = ap (λ (b : Bool). if b then past_tag s else (taken (character c) (past_tag s)).state)
    (no_line_feed s.skip_lf c h)

step-forgets : (s : State) (item : Item) → IsAfterError item → step (step s items.error) item ≡ step s item
step-forgets s (items.characters []) h = absurd h
step-forgets s (items.characters (c ∷ cs)) h = ap (λ (t : State). fold taken_character t cs) (character-forgets s c h)
step-forgets s items.null_character h = refl
step-forgets s (items.tag t) h = refl
step-forgets s (items.comment cs) h = refl
step-forgets s (items.doctype d) h = refl
step-forgets s items.error h = refl
step-forgets s items.end_of_file h = refl

reply-answers : {H : Type 0} (handle : ℕ → H) (s : State) (item : Item) → ¬ (IsAnswered item) →
    reply handle s item ≡ answers.Continue
reply-answers handle s (items.characters cs) h = refl
reply-answers handle s items.null_character h = refl
reply-answers handle s (items.tag t) h = absurd (h tt)
reply-answers handle s (items.comment cs) h = refl
reply-answers handle s (items.doctype d) h = refl
reply-answers handle s items.error h = refl
reply-answers handle s items.end_of_file h = refl

reply-still : {H : Type 0} (handle : ℕ → H) (s : State) (item : Item) →
    reply handle (step s items.error) item ≡ reply handle s item
reply-still handle s (items.characters cs) = refl
reply-still handle s items.null_character = refl
reply-still handle s (items.tag t) = refl
reply-still handle s (items.comment cs) = refl
reply-still handle s (items.doctype d) = refl
reply-still handle s items.error = refl
reply-still handle s items.end_of_file = refl

step-joins : (s : State) (cs ds : List ℕ) →
    step (step s (items.characters cs)) (items.characters ds) ≡ step s (items.characters (cs ++ ds))
step-joins s cs ds = sym (fold-append taken_character s cs ds)

pub meaning-lawful : {H : Type 0} → (handle : ℕ → H) → IsLawful (meaning handle) IsReady
meaning-lawful handle = record {
  joins = step-joins;
  skips = λ _. refl;
  answers = reply-answers handle;
  keeps = step-ready;
  forgets = step-forgets;
  still_answers = reply-still handle;
  still_foreign = λ _. refl;
}
