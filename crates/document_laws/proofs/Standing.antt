-- A state in the body: its open elements, its listed ones, and its forest; and how a rule comes to it.
use Rattle.std.proofs.Common.{◌≡◌, ◌||◌, ◌&&◌, [], ◌∷◌, if◌then◌else◌, ◌∙◌, Bool, List, None, Option, Some, ap, codes}
use Rattle.std.proofs.Common.{false, refl, subst, sym, true, ℕ}
use Rattle.std.specs.Option.{option_and_then}
use Rattle.token_grammar.specs.Items as items
use Rattle.html_lexemes.specs.declared.states.RawKind.TheVariants.{Rawtext, Rcdata, ScriptData, ScriptDataEscaped}
use Rattle.html_lexemes.specs.declared.token.TagKind.{TagKind}
use Rattle.tree_formatting.specs.Entries.{Entry, formatted, marker}
use Rattle.tree_formatting.specs.Pushing.{pushed}
use Rattle.tree_forest.specs.Forest.{Forest, is_integration_point, name_of, nodes}
use Rattle.tree_forest.specs.Places.{below}
use Rattle.token_grammar.specs.Items.{Item}
use Rattle.html_lexemes.specs.declared.names.Attribute.{Attribute}
use Rattle.html_lexemes.specs.declared.names.Namespace.TheVariants.{Html}
use Rattle.html_lexemes.specs.declared.token.Tag.{Tag}
use Rattle.html_lexemes.specs.declared.token.TagKind.TheVariants.{EndTag, StartTag}
use Rattle.html_tree_state.specs.Building.{Building}
use Rattle.html_tree_state.specs.Formatting.{inserted_for, name_for, reconstructed}
use Rattle.html_tree_state.specs.Insertions.{here, inserted_void, is_template}
use Rattle.tree_names.specs.Sets.{is_html, is_one_of}
use Rattle.tree_names.specs.TagSets.{formatting}
use Rattle.tree_names.specs.Groups.{tag_group}
use Rattle.rules_table.specs.Actions.{Action, act, act_all, at_place, insert, insert_formatting, insert_void}
use Rattle.rules_table.specs.Actions.{inserted_and_listed, reconstruct, refuse_frameset, with_tree}
use Rattle.rules_table.specs.ForeignContent.{is_by_mode, takes}
use Rattle.rules_table.specs.InBody.{in_body_start}
use Rattle.rules_table.specs.InBodyEnds.{in_body_end}
use Rattle.rules_table.specs.Rank.{rank}
use Rattle.rules_table.specs.Rows.{done}
use Rattle.rules_table.specs.Rule.{foreign_row, rule}
use Rattle.rules_table.specs.Settling.{Settled, given_by, past_tag, settle, step, taken, taken_tag}
use Rattle.rules_table.specs.State.{Ask, State, TreeToken, character, comment, doctype, encoding, end_of_file, finish}
use Rattle.rules_table.specs.State.{nothing, null, plaintext, raw, script, start}
use Rattle.rules_table.specs.Table.{row}
use Rattle.tree_predicates.specs.declared.modes.InsertionMode.TheVariants.{InBody}
use Rattle.document_laws.specs.Contents.{end_of, start_of}
use Rattle.document_laws.specs.Planted.{of_html, with_new}
use Rattle.document_laws.proofs.Sublists.{AreOpen, open_found}

-- Goals cite these by their names.
unfoldable pub built : Building → List ℕ → List Entry → Forest → Building
built b stack entries f = record b { stack = stack; formatting = entries; fostering = false; forest = f }

unfoldable pub now : State → Bool → List ℕ → List Entry → Forest → State
now s ok stack entries f = record s {
  mode = InBody;
  context = None;
  frameset_ok = ok;
  skip_lf = false;
  tree = built s.tree stack entries f;
}

-- what an item comes to, where the tokenizer is asked for nothing, or for the text of a title
abbrev pub is_nothing : Ask → Bool
is_nothing nothing = true
is_nothing plaintext = false
is_nothing (raw kind) = false
is_nothing (script n) = false
is_nothing (encoding name) = false

abbrev pub is_rcdata : Ask → Bool
is_rcdata (raw Rcdata) = true
is_rcdata (raw Rawtext) = false
is_rcdata (raw ScriptData) = false
is_rcdata (raw (ScriptDataEscaped kind)) = false
is_rcdata nothing = false
is_rcdata plaintext = false
is_rcdata (script n) = false
is_rcdata (encoding name) = false

abbrev pub opens_title : TagKind → List ℕ → Bool
opens_title StartTag name = is_one_of (codes "title" ∷ []) name
opens_title EndTag name = false

abbrev pub kept_if : Bool → State → Option State
kept_if true s = Some s
kept_if false s = None

abbrev pub settled_as : Tag → Settled → Option State
settled_as t settled = kept_if (is_nothing settled.ask || (opens_title t.kind t.name && is_rcdata settled.ask))
    settled.state

abbrev pub stepped : State → Item → Option State
stepped s (items.tag t) = settled_as t (taken_tag t s)
stepped s (items.characters cs) = Some (step s (items.characters cs))
stepped s items.null_character = Some (step s items.null_character)
stepped s (items.comment cs) = Some (step s (items.comment cs))
stepped s (items.doctype d) = Some (step s (items.doctype d))
stepped s items.error = Some (step s items.error)
stepped s items.end_of_file = Some (step s items.end_of_file)

unfoldable pub runs : State → List Item → Option State
runs s [] = Some s
runs s (item ∷ items) = option_and_then (λ z. runs z items) (stepped s item)

pub runs_on : (s s' : State) (item : Item) (more : List Item) → stepped s item ≡ Some s' →
    runs s (item ∷ more) ≡ runs s' more
unfolding runs
runs_on s s' item more e = ap (option_and_then (λ z. runs z more)) e

abbrev pub opening : List ℕ → List Attribute → Tag
opening name attributes = record {
  kind = StartTag;
  name = name;
  self_closing = false;
  attrs = attributes;
  had_duplicate_attributes = false;
}

abbrev pub ending : List ℕ → Tag
ending name = record {
  kind = EndTag;
  name = name;
  self_closing = false;
  attrs = [];
  had_duplicate_attributes = false;
}

pub if_true : {A : Type 0} (b : Bool) (x y : A) → b ≡ true → (if b then x else y) ≡ x
if_true b x y e = rw e

pub if_false : {A : Type 0} (b : Bool) (x y : A) → b ≡ false → (if b then x else y) ≡ y
if_false b x y e = rw e

-- where the current node is of HTML, its mode's rules take each mark
pub html_takes : (mark : TreeToken) (local : List ℕ) (p : Bool) → takes mark (record { ns = Html; local = local }) p
    ≡ true
html_takes (character c) local p = refl
html_takes null local p = refl
html_takes (comment cs) local p = refl
html_takes (doctype d) local p = refl
html_takes (start t) local p = refl
html_takes (finish t) local p = refl
html_takes end_of_file local p = refl

by_mode : (mark : TreeToken) (s : State) (ok : Bool) (p : ℕ) (rest : List ℕ) (entries : List Entry) (f : Forest)
    (word : List ℕ) → name_of p f ≡ of_html word → is_by_mode mark (now s ok (p ∷ rest) entries f) ≡ true
unfolding now built
by_mode mark s ok p rest entries f word e =
    subst (λ name. takes mark name (is_integration_point p f) ≡ true) (sym e)
    (html_takes mark word (is_integration_point p f))

pub rule_in_body : (mark : TreeToken) (s : State) (ok : Bool) (p : ℕ) (rest : List ℕ) (entries : List Entry)
    (f : Forest)
    (word : List ℕ) → name_of p f ≡ of_html word →
    rule mark (now s ok (p ∷ rest) entries f) ≡ row InBody mark (now s ok (p ∷ rest) entries f)
unfolding now
rule_in_body mark s ok p rest entries f word e = if_true _ (row InBody mark (now s ok (p ∷ rest) entries f))
    (foreign_row mark (now s ok (p ∷ rest) entries f)) (by_mode mark s ok p rest entries f word e)

-- a mark whose row is done
pub taken_done : (mark : TreeToken) (s : State) (actions : List Action) → rule mark s ≡ done actions →
    (taken mark s).state ≡ act_all actions s
taken_done mark s actions e = ap (λ r. (given_by r s (settle (rank mark s) mark)).state) e

pub stepped_done : (t : Tag) (mark : TreeToken) (s : State) (actions : List Action) → rule mark s ≡ done actions →
    settled_as t (taken mark s) ≡ Some (act_all actions s)
stepped_done t mark s actions e = ap (λ r. settled_as t (given_by r s (settle (rank mark s) mark))) e

pub past_now : (s : State) (ok : Bool) (stack : List ℕ) (entries : List Entry) (f : Forest) →
    past_tag (now s ok stack entries f) ≡ now s ok stack entries f
unfolding now
past_now s ok stack entries f = refl

pub start_taken : (s : State) (ok : Bool) (p : ℕ) (rest : List ℕ) (entries : List Entry) (f : Forest)
    (word name : List ℕ) (attributes : List Attribute) (actions : List Action) → name_of p f ≡ of_html word →
    in_body_start (tag_group name) (opening name attributes) (now s ok (p ∷ rest) entries f) ≡ done actions →
    stepped (now s ok (p ∷ rest) entries f) (start_of name attributes)
    ≡ Some (act_all actions (now s ok (p ∷ rest) entries f))
unfolding now
start_taken s ok p rest entries f word name attributes actions named is =
    let here = now s ok (p ∷ rest) entries f in
    stepped_done (opening name attributes) (start (opening name attributes)) here actions
    (rule_in_body (start (opening name attributes)) s ok p rest entries f word named ∙ is)

pub end_taken : (s : State) (ok : Bool) (p : ℕ) (rest : List ℕ) (entries : List Entry) (f : Forest)
    (word name : List ℕ) (actions : List Action) → name_of p f ≡ of_html word →
    in_body_end (tag_group name) (ending name) (now s ok (p ∷ rest) entries f) ≡ done actions →
    stepped (now s ok (p ∷ rest) entries f) (end_of name) ≡ Some (act_all actions (now s ok (p ∷ rest) entries f))
unfolding now
end_taken s ok p rest entries f word name actions named is =
    let here = now s ok (p ∷ rest) entries f in
    stepped_done (ending name) (finish (ending name)) here actions
    (rule_in_body (finish (ending name)) s ok p rest entries f word named ∙ is)

-- what is done to the tree alone
pub with_tree_now : (word : Building → Building) (s : State) (ok : Bool) (stack stack' : List ℕ)
    (entries entries' : List Entry) (f f' : Forest) →
    word (built s.tree stack entries f) ≡ built s.tree stack' entries' f' →
    with_tree word (now s ok stack entries f) ≡ now s ok stack' entries' f'
unfolding now
with_tree_now word s ok stack stack' entries entries' f f' e = ap (λ b. let after : State = record s {
  mode = InBody;
  context = None;
  frameset_ok = ok;
  skip_lf = false;
  tree = b;
} in after) e

pub refused_now : (s : State) (ok : Bool) (stack : List ℕ) (entries : List Entry) (f : Forest) →
    act refuse_frameset (now s ok stack entries f) ≡ now s false stack entries f
unfolding now act
refused_now s ok stack entries f = refl

-- all listed elements are open: none is made anew
pub reconstructed_same : (b : Building) (stack : List ℕ) (entries : List Entry) (f : Forest) → AreOpen entries stack →
    reconstructed (built b stack entries f) ≡ built b stack entries f
unfolding built
reconstructed_same b stack [] f are = refl
reconstructed_same b stack (marker ∷ es) f are = refl
reconstructed_same b stack (formatted m t ∷ es) f are = rw (open_found m t es stack are)

pub reconstructed_now : (s : State) (ok : Bool) (stack : List ℕ) (entries : List Entry) (f : Forest) →
    AreOpen entries stack → act reconstruct (now s ok stack entries f) ≡ now s ok stack entries f
unfolding act
reconstructed_now s ok stack entries f are =
    with_tree_now reconstructed s ok stack stack entries entries f f (reconstructed_same s.tree stack entries f are)

-- the current node takes what is inserted
pub here_below : (b : Building) (p : ℕ) (rest : List ℕ) (entries : List Entry) (f : Forest) →
    is_template p f ≡ false → here (built b (p ∷ rest) entries f) ≡ below p
unfolding built
here_below b p rest entries f plain = rw plain

pub inserted_is : (b : Building) (p : ℕ) (rest : List ℕ) (entries : List Entry) (f : Forest) (name : List ℕ)
    (attributes : List Attribute) → is_template p f ≡ false → is_html (codes "template") (of_html name) ≡ false →
    inserted_for (opening name attributes) (built b (p ∷ rest) entries f)
    ≡ built b (nodes f ∷ p ∷ rest) entries (with_new p name attributes f)
unfolding built
inserted_is b p rest entries f name attributes plain is = rw (plain, is)

pub inserted_now : (s : State) (ok : Bool) (p : ℕ) (rest : List ℕ) (entries : List Entry) (f : Forest)
    (name : List ℕ) (attributes : List Attribute) → is_template p f ≡ false →
    is_html (codes "template") (of_html name) ≡ false →
    act (insert at_place (opening name attributes)) (now s ok (p ∷ rest) entries f)
    ≡ now s ok (nodes f ∷ p ∷ rest) entries (with_new p name attributes f)
unfolding act
inserted_now s ok p rest entries f name attributes plain is =
    with_tree_now (inserted_for (opening name attributes)) s ok (p ∷ rest) (nodes f ∷ p ∷ rest) entries entries f
    (with_new p name attributes f) (inserted_is s.tree p rest entries f name attributes plain is)

void_is : (b : Building) (p : ℕ) (rest : List ℕ) (entries : List Entry) (f : Forest) (name : List ℕ)
    (attributes : List Attribute) → is_template p f ≡ false → is_html (codes "template") (of_html name) ≡ false →
    inserted_void (name_for (opening name attributes)) attributes (built b (p ∷ rest) entries f)
    ≡ built b (p ∷ rest) entries (with_new p name attributes f)
unfolding built
void_is b p rest entries f name attributes plain is = rw (plain, is)

pub void_now : (s : State) (ok : Bool) (p : ℕ) (rest : List ℕ) (entries : List Entry) (f : Forest)
    (name : List ℕ) (attributes : List Attribute) → is_template p f ≡ false →
    is_html (codes "template") (of_html name) ≡ false →
    act (insert_void at_place (opening name attributes)) (now s ok (p ∷ rest) entries f)
    ≡ now s ok (p ∷ rest) entries (with_new p name attributes f)
unfolding act
void_now s ok p rest entries f name attributes plain is =
    with_tree_now (inserted_void (name_for (opening name attributes)) attributes) s ok (p ∷ rest) (p ∷ rest) entries
    entries f (with_new p name attributes f) (void_is s.tree p rest entries f name attributes plain is)

-- an element with formatting
listed_is : (b : Building) (p : ℕ) (rest : List ℕ) (entries : List Entry) (f : Forest) (name : List ℕ)
    (attributes : List Attribute) → is_template p f ≡ false → is_html (codes "template") (of_html name) ≡ false →
    is_one_of formatting name ≡ true →
    inserted_and_listed (opening name attributes) (built b (p ∷ rest) entries f)
    ≡ built b (nodes f ∷ p ∷ rest) (pushed (nodes f) (opening name attributes) entries) (with_new p name attributes f)
unfolding built
listed_is b p rest entries f name attributes plain is kept = rw (kept, plain, is)

pub listed_now : (s : State) (ok : Bool) (p : ℕ) (rest : List ℕ) (entries : List Entry) (f : Forest)
    (name : List ℕ) (attributes : List Attribute) → is_template p f ≡ false →
    is_html (codes "template") (of_html name) ≡ false → is_one_of formatting name ≡ true →
    act (insert_formatting (opening name attributes)) (now s ok (p ∷ rest) entries f)
    ≡ now s ok (nodes f ∷ p ∷ rest) (pushed (nodes f) (opening name attributes) entries)
    (with_new p name attributes f)
unfolding act
listed_now s ok p rest entries f name attributes plain is kept =
    with_tree_now (inserted_and_listed (opening name attributes)) s ok (p ∷ rest) (nodes f ∷ p ∷ rest) entries
    (pushed (nodes f) (opening name attributes) entries) f (with_new p name attributes f)
    (listed_is s.tree p rest entries f name attributes plain is kept)
