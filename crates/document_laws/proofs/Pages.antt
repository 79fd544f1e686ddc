-- What stands around a body: from a page's first item to its body's start tag, and from the body's end tag to the end.
use Rattle.std.proofs.Common.{◌≡◌, ◌||◌, [], ◌∷◌, ◌∙◌, Bool, List, None, Option, Some, ap, arith, codes, false, refl}
use Rattle.std.proofs.Common.{subst, sym, true, ℕ}
use Rattle.std.specs.Option.{option_map}
use Rattle.html_lexemes.specs.declared.token.Tag.{Tag}
use Rattle.tree_formatting.specs.Entries.{Entry}
use Rattle.tree_forest.specs.Forest.{Forest, is_integration_point, name_of, nodes, page_alone}
use Rattle.tree_forest.specs.Places.{below, put_words, with_doctype}
use Rattle.token_grammar.specs.Items.{Item, characters, end_of_file}
use Rattle.html_lexemes.specs.declared.names.Attribute.{Attribute}
use Rattle.html_lexemes.specs.declared.states.RawKind.TheVariants.{Rcdata}
use Rattle.html_lexemes.specs.declared.token.Doctype.{Doctype}
use Rattle.html_tree_state.specs.Insertions.{is_template}
use Rattle.page_tree_laws.specs.KeptText.{IsAtBeginning}
use Rattle.tree_names.specs.ElementSets.{scope_barriers}
use Rattle.tree_names.specs.Sets.{is_element_of}
use Rattle.tree_names.specs.Wanted.{one}
use Rattle.tree_names.specs.Groups.{tag_group}
use Rattle.tree_names.specs.declared.group.TagGroup.TheVariants as groups
use Rattle.rules_table.specs.Actions.{Action, act, act_all, append_doctype, at_place, go_back, go_to, insert, keep_head}
use Rattle.rules_table.specs.Actions.{pop, refuse_frameset, say, set_quirks}
use Rattle.rules_table.specs.AfterHead.{after_head_start}
use Rattle.rules_table.specs.AfterBody.{after_body_end}
use Rattle.rules_table.specs.BeforeHead.{before_head_start}
use Rattle.rules_table.specs.BeforeHtml.{before_html_start}
use Rattle.rules_table.specs.ForeignContent.{is_by_mode, takes}
use Rattle.rules_table.specs.InBodyEnds.{in_body_end}
use Rattle.rules_table.specs.InHead.{in_head_end, in_head_start}
use Rattle.rules_table.specs.Rank.{rank}
use Rattle.rules_table.specs.Rows.{asks, done, ignored}
use Rattle.rules_table.specs.Rule.{foreign_row, rule}
use Rattle.rules_table.specs.Settling.{entered, given_by, past_tag, settle, taken, taken_character}
use Rattle.rules_table.specs.State.{Ask, TreeToken, State, character, doctype, finish, raw, start}
use Rattle.rules_table.specs.State as marks
use Rattle.rules_table.specs.Table.{row}
use Rattle.rules_table.specs.TextMode.{text_mode_end}
use Rattle.tree_predicates.specs.Quirks.{quirks_of}
use Rattle.tree_predicates.specs.declared.modes.InsertionMode.{InsertionMode}
use Rattle.tree_predicates.specs.declared.modes.InsertionMode.TheVariants as modes
use Rattle.document_laws.specs.Contents.{end_of, start_of}
use Rattle.document_laws.specs.Planted.{of_html, with_new, with_text}
use Rattle.document_laws.specs.Rebuilt.{head_alone, html_doctype, text_tokens, title_tokens, with_title}
use Rattle.document_laws.specs.Rebuilt.{with_title_text}
use Rattle.document_laws.proofs.BlockSteps.{first_in_scope}
use Rattle.document_laws.proofs.Inlines.{no_template}
use Rattle.document_laws.proofs.Planting.{Keeps, element_kind, grown_keeps, keeps_itself, keeps_on}
use Rattle.document_laws.proofs.Said.{SaysOne, run_said}
use Rattle.document_laws.proofs.Standing.{built, end_taken, ending, html_takes, if_false, if_true, now, opening, runs}
use Rattle.document_laws.proofs.Standing.{runs_on, settled_as, stepped, stepped_done, taken_done}

-- a state outside the body
unfoldable pub page_at : State → InsertionMode → List ℕ → Forest → State
page_at s mode stack f = record s {
  mode = mode;
  context = None;
  skip_lf = false;
  tree = built s.tree stack [] f;
}

-- what items come to
pub record Reaches (s : State) (items more : List Item) (mode : InsertionMode) (stack : List ℕ) (f : Forest) :
    Type 0 where
  pub at : State
  pub come : runs s items ≡ runs (page_at at mode stack f) more

-- a mark that the mode's rules take
rule_taken : (mark : TreeToken) (s : State) → is_by_mode mark s ≡ true → rule mark s ≡ row s.mode mark s
rule_taken mark s e = if_true (is_by_mode mark s) (row s.mode mark s) (foreign_row mark s) e

or_true : (x y : Bool) → y ≡ true → (x || y) ≡ true
or_true true y e = refl
or_true false y e = e

by_mode_at : (mark : TreeToken) (s : State) (mode : InsertionMode) (p : ℕ) (rest : List ℕ) (f : Forest)
    (word : List ℕ) →
    name_of p f ≡ of_html word → is_by_mode mark (page_at s mode (p ∷ rest) f) ≡ true
unfolding page_at built
by_mode_at mark s mode p rest f word e = or_true _ (takes mark (name_of p f) (is_integration_point p f))
    (subst (λ name. takes mark name (is_integration_point p f) ≡ true) (sym e)
    (html_takes mark word (is_integration_point p f)))

-- what an item of a page comes to, by a row of its mode
stepped_at : (t : Tag) (mark : TreeToken) (s : State) (mode : InsertionMode) (p : ℕ) (rest : List ℕ) (f : Forest)
    (word : List ℕ) (actions : List Action) → name_of p f ≡ of_html word →
    row mode mark (page_at s mode (p ∷ rest) f) ≡ done actions →
    settled_as t (taken mark (page_at s mode (p ∷ rest) f)) ≡ Some (act_all actions (page_at s mode (p ∷ rest) f))
unfolding page_at
stepped_at t mark s mode p rest f word actions named is =
    let here = page_at s mode (p ∷ rest) f in
    stepped_done t mark here actions (rule_taken mark here (by_mode_at mark s mode p rest f word named) ∙ is)

taken_at : (mark : TreeToken) (s : State) (mode : InsertionMode) (p : ℕ) (rest : List ℕ) (f : Forest) (word : List ℕ)
    (actions : List Action) → name_of p f ≡ of_html word →
    row mode mark (page_at s mode (p ∷ rest) f) ≡ done actions →
    (taken mark (page_at s mode (p ∷ rest) f)).state ≡ act_all actions (page_at s mode (p ∷ rest) f)
unfolding page_at
taken_at mark s mode p rest f word actions named is =
    let here = page_at s mode (p ∷ rest) f in
    taken_done mark here actions (rule_taken mark here (by_mode_at mark s mode p rest f word named) ∙ is)

stepped_asks : (t : Tag) (mark : TreeToken) (s : State) (ask : Ask) (actions : List Action) → rule mark s
    ≡ asks ask actions →
    settled_as t (taken mark s)
    ≡ settled_as t (record { ask = ask; state = entered ask (act_all actions s) })
stepped_asks t mark s ask actions e = ap (λ r. settled_as t (given_by r s (settle (rank mark s) mark))) e

start_at : (s : State) (mode : InsertionMode) (stack : List ℕ) (f : Forest) (name : List ℕ)
    (attributes : List Attribute) → stepped (page_at s mode stack f) (start_of name attributes)
    ≡ settled_as (opening name attributes) (taken (start (opening name attributes)) (page_at s mode stack f))
unfolding page_at
start_at s mode stack f name attributes = refl

end_at : (s : State) (mode : InsertionMode) (stack : List ℕ) (f : Forest) (name : List ℕ) →
    stepped (page_at s mode stack f) (end_of name)
    ≡ settled_as (ending name) (taken (finish (ending name)) (page_at s mode stack f))
unfolding page_at
end_at s mode stack f name = refl

-- groups
group_html : tag_group (codes "html") ≡ groups.Html
unfolding tag_group
group_html = refl

group_head : tag_group (codes "head") ≡ groups.Head
unfolding tag_group
group_head = refl

group_title : tag_group (codes "title") ≡ groups.Title
unfolding tag_group
group_title = refl

group_body : tag_group (codes "body") ≡ groups.Body
unfolding tag_group
group_body = refl

-- the first state
page_of : State → InsertionMode → Option ℕ → List ℕ → List Entry → Bool → Forest → State
page_of s mode context stack entries fostering f = record s {
  mode = mode;
  context = context;
  skip_lf = false;
  tree = record s.tree { stack = stack; formatting = entries; fostering = fostering; forest = f };
}

begins : (s : State) → IsAtBeginning s → s.tree.forest ≡ page_alone →
    past_tag s ≡ page_at s modes.Initial [] page_alone
unfolding page_at built page_of
begins s is alone =
    ap (λ m. page_of s m s.context s.tree.stack s.tree.formatting s.tree.fostering s.tree.forest) is.mode
    ∙ ap (λ c. page_of s modes.Initial c s.tree.stack s.tree.formatting s.tree.fostering s.tree.forest) is.page
    ∙ ap (λ ns. page_of s modes.Initial None ns s.tree.formatting s.tree.fostering s.tree.forest) is.stack
    ∙ ap (λ es. page_of s modes.Initial None [] es s.tree.fostering s.tree.forest) is.formatting
    ∙ ap (λ b. page_of s modes.Initial None [] [] b s.tree.forest) is.fostering
    ∙ ap (λ f. page_of s modes.Initial None [] [] false f) alone

abbrev with_one : Forest
with_one = with_doctype (codes "html") [] [] page_alone

abbrev plain_doctype : Doctype
plain_doctype = record {
  name = Some (codes "html");
  public_id = None;
  system_id = None;
  force_quirks = false;
}

abbrev after_doctype : State → State
after_doctype s = record s {
  quirks = quirks_of plain_doctype;
  tree = record s.tree { quirks = quirks_of plain_doctype };
}

doctype_acts : (s : State) → act_all (append_doctype plain_doctype ∷ set_quirks (quirks_of plain_doctype)
    ∷ go_to modes.BeforeHtml ∷ []) (page_at s modes.Initial [] page_alone)
    ≡ page_at (after_doctype s) modes.BeforeHtml [] with_one
unfolding page_at built act
doctype_acts s = refl

doctype_rule : (s : State) → s.options.drop_doctype ≡ false →
    rule (doctype plain_doctype) (page_at s modes.Initial [] page_alone)
    ≡ done (append_doctype plain_doctype ∷ set_quirks (quirks_of plain_doctype) ∷ go_to modes.BeforeHtml ∷ [])
unfolding page_at built
doctype_rule s keeps = if_false s.options.drop_doctype _ _ keeps

doctype_step : (s : State) → IsAtBeginning s → s.tree.forest ≡ page_alone → s.options.drop_doctype ≡ false →
    stepped s html_doctype ≡ Some (page_at (after_doctype s) modes.BeforeHtml [] with_one)
doctype_step s is alone keeps =
    ap Some (ap (λ z. (taken (doctype plain_doctype) z).state) (begins s is alone)
    ∙ taken_done (doctype plain_doctype) (page_at s modes.Initial [] page_alone) _ (doctype_rule s keeps)
    ∙ doctype_acts s)

-- `html` and `head`
abbrev with_root : Forest
with_root = with_new 0 (codes "html") [] with_one

html_rule : (s : State) → rule (start (opening (codes "html") [])) (page_at s modes.BeforeHtml [] with_one)
    ≡ done (insert at_place (opening (codes "html") []) ∷ go_to modes.BeforeHead ∷ [])
unfolding page_at built
html_rule s = ap (λ g. before_html_start g (opening (codes "html") [])) group_html

html_acts : (s : State) → act_all (insert at_place (opening (codes "html") []) ∷ go_to modes.BeforeHead ∷ [])
    (page_at s modes.BeforeHtml [] with_one) ≡ page_at s modes.BeforeHead (2 ∷ []) with_root
unfolding page_at built act
html_acts s = refl

html_step : (s : State) → stepped (page_at s modes.BeforeHtml [] with_one) (start_of (codes "html") [])
    ≡ Some (page_at s modes.BeforeHead (2 ∷ []) with_root)
html_step s = start_at s modes.BeforeHtml [] with_one (codes "html") []
    ∙ stepped_done (opening (codes "html") []) (start (opening (codes "html") []))
    (page_at s modes.BeforeHtml [] with_one) _ (html_rule s)
    ∙ ap Some (html_acts s)

head_acts : (s : State) → act_all (insert at_place (opening (codes "head") []) ∷ keep_head ∷ go_to modes.InHead ∷ [])
    (page_at s modes.BeforeHead (2 ∷ []) with_root)
    ≡ page_at (record s { head = Some 3 }) modes.InHead (3 ∷ 2 ∷ []) head_alone
unfolding page_at built act
head_acts s = refl

head_step : (s : State) → stepped (page_at s modes.BeforeHead (2 ∷ []) with_root) (start_of (codes "head") [])
    ≡ Some (page_at (record s { head = Some 3 }) modes.InHead (3 ∷ 2 ∷ []) head_alone)
head_step s = start_at s modes.BeforeHead (2 ∷ []) with_root (codes "head") []
    ∙ stepped_at (opening (codes "head") []) (start (opening (codes "head") [])) s modes.BeforeHead 2 [] with_root
    (codes "html") _ refl
    (ap (λ g. before_head_start g (opening (codes "head") []) (page_at s modes.BeforeHead (2 ∷ []) with_root))
    group_head)
    ∙ ap Some (head_acts s)

-- a title
abbrev titled : Forest
titled = with_new 3 (codes "title") [] head_alone

pub title_rule : (s : State) → rule (start (opening (codes "title") []))
    (page_at s modes.InHead (3 ∷ 2 ∷ []) head_alone)
    ≡ asks (raw Rcdata) (insert at_place (opening (codes "title") []) ∷ [])
unfolding page_at built
title_rule s = ap (λ g. in_head_start at_place g (opening (codes "title") [])
    (page_at s modes.InHead (3 ∷ 2 ∷ []) head_alone)) group_title

title_acts : (s : State) → entered (raw Rcdata) (act_all (insert at_place (opening (codes "title") []) ∷ [])
    (page_at s modes.InHead (3 ∷ 2 ∷ []) head_alone))
    ≡ page_at (record s { original = modes.InHead }) modes.Text (4 ∷ 3 ∷ 2 ∷ []) titled
unfolding page_at built act
title_acts s = refl

title_step : (s : State) → stepped (page_at s modes.InHead (3 ∷ 2 ∷ []) head_alone) (start_of (codes "title") [])
    ≡ Some (page_at (record s { original = modes.InHead }) modes.Text (4 ∷ 3 ∷ 2 ∷ []) titled)
title_step s = start_at s modes.InHead (3 ∷ 2 ∷ []) head_alone (codes "title") []
    ∙ stepped_asks (opening (codes "title") []) (start (opening (codes "title") []))
    (page_at s modes.InHead (3 ∷ 2 ∷ []) head_alone) _ _
    (title_rule s)
    ∙ ap Some (title_acts s)

title_said : (s : State) (c p : ℕ) (rest : List ℕ) (f : Forest) → is_template p f ≡ false →
    act (say (c ∷ [])) (page_at s modes.Text (p ∷ rest) f)
    ≡ page_at s modes.Text (p ∷ rest) (put_words (below p) (c ∷ []) f)
unfolding page_at built act
title_said s c p rest f plain = rw plain

title_rules : (s : State) (c : ℕ) (stack : List ℕ) (f : Forest) →
    rule (character c) (page_at s modes.Text stack f) ≡ done (say (c ∷ []) ∷ [])
unfolding page_at built
title_rules s c stack f = refl

title_character : (s : State) (c : ℕ) (stack : List ℕ) (f : Forest) →
    taken_character (page_at s modes.Text stack f) c ≡ (taken (character c) (page_at s modes.Text stack f)).state
unfolding page_at
title_character s c stack f = refl

title_says : (s : State) → SaysOne (λ ok f. page_at s modes.Text (4 ∷ 3 ∷ 2 ∷ []) f) 4 (of_html (codes "title"))
title_says s = λ ok c f named. (
  ok,
  title_character s c (4 ∷ 3 ∷ 2 ∷ []) f
      ∙ taken_done (character c) (page_at s modes.Text (4 ∷ 3 ∷ 2 ∷ []) f) _ (title_rules s c (4 ∷ 3 ∷ 2 ∷ []) f)
      ∙ title_said s c 4 (3 ∷ 2 ∷ []) f (no_template 4 f (codes "title") named refl),
)

title_text : (s : State) (cs : List ℕ) (more : List Item) →
    runs (page_at s modes.Text (4 ∷ 3 ∷ 2 ∷ []) titled) (text_tokens cs more)
    ≡ runs (page_at s modes.Text (4 ∷ 3 ∷ 2 ∷ []) (with_title_text 4 cs titled)) more
title_text s [] more = refl
title_text s (c ∷ cs) more =
    runs_on (page_at s modes.Text (4 ∷ 3 ∷ 2 ∷ []) titled)
    (page_at s modes.Text (4 ∷ 3 ∷ 2 ∷ []) (with_text 4 (c ∷ cs) titled)) (characters (c ∷ cs)) more
    (ap Some (run_said (λ ok f. page_at s modes.Text (4 ∷ 3 ∷ 2 ∷ []) f) 4 (of_html (codes "title")) (title_says s) c
    cs true
    titled (omega arith) refl refl).1)

title_end_rule : (s : State) (stack : List ℕ) (f : Forest) →
    rule (finish (ending (codes "title"))) (page_at s modes.Text stack f) ≡ done (pop ∷ go_back ∷ [])
unfolding page_at built
title_end_rule s stack f = ap (λ g. text_mode_end g (page_at s modes.Text stack f)) group_title

title_end_acts : (s : State) (f : Forest) → s.original ≡ modes.InHead →
    act_all (pop ∷ go_back ∷ []) (page_at s modes.Text (4 ∷ 3 ∷ 2 ∷ []) f) ≡ page_at s modes.InHead (3 ∷ 2 ∷ []) f
unfolding page_at built act
title_end_acts s f e = rw e

title_end_step : (s : State) (f : Forest) → s.original ≡ modes.InHead →
    stepped (page_at s modes.Text (4 ∷ 3 ∷ 2 ∷ []) f) (end_of (codes "title"))
    ≡ Some (page_at s modes.InHead (3 ∷ 2 ∷ []) f)
title_end_step s f e = end_at s modes.Text (4 ∷ 3 ∷ 2 ∷ []) f (codes "title")
    ∙ stepped_done (ending (codes "title")) (finish (ending (codes "title")))
    (page_at s modes.Text (4 ∷ 3 ∷ 2 ∷ []) f) _
    (title_end_rule s (4 ∷ 3 ∷ 2 ∷ []) f)
    ∙ ap Some (title_end_acts s f e)

pub title_reaches : (s : State) (title : Option (List ℕ)) (more : List Item) →
    Reaches (page_at s modes.InHead (3 ∷ 2 ∷ []) head_alone) (title_tokens title more) more modes.InHead (3 ∷ 2 ∷ [])
    (with_title title head_alone)
title_reaches s None more = record { at = s; come = refl }
title_reaches s (Some cs) more =
    let s' = record s { original = modes.InHead } in
    let f = with_title_text 4 cs titled in
    record {
      at = s';
      come = runs_on (page_at s modes.InHead (3 ∷ 2 ∷ []) head_alone) (page_at s' modes.Text (4 ∷ 3 ∷ 2 ∷ []) titled)
          (start_of (codes "title") []) (text_tokens cs (end_of (codes "title") ∷ more)) (title_step s)
          ∙ title_text s' cs (end_of (codes "title") ∷ more)
          ∙ runs_on (page_at s' modes.Text (4 ∷ 3 ∷ 2 ∷ []) f) (page_at s' modes.InHead (3 ∷ 2 ∷ []) f)
          (end_of (codes "title")) more (title_end_step s' f refl);
    }

pub title_keeps : (title : Option (List ℕ)) → Keeps head_alone (with_title title head_alone)
title_keeps None = keeps_itself head_alone
title_keeps (Some []) = grown_keeps 3 (element_kind (codes "title") []) head_alone
title_keeps (Some (c ∷ cs)) = keeps_on head_alone titled (with_text 4 (c ∷ cs) titled)
    (grown_keeps 3 (element_kind (codes "title") []) head_alone) (grown_keeps 4 _ titled)

-- from the beginning to the head
pub beginning_reaches : (s : State) (more : List Item) → IsAtBeginning s → s.tree.forest ≡ page_alone →
    s.options.drop_doctype ≡ false →
    Reaches s (html_doctype ∷ start_of (codes "html") [] ∷ start_of (codes "head") [] ∷ more) more modes.InHead
    (3 ∷ 2 ∷ []) head_alone
beginning_reaches s more is alone keeps =
    let s' = after_doctype s in
    let items = start_of (codes "head") [] ∷ more in
    record {
      at = record s' { head = Some 3 };
      come = runs_on s (page_at s' modes.BeforeHtml [] with_one) html_doctype (start_of (codes "html") [] ∷ items)
          (doctype_step s is alone keeps)
          ∙ runs_on (page_at s' modes.BeforeHtml [] with_one) (page_at s' modes.BeforeHead (2 ∷ []) with_root)
          (start_of (codes "html") []) items (html_step s')
          ∙ runs_on (page_at s' modes.BeforeHead (2 ∷ []) with_root)
          (page_at (record s' { head = Some 3 }) modes.InHead (3 ∷ 2 ∷ []) head_alone) (start_of (codes "head") [])
          more (head_step s');
    }

-- from the head to the body
head_end_acts : (s : State) (f : Forest) → act_all (pop ∷ go_to modes.AfterHead ∷ [])
    (page_at s modes.InHead (3 ∷ 2 ∷ []) f) ≡ page_at s modes.AfterHead (2 ∷ []) f
unfolding page_at built act
head_end_acts s f = refl

pub head_end_step : (s : State) (f : Forest) → name_of 3 f ≡ of_html (codes "head") →
    stepped (page_at s modes.InHead (3 ∷ 2 ∷ []) f) (end_of (codes "head"))
    ≡ Some (page_at s modes.AfterHead (2 ∷ []) f)
head_end_step s f named = end_at s modes.InHead (3 ∷ 2 ∷ []) f (codes "head")
    ∙ stepped_at (ending (codes "head")) (finish (ending (codes "head"))) s modes.InHead 3 (2 ∷ []) f (codes "head") _
    named
    (ap (λ g. in_head_end g (page_at s modes.InHead (3 ∷ 2 ∷ []) f)) group_head)
    ∙ ap Some (head_end_acts s f)

body_acts : (s : State) (f : Forest) → is_template 2 f ≡ false →
    act_all (insert at_place (opening (codes "body") []) ∷ refuse_frameset ∷ go_to modes.InBody ∷ [])
    (page_at s modes.AfterHead (2 ∷ []) f) ≡ now s false (nodes f ∷ 2 ∷ []) [] (with_new 2 (codes "body") [] f)
unfolding page_at built act now
body_acts s f plain = rw plain

pub body_step : (s : State) (f : Forest) → name_of 2 f ≡ of_html (codes "html") →
    stepped (page_at s modes.AfterHead (2 ∷ []) f) (start_of (codes "body") [])
    ≡ Some (now s false (nodes f ∷ 2 ∷ []) [] (with_new 2 (codes "body") [] f))
body_step s f named = start_at s modes.AfterHead (2 ∷ []) f (codes "body") []
    ∙ stepped_at (opening (codes "body") []) (start (opening (codes "body") [])) s modes.AfterHead 2 [] f
    (codes "html") _ named
    (ap (λ g. after_head_start g (opening (codes "body") []) (page_at s modes.AfterHead (2 ∷ []) f)) group_body)
    ∙ ap Some (body_acts s f (no_template 2 f (codes "html") named refl))

-- from the body's end to the page's
body_in_scope : (s : State) (ok : Bool) (n : ℕ) (rest : List ℕ) (f : Forest) → name_of n f ≡ of_html (codes "body") →
    in_body_end (tag_group (codes "body")) (ending (codes "body")) (now s ok (n ∷ rest) [] f)
    ≡ done (go_to modes.AfterBody ∷ [])
unfolding now built
body_in_scope s ok n rest f named =
    ap (λ g. in_body_end g (ending (codes "body")) (now s ok (n ∷ rest) [] f)) group_body
    ∙ if_true _ (done (go_to modes.AfterBody ∷ [])) ignored
    (first_in_scope scope_barriers (one (codes "body")) f n rest
    (ap (is_element_of (one (codes "body"))) named))

body_end_acts : (s : State) (ok : Bool) (stack : List ℕ) (f : Forest) →
    act_all (go_to modes.AfterBody ∷ []) (now s ok stack [] f)
    ≡ page_at (record s { frameset_ok = ok }) modes.AfterBody stack f
unfolding page_at built act now
body_end_acts s ok stack f = refl

body_end_step : (s : State) (ok : Bool) (n : ℕ) (rest : List ℕ) (f : Forest) → name_of n f ≡ of_html (codes "body") →
    stepped (now s ok (n ∷ rest) [] f) (end_of (codes "body"))
    ≡ Some (page_at (record s { frameset_ok = ok }) modes.AfterBody (n ∷ rest) f)
body_end_step s ok n rest f named =
    end_taken s ok n rest [] f (codes "body") (codes "body") (go_to modes.AfterBody ∷ []) named
    (body_in_scope s ok n rest f named)
    ∙ ap Some (body_end_acts s ok (n ∷ rest) f)

html_end_row : (s : State) (stack : List ℕ) (f : Forest) →
    after_body_end (tag_group (codes "html")) (page_at s modes.AfterBody stack f)
    ≡ done (go_to modes.AfterAfterBody ∷ [])
unfolding page_at
html_end_row s stack f = ap (λ g. after_body_end g (page_at s modes.AfterBody stack f)) group_html

html_end_acts : (s : State) (stack : List ℕ) (f : Forest) →
    act_all (go_to modes.AfterAfterBody ∷ []) (page_at s modes.AfterBody stack f)
    ≡ page_at s modes.AfterAfterBody stack f
unfolding page_at built act
html_end_acts s stack f = refl

html_end_step : (s : State) (n : ℕ) (rest : List ℕ) (f : Forest) → name_of n f ≡ of_html (codes "body") →
    stepped (page_at s modes.AfterBody (n ∷ rest) f) (end_of (codes "html"))
    ≡ Some (page_at s modes.AfterAfterBody (n ∷ rest) f)
html_end_step s n rest f named = end_at s modes.AfterBody (n ∷ rest) f (codes "html")
    ∙ stepped_at (ending (codes "html")) (finish (ending (codes "html"))) s modes.AfterBody n rest f (codes "body") _
    named
    (html_end_row s (n ∷ rest) f)
    ∙ ap Some (html_end_acts s (n ∷ rest) f)

file_ends : (s : State) (n : ℕ) (rest : List ℕ) (f : Forest) → name_of n f ≡ of_html (codes "body") →
    option_map (λ (z : State). z.tree.forest) (runs (page_at s modes.AfterAfterBody (n ∷ rest) f) (end_of_file ∷ []))
    ≡ Some f
unfolding page_at built runs
file_ends s n rest f named =
    ap (λ (z : State). let found : Option Forest = Some z.tree.forest in found)
    (taken_at marks.end_of_file s modes.AfterAfterBody n rest f (codes "body") [] named refl)

pub page_ends : (s : State) (ok : Bool) (n : ℕ) (rest : List ℕ) (f : Forest) → name_of n f ≡ of_html (codes "body") →
    option_map (λ (z : State). z.tree.forest)
    (runs (now s ok (n ∷ rest) [] f) (end_of (codes "body") ∷ end_of (codes "html") ∷ end_of_file ∷ [])) ≡ Some f
page_ends s ok n rest f named =
    let s' = record s { frameset_ok = ok } in
    ap (option_map (λ (z : State). z.tree.forest))
    (runs_on (now s ok (n ∷ rest) [] f) (page_at s' modes.AfterBody (n ∷ rest) f) (end_of (codes "body"))
    (end_of (codes "html") ∷ end_of_file ∷ []) (body_end_step s ok n rest f named)
    ∙ runs_on (page_at s' modes.AfterBody (n ∷ rest) f) (page_at s' modes.AfterAfterBody (n ∷ rest) f)
    (end_of (codes "html")) (end_of_file ∷ []) (html_end_step s' n rest f named))
    ∙ file_ends s' n rest f named
