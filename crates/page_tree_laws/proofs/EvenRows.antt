-- Rows that neither open nor close a template: those of the body do so, where no template is emitted (WHATWG HTML,
-- 13.2.6.4.7). A clause on any other group is checked group by group.
use Rattle.std.proofs.Common.{◌≡◌, if◌then◌else◌, [], ◌∷◌, ◌++◌, Bool, List, None, Option, Some, codes, false, refl}
use Rattle.std.proofs.Common.{true, ℕ}
use Rattle.tree_formatting.specs.Entries.{last_named}
use Rattle.html_lexemes.specs.declared.token.Tag.{Tag}
use Rattle.html_tree_state.specs.Formatting.{name_for}
use Rattle.rules_table.specs.Encodings.{named_encoding}
use Rattle.tree_names.specs.ElementSets.{headings}
use Rattle.tree_names.specs.Sets.{is_html}
use Rattle.tree_names.specs.Wanted.{one}
use Rattle.page_tree_laws.proofs.FittingHeads.{none}
use Rattle.page_tree_laws.proofs.GroupNames.{all_pass, fails, group_apart}
use Rattle.tree_names.specs.Groups.{tag_group}
use Rattle.tree_names.specs.declared.group.TagGroup.{TagGroup}
use Rattle.tree_names.specs.declared.group.TagGroup.TheVariants as groups
use Rattle.rules_table.specs.Actions.{Action, at_place, foster, in_html, insert, insert_foreign, insert_formatting}
use Rattle.rules_table.specs.Actions.{insert_named, insert_void, pop_template_mode, push_template_mode, refuse_frameset}
use Rattle.rules_table.specs.Asking.{body_of, first_opened, has_form, has_template, in_button_scope, in_list_item_scope}
use Rattle.rules_table.specs.Asking.{in_scope, is_itself_in_scope, is_quirky}
use Rattle.rules_table.specs.HtmlTag.{given_to, html_start}
use Rattle.rules_table.specs.InBody.{in_body_start}
use Rattle.rules_table.specs.InBodyBlocks.{body_start, form_start, frameset_start, given_to_body, in_place_of_body}
use Rattle.rules_table.specs.InBodyEnds.{form_end, form_pointer_end, in_body_end}
use Rattle.rules_table.specs.InBodyPhrases.{anchor_after, input_start, select_closed}
use Rattle.rules_table.specs.InHead.{asks_encoding, in_head_start}
use Rattle.rules_table.specs.Rows.{Row, again, asks, between_fosters, done, fostered, ignored}
use Rattle.rules_table.specs.State.{State}
use Rattle.rules_table.specs.declared.target.Target.{Target}
use Rattle.tree_predicates.specs.Attributes.{is_hidden}

-- an action that opens no template, and leaves the modes of templates as they are
abbrev pub IsEven : Action → Type 0
IsEven (insert at tag) = is_html (codes "template") (name_for tag) ≡ false
IsEven (insert_named name) = is_html (codes "template") (in_html name) ≡ false
IsEven (insert_foreign ns tag) = is_html (codes "template") (record { ns = ns; local = tag.name }) ≡ false
IsEven (insert_formatting tag) = is_html (codes "template") (name_for tag) ≡ false
IsEven (push_template_mode mode) = ⊥
IsEven pop_template_mode = ⊥
IsEven _ = Unit {0}

abbrev pub AreEven : List Action → Type 0
AreEven [] = Unit {0}
AreEven (action ∷ actions) = IsEven action × AreEven actions

abbrev pub IsEvenRow : Row → Type 0
IsEvenRow (done actions) = AreEven actions
IsEvenRow (asks ask actions) = AreEven actions
IsEvenRow (again actions) = AreEven actions

-- a name other than "template": each name of another group is one
abbrev pub IsOther : List ℕ → Type 0
IsOther name = is_html (codes "template") (in_html name) ≡ false

abbrev pub IsEvenGroup : TagGroup → List ℕ → Type 0
IsEvenGroup groups.Template name = ⊥
IsEvenGroup _ name = IsOther name

abbrev pub is_no_template : TagGroup → Bool
is_no_template groups.Template = false
is_no_template _ = true

template_fails : all_pass (fails (λ word. is_no_template (tag_group word))) (codes "template" ∷ []) ≡ true
unfolding tag_group
template_fails = refl

other_named : (name : List ℕ) (group : TagGroup) → tag_group name ≡ group → is_no_template group ≡ true →
    IsOther name
other_named name group e is = group_apart is_no_template (codes "template" ∷ []) name group template_fails e is

pub even_named : (name : List ℕ) (group : TagGroup) → tag_group name ≡ group → is_no_template group ≡ true →
    IsEvenGroup group name
even_named name groups.Template e is = none is
even_named name group e is = other_named name group e is

-- rows and lists of actions by cases, and actions after others
pub even_if : (b : Bool) (x y : Row) → IsEvenRow x → IsEvenRow y → IsEvenRow (if b then x else y)
even_if true x y f g = f
even_if false x y f g = g

pub list_even_if : (b : Bool) (xs ys : List Action) → AreEven xs → AreEven ys → AreEven (if b then xs else ys)
list_even_if true xs ys f g = f
list_even_if false xs ys f g = g

pub even_append : (xs ys : List Action) → AreEven xs → AreEven ys → AreEven (xs ++ ys)
even_append [] ys f g = g
even_append (x ∷ xs) ys f g = (f.0, even_append xs ys f.1 g)

-- with foster parenting on
between_even : (actions : List Action) → AreEven actions → AreEven (between_fosters actions)
between_even actions are = (tt, even_append actions (foster false ∷ []) are (tt, tt))

pub even_fostered : (r : Row) → IsEvenRow r → IsEvenRow (fostered r)
even_fostered (done actions) are = between_even actions are
even_fostered (asks ask actions) are = between_even actions are
even_fostered (again actions) are = between_even actions are

-- the start tag "html"
given_even : (root : Option ℕ) (t : Tag) → IsEvenRow (given_to root t)
given_even None t = tt
given_even (Some n) t = (tt, tt)

pub html_even : (t : Tag) (s : State) → IsEvenRow (html_start t s)
html_even t s = even_if (has_template s) ignored (given_to (first_opened s.tree.stack) t) tt
    (given_even (first_opened s.tree.stack) t)

-- "meta"
encoding_even : (name : Option (List ℕ)) (actions : List Action) → AreEven actions →
    IsEvenRow (asks_encoding name actions)
encoding_even None actions are = are
encoding_even (Some name) actions are = are

pub meta_even : (at : Target) (t : Tag) (s : State) → IsEvenRow (in_head_start at groups.Meta t s)
meta_even at t s = encoding_even (named_encoding t.attrs) (insert_void at t ∷ []) (tt, tt)

-- "body"
body_given_even : (body : Option ℕ) (t : Tag) → IsEvenRow (given_to_body body t)
body_given_even None t = tt
body_given_even (Some n) t = (tt, (tt, tt))

-- "frameset" takes the place of a body
in_place_even : (body : Option ℕ) (t : Tag) → IsOther t.name → IsEvenRow (in_place_of_body body t)
in_place_even None t is = tt
in_place_even (Some n) t is = (tt, (tt, (is, (tt, tt))))

frameset_even : (t : Tag) (s : State) → IsOther t.name → IsEvenRow (frameset_start t s)
frameset_even t s is = even_if s.frameset_ok (in_place_of_body (body_of s) t) ignored
    (in_place_even (body_of s) t is) tt

body_tag_even : (t : Tag) (s : State) → IsEvenRow (body_start t s)
body_tag_even t s = even_if (has_template s) ignored (given_to_body (body_of s) t) tt (body_given_even (body_of s) t)

-- "form", "a" and "input"
form_even : (t : Tag) (s : State) → IsOther t.name → IsEvenRow (form_start t s)
form_even t s is = even_if (has_form s) _ _ tt
    (even_if (has_template s) _ _ (tt, (is, tt)) (tt, (is, (tt, tt))))

anchor_even : (listed : Option ℕ) (t : Tag) → IsOther t.name → IsEvenRow (anchor_after listed t)
anchor_even None t is = (tt, (is, tt))
anchor_even (Some n) t is = (tt, (tt, (tt, (tt, (is, tt)))))

input_even : (t : Tag) (s : State) → IsEvenRow (input_start t s)
input_even t s = even_append (select_closed s) _ (list_even_if (in_scope (one (codes "select")) s) _ [] (tt, tt) tt)
    (tt, (tt, list_even_if (is_hidden t.attrs) [] (refuse_frameset ∷ []) tt (tt, tt)))

-- a start tag in the body
pub body_start_even : (group : TagGroup) (t : Tag) (s : State) → IsEvenGroup group t.name →
    IsEvenRow (in_body_start group t s)
body_start_even groups.Template t s is = absurd is
body_start_even groups.Frameset t s is = frameset_even t s is
body_start_even groups.Anchor t s is = anchor_even (last_named t.name s.tree.formatting) t is
body_start_even groups.Base t s is = (tt, tt)
body_start_even groups.Link t s is = (tt, tt)
body_start_even groups.Block t s is = (tt, (is, tt))
body_start_even groups.Paragraph t s is = (tt, (is, tt))
body_start_even groups.Heading t s is = (tt, (tt, (is, tt)))
body_start_even groups.Preformatted t s is = (tt, (is, (tt, (tt, tt))))
body_start_even groups.ListItem t s is = (tt, (tt, (tt, (is, tt))))
body_start_even groups.Definition t s is = (tt, (tt, (tt, (is, tt))))
body_start_even groups.Plaintext t s is = (tt, (is, tt))
body_start_even groups.Noframes t s is = (is, tt)
body_start_even groups.Script t s is = (is, tt)
body_start_even groups.Style t s is = (is, tt)
body_start_even groups.Title t s is = (is, tt)
body_start_even groups.Noembed t s is = (is, tt)
body_start_even groups.Body t s is = body_tag_even t s
body_start_even groups.Button t s is = even_if (in_scope (one (codes "button")) s) _ _
    (tt, (tt, (tt, (is, (tt, tt))))) (tt, (is, (tt, tt)))
body_start_even groups.Form t s is = form_even t s is
body_start_even groups.Formatting t s is = (tt, (is, tt))
body_start_even groups.NoBreak t s is = (tt, (tt, (is, tt)))
body_start_even groups.Marked t s is = (tt, (is, (tt, (tt, tt))))
body_start_even groups.LineBreak t s is = (tt, (tt, (tt, tt)))
body_start_even groups.VoidPhrase t s is = (tt, (tt, (tt, tt)))
body_start_even groups.Input t s is = input_even t s
body_start_even groups.VoidSource t s is = (tt, tt)
body_start_even groups.HorizontalRule t s is =
    even_if (in_scope (one (codes "select")) s) _ _ (tt, (tt, (tt, (tt, tt)))) (tt, (tt, (tt, tt)))
body_start_even groups.Image t s is = (tt, (tt, (tt, tt)))
body_start_even groups.Textarea t s is = (is, (tt, (tt, tt)))
body_start_even groups.Xmp t s is = (tt, (tt, (tt, (is, tt))))
body_start_even groups.Iframe t s is = (tt, (is, tt))
body_start_even groups.Html t s is = html_even t s
body_start_even groups.Meta t s is = meta_even at_place t s
body_start_even groups.Noscript t s is = even_if s.options.scripting_enabled _ _ (is, tt) (tt, (is, tt))
body_start_even groups.OptionItem t s is = even_if (in_scope (one (codes "select")) s) _ _ (tt, (tt, (is, tt)))
    (tt, (tt, (is, tt)))
body_start_even groups.OptionGroup t s is = even_if (in_scope (one (codes "select")) s) _ _ (tt, (tt, (is, tt)))
    (tt, (tt, (is, tt)))
body_start_even groups.RubyBase t s is = even_if (in_scope (one (codes "ruby")) s) _ _ (tt, (is, tt)) (is, tt)
body_start_even groups.RubyText t s is = even_if (in_scope (one (codes "ruby")) s) _ _ (tt, (is, tt)) (is, tt)
body_start_even groups.Math t s is = (tt, (refl, tt))
body_start_even groups.Svg t s is = (tt, (refl, tt))
body_start_even groups.Select t s is =
    even_if (in_scope (one (codes "select")) s) _ _ (tt, tt) (tt, (is, (tt, tt)))
body_start_even groups.Table t s is = even_if (is_quirky s.quirks) _ _ (is, (tt, (tt, tt)))
    (tt, (is, (tt, (tt, tt))))
body_start_even groups.Caption t s is = tt
body_start_even groups.Cell t s is = tt
body_start_even groups.Column t s is = tt
body_start_even groups.ColumnGroup t s is = tt
body_start_even groups.Frame t s is = tt
body_start_even groups.Head t s is = tt
body_start_even groups.Row t s is = tt
body_start_even groups.Section t s is = tt
body_start_even group t s is = (tt, (is, tt))

-- an end tag in the body
form_pointer_even : (form : Option ℕ) (s : State) → IsEvenRow (form_pointer_end form s)
form_pointer_even None s = tt
form_pointer_even (Some n) s = even_if (is_itself_in_scope n s) _ _ (tt, (tt, (tt, tt))) (tt, tt)

form_end_even : (s : State) → IsEvenRow (form_end s)
form_end_even s = even_if (has_template s) _ (form_pointer_end s.form s)
    (even_if (in_scope (one (codes "form")) s) _ _ (tt, (tt, tt)) tt) (form_pointer_even s.form s)

pub body_end_even : (group : TagGroup) (t : Tag) (s : State) → is_no_template group ≡ true →
    IsEvenRow (in_body_end group t s)
body_end_even groups.Template t s is = none is
body_end_even groups.Anchor t s is = (tt, tt)
body_end_even groups.Block t s is = even_if (in_scope (one t.name) s) _ _ (tt, (tt, tt)) tt
body_end_even groups.Body t s is = even_if (in_scope (one (codes "body")) s) _ _ (tt, tt) tt
body_end_even groups.Button t s is = even_if (in_scope (one t.name) s) _ _ (tt, (tt, tt)) tt
body_end_even groups.Definition t s is = even_if (in_scope (one t.name) s) _ _ (tt, (tt, tt)) tt
body_end_even groups.Form t s is = form_end_even s
body_end_even groups.Heading t s is = even_if (in_scope headings s) _ _ (tt, (tt, tt)) tt
body_end_even groups.Html t s is = even_if (in_scope (one (codes "body")) s) _ _ (tt, tt) tt
body_end_even groups.ListItem t s is = even_if (in_list_item_scope (one (codes "li")) s) _ _ (tt, (tt, tt)) tt
body_end_even groups.LineBreak t s is = (tt, (tt, (tt, tt)))
body_end_even groups.Marked t s is = even_if (in_scope (one t.name) s) _ _ (tt, (tt, (tt, tt))) tt
body_end_even groups.Paragraph t s is = even_if (in_button_scope (one (codes "p")) s) _ _ (tt, tt) (refl, (tt, tt))
body_end_even groups.Preformatted t s is = even_if (in_scope (one t.name) s) _ _ (tt, (tt, tt)) tt
body_end_even groups.Select t s is = even_if (in_scope (one t.name) s) _ _ (tt, (tt, tt)) tt
body_end_even group t s is = (tt, tt)
