-- Rows of the head and of the body do mild actions alone, where no start tag of a template or a frameset is emitted
-- (WHATWG HTML, 13.2.6.4.4 and 13.2.6.4.7). A clause on any other group is checked group by group.
use Rattle.std.proofs.Common.{◌≡◌, if◌then◌else◌, [], ◌∷◌, ◌++◌, Bool, List, None, Option, Some, codes, false, refl}
use Rattle.std.proofs.Common.{true, ℕ}
use Rattle.tree_formatting.specs.Entries.{last_named}
use Rattle.html_lexemes.specs.declared.token.Tag.{Tag}
use Rattle.rules_table.specs.Encodings.{named_encoding}
use Rattle.tree_names.specs.ElementSets.{headings}
use Rattle.tree_names.specs.Wanted.{one}
use Rattle.tree_names.specs.declared.group.TagGroup.{TagGroup}
use Rattle.tree_names.specs.declared.group.TagGroup.TheVariants as groups
use Rattle.rules_table.specs.Actions.{Action, at_place, foster, insert_void, in_html, refuse_frameset}
use Rattle.rules_table.specs.Asking.{body_of, first_opened, has_form, has_template, in_button_scope, in_list_item_scope}
use Rattle.rules_table.specs.Asking.{in_scope, is_itself_in_scope, is_quirky}
use Rattle.rules_table.specs.HtmlTag.{given_to, html_start}
use Rattle.rules_table.specs.InBody.{in_body_start, in_template_end_of_file}
use Rattle.rules_table.specs.InBodyBlocks.{body_start, form_start, given_to_body}
use Rattle.rules_table.specs.InBodyEnds.{form_end, form_pointer_end, in_body_end}
use Rattle.rules_table.specs.InBodyPhrases.{anchor_after, input_start, select_closed}
use Rattle.rules_table.specs.InHead.{asks_encoding, in_head_start, noscript_start, template_end}
use Rattle.rules_table.specs.Rows.{Row, again, asks, between_fosters, done, fostered, ignored}
use Rattle.rules_table.specs.State.{State}
use Rattle.rules_table.specs.declared.target.Target.{Target}
use Rattle.tree_predicates.specs.Attributes.{is_hidden}
use Rattle.page_tree_laws.proofs.CleanLists.{is_barred}
use Rattle.page_tree_laws.proofs.PlainStates.{IsMildRow}
use Rattle.page_tree_laws.proofs.UsualModes.{AreMild}

-- the name of a start tag that is emitted, by its group
abbrev pub IsPlainGroup : TagGroup → List ℕ → Type 0
IsPlainGroup groups.Template name = ⊥
IsPlainGroup groups.Frameset name = ⊥
IsPlainGroup groups.ColumnGroup name = Unit {0}
IsPlainGroup _ name = is_barred (in_html name) ≡ false

pub mild_if : (b : Bool) (x y : Row) → IsMildRow x → IsMildRow y → IsMildRow (if b then x else y)
mild_if true x y f g = f
mild_if false x y f g = g

pub list_if : (b : Bool) (xs ys : List Action) → AreMild xs → AreMild ys → AreMild (if b then xs else ys)
list_if true xs ys f g = f
list_if false xs ys f g = g

pub mild_append : (xs ys : List Action) → AreMild xs → AreMild ys → AreMild (xs ++ ys)
mild_append [] ys f g = g
mild_append (x ∷ xs) ys f g = (f.0, mild_append xs ys f.1 g)

between_mild : (actions : List Action) → AreMild actions → AreMild (between_fosters actions)
between_mild actions are = (tt, mild_append actions (foster false ∷ []) are (tt, tt))

pub mild_fostered : (r : Row) → IsMildRow r → IsMildRow (fostered r)
mild_fostered (done actions) are = between_mild actions are
mild_fostered (asks ask actions) are = between_mild actions are
mild_fostered (again actions) are = between_mild actions are

given_mild : (root : Option ℕ) (t : Tag) → IsMildRow (given_to root t)
given_mild None t = tt
given_mild (Some n) t = (tt, tt)

pub html_mild : (t : Tag) (s : State) → IsMildRow (html_start t s)
html_mild t s = mild_if (has_template s) ignored (given_to (first_opened s.tree.stack) t) tt
    (given_mild (first_opened s.tree.stack) t)

encoding_mild : (name : Option (List ℕ)) (actions : List Action) → AreMild actions →
    IsMildRow (asks_encoding name actions)
encoding_mild None actions are = are
encoding_mild (Some name) actions are = are

pub meta_mild : (at : Target) (t : Tag) (s : State) → IsMildRow (in_head_start at groups.Meta t s)
meta_mild at t s = encoding_mild (named_encoding t.attrs) (insert_void at t ∷ []) (tt, tt)

pub noscript_mild : (scripting : Bool) (at : Target) (t : Tag) → is_barred (in_html t.name) ≡ false →
    IsMildRow (noscript_start scripting at t)
noscript_mild true at t is = (is, tt)
noscript_mild false at t is = (is, (refl, tt))

pub template_mild : (s : State) → IsMildRow (template_end s)
template_mild s = mild_if (has_template s) _ ignored (tt, (tt, (tt, (tt, (tt, tt))))) tt

pub file_end_mild : (s : State) → IsMildRow (in_template_end_of_file s)
file_end_mild s = mild_if (has_template s) _ ignored (tt, (tt, (tt, (tt, tt)))) tt

body_given_mild : (body : Option ℕ) (t : Tag) → IsMildRow (given_to_body body t)
body_given_mild None t = tt
body_given_mild (Some n) t = (tt, (tt, tt))

body_tag_mild : (t : Tag) (s : State) → IsMildRow (body_start t s)
body_tag_mild t s = mild_if (has_template s) ignored (given_to_body (body_of s) t) tt (body_given_mild (body_of s) t)

form_mild : (t : Tag) (s : State) → is_barred (in_html t.name) ≡ false → IsMildRow (form_start t s)
form_mild t s is = mild_if (has_form s) _ _ tt
    (mild_if (has_template s) _ _ (tt, (is, tt)) (tt, (is, (tt, tt))))

anchor_mild : (listed : Option ℕ) (t : Tag) → is_barred (in_html t.name) ≡ false → IsMildRow (anchor_after listed t)
anchor_mild None t is = (tt, (is, tt))
anchor_mild (Some n) t is = (tt, (tt, (tt, (tt, (is, tt)))))

input_mild : (t : Tag) (s : State) → IsMildRow (input_start t s)
input_mild t s = mild_append (select_closed s) _ (list_if (in_scope (one (codes "select")) s) _ [] (tt, tt) tt)
    (tt, (tt, list_if (is_hidden t.attrs) [] (refuse_frameset ∷ []) tt (tt, tt)))

pub body_start_mild : (group : TagGroup) (t : Tag) (s : State) → IsPlainGroup group t.name →
    IsMildRow (in_body_start group t s)
body_start_mild groups.Template t s is = absurd is
body_start_mild groups.Frameset t s is = absurd is
body_start_mild groups.Anchor t s is = anchor_mild (last_named t.name s.tree.formatting) t is
body_start_mild groups.Base t s is = (tt, tt)
body_start_mild groups.Link t s is = (tt, tt)
body_start_mild groups.Block t s is = (tt, (is, tt))
body_start_mild groups.Paragraph t s is = (tt, (is, tt))
body_start_mild groups.Heading t s is = (tt, (tt, (is, tt)))
body_start_mild groups.Preformatted t s is = (tt, (is, (tt, (tt, tt))))
body_start_mild groups.ListItem t s is = (tt, (tt, (tt, (is, tt))))
body_start_mild groups.Definition t s is = (tt, (tt, (tt, (is, tt))))
body_start_mild groups.Plaintext t s is = (tt, (is, tt))
body_start_mild groups.Noframes t s is = (is, tt)
body_start_mild groups.Script t s is = (is, tt)
body_start_mild groups.Style t s is = (is, tt)
body_start_mild groups.Title t s is = (is, tt)
body_start_mild groups.Noembed t s is = (is, tt)
body_start_mild groups.Body t s is = body_tag_mild t s
body_start_mild groups.Button t s is = mild_if (in_scope (one (codes "button")) s) _ _
    (tt, (tt, (tt, (is, (tt, tt))))) (tt, (is, (tt, tt)))
body_start_mild groups.Form t s is = form_mild t s is
body_start_mild groups.Formatting t s is = (tt, (is, tt))
body_start_mild groups.NoBreak t s is = (tt, (tt, (is, tt)))
body_start_mild groups.Marked t s is = (tt, (is, (tt, (tt, tt))))
body_start_mild groups.LineBreak t s is = (tt, (tt, (tt, tt)))
body_start_mild groups.VoidPhrase t s is = (tt, (tt, (tt, tt)))
body_start_mild groups.Input t s is = input_mild t s
body_start_mild groups.VoidSource t s is = (tt, tt)
body_start_mild groups.HorizontalRule t s is =
    mild_if (in_scope (one (codes "select")) s) _ _ (tt, (tt, (tt, (tt, tt)))) (tt, (tt, (tt, tt)))
body_start_mild groups.Image t s is = (tt, (tt, (tt, tt)))
body_start_mild groups.Textarea t s is = (is, (tt, (tt, tt)))
body_start_mild groups.Xmp t s is = (tt, (tt, (tt, (is, tt))))
body_start_mild groups.Iframe t s is = (tt, (is, tt))
body_start_mild groups.Html t s is = html_mild t s
body_start_mild groups.Meta t s is = meta_mild at_place t s
body_start_mild groups.Noscript t s is = mild_if s.options.scripting_enabled _ _ (is, tt) (tt, (is, tt))
body_start_mild groups.OptionItem t s is = mild_if (in_scope (one (codes "select")) s) _ _ (tt, (tt, (is, tt)))
    (tt, (tt, (is, tt)))
body_start_mild groups.OptionGroup t s is = mild_if (in_scope (one (codes "select")) s) _ _ (tt, (tt, (is, tt)))
    (tt, (tt, (is, tt)))
body_start_mild groups.RubyBase t s is = mild_if (in_scope (one (codes "ruby")) s) _ _ (tt, (is, tt)) (is, tt)
body_start_mild groups.RubyText t s is = mild_if (in_scope (one (codes "ruby")) s) _ _ (tt, (is, tt)) (is, tt)
body_start_mild groups.Math t s is = (tt, (refl, tt))
body_start_mild groups.Svg t s is = (tt, (refl, tt))
body_start_mild groups.Select t s is =
    mild_if (in_scope (one (codes "select")) s) _ _ (tt, tt) (tt, (is, (tt, tt)))
body_start_mild groups.Table t s is = mild_if (is_quirky s.quirks) _ _ (is, (tt, (refl, tt)))
    (tt, (is, (tt, (refl, tt))))
body_start_mild groups.Caption t s is = tt
body_start_mild groups.Cell t s is = tt
body_start_mild groups.Column t s is = tt
body_start_mild groups.ColumnGroup t s is = tt
body_start_mild groups.Frame t s is = tt
body_start_mild groups.Head t s is = tt
body_start_mild groups.Row t s is = tt
body_start_mild groups.Section t s is = tt
body_start_mild group t s is = (tt, (is, tt))

form_pointer_mild : (form : Option ℕ) (s : State) → IsMildRow (form_pointer_end form s)
form_pointer_mild None s = tt
form_pointer_mild (Some n) s = mild_if (is_itself_in_scope n s) _ _ (tt, (tt, (tt, tt))) (tt, tt)

form_end_mild : (s : State) → IsMildRow (form_end s)
form_end_mild s = mild_if (has_template s) _ (form_pointer_end s.form s)
    (mild_if (in_scope (one (codes "form")) s) _ _ (tt, (tt, tt)) tt) (form_pointer_mild s.form s)

pub body_end_mild : (group : TagGroup) (t : Tag) (s : State) → IsMildRow (in_body_end group t s)
body_end_mild groups.Anchor t s = (tt, tt)
body_end_mild groups.Block t s = mild_if (in_scope (one t.name) s) _ _ (tt, (tt, tt)) tt
body_end_mild groups.Body t s = mild_if (in_scope (one (codes "body")) s) _ _ (refl, tt) tt
body_end_mild groups.Button t s = mild_if (in_scope (one t.name) s) _ _ (tt, (tt, tt)) tt
body_end_mild groups.Definition t s = mild_if (in_scope (one t.name) s) _ _ (tt, (tt, tt)) tt
body_end_mild groups.Form t s = form_end_mild s
body_end_mild groups.Heading t s = mild_if (in_scope headings s) _ _ (tt, (tt, tt)) tt
body_end_mild groups.Html t s = mild_if (in_scope (one (codes "body")) s) _ _ (refl, tt) tt
body_end_mild groups.ListItem t s = mild_if (in_list_item_scope (one (codes "li")) s) _ _ (tt, (tt, tt)) tt
body_end_mild groups.LineBreak t s = (tt, (tt, (tt, tt)))
body_end_mild groups.Marked t s = mild_if (in_scope (one t.name) s) _ _ (tt, (tt, (tt, tt))) tt
body_end_mild groups.Paragraph t s = mild_if (in_button_scope (one (codes "p")) s) _ _ (tt, tt) (refl, (tt, tt))
body_end_mild groups.Preformatted t s = mild_if (in_scope (one t.name) s) _ _ (tt, (tt, tt)) tt
body_end_mild groups.Select t s = mild_if (in_scope (one t.name) s) _ _ (tt, (tt, tt)) tt
body_end_mild groups.Template t s = template_mild s
body_end_mild group t s = (tt, tt)
