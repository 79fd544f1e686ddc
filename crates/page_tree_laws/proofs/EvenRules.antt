-- The rule for a mark neither opens nor closes a template where the rows of the mode do not: what is inserted in
-- foreign content is no element of HTML (WHATWG HTML, 13.2.6 and 13.2.6.5).
use Rattle.std.proofs.Common.{◌≡◌, ◌||◌, if◌then◌else◌, [], ◌∷◌, Bool, List, None, Option, Some, codes, false, is_some}
use Rattle.std.proofs.Common.{refl, true, ℕ}
use Rattle.tree_forest.specs.Forest.{Forest, is_integration_point, name_of}
use Rattle.html_lexemes.specs.declared.names.Namespace.{Namespace}
use Rattle.html_lexemes.specs.declared.names.Namespace.TheVariants.{Html, MathMl, Other, Svg}
use Rattle.html_lexemes.specs.declared.token.Tag.{Tag}
use Rattle.html_tree_state.specs.Foreign.{named_foreign}
use Rattle.tree_names.specs.Sets.{is_html}
use Rattle.page_tree_laws.proofs.EvenEnds.{IsEvenText, character_even}
use Rattle.page_tree_laws.proofs.EvenRows.{IsEvenRow, even_if}
use Rattle.rules_table.specs.Actions.{act, break_out, close_foreign, is_text}
use Rattle.rules_table.specs.ForeignContent.{foreign_start, foreign_text, is_by_mode, is_taken_at, namespace_at}
use Rattle.rules_table.specs.ForeignContent.{node_here}
use Rattle.rules_table.specs.Rows.{Row, after, again, asks, done, is_white_space}
use Rattle.rules_table.specs.Rule.{broken_out_row, foreign_end, foreign_row}
use Rattle.rules_table.specs.State.{TreeToken, State, character, comment, doctype, end_of_file, finish, null, start}
use Rattle.rules_table.specs.Table.{row}
use Rattle.tree_predicates.specs.Foreign.{breaks_out, takes_start}

-- what is inserted in foreign content has the namespace of a foreign node
foreign_free : (ns : Namespace) (local tag : List ℕ) (p : Bool) →
    takes_start (record { ns = ns; local = local }) p tag ≡ false →
    is_html (codes "template") (record { ns = ns; local = tag }) ≡ false
foreign_free Html local tag p e = absurd (let k : true ≡ false = e in cc)
foreign_free MathMl local tag p e = refl
foreign_free Svg local tag p e = refl
foreign_free (Other text) local tag p e = refl

foreign_at : (t : Tag) (f : Forest) (found : Option ℕ) → is_taken_at (start t) f found ≡ false →
    is_html (codes "template") (record { ns = namespace_at f found; local = t.name }) ≡ false
foreign_at t f None e = absurd (let k : true ≡ false = e in cc)
foreign_at t f (Some n) e =
    foreign_free (name_of n f).ns (name_of n f).local t.name (is_integration_point n f) e

or_false : (x y : Bool) → (x || y) ≡ false → y ≡ false
or_false true y e = absurd (let k : true ≡ false = e in cc)
or_false false y e = e

pub inserted_even : (t : Tag) (s : State) → is_by_mode (start t) s ≡ false → IsEvenRow (foreign_start t s)
inserted_even t s off = (
  foreign_at t s.tree.forest (node_here s)
      (or_false (is_text s.mode) (is_taken_at (start t) s.tree.forest (node_here s)) off),
  tt,
)

text_even : (is_space : Bool) → IsEvenText (foreign_text is_space)
text_even true = tt
text_even false = (tt, tt)

-- breaking out of foreign content comes first
after_even : (r : Row) → IsEvenRow r → IsEvenRow (after (break_out ∷ []) r)
after_even (done actions) are = (tt, are)
after_even (asks ask actions) are = (tt, are)
after_even (again actions) are = (tt, are)

foreign_even : (mark : TreeToken) (s : State) → is_by_mode mark s ≡ false → IsEvenRow (row s.mode mark s) →
    IsEvenRow (row s.mode mark (act break_out s)) → IsEvenRow (foreign_row mark s)
foreign_even (character c) s off here out =
    character_even c (foreign_text (is_white_space c)) (text_even (is_white_space c))
foreign_even null s off here out = (tt, tt)
foreign_even (comment cs) s off here out = (tt, tt)
foreign_even (doctype d) s off here out = tt
foreign_even (start t) s off here out = even_if (breaks_out t) (broken_out_row (start t) s) (foreign_start t s)
    (after_even (row s.mode (start t) (act break_out s)) out) (inserted_even t s off)
foreign_even (finish t) s off here out = even_if (breaks_out t) (broken_out_row (finish t) s) (foreign_end t s)
    (after_even (row s.mode (finish t) (act break_out s)) out)
    (even_if (is_some (named_foreign t.name s.tree.forest s.tree.stack)) (done (close_foreign t.name ∷ []))
    (row s.mode (finish t) s) (tt, tt) here)
foreign_even end_of_file s off here out = here

-- rows by cases, where each is known in its case alone
even_when : (b : Bool) (x y : Row) → (b ≡ true → IsEvenRow x) → (b ≡ false → IsEvenRow y) →
    IsEvenRow (if b then x else y)
even_when true x y f g = f refl
even_when false x y f g = g refl
