-- What takes a mark fits where the rules of the mode do: the rules for foreign content ask for nothing more (WHATWG
-- HTML, 13.2.6 and 13.2.6.5).
use Rattle.std.proofs.Common.{◌≡◌, ℕ, ◌||◌, Bool, true, false, List, [], ◌∷◌, Option, None, Some, is_some, refl}
use Rattle.tree_forest.specs.Forest.{Forest, is_integration_point, name_of}
use Rattle.html_lexemes.specs.declared.names.Namespace.{Namespace}
use Rattle.html_lexemes.specs.declared.names.Namespace.TheVariants.{Html, MathMl, Other, Svg}
use Rattle.html_lexemes.specs.declared.token.Tag.{Tag}
use Rattle.html_tree_state.specs.Foreign.{named_foreign}
use Rattle.page_tree_laws.proofs.Fits.{FitsRow, FitsText}
use Rattle.page_tree_laws.proofs.FittingCases.{after_fits, fits_if}
use Rattle.page_tree_laws.proofs.FittingTexts.{character_fits}
use Rattle.page_tree_laws.proofs.Guards.{Guard, is_barred}
use Rattle.rules_table.specs.Actions.{act, break_out, close_foreign, is_text}
use Rattle.rules_table.specs.ForeignContent.{foreign_start, foreign_text, is_by_mode, is_taken_at, namespace_at}
use Rattle.rules_table.specs.ForeignContent.{node_here}
use Rattle.rules_table.specs.Rows.{done, is_white_space}
use Rattle.rules_table.specs.Rule.{broken_out_row, foreign_end, foreign_row, rule}
use Rattle.rules_table.specs.State.{TreeToken, State, character, comment, doctype, end_of_file, finish, null, start}
use Rattle.rules_table.specs.Table.{row}
use Rattle.tree_predicates.specs.Foreign.{breaks_out, takes_start}

-- what is inserted in foreign content has the namespace of a foreign node, so its name isn't barred
foreign_free : (g : Guard) (ns : Namespace) (local tag : List ℕ) (p : Bool) →
    takes_start (record { ns = ns; local = local }) p tag ≡ false →
    is_barred g (record { ns = ns; local = tag }) ≡ false
foreign_free g Html local tag p e = absurd (let k : true ≡ false = e in cc)
foreign_free g MathMl local tag p e = refl
foreign_free g Svg local tag p e = refl
foreign_free g (Other text) local tag p e = refl

foreign_at : (g : Guard) (t : Tag) (f : Forest) (found : Option ℕ) → is_taken_at (start t) f found ≡ false →
    is_barred g (record { ns = namespace_at f found; local = t.name }) ≡ false
foreign_at g t f None e = absurd (let k : true ≡ false = e in cc)
foreign_at g t f (Some n) e =
    foreign_free g (name_of n f).ns (name_of n f).local t.name (is_integration_point n f) e

or_false : (x y : Bool) → (x || y) ≡ false → y ≡ false
or_false true y e = absurd (let k : true ≡ false = e in cc)
or_false false y e = e

pub inserted_foreign : (g : Guard) (t : Tag) (s : State) → is_by_mode (start t) s ≡ false →
    FitsRow g s (foreign_start t s)
inserted_foreign g t s off = (
  foreign_at g t s.tree.forest (node_here s)
      (or_false (is_text s.mode) (is_taken_at (start t) s.tree.forest (node_here s)) off),
  tt,
)

foreign_text_fits : (g : Guard) (is_space : Bool) (s : State) → FitsText g s (foreign_text is_space)
foreign_text_fits g true s = tt
foreign_text_fits g false s = (tt, tt)

-- the row of the mode, here and after breaking out of foreign content
abbrev pub FitsHere : Guard → State → TreeToken → Type 0
FitsHere g s mark = FitsRow g s (row s.mode mark s)

abbrev pub FitsBrokenOut : Guard → State → TreeToken → Type 0
FitsBrokenOut g s mark = FitsRow g (act break_out s) (row s.mode mark (act break_out s))

foreign_fits : (g : Guard) (mark : TreeToken) (s : State) → is_by_mode mark s ≡ false → FitsHere g s mark →
    FitsBrokenOut g s mark → FitsRow g s (foreign_row mark s)
foreign_fits g (character c) s off here out =
    character_fits g s c (foreign_text (is_white_space c)) (foreign_text_fits g (is_white_space c) s)
foreign_fits g null s off here out = (tt, tt)
foreign_fits g (comment cs) s off here out = (tt, tt)
foreign_fits g (doctype d) s off here out = tt
foreign_fits g (start t) s off here out = fits_if g s (breaks_out t) (broken_out_row (start t) s) (foreign_start t s)
    (λ e. after_fits g s (row s.mode (start t) (act break_out s)) out) (λ e. inserted_foreign g t s off)
foreign_fits g (finish t) s off here out = fits_if g s (breaks_out t) (broken_out_row (finish t) s) (foreign_end t s)
    (λ e. after_fits g s (row s.mode (finish t) (act break_out s)) out)
    (λ e. fits_if g s (is_some (named_foreign t.name s.tree.forest s.tree.stack)) (done (close_foreign t.name ∷ []))
    (row s.mode (finish t) s) (λ some. (tt, tt)) (λ some. here))
foreign_fits g end_of_file s off here out = here

pub rule_fits : (g : Guard) (mark : TreeToken) (s : State) → FitsHere g s mark → FitsBrokenOut g s mark →
    FitsRow g s (rule mark s)
rule_fits g mark s here out = fits_if g s (is_by_mode mark s) (row s.mode mark s) (foreign_row mark s) (λ e. here)
    (λ off. foreign_fits g mark s off here out)
