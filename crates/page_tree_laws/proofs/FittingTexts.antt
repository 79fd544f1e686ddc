-- Characters, comments and doctypes in the body and in tables: their rows fit (WHATWG HTML, 13.2.6.4.7 to 13.2.6.4.16).
use Rattle.std.proofs.Common.{◌≡◌, ℕ, Bool, true, false, List, [], ◌∷◌, ◌++◌, ap, refl, if◌then◌else◌}
use Rattle.html_lexemes.specs.declared.token.Doctype.{Doctype}
use Rattle.page_tree_laws.proofs.Fits.{CanBuild, FitAll, Fits, FitsRow, FitsText, HasTables}
use Rattle.page_tree_laws.proofs.FittingCases.{fit_append, may_foster, text_if}
use Rattle.page_tree_laws.proofs.FittingHeads.{none}
use Rattle.page_tree_laws.proofs.FittingSteps.{BuildFacts}
use Rattle.page_tree_laws.proofs.FittingTables.{columns_text_fits}
use Rattle.page_tree_laws.proofs.Guards.{Guard}
use Rattle.rules_table.specs.Actions.{act, forget_pending, foster, go_back, go_to, hold_mode, is_of_text, is_text}
use Rattle.rules_table.specs.Actions.{out_of_text, reconstruct, refuse_frameset, say}
use Rattle.rules_table.specs.Asking.{all_are, collects_text}
use Rattle.rules_table.specs.InBody.{in_body_text}
use Rattle.rules_table.specs.InTable.{in_table_text_other, in_table_text_row}
use Rattle.rules_table.specs.Rows.{TextRow, dropped, for_character, for_null, is_white_space, kept, said_after}
use Rattle.rules_table.specs.Rows.{then_again}
use Rattle.rules_table.specs.State.{State}
use Rattle.rules_table.specs.Table.{comment_row, doctype_row, text_row}
use Rattle.tree_predicates.specs.declared.modes.InsertionMode.{InsertionMode}
use Rattle.tree_predicates.specs.declared.modes.InsertionMode.TheVariants as modes

-- a character, by what a mode makes of it
pub character_fits : (g : Guard) (s : State) (c : ℕ) (r : TextRow) → FitsText g s r → FitsRow g s (for_character c r)
character_fits g s c dropped fit = tt
character_fits g s c (said_after actions) fit = fit_append g actions (say (c ∷ []) ∷ []) s fit (λ d. (tt, tt))
character_fits g s c kept fit = (tt, tt)
character_fits g s c (then_again actions) fit = fit

pub null_fits : (g : Guard) (s : State) (r : TextRow) → FitsText g s r → FitsRow g s (for_null r)
null_fits g s dropped fit = tt
null_fits g s (said_after actions) fit = tt
null_fits g s kept fit = tt
null_fits g s (then_again actions) fit = fit

pub body_text_fits : (g : Guard) (is_space : Bool) (s : State) → FitsText g s (in_body_text is_space)
body_text_fits g true s = (tt, tt)
body_text_fits g false s = (tt, (tt, tt))

-- text of a table begins to be collected
mode_held : (g : Guard) (s : State) → is_text s.mode ≡ false → Fits g hold_mode (act forget_pending s)
unfolding act
mode_held g s off = off

-- the mode that stands may be gone back to
goes_there : (g : Guard) (s : State) → HasTables g → g.allows (out_of_text s.mode) ≡ true →
    Fits g (go_to modes.InTableText) (act hold_mode (act forget_pending s))
unfolding act
goes_there g s tables back = (tables.in_table_text, back)

table_text_fits : (g : Guard) (is_space : Bool) (s : State) → HasTables g → is_text s.mode ≡ false →
    g.allows (out_of_text s.mode) ≡ true → FitsText g s (in_table_text_row is_space s)
table_text_fits g is_space s tables off back = text_if g s (collects_text s)
    (then_again (forget_pending ∷ hold_mode ∷ go_to modes.InTableText ∷ [])) (in_body_text is_space)
    (λ e. (tt, (mode_held g s off, (goes_there g s tables back, tt)))) (λ e. body_text_fits g is_space s)

-- anything else than text after a table's text
collected_by : (g : Guard) (is_space : Bool) (cs : List ℕ) (s : State) → g.fosters ≡ true →
    is_of_text s.mode ≡ true →
    FitAll g ((if is_space then say cs ∷ []
    else foster true ∷ reconstruct ∷ say cs ∷ refuse_frameset ∷ foster false ∷ []) ++ forget_pending ∷ go_back ∷ []) s
unfolding act
collected_by g true cs s fosters back = (tt, (tt, (back, tt)))
collected_by g false cs s fosters back =
    (may_foster g fosters true, (tt, (tt, (tt, (λ off. refl, (tt, (back, tt)))))))

pub collected_fits : (g : Guard) (s : State) → g.fosters ≡ true → is_of_text s.mode ≡ true →
    FitsRow g s (in_table_text_other s)
collected_fits g s fosters back = collected_by g (all_are is_white_space s.pending) s.pending s fosters back

-- the modes of the body, of tables and of templates
abbrev pub is_build_mode : InsertionMode → Bool
is_build_mode modes.InBody = true
is_build_mode modes.InTable = true
is_build_mode modes.InTableText = true
is_build_mode modes.InCaption = true
is_build_mode modes.InColumnGroup = true
is_build_mode modes.InTableBody = true
is_build_mode modes.InRow = true
is_build_mode modes.InCell = true
is_build_mode modes.InTemplate = true
is_build_mode _ = false

pub build_text_fits : (g : Guard) → BuildFacts g → (mode : InsertionMode) → is_build_mode mode ≡ true →
    (is_space : Bool) (s : State) → CanBuild g s → is_text s.mode ≡ false → FitsText g s (text_row mode is_space s)
build_text_fits g facts modes.InBody is is_space s can off = body_text_fits g is_space s
build_text_fits g facts modes.InTable is is_space s can off = table_text_fits g is_space s can.tables off
    (facts.rows.guard.text_left s.mode (can.goes_on.held.mode off))
build_text_fits g facts modes.InTableText is is_space s can off = tt
build_text_fits g facts modes.InCaption is is_space s can off = body_text_fits g is_space s
build_text_fits g facts modes.InColumnGroup is is_space s can off = columns_text_fits g facts is_space s can
build_text_fits g facts modes.InTableBody is is_space s can off = table_text_fits g is_space s can.tables off
    (facts.rows.guard.text_left s.mode (can.goes_on.held.mode off))
build_text_fits g facts modes.InRow is is_space s can off = table_text_fits g is_space s can.tables off
    (facts.rows.guard.text_left s.mode (can.goes_on.held.mode off))
build_text_fits g facts modes.InCell is is_space s can off = body_text_fits g is_space s
build_text_fits g facts modes.InTemplate is is_space s can off = body_text_fits g is_space s
build_text_fits g facts mode is is_space s can off = none is

pub build_comment_fits : (g : Guard) (mode : InsertionMode) → is_build_mode mode ≡ true → (cs : List ℕ) (s : State) →
    g.fosters ≡ true → s.mode ≡ mode → FitsRow g s (comment_row mode cs s)
build_comment_fits g modes.InTableText is cs s fosters at = collected_fits g s fosters (ap is_of_text at)
build_comment_fits g modes.Initial is cs s fosters at = none is
build_comment_fits g modes.BeforeHtml is cs s fosters at = none is
build_comment_fits g modes.AfterBody is cs s fosters at = none is
build_comment_fits g modes.AfterAfterBody is cs s fosters at = none is
build_comment_fits g modes.AfterAfterFrameset is cs s fosters at = none is
build_comment_fits g mode is cs s fosters at = (tt, tt)

pub build_doctype_fits : (g : Guard) (mode : InsertionMode) → is_build_mode mode ≡ true → (d : Doctype) (s : State) →
    g.fosters ≡ true → s.mode ≡ mode → FitsRow g s (doctype_row mode d s)
build_doctype_fits g modes.InTableText is d s fosters at = collected_fits g s fosters (ap is_of_text at)
build_doctype_fits g modes.Initial is d s fosters at = none is
build_doctype_fits g mode is d s fosters at = tt
