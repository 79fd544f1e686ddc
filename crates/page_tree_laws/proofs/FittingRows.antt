-- The rule table: its rows fit, mode by mode (WHATWG HTML, 13.2.6.4).
use Rattle.std.proofs.Common.{◌≡◌, Bool, true, false, ap, refl}
use Rattle.html_lexemes.specs.declared.token.Tag.{Tag}
use Rattle.page_tree_laws.proofs.Fits.{CanBuild, CanGoOn, Closes, ClosesMark, ClosesTemplate, FitsRow, FitsText, IsHeld}
use Rattle.page_tree_laws.proofs.FittingEnds.{body_end_fits}
use Rattle.page_tree_laws.proofs.FittingHeads.{Grants, file_end_fits, none}
use Rattle.page_tree_laws.proofs.FittingPages.{FrameFacts, OpenFacts, after_body_end_fits, after_body_start_fits}
use Rattle.page_tree_laws.proofs.FittingPages.{after_frameset_end_fits, after_frameset_start_fits, after_head_end_fits}
use Rattle.page_tree_laws.proofs.FittingPages.{after_head_start_fits, body_made_fits, in_frameset_end_fits}
use Rattle.page_tree_laws.proofs.FittingPages.{in_frameset_start_fits}
use Rattle.page_tree_laws.proofs.FittingSections.{body_of_table_end_fits, body_of_table_start_fits, cell_end_fits}
use Rattle.page_tree_laws.proofs.FittingSections.{cell_start_fits, row_end_fits, row_start_fits, template_end_fits}
use Rattle.page_tree_laws.proofs.FittingSections.{template_start_fits}
use Rattle.page_tree_laws.proofs.FittingStarts.{body_start_fits}
use Rattle.page_tree_laws.proofs.FittingSteps.{BuildFacts, RowFacts, TopFacts}
use Rattle.page_tree_laws.proofs.FittingTables.{caption_end_fits, caption_start_fits, columns_end_fits}
use Rattle.page_tree_laws.proofs.FittingTables.{columns_start_fits, end_fits, start_fits, table_end_fits}
use Rattle.page_tree_laws.proofs.FittingTables.{table_start_fits}
use Rattle.page_tree_laws.proofs.FittingTexts.{body_text_fits, build_comment_fits, build_doctype_fits, build_text_fits}
use Rattle.page_tree_laws.proofs.FittingTexts.{character_fits, collected_fits, is_build_mode, null_fits}
use Rattle.page_tree_laws.proofs.Guards.{Guard}
use Rattle.tree_names.specs.Groups.{tag_group}
use Rattle.rules_table.specs.Actions.{is_of_text, is_text}
use Rattle.rules_table.specs.Rows.{is_white_space}
use Rattle.rules_table.specs.State.{TreeToken, State, character, comment, doctype, end_of_file, finish, null, start}
use Rattle.rules_table.specs.Table.{end_of_file_row, end_row, row, start_row, text_row}
use Rattle.tree_predicates.specs.declared.modes.InsertionMode.{InsertionMode}
use Rattle.tree_predicates.specs.declared.modes.InsertionMode.TheVariants as modes

build_start_fits : (g : Guard) → BuildFacts g → (mode : InsertionMode) → is_build_mode mode ≡ true → (t : Tag)
    (s : State) → CanBuild g s → s.mode ≡ mode → FitsRow g s (start_row mode (tag_group t.name) t s)
build_start_fits g facts modes.InBody is t s can at = start_fits g facts (tag_group t.name) t s refl can
build_start_fits g facts modes.InTable is t s can at = table_start_fits g facts (tag_group t.name) t s refl can
build_start_fits g facts modes.InTableText is t s can at = collected_fits g s can.tables.fosters (ap is_of_text at)
build_start_fits g facts modes.InCaption is t s can at = caption_start_fits g facts (tag_group t.name) t s refl can
build_start_fits g facts modes.InColumnGroup is t s can at = columns_start_fits g facts (tag_group t.name) t s refl can
build_start_fits g facts modes.InTableBody is t s can at =
    body_of_table_start_fits g facts (tag_group t.name) t s refl can
build_start_fits g facts modes.InRow is t s can at = row_start_fits g facts (tag_group t.name) t s refl can
build_start_fits g facts modes.InCell is t s can at = cell_start_fits g facts (tag_group t.name) t s refl can
build_start_fits g facts modes.InTemplate is t s can at = template_start_fits g facts (tag_group t.name) t s refl can
build_start_fits g facts mode is t s can at = none is

build_end_fits : (g : Guard) → BuildFacts g → (mode : InsertionMode) → is_build_mode mode ≡ true → (t : Tag)
    (s : State) → CanBuild g s → Closes g s (tag_group t.name) → s.mode ≡ mode →
    FitsRow g s (end_row mode (tag_group t.name) t s)
build_end_fits g facts modes.InBody is t s can close at = end_fits g facts (tag_group t.name) t s refl can close
build_end_fits g facts modes.InTable is t s can close at = table_end_fits g facts (tag_group t.name) t s refl can close
build_end_fits g facts modes.InTableText is t s can close at = collected_fits g s can.tables.fosters (ap is_of_text at)
build_end_fits g facts modes.InCaption is t s can close at =
    caption_end_fits g facts (tag_group t.name) t s refl can close
build_end_fits g facts modes.InColumnGroup is t s can close at = columns_end_fits g facts (tag_group t.name) s can close
build_end_fits g facts modes.InTableBody is t s can close at =
    body_of_table_end_fits g facts (tag_group t.name) t s refl can close
build_end_fits g facts modes.InRow is t s can close at = row_end_fits g facts (tag_group t.name) t s refl can close
build_end_fits g facts modes.InCell is t s can close at = cell_end_fits g facts (tag_group t.name) t s refl can close
build_end_fits g facts modes.InTemplate is t s can close at = template_end_fits g (tag_group t.name) s close
build_end_fits g facts mode is t s can close at = none is

build_file_fits : (g : Guard) (mode : InsertionMode) → is_build_mode mode ≡ true → (s : State) → CanBuild g s →
    ClosesTemplate g s → s.mode ≡ mode → FitsRow g s (end_of_file_row mode s)
build_file_fits g modes.InBody is s can close at = file_end_fits g s close
build_file_fits g modes.InTable is s can close at = file_end_fits g s close
build_file_fits g modes.InTableText is s can close at = collected_fits g s can.tables.fosters (ap is_of_text at)
build_file_fits g modes.InCaption is s can close at = file_end_fits g s close
build_file_fits g modes.InColumnGroup is s can close at = file_end_fits g s close
build_file_fits g modes.InTableBody is s can close at = file_end_fits g s close
build_file_fits g modes.InRow is s can close at = file_end_fits g s close
build_file_fits g modes.InCell is s can close at = file_end_fits g s close
build_file_fits g modes.InTemplate is s can close at = file_end_fits g s close
build_file_fits g mode is s can close at = none is

-- the modes of the body, of tables and of templates
pub body_row : (g : Guard) → BuildFacts g → (mode : InsertionMode) → is_build_mode mode ≡ true → (mark : TreeToken)
    (s : State) → CanBuild g s → is_text s.mode ≡ false → s.mode ≡ mode → ClosesMark g s mark →
    FitsRow g s (row mode mark s)
body_row g facts mode is (character c) s can off at close = character_fits g s c (text_row mode (is_white_space c) s)
    (build_text_fits g facts mode is (is_white_space c) s can off)
body_row g facts mode is null s can off at close = null_fits g s (text_row mode false s)
    (build_text_fits g facts mode is false s can off)
body_row g facts mode is (comment cs) s can off at close = build_comment_fits g mode is cs s can.tables.fosters at
body_row g facts mode is (doctype d) s can off at close = build_doctype_fits g mode is d s can.tables.fosters at
body_row g facts mode is (start t) s can off at close = build_start_fits g facts mode is t s can at
body_row g facts mode is (finish t) s can off at close = build_end_fits g facts mode is t s can close at
body_row g facts mode is end_of_file s can off at close = build_file_fits g mode is s can close at

-- the mode "in body", where what a start tag asks beside is granted
abbrev pub GrantsMark : Guard → State → TreeToken → Type 0
GrantsMark g s (start t) = Grants g s (tag_group t.name)
GrantsMark g s _ = Unit {0}

pub in_body_row : (g : Guard) → RowFacts g → TopFacts g → (mark : TreeToken) (s : State) → CanGoOn g s →
    GrantsMark g s mark → ClosesMark g s mark → FitsRow g s (row modes.InBody mark s)
in_body_row g facts top (character c) s can grant close = character_fits g s c
    (text_row modes.InBody (is_white_space c) s)
    (body_text_fits g (is_white_space c) s)
in_body_row g facts top null s can grant close = tt
in_body_row g facts top (comment cs) s can grant close = (tt, tt)
in_body_row g facts top (doctype d) s can grant close = tt
in_body_row g facts top (start t) s can grant close = body_start_fits g facts (tag_group t.name) t s refl can grant
in_body_row g facts top (finish t) s can grant close =
    body_end_fits g facts top (tag_group t.name) t s refl can close
in_body_row g facts top end_of_file s can grant close = file_end_fits g s close

-- after the body
after_body_text_fits : (g : Guard) (is_space : Bool) (s : State) → g.allows modes.InBody ≡ true →
    FitsText g s (text_row modes.AfterBody is_space s)
after_body_text_fits g true s goes_on = (tt, tt)
after_body_text_fits g false s goes_on = (goes_on, tt)

pub after_body_row : (g : Guard) (mark : TreeToken) (s : State) → CanGoOn g s → g.allows modes.AfterAfterBody ≡ true →
    FitsRow g s (row modes.AfterBody mark s)
after_body_row g (character c) s can after = character_fits g s c (text_row modes.AfterBody (is_white_space c) s)
    (after_body_text_fits g (is_white_space c) s can.in_body)
after_body_row g null s can after = (can.in_body, tt)
after_body_row g (comment cs) s can after = (tt, tt)
after_body_row g (doctype d) s can after = tt
after_body_row g (start t) s can after = after_body_start_fits g (tag_group t.name) t s can
after_body_row g (finish t) s can after = after_body_end_fits g (tag_group t.name) s can after
after_body_row g end_of_file s can after = tt

pub after_after_body_row : (g : Guard) (mark : TreeToken) (s : State) → CanGoOn g s →
    FitsRow g s (row modes.AfterAfterBody mark s)
after_after_body_row g (character c) s can = character_fits g s c
    (text_row modes.AfterAfterBody (is_white_space c) s) (after_body_text_fits g (is_white_space c) s can.in_body)
after_after_body_row g null s can = (can.in_body, tt)
after_after_body_row g (comment cs) s can = (tt, tt)
after_after_body_row g (doctype d) s can = tt
after_after_body_row g (start t) s can = after_body_start_fits g (tag_group t.name) t s can
after_after_body_row g (finish t) s can = (can.in_body, tt)
after_after_body_row g end_of_file s can = tt

-- after the head
after_head_text_fits : (g : Guard) → OpenFacts g → (is_space : Bool) (s : State) →
    FitsText g s (text_row modes.AfterHead is_space s)
after_head_text_fits g known true s = tt
after_head_text_fits g known false s = body_made_fits g s known

pub after_head_row : (g : Guard) → BuildFacts g → OpenFacts g → (mark : TreeToken) (s : State) → CanBuild g s →
    ClosesMark g s mark → FitsRow g s (row modes.AfterHead mark s)
after_head_row g facts known (character c) s can close = character_fits g s c
    (text_row modes.AfterHead (is_white_space c) s)
    (after_head_text_fits g known (is_white_space c) s)
after_head_row g facts known null s can close = body_made_fits g s known
after_head_row g facts known (comment cs) s can close = (tt, tt)
after_head_row g facts known (doctype d) s can close = tt
after_head_row g facts known (start t) s can close =
    after_head_start_fits g facts known (tag_group t.name) t s refl can
after_head_row g facts known (finish t) s can close = after_head_end_fits g known (tag_group t.name) s close
after_head_row g facts known end_of_file s can close = body_made_fits g s known

-- pages of frames
frame_text_fits : (g : Guard) (is_space : Bool) (s : State) → FitsText g s (text_row modes.InFrameset is_space s)
frame_text_fits g true s = tt
frame_text_fits g false s = tt

pub in_frameset_row : (g : Guard) → RowFacts g → FrameFacts g → (mark : TreeToken) (s : State) → IsHeld g s →
    FitsRow g s (row modes.InFrameset mark s)
in_frameset_row g facts known (character c) s held = character_fits g s c
    (text_row modes.InFrameset (is_white_space c) s) (frame_text_fits g (is_white_space c) s)
in_frameset_row g facts known null s held = tt
in_frameset_row g facts known (comment cs) s held = (tt, tt)
in_frameset_row g facts known (doctype d) s held = tt
in_frameset_row g facts known (start t) s held = in_frameset_start_fits g facts known (tag_group t.name) t s refl
in_frameset_row g facts known (finish t) s held = in_frameset_end_fits g facts known (tag_group t.name) s held
in_frameset_row g facts known end_of_file s held = tt

pub after_frameset_row : (g : Guard) → RowFacts g → FrameFacts g → (mark : TreeToken) (s : State) →
    FitsRow g s (row modes.AfterFrameset mark s)
after_frameset_row g facts known (character c) s = character_fits g s c
    (text_row modes.AfterFrameset (is_white_space c) s) (frame_text_fits g (is_white_space c) s)
after_frameset_row g facts known null s = tt
after_frameset_row g facts known (comment cs) s = (tt, tt)
after_frameset_row g facts known (doctype d) s = tt
after_frameset_row g facts known (start t) s = after_frameset_start_fits g facts (tag_group t.name) t s refl
after_frameset_row g facts known (finish t) s = after_frameset_end_fits g known (tag_group t.name) s
after_frameset_row g facts known end_of_file s = tt

last_text_fits : (g : Guard) (is_space : Bool) (s : State) →
    FitsText g s (text_row modes.AfterAfterFrameset is_space s)
last_text_fits g true s = (tt, tt)
last_text_fits g false s = tt

pub after_after_frameset_row : (g : Guard) → RowFacts g → (mark : TreeToken) (s : State) →
    FitsRow g s (row modes.AfterAfterFrameset mark s)
after_after_frameset_row g facts (character c) s = character_fits g s c
    (text_row modes.AfterAfterFrameset (is_white_space c) s) (last_text_fits g (is_white_space c) s)
after_after_frameset_row g facts null s = tt
after_after_frameset_row g facts (comment cs) s = (tt, tt)
after_after_frameset_row g facts (doctype d) s = tt
after_after_frameset_row g facts (start t) s = after_frameset_start_fits g facts (tag_group t.name) t s refl
after_after_frameset_row g facts (finish t) s = tt
after_after_frameset_row g facts end_of_file s = tt
