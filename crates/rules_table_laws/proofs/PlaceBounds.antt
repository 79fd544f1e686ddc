-- The places of modes.
use Rattle.std.proofs.Common.{ℕ, ◌≤◌, ◌<◌, arith}
use Rattle.rules_table.specs.Actions.{out_of_text}
use Rattle.rules_table.specs.Rank.{end_place, start_place, usual_place}
use Rattle.tree_predicates.specs.declared.modes.InsertionMode.{InsertionMode}
use Rattle.tree_names.specs.declared.group.TagGroup.TheVariants as groups
use Rattle.tree_predicates.specs.declared.modes.InsertionMode.TheVariants as modes

pub usual_bound : (mode : InsertionMode) → usual_place mode ≤ 15
usual_bound modes.Initial = omega arith
usual_bound modes.BeforeHtml = omega arith
usual_bound modes.BeforeHead = omega arith
usual_bound modes.InHead = omega arith
usual_bound modes.InHeadNoscript = omega arith
usual_bound modes.AfterHead = omega arith
usual_bound modes.InBody = omega arith
usual_bound modes.Text = omega arith
usual_bound modes.InTable = omega arith
usual_bound modes.InTableText = omega arith
usual_bound modes.InCaption = omega arith
usual_bound modes.InColumnGroup = omega arith
usual_bound modes.InTableBody = omega arith
usual_bound modes.InRow = omega arith
usual_bound modes.InCell = omega arith
usual_bound modes.InTemplate = omega arith
usual_bound modes.AfterBody = omega arith
usual_bound modes.InFrameset = omega arith
usual_bound modes.AfterFrameset = omega arith
usual_bound modes.AfterAfterBody = omega arith
usual_bound modes.AfterAfterFrameset = omega arith

pub usual_back : (mode : InsertionMode) → usual_place (out_of_text mode) ≤ 13
usual_back modes.Initial = omega arith
usual_back modes.BeforeHtml = omega arith
usual_back modes.BeforeHead = omega arith
usual_back modes.InHead = omega arith
usual_back modes.InHeadNoscript = omega arith
usual_back modes.AfterHead = omega arith
usual_back modes.InBody = omega arith
usual_back modes.Text = omega arith
usual_back modes.InTable = omega arith
usual_back modes.InTableText = omega arith
usual_back modes.InCaption = omega arith
usual_back modes.InColumnGroup = omega arith
usual_back modes.InTableBody = omega arith
usual_back modes.InRow = omega arith
usual_back modes.InCell = omega arith
usual_back modes.InTemplate = omega arith
usual_back modes.AfterBody = omega arith
usual_back modes.InFrameset = omega arith
usual_back modes.AfterFrameset = omega arith
usual_back modes.AfterAfterBody = omega arith
usual_back modes.AfterAfterFrameset = omega arith

pub column_back : (mode : InsertionMode) → start_place groups.Column (out_of_text mode) ≤ 13
column_back modes.Initial = omega arith
column_back modes.BeforeHtml = omega arith
column_back modes.BeforeHead = omega arith
column_back modes.InHead = omega arith
column_back modes.InHeadNoscript = omega arith
column_back modes.AfterHead = omega arith
column_back modes.InBody = omega arith
column_back modes.Text = omega arith
column_back modes.InTable = omega arith
column_back modes.InTableText = omega arith
column_back modes.InCaption = omega arith
column_back modes.InColumnGroup = omega arith
column_back modes.InTableBody = omega arith
column_back modes.InRow = omega arith
column_back modes.InCell = omega arith
column_back modes.InTemplate = omega arith
column_back modes.AfterBody = omega arith
column_back modes.InFrameset = omega arith
column_back modes.AfterFrameset = omega arith
column_back modes.AfterAfterBody = omega arith
column_back modes.AfterAfterFrameset = omega arith

pub cell_back : (mode : InsertionMode) → start_place groups.Cell (out_of_text mode) ≤ 13
cell_back modes.Initial = omega arith
cell_back modes.BeforeHtml = omega arith
cell_back modes.BeforeHead = omega arith
cell_back modes.InHead = omega arith
cell_back modes.InHeadNoscript = omega arith
cell_back modes.AfterHead = omega arith
cell_back modes.InBody = omega arith
cell_back modes.Text = omega arith
cell_back modes.InTable = omega arith
cell_back modes.InTableText = omega arith
cell_back modes.InCaption = omega arith
cell_back modes.InColumnGroup = omega arith
cell_back modes.InTableBody = omega arith
cell_back modes.InRow = omega arith
cell_back modes.InCell = omega arith
cell_back modes.InTemplate = omega arith
cell_back modes.AfterBody = omega arith
cell_back modes.InFrameset = omega arith
cell_back modes.AfterFrameset = omega arith
cell_back modes.AfterAfterBody = omega arith
cell_back modes.AfterAfterFrameset = omega arith

pub row_back : (mode : InsertionMode) → start_place groups.Row (out_of_text mode) ≤ 13
row_back modes.Initial = omega arith
row_back modes.BeforeHtml = omega arith
row_back modes.BeforeHead = omega arith
row_back modes.InHead = omega arith
row_back modes.InHeadNoscript = omega arith
row_back modes.AfterHead = omega arith
row_back modes.InBody = omega arith
row_back modes.Text = omega arith
row_back modes.InTable = omega arith
row_back modes.InTableText = omega arith
row_back modes.InCaption = omega arith
row_back modes.InColumnGroup = omega arith
row_back modes.InTableBody = omega arith
row_back modes.InRow = omega arith
row_back modes.InCell = omega arith
row_back modes.InTemplate = omega arith
row_back modes.AfterBody = omega arith
row_back modes.InFrameset = omega arith
row_back modes.AfterFrameset = omega arith
row_back modes.AfterAfterBody = omega arith
row_back modes.AfterAfterFrameset = omega arith

pub html_back : (mode : InsertionMode) → end_place groups.Html (out_of_text mode) ≤ 13
html_back modes.Initial = omega arith
html_back modes.BeforeHtml = omega arith
html_back modes.BeforeHead = omega arith
html_back modes.InHead = omega arith
html_back modes.InHeadNoscript = omega arith
html_back modes.AfterHead = omega arith
html_back modes.InBody = omega arith
html_back modes.Text = omega arith
html_back modes.InTable = omega arith
html_back modes.InTableText = omega arith
html_back modes.InCaption = omega arith
html_back modes.InColumnGroup = omega arith
html_back modes.InTableBody = omega arith
html_back modes.InRow = omega arith
html_back modes.InCell = omega arith
html_back modes.InTemplate = omega arith
html_back modes.AfterBody = omega arith
html_back modes.InFrameset = omega arith
html_back modes.AfterFrameset = omega arith
html_back modes.AfterAfterBody = omega arith
html_back modes.AfterAfterFrameset = omega arith

pub below_text : (x : ℕ) → x ≤ 13 → x < 14
below_text x h = omega (arith, h)

pub below_table_text : (x : ℕ) → x ≤ 13 → x < 15
below_table_text x h = omega (arith, h)
