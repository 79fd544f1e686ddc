-- Tables and their cells, step by step.
use Rattle.std.proofs.Common.{◌≡◌, ◌+◌, ◌<◌, ◌≤◌, [], ◌∷◌, ◌++◌, ◌^◌, if◌then◌else◌, ◌∙◌, Bool, Global, List, None}
use Rattle.std.proofs.Common.{Option, Some, Vec, ap, arith, codes, drop, false, filter, get_or, length, refl, sym, true}
use Rattle.std.proofs.Common.{ℕ}
use Rattle.std.proofs.lemmas.List.{drop_all, drop_more}
use Rattle.std.specs.Option.{is_some, option_and_then, option_map}
use Rattle.std.specs.Str.{chars}
use Rattle.layout_state.proofs.StepLemmas.{turn_off, turn_on}
use Rattle.layout_state.specs.LayoutState.{LayoutState, Step, TablePlace, cells, goes_to, in_current, in_part, in_table}
use Rattle.layout_state.specs.LayoutState.{in_turn, outside, rows, says}
use Rattle.layout_tables.specs.Tables.{border_call, cell_begun, cell_ended, columns_laid, empty_slots, end_of_row}
use Rattle.layout_tables.specs.Tables.{fence, in_cell, is_fenced, row_call, row_ended, rows_of, separated, start_all}
use Rattle.layout_tables.specs.Tables.{table_begun, table_ended, table_laid, table_widths, top_border}
use Rattle.block_trait.specs.Calls.{Call, adds_border, adds_border_of, adds_text, ends_line, starts_fragment}
use Rattle.block_trait.specs.Calls.{starts_table, step}
use Rattle.layout_state.specs.Seen.{place_of, widths_seen}
use Rattle.layout_state.specs.declared.around.Around.{Around}
use Rattle.layout_state.specs.declared.place.TablePlace.{TablePlace as CodePlace}
use Rattle.layout_state.specs.declared.place.TablePlace.TheVariants.{Cells, Outside, Rows}
use Rattle.block_trait.specs.Renderers.{Marking, Sub}
use Rattle.text_block_renderer.specs.Parts.{Parts, with_current}
use Rattle.block_trait.specs.declared.options.RenderOptions.{RenderOptions}
use Rattle.column_fits.specs.declared.fit.ColumnFit.{ColumnFit}
use Rattle.table_grid.specs.declared.columns.Column.{Column}
use Rattle.render_sizes.specs.Extents.{capped}
use Rattle.table_widths.specs.Slots.{Table, has_columns}
use Rattle.table_widths.specs.declared.slot.Slot.{Slot}

-- ---- fragments

pub started_more : {H A : Type 0} (m : Marking H A) (names : List (List ℕ)) (at : ℕ) (name cs : List ℕ)
    (old new : LayoutState H A) (whole : Option (LayoutState H A)) → at < length names → name ≡ get_or names at name →
    cs ≡ name
    → says m (starts_fragment cs) old ≡ Some new → whole ≡ start_all m (drop at names) old
    → whole ≡ start_all m (drop (at + 1) names) new
started_more m names at name cs old new whole l is as_it h so_far =
    so_far ∙ (ap (λ v. start_all m v old) (drop_more names at name l)
    ∙ turn_on (says m (starts_fragment (get_or names at name))) (start_all m (drop (at + 1) names)) old new _
    (ap (λ (v : List ℕ). says m (starts_fragment v) old) (sym is ∙ sym as_it) ∙ h) refl)

pub not_started : {H A : Type 0} (m : Marking H A) (names : List (List ℕ)) (at : ℕ) (name cs : List ℕ)
    (old : LayoutState H A) (whole : Option (LayoutState H A)) → at < length names → name ≡ get_or names at name → cs
    ≡ name
    → says m (starts_fragment cs) old ≡ None → whole ≡ start_all m (drop at names) old → whole ≡ None
not_started m names at name cs old whole l is as_it h so_far =
    so_far ∙ (ap (λ v. start_all m v old) (drop_more names at name l)
    ∙ turn_off (says m (starts_fragment (get_or names at name))) (start_all m (drop (at + 1) names)) old
    (ap (λ (v : List ℕ). says m (starts_fragment v) old) (sym is ∙ sym as_it) ∙ h))

pub started_all : {H A : Type 0} (m : Marking H A) (names : List (List ℕ)) (at : ℕ) (l : LayoutState H A)
    (whole : Option (LayoutState H A)) → length names ≤ at → whole ≡ start_all m (drop at names) l → whole ≡ Some l
started_all m names at l whole past so_far = so_far ∙ ap (λ v. start_all m v l) (drop_all at names past)

-- ---- the table

fence_text : chars (codes "```") ≡ codes "```"
unfolding chars
fence_text = refl

pub fence_on : {H A : Type 0} (m : Marking H A) (fenced : Bool) (old mid : LayoutState H A)
    (o : Option (LayoutState H A))
    → fenced ≡ true → says m (adds_text (chars (codes "```"))) old ≡ Some mid → says m ends_line mid ≡ o
    → fence m fenced old ≡ o
fence_on m fenced old mid o asked h k =
    ap (λ b. fence m b old) asked
    ∙ turn_on (says m (adds_text (codes "```"))) (says m ends_line) old mid o
    (ap (λ (v : List ℕ). says m (adds_text v) old) (sym fence_text) ∙ h) k

pub fence_off : {H A : Type 0} (m : Marking H A) (fenced : Bool) (old : LayoutState H A) → fenced ≡ true
    → says m (adds_text (chars (codes "```"))) old ≡ None → fence m fenced old ≡ None
fence_off m fenced old asked h =
    ap (λ b. fence m b old) asked
    ∙ turn_off (says m (adds_text (codes "```"))) (says m ends_line) old
    (ap (λ (v : List ℕ). says m (adds_text v) old) (sym fence_text) ∙ h)

pub border_below : {H A : Type 0} (m : Marking H A) (options : RenderOptions) (widths : Option (List ℕ))
    (l : LayoutState H A) (o : Option (LayoutState H A)) → options.draw_borders ≡ true → widths ≡ None
    → says m adds_border l ≡ o → top_border m options widths l ≡ o
border_below m options widths l o drawn none h =
    ap (λ b. (if b then says m (border_call widths) else Some) l) drawn
    ∙ (ap (λ v. says m (border_call v) l) none ∙ h)

pub border_across : {H A : Type 0} (m : Marking H A) (options : RenderOptions) (widths : Option (List ℕ))
    (ws : List ℕ) (n : ℕ) (l : LayoutState H A) (o : Option (LayoutState H A)) → options.draw_borders ≡ true → widths
    ≡ Some ws
    → n ≡ separated ws → says m (adds_border_of n) l ≡ o → top_border m options widths l ≡ o
border_across m options widths ws n l o drawn some wide h =
    ap (λ b. (if b then says m (border_call widths) else Some) l) drawn
    ∙ (ap (λ v. says m (border_call v) l) some
    ∙ (ap (λ (k : ℕ). says m (adds_border_of k) l) (sym wide) ∙ h))

-- Calls of a renderer leave the place in tables as it is.
some_same : {X : Type 0} (x y : X) → Some x ≡ Some y → x ≡ y
some_same x y h = cc

never_some : {X : Type 0} {P : Type 0} (y : X) → None ≡ Some y → P
never_some y h = absurd (cc h)

pub says_keeps : {H A : Type 0} (m : Marking H A) (c : Call (Sub H A)) (l new : LayoutState H A) → says m c l ≡ Some new
    → new.table ≡ l.table
unfolding says
says_keeps {H} {A} m c l new h = keeps (step m c l.parts.current) h
  where
    keeps : (o : Option (Sub _ _)) → option_map (in_current l) o ≡ Some new → new.table ≡ l.table
    keeps None k = never_some new k
    keeps (Some s) k = ap (λ (x : LayoutState _ _). x.table) (sym (some_same (in_current l s) new k))

pub turn_keeps : {H A : Type 0} (f g : Step H A) (l new : LayoutState H A)
    → ((x : LayoutState H A) → f l ≡ Some x → x.table ≡ l.table)
    → ((x : LayoutState H A) → g x ≡ Some new → new.table ≡ x.table) → in_turn f g l ≡ Some new → new.table ≡ l.table
turn_keeps {H} {A} f g l new first next h = keeps (f l) refl h
  where
    keeps : (o : Option (LayoutState _ _)) → f l ≡ o → option_and_then g o ≡ Some new → new.table ≡ l.table
    keeps None e k = never_some new k
    keeps (Some x) e k = next x k ∙ first x e

pub fence_keeps : {H A : Type 0} (m : Marking H A) (fenced : Bool) (l new : LayoutState H A) → fence m fenced l
    ≡ Some new
    → new.table ≡ l.table
fence_keeps {H} {A} m false l new h = ap (λ (x : LayoutState H A). x.table) (sym (some_same l new h))
fence_keeps m true l new h =
    turn_keeps (says m (adds_text (codes "```"))) (says m ends_line) l new
    (λ x k. says_keeps m (adds_text (codes "```")) l x k) (λ x k. says_keeps m ends_line x new k) h

pub border_keeps : {H A : Type 0} (m : Marking H A) (options : RenderOptions) (widths : Option (List ℕ))
    (l new : LayoutState H A) → top_border m options widths l ≡ Some new → new.table ≡ l.table
border_keeps {H} {A} m options widths l new h = keeps options.draw_borders h
  where
    keeps : (b : Bool) → (if b then says m (border_call widths) else Some) l ≡ Some new → new.table ≡ l.table
    keeps false k = ap (λ (x : LayoutState H A). x.table) (sym (some_same l new k))
    keeps true k = says_keeps m (border_call widths) l new k

-- A width in memory has 64 bits.
pub width_capped : (n width : ℕ) → n ≡ width → n < 2 ^ 64 → n ≡ capped width
width_capped n width is short = omega (arith, is, short)

some_columns : {H A : Type 0} (m : Marking H A) (t : Table) (fits : Option (List ColumnFit)) (columns : List Column)
    (inside : Step H A) (l : LayoutState H A) (fenced : Bool) (widths : Option (List ℕ)) (o : Option (LayoutState H A))
    → 0 < length columns → fenced ≡ is_fenced l.parts.current.options l.table
    → widths ≡ table_widths l.parts.current.options fits (capped l.parts.current.width) t.columns
    → table_begun m l.parts.current.options fenced widths (rows_of widths t) l ≡ o
    → columns_laid m t fits columns inside l ≡ option_and_then (in_turn inside (table_ended m fenced l.table)) o
some_columns m t fits [] inside l fenced widths o some fence_asked wide h = absurd (omega (arith, some))
some_columns m t fits (c ∷ columns) inside l fenced widths o some fence_asked wide h =
    let options = l.parts.current.options in
    ap (λ (v : Option (List ℕ)). option_and_then (in_turn inside (table_ended m (is_fenced options l.table) l.table))
    (table_begun m options (is_fenced options l.table) v (rows_of v t) l)) (sym wide)
    ∙ (ap (λ (b : Bool). option_and_then (in_turn inside (table_ended m b l.table))
    (table_begun m options b widths (rows_of widths t) l)) (sym fence_asked)
    ∙ ap (option_and_then (in_turn inside (table_ended m fenced l.table))) h)

pub table_by : {H A : Type 0} (m : Marking H A) (t : Table) (fits : Option (List ColumnFit)) (inside : Step H A)
    (l : LayoutState H A) (options : RenderOptions) (width : ℕ) (fenced : Bool) (widths : Option (List ℕ))
    (o : Option (LayoutState H A))
    → 0 < length t.columns → options ≡ l.parts.current.options → width ≡ capped l.parts.current.width
    → fenced ≡ is_fenced options l.table → widths ≡ table_widths options fits width t.columns
    → table_begun m options fenced widths (rows_of widths t) l ≡ o
    → table_laid m t fits inside l ≡ option_and_then (in_turn inside (table_ended m fenced l.table)) o
unfolding table_laid
table_by m t fits inside l options width fenced widths o some asked broad fence_asked wide h =
    some_columns m t fits t.columns inside l fenced widths o some
    (fence_asked ∙ ap (λ x. is_fenced x l.table) asked)
    (wide ∙ (ap (λ (n : ℕ). table_widths options fits n t.columns) broad
    ∙ ap (λ x. table_widths x fits (capped l.parts.current.width) t.columns) asked))
    (ap (λ x. table_begun m x fenced widths (rows_of widths t) l) (sym asked) ∙ h)

no_columns : {H A : Type 0} (m : Marking H A) (t : Table) (fits : Option (List ColumnFit)) (columns : List Column)
    (inside : Step H A) (l : LayoutState H A) → length columns ≡ 0 → columns_laid m t fits columns inside l ≡ Some l
no_columns m t fits [] inside l none = refl
no_columns m t fits (c ∷ columns) inside l none = absurd (omega (arith, none))

pub no_table : {H A : Type 0} (m : Marking H A) (t : Table) (fits : Option (List ColumnFit)) (inside : Step H A)
    (l : LayoutState H A) → length t.columns ≡ 0 → table_laid m t fits inside l ≡ Some l
unfolding table_laid
no_table m t fits inside l none = no_columns m t fits t.columns inside l none

-- ---- rows and cells

pub row_ends_as : {H A : Type 0} (m : Marking H A) (l mid : LayoutState H A) (widths : Option (List ℕ))
    (more : List (List Slot)) (fragments : List (List ℕ)) (slots : List Slot) (made all : List (Sub H A × ℕ))
    (place : TablePlace H A) (fs : List (List ℕ)) (o : Option (LayoutState H A))
    → l.table ≡ cells widths more fragments slots made → mid ≡ in_table place l
    → all ≡ made ++ empty_slots m widths l.parts.current (filter has_columns slots) → fs ≡ []
    → says m (row_call widths all) (in_table (rows widths more fs) mid) ≡ o → row_ended m l ≡ o
unfolding row_ended
row_ends_as {H} {A} m l mid widths more fragments slots made all place fs o there same whole no_fs h =
    ap (λ (p : TablePlace H A). end_of_row m p l) there
    ∙ (ap (λ (v : List (Sub H A × ℕ)). says m (row_call widths v) (in_table (rows widths more []) l)) (sym whole)
    ∙ (ap (λ (x : LayoutState H A). says m (row_call widths all) (in_table (rows widths more []) x)) (sym same)
    ∙ (ap (λ (v : List (List ℕ)). says m (row_call widths all) (in_table (rows widths more v) mid)) (sym no_fs)
    ∙ h)))

pub row_stays : {D T H A : Type 0} (seen : T → A) (held : D → H) (m : Marking H A) (p : CodePlace D T)
    (l : LayoutState H A) → ((r : _) (s : _) (v : _) → p ≡ Cells r s v → ⊥) → l.table ≡ place_of seen held p
    → row_ended m l ≡ Some (in_table (place_of seen held p) l)
unfolding row_ended
row_stays {D} {T} {H} {A} seen held m (Outside b) l never e =
    ap (λ (q : TablePlace H A). end_of_row m q l) e ∙ ap (λ (q : TablePlace H A). Some (in_table q l)) e
row_stays {D} {T} {H} {A} seen held m (Rows r) l never e =
    ap (λ (q : TablePlace H A). end_of_row m q l) e ∙ ap (λ (q : TablePlace H A). Some (in_table q l)) e
row_stays seen held m (Cells r s v) l never e = absurd (never r s v refl)

pub seen_some : (o : Option (Vec ℕ Global)) → is_some (widths_seen o) ≡ is_some o
seen_some None = refl
seen_some (Some v) = refl

pub cell_begins : {H A : Type 0} (m : Marking H A) (width : ℕ) (names : List (List ℕ)) (old mid : LayoutState H A)
    (o : Option (LayoutState H A)) → Some (in_part m width old) ≡ Some mid
    → start_all m names (in_table (outside true) mid) ≡ o → cell_begun m width names old ≡ o
unfolding cell_begun in_cell
cell_begins {H} {A} m width names old mid o h k =
    ap (λ (l : LayoutState H A). start_all m names (in_table (outside true) l)) (some_same (in_part m width old) mid h)
    ∙ k

abbrev laying_at : {H A : Type 0} → Around → TablePlace H A → Parts H A → LayoutState H A
laying_at around place p = record { parts = p; around = around; table = place }

pub cell_ends_as : {H A : Type 0} (outer part : Sub H A) (widths : Option (List ℕ)) (more : List (List Slot))
    (fs : List (List ℕ)) (slots : List Slot) (made all : List (Sub H A × ℕ)) (taken : ℕ) (l : LayoutState H A)
    (p : Parts H A) → part ≡ l.parts.current → p ≡ with_current l.parts outer → all ≡ made ++ (part, taken) ∷ []
    → fs ≡ [] → cell_ended outer widths more slots made taken l
    ≡ Some (laying_at l.around (cells widths more fs slots all) p)
unfolding cell_ended
cell_ends_as {H} {A} outer part widths more fs slots made all taken l p was kept whole no_fs =
    ap (λ (s : Sub H A). Some (in_table (cells widths more [] slots (made ++ (s, taken) ∷ [])) (in_current l outer)))
    (sym was)
    ∙ (ap (λ (v : List (Sub H A × ℕ)). Some (in_table (cells widths more [] slots v) (in_current l outer))) (sym whole)
    ∙ (ap (λ (v : List (List ℕ)). Some (in_table (cells widths more v slots all) (in_current l outer))) (sym no_fs)
    ∙ ap (λ (q : Parts H A). Some (laying_at l.around (cells widths more fs slots all) q)) (sym kept)))

-- ---- a table begins

pub table_begins : {H A : Type 0} (m : Marking H A) (options : RenderOptions) (fenced : Bool)
    (widths : Option (List ℕ)) (slots all : List (List Slot)) (fs : List (List ℕ)) (place : TablePlace H A)
    (l one two three : LayoutState H A) → says m starts_table l ≡ Some one → fence m fenced one ≡ Some two
    → top_border m options widths two ≡ Some three → all ≡ slots → fs ≡ [] → place ≡ rows widths all fs
    → table_begun m options fenced widths slots l ≡ Some (in_table place three)
table_begins {H} {A} m options fenced widths slots all fs place l one two three h k b same no_fs there =
    let goes : Step H A = goes_to (rows widths slots []) in
    turn_on (says m starts_table) (in_turn (fence m fenced) (in_turn (top_border m options widths) goes)) l one _ h
    (turn_on (fence m fenced) (in_turn (top_border m options widths) goes) one two _ k
    (turn_on (top_border m options widths) goes two three _ b
    (ap (λ (v : List (List Slot)). Some (in_table (rows widths v []) three)) (sym same)
    ∙ (ap (λ (v : List (List ℕ)). Some (in_table (rows widths all v) three)) (sym no_fs)
    ∙ ap (λ (q : TablePlace H A). Some (in_table q three)) (sym there)))))

pub never_starts : {H A : Type 0} (m : Marking H A) (options : RenderOptions) (fenced : Bool)
    (widths : Option (List ℕ)) (slots : List (List Slot)) (l : LayoutState H A) → says m starts_table l ≡ None
    → table_begun m options fenced widths slots l ≡ None
never_starts {H} {A} m options fenced widths slots l h =
    let goes : Step H A = goes_to (rows widths slots []) in
    turn_off (says m starts_table) (in_turn (fence m fenced) (in_turn (top_border m options widths) goes)) l h

pub never_fenced : {H A : Type 0} (m : Marking H A) (options : RenderOptions) (fenced : Bool)
    (widths : Option (List ℕ)) (slots : List (List Slot)) (l one : LayoutState H A) → says m starts_table l ≡ Some one
    → fence m fenced one ≡ None → table_begun m options fenced widths slots l ≡ None
never_fenced {H} {A} m options fenced widths slots l one h k =
    let goes : Step H A = goes_to (rows widths slots []) in
    turn_on (says m starts_table) (in_turn (fence m fenced) (in_turn (top_border m options widths) goes)) l one _ h
    (turn_off (fence m fenced) (in_turn (top_border m options widths) goes) one k)

pub never_bordered : {H A : Type 0} (m : Marking H A) (options : RenderOptions) (fenced : Bool)
    (widths : Option (List ℕ)) (slots : List (List Slot)) (l one two : LayoutState H A) → says m starts_table l
    ≡ Some one
    → fence m fenced one ≡ Some two → top_border m options widths two ≡ None
    → table_begun m options fenced widths slots l ≡ None
never_bordered {H} {A} m options fenced widths slots l one two h k b =
    let goes : Step H A = goes_to (rows widths slots []) in
    turn_on (says m starts_table) (in_turn (fence m fenced) (in_turn (top_border m options widths) goes)) l one _ h
    (turn_on (fence m fenced) (in_turn (top_border m options widths) goes) one two _ k
    (turn_off (top_border m options widths) goes two b))
