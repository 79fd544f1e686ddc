-- Tags have no say in a block of lines: each call makes the same of it under other tags.
use Rattle.std.proofs.Common.{◌≡◌, ℕ, Bool, false, List, [], ◌∷◌, ◌++◌, map, sym, ap, ◌∙◌, refl}
use Rattle.std.specs.Prelude.{fold, if◌then◌else◌, not, ◌&&◌, ◌||◌, Option, None, Some}
use Rattle.std.specs.Option.{option_map, option_and_then}
use Rattle.std.proofs.lemmas.List.{map-append}
use Rattle.text_lines.specs.Tagged.{Item, marker, tagged}
use Rattle.text_pieces.specs.Items.{has_text}
use Rattle.text_pieces.specs.Sources.{is_filled}
use Rattle.text_pieces.specs.declared.white_space.WhiteSpace.{WhiteSpace}
use Rattle.text_pieces.proofs.RetaggedItems.{chosen_by, folded, has_text_retagged}
use Rattle.text_wrapping.specs.Blocks.{Block, padded, added, fragments_taken, ended_lines, broken}
use Rattle.text_wrapping.specs.Retagged.{reblock, reblocked}
use Rattle.text_wrapping.proofs.BlockRetagged.{added_retagged, broken_retagged, columns_retagged, ended_lines_retagged}
use Rattle.text_wrapping.proofs.BlockRetagged.{map_mapped, marked_retagged, padded_retagged, taken_retagged}
use Rattle.text_wrapping.proofs.BlockRetagged.{then_mapped}
use Rattle.text_borders.specs.Borders.{Border, Hole, has_holes, is_filled as holds_any, plain, horizontal, filled_to}
use Rattle.text_borders.specs.Lines.{BlockLine, text, border}
use Rattle.text_borders.specs.Across.{CellLine, Cell, Hanging, Row, as_text, across}
use Rattle.text_borders.specs.Retagged.{reitem, rehole, reborder, reline, recell_line, recell, rehanging, rerow}
use Rattle.text_borders.proofs.RowRetagged.{tagged_retagged, filled_to_retagged, as_text_retagged, across_retagged}
use Rattle.block_layout.specs.declared.measure.Measure.{Measure}
use Rattle.block_layout.specs.Laid.{Laid, Running, add_block, add_border, add_empty_line, add_horizontal_border}
use Rattle.block_layout.specs.Laid.{add_line, add_prefixed, add_text, add_text_line, add_text_lines, after_empty_line}
use Rattle.block_layout.specs.Laid.{break_line, break_of, broken_line, content_as_text, end_block, enter_mode, finished}
use Rattle.block_layout.specs.Laid.{finished_lines, flush, flush_of, has_content, has_no_text, is_nothing, laid_text}
use Rattle.block_layout.specs.Laid.{lines_after, mark, padding, parted, run_on, running_or_new, runs_otherwise}
use Rattle.block_layout.specs.Laid.{start_awaited, start_block, start_table, started, text_laid, with_added, with_line}
use Rattle.block_layout.specs.Laid.{with_marker, with_markers, with_running, with_text, with_text_of, without_hanging}
use Rattle.block_layout.specs.Laid.{without_running}
use Rattle.block_layout.specs.LaidRows.{add_row, add_row_line, add_row_lines, add_slashes, before_last, border_line}
use Rattle.block_layout.specs.LaidRows.{last_border, row_laid, with_border, with_row, without_last_border}
use Rattle.block_layout.specs.Retagged.{rerunning, relaid}

-- ---- lines

padding_retagged : {A B : Type 0} (f : A → B) (m : Measure) (tag : A) → padding m (f tag)
    ≡ option_map f (padding m tag)
padding_retagged f m tag = chosen_by (option_map f) m.pads m.pads (Some tag) None (Some (f tag)) None refl refl refl

abbrev marked : {S : Type 0} → List (List ℕ) → List (Item S)
marked names = map (λ name. marker name) names

markers_same : {A B : Type 0} (f : A → B) (names : List (List ℕ)) → marked {S = B} names
    ≡ map (reitem f) (marked {S = A} names)
markers_same f [] = refl
markers_same f (name ∷ names) = ap (λ items. marker name ∷ items) (markers_same f names)

abbrev cell_line : {S : Type 0} → BlockLine S → Bool → CellLine S
cell_line line content = record { line = line; content = content }

abbrev lined : {S : Type 0} → Laid S → List (CellLine S) → Laid S
lined b lines = record b { lines = lines }

abbrev unmarked : {S : Type 0} → Laid S → Laid S
unmarked b = record b { markers = [] }

with_line_retagged : {A B : Type 0} (f : A → B) (line : BlockLine A) (content : Bool) (b : Laid A)
    → with_line (reline f line) content (relaid f b) ≡ relaid f (with_line line content b)
with_line_retagged f line content b =
    ap (lined (relaid f b)) (sym (map-append (recell_line f) b.lines (cell_line line content ∷ [])))

pub add_line_retagged : {A B : Type 0} (f : A → B) (m : Measure) (tag : A) (content : Bool) (items : List (Item A))
    (b : Laid A)
    → add_line m (f tag) content (map (reitem f) items) (relaid f b) ≡ relaid f (add_line m tag content items b)
add_line_retagged {A = A} {B = B} f m tag content items b =
    let front = marked {S = A} b.markers in
    let whole = front ++ items in
    ap (λ p. unmarked (with_line (text (padded m.width p (marked {S = B} b.markers ++ map (reitem f) items))) content
    (relaid f b))) (padding_retagged f m tag)
    ∙ ap (λ xs. unmarked (with_line (text (padded m.width (option_map f (padding m tag)) (xs ++ map (reitem f) items)))
    content (relaid f b))) (markers_same f b.markers)
    ∙ ap (λ xs. unmarked (with_line (text (padded m.width (option_map f (padding m tag)) xs)) content (relaid f b)))
    (sym (map-append (reitem f) front items))
    ∙ ap (λ xs. unmarked (with_line (text xs) content (relaid f b)))
    (padded_retagged f m.width (padding m tag) whole)
    ∙ ap unmarked (with_line_retagged f (text (padded m.width (padding m tag) whole)) content b)

filled_mapped : {A B : Type 0} (f : A → B) (holes : List (Hole A)) → holds_any (map (rehole f) holes)
    ≡ holds_any holes
filled_mapped f [] = refl
filled_mapped f (h ∷ holes) = refl

pub add_border_retagged : {A B : Type 0} (f : A → B) (new : Border A) (b : Laid A)
    → add_border (reborder f new) (relaid f b) ≡ relaid f (add_border new b)
add_border_retagged f new b =
    ap (λ t. with_line (border (reborder f new)) (not t) (relaid f b)) (filled_mapped f new.holes)
    ∙ with_line_retagged f (border new) (not (has_holes new)) b

content_retagged : {A B : Type 0} (f : A → B) (lines : List (CellLine A)) → has_content (map (recell_line f) lines)
    ≡ has_content lines
content_retagged f [] = refl
content_retagged f (l ∷ lines) = ap (λ t. l.content || t) (content_retagged f lines)

text_line_retagged : {A B : Type 0} (f : A → B) (m : Measure) (tag fill : A) (b : Laid A) (line : List (Item A))
    → add_text_line m (f tag) (f fill) (relaid f b) (map (reitem f) line)
    ≡ relaid f (add_text_line m tag fill b line)
text_line_retagged f m tag fill b line =
    ap (λ t. add_line m (f tag) t (padded m.wrap_width (padding m (f fill)) (map (reitem f) line)) (relaid f b))
    (has_text_retagged f line)
    ∙ ap (λ p. add_line m (f tag) (has_text line) (padded m.wrap_width p (map (reitem f) line)) (relaid f b))
    (padding_retagged f m fill)
    ∙ ap (λ xs. add_line m (f tag) (has_text line) xs (relaid f b))
    (padded_retagged f m.wrap_width (padding m fill) line)
    ∙ add_line_retagged f m tag (has_text line) (padded m.wrap_width (padding m fill) line) b

pub text_lines_retagged : {A B : Type 0} (f : A → B) (m : Measure) (tag fill : A) (lines : List (List (Item A)))
    (b : Laid A)
    → add_text_lines m (f tag) (f fill) (map (map (reitem f)) lines) (relaid f b)
    ≡ relaid f (add_text_lines m tag fill lines b)
text_lines_retagged f m tag fill lines b =
    folded (add_text_line m tag fill) (add_text_line m (f tag) (f fill)) (relaid f) (map (reitem f))
    (text_line_retagged f m tag fill) lines b

-- ---- the text that runs becomes lines

abbrev relines : {A B X : Type 0} → (A → B) → X × List (List (Item A)) → X × List (List (Item B))
relines f r = (r.0, map (map (reitem f)) r.1)

lines_after_retagged : {A B : Type 0} (f : A → B) (taken : List (List ℕ) × Block A)
    → lines_after (reblocked f taken) ≡ option_map (relines f) (lines_after taken)
lines_after_retagged f taken =
    ap (option_map (λ lines. (taken.0, lines))) (ended_lines_retagged f taken.1)
    ∙ map_mapped (λ lines. (taken.0, lines)) (λ lines. (taken.0, lines)) (map (map (reitem f))) (relines f)
    (λ lines. refl) (ended_lines taken.1)

laid_text_retagged : {A B : Type 0} (f : A → B) (source : Block A) → laid_text (reblock f source)
    ≡ option_map (relines f) (laid_text source)
laid_text_retagged f source =
    ap (option_and_then lines_after) (taken_retagged f source)
    ∙ then_mapped lines_after lines_after (reblocked f) (relines f) (lines_after_retagged f) (fragments_taken source)

text_laid_retagged : {A B : Type 0} (f : A → B) (m : Measure) (tag fill : A) (b : Laid A)
    (laid : List (List ℕ) × List (List (Item A)))
    → text_laid m (f tag) (f fill) (relaid f b) (relines f laid) ≡ relaid f (text_laid m tag fill b laid)
text_laid_retagged f m tag fill b laid = ap (with_markers laid.0) (text_lines_retagged f m tag fill laid.1 b)

flush_of_retagged : {A B : Type 0} (f : A → B) (m : Measure) (tag : A) (r : Option (Running A)) (b : Laid A)
    → flush_of m (f tag) (option_map (rerunning f) r) (relaid f b) ≡ option_map (relaid f) (flush_of m tag r b)
flush_of_retagged f m tag None b = refl
flush_of_retagged f m tag (Some r) b =
    ap (option_map (text_laid m (f tag) (f r.fill) (relaid f b))) (laid_text_retagged f r.text)
    ∙ map_mapped (text_laid m tag r.fill b) (text_laid m (f tag) (f r.fill) (relaid f b)) (relines f) (relaid f)
    (text_laid_retagged f m tag r.fill b) (laid_text r.text)

pub flush_retagged : {A B : Type 0} (f : A → B) (m : Measure) (tag : A) (b : Laid A) → flush m (f tag) (relaid f b)
    ≡ option_map (relaid f) (flush m tag b)
flush_retagged f m tag b = flush_of_retagged f m tag b.running (without_running b)

-- what is done after a flush
after_flush : {A B : Type 0} (f : A → B) (m : Measure) (tag : A) (b : Laid A) (g : Laid A → Laid A)
    (h : Laid B → Laid B) → ((x : Laid A) → h (relaid f x) ≡ relaid f (g x))
    → option_map h (flush m (f tag) (relaid f b)) ≡ option_map (relaid f) (option_map g (flush m tag b))
after_flush f m tag b g h same =
    ap (option_map h) (flush_retagged f m tag b) ∙ map_mapped g h (relaid f) (relaid f) same (flush m tag b)

-- ---- blocks

empty_retagged : {A B : Type 0} (f : A → B) (m : Measure) (tag : A) (b : Laid A)
    → after_empty_line m (f tag) (relaid f b) ≡ relaid f (after_empty_line m tag b)
empty_retagged f m tag b = ap (λ x. started x) (add_line_retagged f m tag false [] b)

pub empty_line_retagged : {A B : Type 0} (f : A → B) (m : Measure) (tag : A) (b : Laid A)
    → add_empty_line m (f tag) (relaid f b) ≡ option_map (relaid f) (add_empty_line m tag b)
empty_line_retagged f m tag b =
    after_flush f m tag b (after_empty_line m tag) (after_empty_line m (f tag)) (empty_retagged f m tag)

parted_retagged : {A B : Type 0} (f : A → B) (m : Measure) (tag : A) (b : Laid A) → parted m (f tag) (relaid f b)
    ≡ relaid f (parted m tag b)
parted_retagged f m tag b =
    chosen_by (relaid f) (has_content b.lines) (has_content (map (recell_line f) b.lines)) (after_empty_line m tag b)
    (started b) (after_empty_line m (f tag) (relaid f b)) (started (relaid f b)) (content_retagged f b.lines)
    (empty_retagged f m tag b) refl

pub start_block_retagged : {A B : Type 0} (f : A → B) (m : Measure) (tag : A) (b : Laid A)
    → start_block m (f tag) (relaid f b) ≡ option_map (relaid f) (start_block m tag b)
start_block_retagged f m tag b = after_flush f m tag b (parted m tag) (parted m (f tag)) (parted_retagged f m tag)

pub start_table_retagged : {A B : Type 0} (f : A → B) (m : Measure) (tag : A) (b : Laid A)
    → start_table m (f tag) (relaid f b) ≡ option_map (relaid f) (start_table m tag b)
start_table_retagged f m tag b =
    ap (option_map (λ x. without_hanging x)) (start_block_retagged f m tag b)
    ∙ map_mapped (λ x. without_hanging x) (λ x. without_hanging x) (relaid f) (relaid f) (λ x. refl)
    (start_block m tag b)

pub end_block_retagged : {A B : Type 0} (f : A → B) (b : Laid A) → end_block (relaid f b) ≡ relaid f (end_block b)
end_block_retagged f b = refl

-- ---- text

running_retagged : {A B : Type 0} (f : A → B) (m : Measure) (tag : A) (r : Option (Running A))
    → running_or_new m (f tag) (option_map (rerunning f) r) ≡ rerunning f (running_or_new m tag r)
running_retagged f m tag None = refl
running_retagged f m tag (Some r) = refl

run_on_retagged : {A B : Type 0} (f : A → B) (m : Measure) (tag : A) (mode : WhiteSpace) (cs : List ℕ)
    (main further : A) (b : Laid A)
    → run_on m (f tag) mode cs (f main) (f further) (relaid f b)
    ≡ option_map (relaid f) (run_on m tag mode cs main further b)
run_on_retagged f m tag mode cs main further b =
    let r = running_or_new m tag b.running in
    let more = added mode cs main further r.text in
    ap (λ (q : Running _). option_map (with_running (relaid f b)) (option_map (with_added mode cs q)
    (added mode cs (f main) (f further) q.text))) (running_retagged f m tag b.running)
    ∙ ap (λ o. option_map (with_running (relaid f b)) (option_map (with_added mode cs (rerunning f r)) o))
    (added_retagged f mode cs main further r.text)
    ∙ ap (option_map (with_running (relaid f b)))
    (map_mapped (with_added mode cs r) (with_added mode cs (rerunning f r)) (reblock f) (rerunning f) (λ x. refl) more)
    ∙ map_mapped (with_running b) (with_running (relaid f b)) (rerunning f) (relaid f) (λ x. refl)
    (option_map (with_added mode cs r) more)

otherwise_retagged : {A B : Type 0} (f : A → B) (mode : WhiteSpace) (r : Option (Running A))
    → runs_otherwise mode (option_map (rerunning f) r) ≡ runs_otherwise mode r
otherwise_retagged f mode None = refl
otherwise_retagged f mode (Some r) = refl

enter_retagged : {A B : Type 0} (f : A → B) (m : Measure) (tag : A) (mode : WhiteSpace) (cs : List ℕ) (b : Laid A)
    → enter_mode m (f tag) mode cs (relaid f b) ≡ option_map (relaid f) (enter_mode m tag mode cs b)
enter_retagged f m tag mode cs b =
    chosen_by (option_map (relaid f)) (is_filled cs && runs_otherwise mode b.running)
    (is_filled cs && runs_otherwise mode (option_map (rerunning f) b.running)) (flush m tag b) (Some b)
    (flush m (f tag) (relaid f b)) (Some (relaid f b))
    (ap (λ t. is_filled cs && t) (otherwise_retagged f mode b.running)) (flush_retagged f m tag b) refl

pub add_text_retagged : {A B : Type 0} (f : A → B) (m : Measure) (tag : A) (mode : WhiteSpace) (cs : List ℕ)
    (main further : A) (b : Laid A)
    → add_text m (f tag) mode cs (f main) (f further) (relaid f b)
    ≡ option_map (relaid f) (add_text m tag mode cs main further b)
add_text_retagged f m tag mode cs main further b =
    ap (option_and_then (run_on m (f tag) mode cs (f main) (f further))) (enter_retagged f m tag mode cs b)
    ∙ then_mapped (run_on m tag mode cs main further) (run_on m (f tag) mode cs (f main) (f further)) (relaid f)
    (relaid f) (run_on_retagged f m tag mode cs main further) (enter_mode m tag mode cs b)

pub start_awaited_retagged : {A B : Type 0} (f : A → B) (m : Measure) (tag : A) (b : Laid A)
    → start_awaited m (f tag) (relaid f b) ≡ option_map (relaid f) (start_awaited m tag b)
start_awaited_retagged f m tag b =
    chosen_by (option_map (relaid f)) b.awaits b.awaits (start_block m tag b) (Some b)
    (start_block m (f tag) (relaid f b)) (Some (relaid f b)) refl (start_block_retagged f m tag b) refl

pub mark_retagged : {A B : Type 0} (f : A → B) (m : Measure) (tag : A) (name : List ℕ) (b : Laid A)
    → mark m (f tag) name (relaid f b) ≡ relaid f (mark m tag name b)
mark_retagged f m tag name b =
    let r = running_or_new m tag b.running in
    ap (λ q. with_running (relaid f b) (with_marker name q)) (running_retagged f m tag b.running)
    ∙ ap (λ t. with_running (relaid f b) (with_text (rerunning f r) t)) (marked_retagged f name r.text)

abbrev rebroken : {A B : Type 0} → (A → B) → Bool × Running A → Bool × Running B
rebroken f r = (r.0, rerunning f r.1)

broken_line_retagged : {A B : Type 0} (f : A → B) (m : Measure) (tag : A) (b : Laid A) (ended : Bool × Running A)
    → broken_line m (f tag) (relaid f b) (rebroken f ended) ≡ option_map (relaid f) (broken_line m tag b ended)
broken_line_retagged f m tag b ended =
    chosen_by (option_map (relaid f)) ended.0 ended.0 (flush m tag (with_running b ended.1))
    (add_empty_line m tag (with_running b ended.1)) (flush m (f tag) (relaid f (with_running b ended.1)))
    (add_empty_line m (f tag) (relaid f (with_running b ended.1))) refl
    (flush_retagged f m tag (with_running b ended.1)) (empty_line_retagged f m tag (with_running b ended.1))

break_of_retagged : {A B : Type 0} (f : A → B) (m : Measure) (tag : A) (r : Option (Running A)) (b : Laid A)
    → break_of m (f tag) (option_map (rerunning f) r) (relaid f b) ≡ option_map (relaid f) (break_of m tag r b)
break_of_retagged f m tag None b = empty_line_retagged f m tag b
break_of_retagged f m tag (Some r) b =
    ap (λ o. option_and_then (broken_line m (f tag) (relaid f b)) (option_map (with_text_of (rerunning f r)) o))
    (broken_retagged f r.text)
    ∙ ap (option_and_then (broken_line m (f tag) (relaid f b)))
    (map_mapped (with_text_of r) (with_text_of (rerunning f r)) (reblocked f) (rebroken f) (λ x. refl) (broken r.text))
    ∙ then_mapped (broken_line m tag b) (broken_line m (f tag) (relaid f b)) (rebroken f) (relaid f)
    (broken_line_retagged f m tag b) (option_map (with_text_of r) (broken r.text))

pub break_line_retagged : {A B : Type 0} (f : A → B) (m : Measure) (tag : A) (b : Laid A)
    → break_line m (f tag) (relaid f b) ≡ option_map (relaid f) (break_line m tag b)
break_line_retagged f m tag b = break_of_retagged f m tag b.running b

no_text_retagged : {A B : Type 0} (f : A → B) (r : Option (Running A)) → has_no_text (option_map (rerunning f) r)
    ≡ has_no_text r
no_text_retagged f None = refl
no_text_retagged f (Some r) = ap not (columns_retagged f r.text)

lines_filled : {A B : Type 0} (f : A → B) (lines : List (CellLine A)) → is_filled (map (recell_line f) lines)
    ≡ is_filled lines
lines_filled f [] = refl
lines_filled f (l ∷ lines) = refl

pub nothing_retagged : {A B : Type 0} (f : A → B) (b : Laid A) → is_nothing (relaid f b) ≡ is_nothing b
nothing_retagged f b =
    ap (λ t. not t && has_no_text (option_map (rerunning f) b.running)) (lines_filled f b.lines)
    ∙ ap (λ t. not (is_filled b.lines) && t) (no_text_retagged f b.running)

-- ---- borders and other blocks

pub horizontal_retagged : {A B : Type 0} (f : A → B) (m : Measure) (tag : A) (width : ℕ) (b : Laid A)
    → add_horizontal_border m (f tag) width (relaid f b)
    ≡ option_map (relaid f) (add_horizontal_border m tag width b)
horizontal_retagged f m tag width b =
    after_flush f m tag b (add_border (plain horizontal width tag)) (add_border (plain horizontal width (f tag)))
    (add_border_retagged f (plain horizontal width tag))

finished_retagged : {A B : Type 0} (f : A → B) (m : Measure) (line : BlockLine A) → finished m (reline f line)
    ≡ reline f (finished m line)
finished_retagged f m (text items) = refl
finished_retagged f m (border b) =
    ap (λ x. border x) (chosen_by (reborder f) m.pads m.pads (filled_to m.width b) b
    (filled_to m.width (reborder f b)) (reborder f b) refl (filled_to_retagged f m.width b) refl)

as_content_retagged : {A B : Type 0} (f : A → B) (line : BlockLine A) (content : Bool)
    → content_as_text (reline f line) content ≡ content_as_text line content
as_content_retagged f (text items) content = refl
as_content_retagged f (border b) content = refl

prefixed_retagged : {A B : Type 0} (f : A → B) (other m : Measure) (tag : A) (prefix : List ℕ) (b : Laid A)
    (l : CellLine A) → add_prefixed other m (f tag) prefix (relaid f b) (recell_line f l)
    ≡ relaid f (add_prefixed other m tag prefix b l)
prefixed_retagged f other m tag prefix b l =
    let content = content_as_text l.line l.content || is_filled prefix in
    let items = as_text tag (finished other l.line) in
    ap (λ t. add_line m (f tag) (t || is_filled prefix) (tagged prefix (f tag)
    ++ as_text (f tag) (finished other (reline f l.line))) (relaid f b)) (as_content_retagged f l.line l.content)
    ∙ ap (λ x. add_line m (f tag) content (tagged prefix (f tag) ++ as_text (f tag) x) (relaid f b))
    (finished_retagged f other l.line)
    ∙ ap (λ xs. add_line m (f tag) content (tagged prefix (f tag) ++ xs) (relaid f b))
    (as_text_retagged f tag (finished other l.line))
    ∙ ap (λ xs. add_line m (f tag) content (xs ++ map (reitem f) items) (relaid f b)) (tagged_retagged f prefix tag)
    ∙ ap (λ xs. add_line m (f tag) content xs (relaid f b)) (sym (map-append (reitem f) (tagged prefix tag) items))
    ∙ add_line_retagged f m tag content (tagged prefix tag ++ items) b

pub add_block_retagged : {A B : Type 0} (f : A → B) (other m : Measure) (tag : A) (first following : List ℕ)
    (lines : List (CellLine A)) (b : Laid A)
    → add_block other m (f tag) first following (map (recell_line f) lines) (relaid f b)
    ≡ relaid f (add_block other m tag first following lines b)
add_block_retagged f other m tag first following [] b = refl
add_block_retagged f other m tag first following (l ∷ lines) b =
    ap (λ x. fold (add_prefixed other m (f tag) following) x (map (recell_line f) lines))
    (prefixed_retagged f other m tag first b l)
    ∙ folded (add_prefixed other m tag following) (add_prefixed other m (f tag) following) (relaid f) (recell_line f)
    (prefixed_retagged f other m tag following) lines (add_prefixed other m tag first b l)

all_finished : {A B : Type 0} (f : A → B) (m : Measure) (lines : List (CellLine A))
    → map (λ l. finished m l.line) (map (recell_line f) lines) ≡ map (reline f) (map (λ l. finished m l.line) lines)
all_finished f m [] = refl
all_finished f m (l ∷ lines) =
    ap (λ x. x ∷ map (λ l. finished m l.line) (map (recell_line f) lines)) (finished_retagged f m l.line)
    ∙ ap (λ xs. reline f (finished m l.line) ∷ xs) (all_finished f m lines)

pub finished_lines_retagged : {A B : Type 0} (f : A → B) (m : Measure) (tag : A) (b : Laid A)
    → finished_lines m (f tag) (relaid f b) ≡ option_map (map (reline f)) (finished_lines m tag b)
finished_lines_retagged {A = A} {B = B} f m tag b =
    ap (option_map (λ (x : Laid B). map (λ l. finished m l.line) x.lines)) (flush_retagged f m tag b)
    ∙ map_mapped (λ (x : Laid A). map (λ l. finished m l.line) x.lines)
    (λ (x : Laid B). map (λ l. finished m l.line) x.lines) (relaid f) (map (reline f))
    (λ x. all_finished f m x.lines) (flush m tag b)

-- ---- rows of cells

border_line_retagged : {A B : Type 0} (f : A → B) (line : BlockLine A) → border_line (reline f line)
    ≡ option_map (reborder f) (border_line line)
border_line_retagged f (text items) = refl
border_line_retagged f (border b) = refl

last_from : {A B : Type 0} (f : A → B) (lines : List (CellLine A)) (last : Option (Border A))
    → fold (λ _ l. border_line l.line) (option_map (reborder f) last) (map (recell_line f) lines)
    ≡ option_map (reborder f) (fold (λ _ l. border_line l.line) last lines)
last_from f [] last = refl
last_from f (l ∷ lines) last =
    ap (λ o. fold (λ _ l. border_line l.line) o (map (recell_line f) lines)) (border_line_retagged f l.line)
    ∙ last_from f lines (border_line l.line)

last_border_retagged : {A B : Type 0} (f : A → B) (lines : List (CellLine A))
    → last_border (map (recell_line f) lines) ≡ option_map (reborder f) (last_border lines)
last_border_retagged f lines = last_from f lines None

pub before_last_mapped : {X Y : Type 0} (r : X → Y) (xs : List X) → before_last (map r xs) ≡ map r (before_last xs)
before_last_mapped r [] = refl
before_last_mapped r (x ∷ []) = refl
before_last_mapped r (x ∷ y ∷ rest) = ap (λ ys. r x ∷ ys) (before_last_mapped r (y ∷ rest))

without_last_retagged : {A B : Type 0} (f : A → B) (above : Option (Border A)) (b : Laid A)
    → without_last_border (option_map (reborder f) above) (relaid f b) ≡ relaid f (without_last_border above b)
without_last_retagged f None b = refl
without_last_retagged f (Some above) b = ap (lined (relaid f b)) (before_last_mapped (recell_line f) b.lines)

with_border_retagged : {A B : Type 0} (f : A → B) (new : Option (Border A)) (b : Laid A)
    → with_border (option_map (reborder f) new) (relaid f b) ≡ relaid f (with_border new b)
with_border_retagged f None b = refl
with_border_retagged f (Some new) b = add_border_retagged f new b

row_line_retagged : {A B : Type 0} (f : A → B) (m : Measure) (tag : A) (b : Laid A) (line : List (Item A))
    → add_row_line m (f tag) (relaid f b) (map (reitem f) line) ≡ relaid f (add_row_line m tag b line)
row_line_retagged f m tag b line =
    ap (λ t. add_line m (f tag) t (map (reitem f) line) (relaid f b)) (has_text_retagged f line)
    ∙ add_line_retagged f m tag (has_text line) line b

row_lines_retagged : {A B : Type 0} (f : A → B) (m : Measure) (tag : A) (lines : List (List (Item A))) (b : Laid A)
    → add_row_lines m (f tag) (map (map (reitem f)) lines) (relaid f b) ≡ relaid f (add_row_lines m tag lines b)
row_lines_retagged f m tag lines b =
    folded (add_row_line m tag) (add_row_line m (f tag)) (relaid f) (map (reitem f)) (row_line_retagged f m tag) lines b

abbrev hanging : {S : Type 0} → List (Hanging S) → Laid S → Laid S
hanging hs b = record b { hanging = hs }

with_row_retagged : {A B : Type 0} (f : A → B) (m : Measure) (tag : A) (draws : Bool) (row : Row A) (b : Laid A)
    → with_row m (f tag) draws (rerow f row) (relaid f b) ≡ relaid f (with_row m tag draws row b)
with_row_retagged f m tag draws row b =
    let new = if draws then Some row.below else None in
    let top = with_border row.above b in
    let lines = add_row_lines m tag row.lines top in
    ap (λ n. hanging (map (rehanging f) row.hanging) (with_border n (add_row_lines m (f tag)
    (map (map (reitem f)) row.lines) (with_border (option_map (reborder f) row.above) (relaid f b)))))
    (chosen_by (option_map (reborder f)) draws draws (Some row.below) None (Some (reborder f row.below)) None refl refl
    refl)
    ∙ ap (λ x. hanging (map (rehanging f) row.hanging) (with_border (option_map (reborder f) new)
    (add_row_lines m (f tag) (map (map (reitem f)) row.lines) x))) (with_border_retagged f row.above b)
    ∙ ap (λ x. hanging (map (rehanging f) row.hanging) (with_border (option_map (reborder f) new) x))
    (row_lines_retagged f m tag row.lines top)
    ∙ ap (hanging (map (rehanging f) row.hanging)) (with_border_retagged f new lines)

row_laid_retagged : {A B : Type 0} (f : A → B) (m : Measure) (tag : A) (draws collapse : Bool) (cells : List (Cell A))
    (b : Laid A) → row_laid m (f tag) draws collapse (map (recell f) cells) (relaid f b)
    ≡ relaid f (row_laid m tag draws collapse cells b)
row_laid_retagged f m tag draws collapse cells b =
    let above = last_border b.lines in
    ap (λ a. with_row m (f tag) draws (across draws collapse (f tag) a (map (recell f) cells)
    (map (rehanging f) b.hanging)) (without_hanging (without_last_border a (relaid f b))))
    (last_border_retagged f b.lines)
    ∙ ap (λ row. with_row m (f tag) draws row (without_hanging (without_last_border (option_map (reborder f) above)
    (relaid f b)))) (across_retagged f draws collapse tag above cells b.hanging)
    ∙ ap (λ x. with_row m (f tag) draws (rerow f (across draws collapse tag above cells b.hanging)) (without_hanging x))
    (without_last_retagged f above b)
    ∙ with_row_retagged f m tag draws (across draws collapse tag above cells b.hanging)
    (without_hanging (without_last_border above b))

pub add_row_retagged : {A B : Type 0} (f : A → B) (m : Measure) (tag : A) (draws collapse : Bool)
    (cells : List (Cell A)) (b : Laid A)
    → add_row m (f tag) draws collapse (map (recell f) cells) (relaid f b)
    ≡ option_map (relaid f) (add_row m tag draws collapse cells b)
add_row_retagged f m tag draws collapse cells b =
    after_flush f m tag b (row_laid m tag draws collapse cells)
    (row_laid m (f tag) draws collapse (map (recell f) cells)) (row_laid_retagged f m tag draws collapse cells)

pub slashes_retagged : {A B : Type 0} (f : A → B) (width : ℕ) (tag : A) (b : Laid A)
    → add_slashes width (f tag) (relaid f b) ≡ relaid f (add_slashes width tag b)
slashes_retagged f width tag b = add_border_retagged f (plain None width tag) b
