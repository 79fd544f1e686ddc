-- What a block of lines makes of paragraphs.
use Rattle.std.proofs.Common.{◌≡◌, ◌||◌, [], ◌∷◌, ◌++◌, if◌then◌else◌, ◌∙◌, Bool, List, None, Option, Some, ap}
use Rattle.std.proofs.Common.{append-nil, append_assoc, arith, false, map, min, refl, sym, true, ℕ}
use Rattle.std.specs.Option.{option_and_then, option_map}
use Rattle.std.specs.Prelude.{flat_map}
use Rattle.block_layout.specs.Laid.{Laid, Running, add_text, add_text_lines, end_block, finished, finished_lines, flush}
use Rattle.block_layout.specs.Laid.{has_content as cells_have_content, is_ignored, laid_text}
use Rattle.block_layout.specs.Laid.{lines_after as found_after, parted, start_awaited, start_block, text_laid}
use Rattle.block_layout.specs.Laid.{with_added, with_markers, with_running}
use Rattle.block_layout.specs.declared.measure.Measure.{Measure}
use Rattle.text_normal.specs.Letters.{has_marker}
use Rattle.text_normal.specs.Riders.{has_wide_text, normal_lines, normal_waiting}
use Rattle.text_lines.specs.Tagged.{character, characters, marker}
use Rattle.text_borders.specs.Across.{CellLine}
use Rattle.text_borders.specs.Lines.{BlockLine, line_shown, text}
use Rattle.text_pieces.specs.Items.{has_text, markers_of}
use Rattle.text_pieces.specs.Sources.{Source, fragment, fragments, is_filled, letter, names_of}
use Rattle.text_pieces.specs.declared.white_space.WhiteSpace.TheVariants.{Normal}
use Rattle.text_wrapping.specs.Blocks.{Block, ended_lines, lines_after as ended_after, padded, without_source}
use Rattle.text_wrapping.specs.NormalBlocks.{normal_block}
use Rattle.paragraph_laws.specs.ParagraphLines.{Plain, PlainItems, block_start, has_content}
use Rattle.paragraph_laws.proofs.OwnLines.{KnowsNormalText, lines_after, own_by, own_lines, source_of}

-- ---- nothing

no_lines : (w : ℕ) → normal_lines {S = Plain} w [] ≡ []
unfolding normal_lines
no_lines w = refl

no_names : (s : List (Source Plain)) → has_marker s ≡ false → names_of s ≡ []
no_names [] h = refl
no_names (letter c a b ∷ s) h = no_names s h
no_names (fragment name ∷ s) h = cc

last_none : {A : Type 0} (xs ys : List A) → xs ++ ys ≡ [] → ys ≡ []
last_none [] ys h = h
last_none (x ∷ xs) ys h = cc

same_map : (w : ℕ) (ls : List PlainItems) → map (padded w None) ls ≡ ls
same_map w [] = refl
same_map w (l ∷ ls) = ap (λ t. l ∷ t) (same_map w ls)

-- ---- lines with whether they have content

abbrev pub cell_of : PlainItems → CellLine Plain
cell_of line = record { line = text line; content = has_text line }

abbrev pub cells : List PlainItems → List (CellLine Plain)
cells lines = map cell_of lines

cells_both : (xs ys : List PlainItems) → cells (xs ++ ys) ≡ cells xs ++ cells ys
cells_both [] ys = refl
cells_both (x ∷ xs) ys = ap (λ t. cell_of x ∷ t) (cells_both xs ys)

text_is_filled : (line : PlainItems) → has_text line ≡ is_filled (characters line)
text_is_filled [] = refl
text_is_filled (character c tag ∷ rest) = refl
text_is_filled (marker name ∷ rest) = text_is_filled rest

content_is : (lines : List PlainItems) → cells_have_content (cells lines) ≡ has_content lines
content_is [] = refl
content_is (line ∷ lines) = ap (λ b. b || cells_have_content (cells lines)) (text_is_filled line)
    ∙ ap (λ b. is_filled (characters line) || b) (content_is lines)

abbrev pub state : List (CellLine Plain) → Option (Running Plain) → Bool → Laid Plain
state lines running awaits =
    record { lines = lines; running = running; awaits = awaits; markers = []; hanging = [] }

module _ (width : ℕ) where
  abbrev pub measure : Measure
  measure = record { width = width; wrap_width = min width width; overflow = false; pads = false }

  abbrev w : ℕ
  w = min width width

  -- a paragraph's text that runs; an empty one doesn't
  abbrev pub running_of : List ℕ → Option (Running Plain)
  running_of [] = None
  running_of (c ∷ cs) =
      Some (record { mode = Some Normal; text = normal_block w false (source_of (c ∷ cs)); fill = [] })

  -- ---- the running text becomes lines

  lines_added : (lines : List PlainItems) (before : List (CellLine Plain)) (awaits : Bool) →
      add_text_lines measure [] [] lines (state before None awaits) ≡ state (before ++ cells lines) None awaits
  lines_added [] before awaits = ap (λ ls. state ls None awaits) (sym (append-nil before))
  lines_added (l ∷ lines) before awaits =
      lines_added lines (before ++ cell_of l ∷ []) awaits
      ∙ ap (λ ls. state ls None awaits) (append_assoc before (cell_of l ∷ []) (cells lines))

  nothing_waits : KnowsNormalText → (s : List (Source Plain)) → has_marker s ≡ false → normal_waiting w s ≡ []
  nothing_waits k s h = last_none (flat_map (markers_of {S = Plain}) (normal_lines w s)) (normal_waiting w s)
      (k.markers w s ∙ no_names s h)

  abbrev text_block : List PlainItems → List (Source Plain) → Block Plain
  text_block lines s =
      record { width = w; overflow = false; padding = None; lines = lines; mode = Normal; source = s }

  with_nothing : (lines : List PlainItems) → lines ++ map (padded w None) (normal_lines w []) ≡ lines
  with_nothing lines = ap (λ t. lines ++ map (padded w None) t) (no_lines w) ∙ append-nil lines

  ended_is : (lines : List PlainItems) → ended_lines (text_block lines []) ≡ Some lines
  ended_is lines = ap (λ l. let found : Option (List PlainItems) = Some l in found) (with_nothing lines)

  abbrev Found : Type 0
  Found = List (List ℕ) × List PlainItems

  abbrev found_of : Option (List PlainItems) → Option Found
  found_of own = option_map (λ lines. ([], lines)) own

  abbrev found_in : List PlainItems → List (List ℕ) → Option Found
  found_in lines names = option_map (λ ls. (names, ls)) (ended_lines (text_block lines []))

  text_by : KnowsNormalText → (cs : List ℕ) (wide : Bool) →
      option_and_then found_after (option_map (λ e. (names_of e.source, without_source e))
      (if wide then None else Some (ended_after (text_block [] (source_of cs)) (normal_lines w (source_of cs)))))
      ≡ found_of (own_by wide w cs)
  text_by k cs true = refl
  text_by k cs false =
      let s = source_of cs in
      ap (λ t. found_in (map (padded w None) (normal_lines w s)) (names_of (fragments {S = Plain} t)))
      (nothing_waits k s (k.no_marker cs [] []))
      ∙ ap (λ t. found_in t []) (same_map w (normal_lines w s))
      ∙ ap found_of (ended_is (normal_lines w s))

  text_is : KnowsNormalText → (cs : List ℕ) →
      laid_text (text_block [] (source_of cs)) ≡ found_of (own_lines w cs)
  text_is k cs = text_by k cs (has_wide_text w (source_of cs))

  abbrev trailing : List (CellLine Plain) → Bool → List PlainItems → Laid Plain
  trailing before awaits own = state (before ++ cells own) None awaits

  found_laid : (before : List (CellLine Plain)) (awaits : Bool) (own : Option (List PlainItems)) →
      option_map (text_laid measure [] [] (state before None awaits)) (found_of own)
      ≡ option_map (trailing before awaits) own
  found_laid before awaits None = refl
  found_laid before awaits (Some own) = ap (λ b. let laid : Option (Laid Plain) = Some (with_markers [] b) in laid)
      (lines_added own before awaits)

  flush_is : KnowsNormalText → (cs : List ℕ) (before : List (CellLine Plain)) (awaits : Bool) →
      flush measure [] (state before (running_of cs) awaits) ≡ option_map (trailing before awaits) (own_lines w cs)
  flush_is k [] before awaits = ap (λ ls. let laid : Option (Laid Plain) = Some (state ls None awaits) in laid)
      (sym (append-nil before) ∙ ap (λ ls. before ++ cells ls) (sym (no_lines w)))
  flush_is k (c ∷ cs) before awaits =
      ap (option_map (text_laid measure [] [] (state before None awaits))) (text_is k (c ∷ cs))
      ∙ found_laid before awaits (own_lines w (c ∷ cs))

  -- ---- a block starts

  started_by : (lines : List PlainItems) (awaits b : Bool) →
      (if b then state (cells lines ++ cell_of [] ∷ []) None false else state (cells lines) None false)
      ≡ state (cells (lines ++ (if b then [] ∷ [] else []))) None false
  started_by lines awaits true = ap (λ ls. state ls None false) (sym (cells_both lines ([] ∷ [])))
  started_by lines awaits false = ap (λ ls. state (cells ls) None false) (sym (append-nil lines))

  parted_is : (lines : List PlainItems) (awaits : Bool) →
      parted measure [] (state (cells lines) None awaits) ≡ state (cells (lines ++ block_start lines)) None false
  parted_is lines awaits =
      ap (λ b. if b then state (cells lines ++ cell_of [] ∷ []) None false else state (cells lines) None false)
      (content_is lines)
      ∙ started_by lines awaits (has_content lines)

  -- ---- its text

  abbrev pub text_said : List ℕ → Laid Plain → Option (Laid Plain)
  text_said [] b = Some b
  text_said (c ∷ cs) b = if is_ignored Normal (c ∷ cs) b then Some b
      else option_and_then (add_text measure [] Normal (c ∷ cs) [] []) (start_awaited measure [] b)

  said_is : KnowsNormalText → (cs : List ℕ) (lines : List (CellLine Plain)) →
      text_said cs (state lines None false) ≡ Some (state lines (running_of cs) false)
  said_is k [] lines = refl
  said_is k (c ∷ cs) lines =
      let new : Running Plain = record { mode = None; text = normal_block w false []; fill = [] } in
      ap (λ t. option_map (with_running (state lines None false)) (option_map (with_added Normal (c ∷ cs) new) t))
      (k.kept w false [] (c ∷ cs) [] [])

  -- ---- paragraphs

  abbrev pub paragraph_laid : List ℕ → Laid Plain → Option (Laid Plain)
  paragraph_laid cs b = option_map (λ (b : Laid Plain). end_block b)
      (option_and_then (text_said cs) (start_block measure [] b))

  abbrev pub all_laid : List (List ℕ) → Laid Plain → Option (Laid Plain)
  all_laid [] b = Some b
  all_laid (cs ∷ texts) b = option_and_then (all_laid texts) (paragraph_laid cs b)

  -- the lines of a block
  abbrev pub shown_of : Option (List (BlockLine Plain)) → Option (List PlainItems)
  shown_of lines = option_map (λ ls. map line_shown ls) lines

  abbrev pub lines_shown : Laid Plain → Option (List PlainItems)
  lines_shown b = shown_of (finished_lines measure [] b)

  abbrev pub all_shown : Option (Laid Plain) → Option (List PlainItems)
  all_shown b = option_and_then lines_shown b

  cells_shown : (lines : List PlainItems) →
      map line_shown (map (λ l. finished measure l.line) (cells lines)) ≡ lines
  cells_shown [] = refl
  cells_shown (l ∷ lines) = ap (λ ls. l ∷ ls) (cells_shown lines)

  abbrev last_shown : Option (Laid Plain) → Option (List PlainItems)
  last_shown b = shown_of (option_map (λ (b : Laid Plain). map (λ l. finished measure l.line) b.lines) b)

  ends_by : (before : List PlainItems) (awaits : Bool) (own : Option (List PlainItems)) →
      last_shown (option_map (trailing (cells before) awaits) own)
      ≡ option_and_then (λ own. let lines : Option (List PlainItems) = Some (before ++ own) in lines) own
  ends_by before awaits None = refl
  ends_by before awaits (Some own) = ap Some
      (ap (λ ls. map line_shown (map (λ l. finished measure l.line) ls)) (sym (cells_both before own))
      ∙ cells_shown (before ++ own))

  abbrev IsShownFrom : List (List ℕ) → List ℕ → List PlainItems → Type 0
  IsShownFrom texts cs before = (awaits : Bool) →
      all_shown (all_laid texts (state (cells before) (running_of cs) awaits))
      ≡ option_and_then (λ own. lines_after w (before ++ own) texts) (own_lines w cs)

  joined_by : (texts : List (List ℕ)) (a b : List PlainItems) (own : Option (List PlainItems)) →
      option_and_then (λ own. lines_after w ((a ++ b) ++ own) texts) own
      ≡ option_and_then (λ own. lines_after w (a ++ (b ++ own)) texts) own
  joined_by texts a b None = refl
  joined_by texts a b (Some own) = ap (λ ls. lines_after w ls texts) (append_assoc a b own)

  -- a paragraph after a text that is laid out
  next_by : KnowsNormalText → (texts : List (List ℕ)) (cs : List ℕ) (before : List PlainItems) (awaits : Bool)
      (own : Option (List PlainItems)) → ((before : List PlainItems) → IsShownFrom texts cs before) →
      all_shown (option_and_then (all_laid texts) (option_map (λ (b : Laid Plain). end_block b)
      (option_and_then (text_said cs)
      (option_map (parted measure []) (option_map (trailing (cells before) awaits) own)))))
      ≡ option_and_then (λ own. lines_after w (before ++ own) (cs ∷ texts)) own
  next_by k texts cs before awaits None shown = refl
  next_by k texts cs before awaits (Some own) shown =
      let lines = before ++ own in
      let go : Laid Plain → Option (List PlainItems) = λ b. all_shown (option_and_then (all_laid texts)
      (option_map (λ (b : Laid Plain). end_block b) (option_and_then (text_said cs) (Some (parted measure [] b))))) in
      ap (λ ls. go (state ls None awaits)) (sym (cells_both before own))
      ∙ ap (λ b. all_shown (option_and_then (all_laid texts)
      (option_map (λ (b : Laid Plain). end_block b) (text_said cs b)))) (parted_is lines awaits)
      ∙ ap (λ b. all_shown (option_and_then (all_laid texts) (option_map (λ (b : Laid Plain). end_block b) b)))
      (said_is k cs (cells (lines ++ block_start lines)))
      ∙ shown (lines ++ block_start lines) true
      ∙ joined_by texts lines (block_start lines) (own_lines w cs)

  shown_from : KnowsNormalText → (texts : List (List ℕ)) (cs : List ℕ) (before : List PlainItems) →
      IsShownFrom texts cs before
  shown_from k [] cs before awaits = ap last_shown (flush_is k cs (cells before) awaits)
      ∙ ends_by before awaits (own_lines w cs)
  shown_from k (d ∷ texts) cs before awaits =
      ap (λ b. all_shown (option_and_then (all_laid texts) (option_map (λ (b : Laid Plain). end_block b)
      (option_and_then (text_said d) (option_map (parted measure []) b))))) (flush_is k cs (cells before) awaits)
      ∙ next_by k texts d before awaits (own_lines w cs) (λ before. shown_from k texts d before)

  all_are_shown : KnowsNormalText → (texts : List (List ℕ)) →
      all_shown (all_laid texts (state [] None false)) ≡ lines_after w [] texts
  all_are_shown k texts = shown_from k texts [] [] false
      ∙ ap (λ ls. lines_after w ls texts) (no_lines w)

same_width : (width : ℕ) → min width width ≡ width
same_width width = omega arith

pub all_shown_are : (k : KnowsNormalText) (width : ℕ) (texts : List (List ℕ)) →
    all_shown width (all_laid width texts (state [] None false)) ≡ lines_after width [] texts
all_shown_are k width texts = all_are_shown width k texts ∙ ap (λ n. lines_after n [] texts) (same_width width)
