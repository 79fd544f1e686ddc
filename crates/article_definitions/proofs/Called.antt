-- The calls of a paragraph lay just its lines.
use Rattle.std.proofs.Common.{◌≡◌, ◌&&◌, [], ◌∷◌, ◌++◌, if◌then◌else◌, ◌∙◌, Bool, List, None, Option, Some, ap}
use Rattle.std.proofs.Common.{append-nil, append_assoc, false, map, not, refl, sym, true, ℕ}
use Rattle.std.specs.Option.{option_and_then, option_map}
use Rattle.std.specs.Prelude.{flat_map}
use Rattle.text_normal.specs.Letters.{has_marker}
use Rattle.text_normal.specs.Riders.{has_wide_text, normal_lines, normal_waiting}
use Rattle.text_lines.specs.Tagged.{Item}
use Rattle.text_borders.specs.Across.{CellLine, Hanging}
use Rattle.text_pieces.specs.Items.{markers_of}
use Rattle.text_pieces.specs.Sources.{Source, fragment, fragments, is_filled, letter, names_of as marker_names, sourced}
use Rattle.text_pieces.specs.declared.white_space.WhiteSpace.{WhiteSpace}
use Rattle.text_pieces.specs.declared.white_space.WhiteSpace.TheVariants.{Normal}
use Rattle.text_wrapping.specs.Blocks.{Block, ended_lines, ends_in_columns, lines_after as ended_after, padded}
use Rattle.text_wrapping.specs.Blocks.{took_all, without_source}
use Rattle.text_preserved.specs.Preserved.{names_of}
use Rattle.block_layout.specs.Laid.{Laid, Running, add_empty_line, add_text, add_text_lines, after_empty_line}
use Rattle.block_layout.specs.Laid.{break_line, broken_line, flush, laid_text, lines_after as found_after, text_laid}
use Rattle.block_layout.specs.Laid.{with_added, with_markers, with_running, with_text_of}
use Rattle.block_layout.specs.declared.measure.Measure.{Measure}
use Rattle.article_definitions.specs.Calls.{block_with, cell_of, measure, run, run_whole}
use Rattle.article_definitions.specs.Layouts.{Line, Options, Part, Stretch, Tag, all_fit, begun_by, break_lines, breaks}
use Rattle.article_definitions.specs.Layouts.{empty_line, if_fits, line_of, lines_of_stretches, outermost}
use Rattle.article_definitions.specs.Layouts.{paragraph_lines, parts_of, says, stretch_lines, stretches, wrap_at}
use Rattle.article_values.specs.Articles.{Inlines}

-- ---- nothing

no_lines : (w : ℕ) → normal_lines {S = Tag} w [] ≡ []
unfolding normal_lines
no_lines w = refl

no_names : (s : List (Source Tag)) → has_marker s ≡ false → marker_names s ≡ []
no_names [] h = refl
no_names (letter c a b ∷ s) h = no_names s h
no_names (fragment name ∷ s) h = cc

last_none : {A : Type 0} (xs ys : List A) → xs ++ ys ≡ [] → ys ≡ []
last_none [] ys h = h
last_none (x ∷ xs) ys h = cc

same_map : (w : ℕ) (ls : List (List (Item Tag))) → map (padded w None) ls ≡ ls
same_map w [] = refl
same_map w (l ∷ ls) = ap (λ t. l ∷ t) (same_map w ls)

-- the markers of normal text are on its lines, or wait after them
abbrev pub KeepsMarkers : Type 0
KeepsMarkers = (w : ℕ) (s : List (Source Tag)) → flat_map (markers_of {S = Tag}) (normal_lines w s)
    ++ normal_waiting w s
    ≡ marker_names s

module _ (kept : KeepsMarkers) (o : Options) (width k : ℕ) (hanging : List (Hanging Tag)) where
  nothing_waits : (w : ℕ) (s : List (Source Tag)) → has_marker s ≡ false → normal_waiting w s ≡ []
  nothing_waits w s h = last_none (flat_map (markers_of {S = Tag}) (normal_lines w s)) (normal_waiting w s)
      (kept w s ∙ no_names s h)

  abbrev m : Measure
  m = measure o width

  abbrev w : ℕ
  w = wrap_at o width

  abbrev at : List (CellLine Tag) → Option (Running Tag) → Laid Tag
  at lines running = block_with lines running hanging

  -- a text that runs, and one that has ended in lines
  abbrev text_block : List (List (Item Tag)) → List (Source Tag) → Block Tag
  text_block lines s =
      record { width = w; overflow = false; padding = None; lines = lines; mode = Normal; source = s }

  abbrev runs : Option WhiteSpace → Block Tag → Tag → Running Tag
  runs mode source fill = record { mode = mode; text = source; fill = fill }

  -- ---- lines are added

  lines_added : (fill close : Tag) (source : List (Source Tag)) (lines : List (List (Item Tag)))
      (before : List (CellLine Tag)) →
      add_text_lines m close fill lines (at before None)
      ≡ at (before
      ++ map cell_of (map (line_of o width k (record { fill = fill; source = source; close = close })) lines))
      None
  lines_added fill close source [] before = ap (λ ls. at ls None) (sym (append-nil before))
  lines_added fill close source (l ∷ lines) before =
      let s : Stretch = record { fill = fill; source = source; close = close } in
      let one : CellLine Tag = cell_of (line_of o width k s l) in
      lines_added fill close source lines (before ++ one ∷ [])
      ∙ ap (λ ls. at ls None) (append_assoc before (one ∷ []) (map cell_of (map (line_of o width k s) lines)))

  with_nothing : (lines : List (List (Item Tag))) → lines ++ map (padded w None) (normal_lines w []) ≡ lines
  with_nothing lines =
      ap (λ t. lines ++ map (padded w None) t) (no_lines w) ∙ append-nil lines

  ended_is : (lines : List (List (Item Tag))) → ended_lines (text_block lines []) ≡ Some lines
  ended_is lines = ap (λ l. let found : Option (List (List (Item Tag))) = Some l in found) (with_nothing lines)

  abbrev Found : Type 0
  Found = List (List ℕ) × List (List (Item Tag))

  -- the lines of text that has ended, in which no marker waits
  abbrev found_in : List (List (Item Tag)) → List (List ℕ) → Option Found
  found_in lines names = option_map (λ ls. (names, ls)) (ended_lines (text_block lines []))

  text_by : (s : List (Source Tag)) (b : Bool) → has_marker s ≡ false →
      option_and_then found_after (option_map (λ e. (names_of e.source, without_source e))
      (if b then None else Some (ended_after (text_block [] s) (normal_lines w s))))
      ≡ if_fits (not b) ([], normal_lines w s)
  text_by s true h = refl
  text_by s false h =
      ap (λ t. found_in (map (padded w None) (normal_lines w s)) (names_of (fragments {S = Tag} t)))
      (nothing_waits w s h)
      ∙ ap (λ t. found_in t []) (same_map w (normal_lines w s))
      ∙ ap (λ o. let found : Option Found = option_map (λ ls. ([], ls)) o in found) (ended_is (normal_lines w s))

  text_is : (s : List (Source Tag)) → has_marker s ≡ false →
      laid_text (text_block [] s) ≡ if_fits (not (has_wide_text w s)) ([], normal_lines w s)
  text_is s h = text_by s (has_wide_text w s) h

  ended_text_is : (lines : List (List (Item Tag))) → laid_text (text_block lines []) ≡ Some ([], lines)
  ended_text_is lines =
      ap (λ t. found_in (lines ++ map (padded w None) (normal_lines w [])) (names_of (fragments {S = Tag} t)))
      (nothing_waits w [] refl)
      ∙ ap (λ t. found_in t []) (with_nothing lines)
      ∙ ap (λ o. let found : Option Found = option_map (λ ls. ([], ls)) o in found) (ended_is lines)

  -- ---- flush, and a break

  abbrev cells : Stretch → List (List (Item Tag)) → List (CellLine Tag)
  cells s lines = map cell_of (map (line_of o width k s) lines)

  abbrev stretch : Tag → List (Source Tag) → Tag → Stretch
  stretch fill s close = record { fill = fill; source = s; close = close }

  abbrev laid_by : Tag → Tag → List (CellLine Tag) → Found → Laid Tag
  laid_by close fill before found = text_laid m close fill (at before None) found

  laid_is : (fill close : Tag) (s : List (Source Tag)) (before : List (CellLine Tag)) (lines : List (List (Item Tag))) →
      laid_by close fill before ([], lines) ≡ at (before ++ cells (stretch fill s close) lines) None
  laid_is fill close s before lines = ap (with_markers []) (lines_added fill close s lines before)

  mapped : {A B : Type 0} (f : A → B) (b : Bool) (x : A) (y : B) → f x ≡ y → option_map f (if_fits b x) ≡ if_fits b y
  mapped f true x y e = ap Some e
  mapped f false x y e = refl

  flush_text : (fill close : Tag) (mode : Option WhiteSpace) (s : List (Source Tag)) (before : List (CellLine Tag)) →
      has_marker s ≡ false → flush m close (at before (Some (runs mode (text_block [] s) fill)))
      ≡ if_fits (not (has_wide_text w s)) (at (before ++ cells (stretch fill s close) (normal_lines w s)) None)
  flush_text fill close mode s before h =
      ap (option_map (laid_by close fill before)) (text_is s h)
      ∙ mapped (laid_by close fill before) (not (has_wide_text w s)) ([], normal_lines w s)
      (at (before ++ cells (stretch fill s close) (normal_lines w s)) None)
      (laid_is fill close s before (normal_lines w s))

  flush_ended : (fill close : Tag) (mode : Option WhiteSpace) (s : List (Source Tag)) (lines : List (List (Item Tag)))
      (before : List (CellLine Tag)) → flush m close (at before (Some (runs mode (text_block lines []) fill)))
      ≡ Some (at (before ++ cells (stretch fill s close) lines) None)
  flush_ended fill close mode s lines before =
      ap (option_map (laid_by close fill before)) (ended_text_is lines)
      ∙ ap Some (laid_is fill close s before lines)

  -- at a break
  abbrev empty_cell : Tag → CellLine Tag
  empty_cell tag = cell_of (empty_line o width tag (Some k))

  both_mapped : (xs ys : List Line) → map cell_of (xs ++ ys) ≡ map cell_of xs ++ map cell_of ys
  both_mapped [] ys = refl
  both_mapped (x ∷ xs) ys = ap (λ t. cell_of x ∷ t) (both_mapped xs ys)

  broken_by : (fill close : Tag) (mode : Option WhiteSpace) (s : List (Source Tag)) (lines : List (List (Item Tag)))
      (before : List (CellLine Tag)) (ends : Bool) →
      (if ends then flush m close (at before (Some (runs mode (text_block lines []) fill)))
      else add_empty_line m close (at before (Some (runs mode (text_block lines []) fill))))
      ≡ Some (at (before ++ map cell_of (map (line_of o width k (stretch fill s close)) lines
      ++ (if ends then [] else empty_line o width close (Some k) ∷ []))) None)
  broken_by fill close mode s lines before true =
      flush_ended fill close mode s lines before
      ∙ ap (λ ls. let laid : Option (Laid Tag) = Some (at (before ++ map cell_of ls) None) in laid)
      (sym (append-nil (map (line_of o width k (stretch fill s close)) lines)))
  broken_by fill close mode s lines before false =
      let shown : List Line = map (line_of o width k (stretch fill s close)) lines in
      ap (option_map (after_empty_line m close)) (flush_ended fill close mode s lines before)
      ∙ ap (λ ls. let laid : Option (Laid Tag) = Some (at ls None) in laid)
      (append_assoc before (map cell_of shown) (empty_cell close ∷ [])
      ∙ ap (λ ls. before ++ ls) (sym (both_mapped shown (empty_line o width close (Some k) ∷ []))))

  abbrev broken_to : Tag → Tag → Option WhiteSpace → List (CellLine Tag) → Bool → List (List (Item Tag)) →
      List (Source Tag) → Option (Laid Tag)
  broken_to close fill mode before ends lines source =
      let r : Running Tag = runs mode (text_block lines source) fill in
      if ends then flush m close (at before (Some r)) else add_empty_line m close (at before (Some r))

  break_by : (fill close : Tag) (mode : Option WhiteSpace) (s : List (Source Tag)) (before : List (CellLine Tag))
      (b : Bool) →
      has_marker s ≡ false →
      option_and_then (broken_line m close (at before (Some (runs mode (text_block [] s) fill))))
      (option_map (with_text_of (runs mode (text_block [] s) fill))
      (option_map (λ e. (ends_in_columns (normal_lines w s), e))
      (if b then None else Some (ended_after (text_block [] s) (normal_lines w s)))))
      ≡ if_fits (not b) (at (before ++ map cell_of (map (line_of o width k (stretch fill s close)) (normal_lines w s)
      ++ break_lines o width k close (normal_lines w s))) None)
  break_by fill close mode s before true h = refl
  break_by fill close mode s before false h =
      let ends : Bool = ends_in_columns (normal_lines w s) in
      ap (λ t. broken_to close fill mode before ends (map (padded w None) (normal_lines w s)) (fragments t))
      (nothing_waits w s h)
      ∙ ap (λ t. broken_to close fill mode before ends t []) (same_map w (normal_lines w s))
      ∙ broken_by fill close mode s (normal_lines w s) before ends

  break_text : (fill close : Tag) (mode : Option WhiteSpace) (s : List (Source Tag)) (before : List (CellLine Tag)) →
      has_marker s ≡ false → break_line m close (at before (Some (runs mode (text_block [] s) fill)))
      ≡ if_fits (not (has_wide_text w s)) (at (before ++ map cell_of (map (line_of o width k (stretch fill s close))
      (normal_lines w s) ++ break_lines o width k close (normal_lines w s))) None)
  break_text fill close mode s before h = break_by fill close mode s before (has_wide_text w s) h

  -- ---- text is said

  took_is : (cs : List ℕ) (tag : Tag) (s : List (Source Tag)) →
      took_all tag tag cs (text_block [] s) ≡ Some (text_block [] (s ++ sourced cs tag tag))
  took_is [] tag s = ap (λ t. let block : Option (Block Tag) = Some (text_block [] t) in block) (sym (append-nil s))
  took_is (c ∷ cs) tag s =
      took_is cs tag (s ++ letter c tag tag ∷ [])
      ∙ ap (λ t. let block : Option (Block Tag) = Some (text_block [] t) in block)
      (append_assoc s (letter c tag tag ∷ []) (sourced cs tag tag))

  -- its mode: none, until a text that isn't empty
  abbrev mode_by : Bool → Option WhiteSpace
  mode_by true = Some Normal
  mode_by false = None

  abbrev or_filled : List ℕ → Bool → Bool
  or_filled [] b = b
  or_filled (c ∷ cs) b = true

  abbrev running : Option Tag → Bool → List (Source Tag) → Option (Running Tag)
  running None b s = None
  running (Some fill) b s = Some (runs (mode_by b) (text_block [] s) fill)

  said_by : (cs : List ℕ) (tag fill : Tag) (b : Bool) (s : List (Source Tag)) (before : List (CellLine Tag)) →
      add_text m tag Normal cs tag tag (at before (running (Some fill) b s))
      ≡ Some (at before (running (Some fill) (or_filled cs b) (s ++ sourced cs tag tag)))
  said_by [] tag fill true s before =
      ap (λ t. let laid : Option (Laid Tag) = Some (at before (running (Some fill) true t)) in laid)
      (sym (append-nil s))
  said_by [] tag fill false s before =
      ap (λ t. let laid : Option (Laid Tag) = Some (at before (running (Some fill) false t)) in laid)
      (sym (append-nil s))
  said_by (c ∷ cs) tag fill true s before =
      ap (λ t. option_map (with_running (at before (running (Some fill) true s)))
      (option_map (with_added Normal (c ∷ cs) (runs (Some Normal) (text_block [] s) fill)) t)) (took_is (c ∷ cs) tag s)
  said_by (c ∷ cs) tag fill false s before =
      ap (λ t. option_map (with_running (at before (running (Some fill) false s)))
      (option_map (with_added Normal (c ∷ cs) (runs None (text_block [] s) fill)) t)) (took_is (c ∷ cs) tag s)

  said_first : (cs : List ℕ) (tag : Tag) (before : List (CellLine Tag)) →
      add_text m tag Normal cs tag tag (at before None)
      ≡ Some (at before (running (Some tag) (or_filled cs false) (sourced cs tag tag)))
  said_first [] tag before = refl
  said_first (c ∷ cs) tag before =
      ap (λ t. option_map (with_running (at before None))
      (option_map (with_added Normal (c ∷ cs) (runs None (text_block [] []) tag)) t)) (took_is (c ∷ cs) tag [])

  -- ---- all of them

  marked_both : (s t : List (Source Tag)) → has_marker s ≡ false → has_marker t ≡ false → has_marker (s ++ t) ≡ false
  marked_both [] t h e = e
  marked_both (letter c a b ∷ s) t h e = marked_both s t h e
  marked_both (fragment name ∷ s) t h e = cc

  no_marker : (cs : List ℕ) (tag : Tag) → has_marker (sourced cs tag tag) ≡ false
  no_marker [] tag = refl
  no_marker (c ∷ cs) tag = no_marker cs tag

  abbrev lay_all : List (CellLine Tag) → List Stretch → Option (Laid Tag)
  lay_all before ss =
      if_fits (all_fit o width ss) (at (before ++ map cell_of (lines_of_stretches o width k ss)) None)

  some_stretch : (begun : Option Tag) (s : List (Source Tag)) (parts : List Part) →
      is_filled (stretches begun s parts) ≡ true
  some_stretch begun s [] = refl
  some_stretch begun s (says cs tag ∷ parts) = some_stretch (begun_by begun tag) (s ++ sourced cs tag tag) parts
  some_stretch begun s (breaks tag ∷ parts) = refl

  -- a stretch before others
  further : (b : Bool) (first : List Line) (s : Stretch) (ss : List Stretch) (before : List (CellLine Tag)) →
      first ≡ map (line_of o width k s) (stretch_lines o width s)
      ++ break_lines o width k s.close (stretch_lines o width s) →
      b ≡ not (has_wide_text w s.source) → is_filled ss ≡ true →
      option_and_then (λ (laid : Laid Tag). lay_all laid.lines ss) (if_fits b (at (before ++ map cell_of first) None))
      ≡ lay_all before (s ∷ ss)
  further b first s [] before e f h = absurd (let wrong : false ≡ true = h in cc)
  further true first s (t ∷ more) before e f h =
      let rest : List Line = lines_of_stretches o width k (t ∷ more) in
      let own : List Line = map (line_of o width k s) (stretch_lines o width s) in
      let broken : List Line = break_lines o width k s.close (stretch_lines o width s) in
      ap (λ ls. if_fits (all_fit o width (t ∷ more)) (at ls None))
      (append_assoc before (map cell_of first) (map cell_of rest)
      ∙ ap (λ ls. before ++ ls) (sym (both_mapped first rest)
      ∙ ap (map cell_of) (ap (λ l. l ++ rest) e ∙ append_assoc own broken rest)))
      ∙ ap (λ b. if_fits (b && all_fit o width (t ∷ more))
      (at (before ++ map cell_of (own ++ (broken ++ rest))) None)) f
  further false first s (t ∷ more) before e f h =
      ap (λ b. if_fits (b && all_fit o width (t ∷ more))
      (at (before ++ map cell_of (lines_of_stretches o width k (s ∷ t ∷ more))) None)) f

  chained : {A B C : Type 0} (f : B → Option C) (g : A → Option B) (x : Option A) →
      option_and_then f (option_and_then g x) ≡ option_and_then (λ a. option_and_then f (g a)) x
  chained f g None = refl
  chained f g (Some a) = refl

  no_break : (tag : Tag) (before : List (CellLine Tag)) → break_line m tag (at before None)
      ≡ Some (at (before ++ empty_cell tag ∷ []) None)
  no_break tag before = refl

  none_said : (tag : Tag) →
      map (line_of o width k (stretch outermost [] tag)) (stretch_lines o width (stretch outermost [] tag))
      ++ break_lines o width k tag (stretch_lines o width (stretch outermost [] tag))
      ≡ empty_line o width tag (Some k) ∷ []
  none_said tag =
      ap (λ ls. map (line_of o width k (stretch outermost [] tag)) ls ++ break_lines o width k tag ls) (no_lines w)

  abbrev IsCalled : List Part → Type 0
  IsCalled parts = (b : Bool) (s : List (Source Tag)) (fill : Tag) (before : List (CellLine Tag)) →
      has_marker s ≡ false →
      run_whole m parts (at before (running (Some fill) b s)) ≡ lay_all before (stretches (Some fill) s parts)

  abbrev IsBegun : List Part → Type 0
  IsBegun parts = (before : List (CellLine Tag)) → run_whole m parts (at before None)
      ≡ lay_all before (stretches None [] parts)

  after_break : (b : Bool) (first : List Line) (parts : List Part) (before : List (CellLine Tag)) → IsBegun parts →
      option_and_then (flush m outermost)
      (option_and_then (run m parts) (if_fits b (at (before ++ map cell_of first) None)))
      ≡ option_and_then (λ (laid : Laid Tag). lay_all laid.lines (stretches None [] parts))
      (if_fits b (at (before ++ map cell_of first) None))
  after_break true first parts before h = h (before ++ map cell_of first)
  after_break false first parts before h = refl

  mutual
    begun : (parts : List Part) → IsBegun parts
    begun [] before =
        ap (λ ls. let laid : Option (Laid Tag) = Some (at ls None) in laid) (sym (append-nil before))
        ∙ ap (λ ls. let laid : Option (Laid Tag) =
        Some (at (before ++ cells (stretch outermost [] outermost) ls) None) in laid)
        (sym (no_lines w))
    begun (says cs tag ∷ parts) before =
        ap (λ x. option_and_then (flush m outermost) (option_and_then (run m parts) x)) (said_first cs tag before)
        ∙ called parts (or_filled cs false) (sourced cs tag tag) tag before (no_marker cs tag)
    begun (breaks tag ∷ parts) before =
        begun parts (before ++ empty_cell tag ∷ [])
        ∙ further true (empty_line o width tag (Some k) ∷ []) (stretch outermost [] tag)
        (stretches None [] parts) before
        (sym (none_said tag)) refl (some_stretch None [] parts)

    called : (parts : List Part) → IsCalled parts
    called [] b s fill before h = flush_text fill outermost (mode_by b) s before h ∙ last (has_wide_text w s)
      where
        last : (wide : Bool) →
            if_fits (not wide) (at (before ++ cells (stretch fill s outermost) (normal_lines w s)) None)
            ≡ if_fits (not wide && true) (at (before ++ cells (stretch fill s outermost) (normal_lines w s)) None)
        last true = refl
        last false = refl
    called (says cs tag ∷ parts) b s fill before h =
        ap (λ x. option_and_then (flush m outermost) (option_and_then (run m parts) x)) (said_by cs tag fill b s before)
        ∙ called parts (or_filled cs b) (s ++ sourced cs tag tag) fill before
        (marked_both s (sourced cs tag tag) h (no_marker cs tag))
    called (breaks tag ∷ parts) b s fill before h =
        let st : Stretch = stretch fill s tag in
        let first : List Line =
        map (line_of o width k st) (normal_lines w s) ++ break_lines o width k tag (normal_lines w s) in
        ap (λ x. option_and_then (flush m outermost) (option_and_then (run m parts) x))
        (break_text fill tag (mode_by b) s before h)
        ∙ after_break (not (has_wide_text w s)) first parts before (begun parts)
        ∙ further (not (has_wide_text w s)) first st (stretches None [] parts) before refl refl
        (some_stretch None [] parts)

  pub calls_lay : (parts : List Part) (before : List (CellLine Tag)) →
      run_whole m parts (at before None) ≡ lay_all before (stretches None [] parts)
  calls_lay parts before = begun parts before

  mapped_back : (b : Bool) (lines : List Line) (before : List (CellLine Tag)) →
      if_fits b (at (before ++ map cell_of lines) None)
      ≡ option_map (λ lines. at (before ++ map cell_of lines) None) (if_fits b lines)
  mapped_back true lines before = refl
  mapped_back false lines before = refl

  pub paragraph_called : (ts : List (List ℕ)) (is : Inlines) (before : List (CellLine Tag)) →
      run_whole m (parts_of o outermost ts is) (at before None)
      ≡ option_map (λ lines. at (before ++ map cell_of lines) None) (paragraph_lines o width k ts is)
  paragraph_called ts is before = let ss : List Stretch = stretches None [] (parts_of o outermost ts is) in
      calls_lay (parts_of o outermost ts is) before
      ∙ mapped_back (all_fit o width ss) (lines_of_stretches o width k ss) before
