-- The calls of an article's blocks lay just its lines.
use Rattle.std.proofs.Common.{◌≡◌, ◌+◌, ◌||◌, [], ◌∷◌, ◌++◌, if◌then◌else◌, ◌∙◌, Bool, List, None, Option, Some, ap}
use Rattle.std.proofs.Common.{append-nil, append_assoc, codes, false, fold, map, refl, replicate, suc, sym, true, ℕ, ℤ}
use Rattle.std.specs.Option.{option_and_then, option_map}
use Rattle.text_lines.specs.Tagged.{Item}
use Rattle.block_layout.specs.Laid.{Laid, Running, add_block, add_prefixed, add_text_line, add_text_lines, end_block}
use Rattle.block_layout.specs.Laid.{flush, flush_of, has_content as cells_have_content, laid_text}
use Rattle.block_layout.specs.Laid.{parted as laid_parted, start_block, text_laid, without_running}
use Rattle.block_layout.specs.declared.measure.Measure.{Measure}
use Rattle.article_values.specs.Articles.{Blocks, Inlines, Items, bullets, division, heading, item, no_blocks, no_items}
use Rattle.article_values.specs.Articles.{numbers, paragraph, quote}
use Rattle.article_definitions.specs.BlockCalls.{append, awaits_after, run_blocks, run_items}
use Rattle.article_definitions.specs.Calls.{block_with, cell_of, measure, run, run_whole}
use Rattle.render_sizes.specs.Extents.{capped}
use Rattle.article_definitions.specs.Layouts.{Line, Options, Tag, count, count_items, empty_line, has_content, how_many}
use Rattle.article_definitions.specs.Layouts.{item_prefix, lay, lay_items, least_in, least_of, least_of_items}
use Rattle.article_definitions.specs.Layouts.{next_number, outermost, paragraph_lines, parted, parts_of, prefixed}
use Rattle.article_definitions.specs.Layouts.{quote_prefix, room, room_of_numbers, targets_in, targets_of}
use Rattle.article_definitions.specs.Layouts.{targets_of_items, to_room, trailing, within}
use Rattle.layout_state.specs.Items.{spaces}
use Rattle.article_definitions.proofs.Called.{KeepsMarkers, paragraph_called}

-- ---- a block that has ended only awaits

module _ (m : Measure) (tag : Tag) where
  lines_awaited : (fill : Tag) (lines : List (List (Item Tag))) (b : Laid Tag) →
      add_text_lines m tag fill lines (end_block b) ≡ end_block (add_text_lines m tag fill lines b)
  lines_awaited fill [] b = refl
  lines_awaited fill (l ∷ lines) b = lines_awaited fill lines (add_text_line m tag fill b l)

  found_awaited : (fill : Tag) (b : Laid Tag) (found : Option (List (List ℕ) × List (List (Item Tag)))) →
      option_map (text_laid m tag fill (end_block b)) found
      ≡ option_map end_block (option_map (text_laid m tag fill b) found)
  found_awaited fill b None = refl
  found_awaited fill b (Some found) =
      ap (λ (laid : Laid Tag). let all : Option (Laid Tag) =
      Some (record laid { markers = laid.markers ++ found.0 }) in all)
      (lines_awaited fill found.1 b)

  flush_by : (r : Option (Running Tag)) (b : Laid Tag) →
      flush_of m tag r (end_block b) ≡ option_map end_block (flush_of m tag r b)
  flush_by None b = refl
  flush_by (Some r) b = found_awaited r.fill b (laid_text r.text)

  flush_awaited : (b : Laid Tag) → flush m tag (end_block b) ≡ option_map end_block (flush m tag b)
  flush_awaited b = flush_by b.running (without_running b)

module _ (kept : KeepsMarkers) (o : Options) where
  -- lines, and whether the next text starts a block
  abbrev pub laid : List Line → Bool → Laid Tag
  laid lines awaits =
      record { lines = map cell_of lines; running = None; awaits = awaits; markers = []; hanging = [] }

  cells_both : (xs ys : List Line) → map cell_of (xs ++ ys) ≡ map cell_of xs ++ map cell_of ys
  cells_both [] ys = refl
  cells_both (x ∷ xs) ys = ap (λ t. cell_of x ∷ t) (cells_both xs ys)

  pub after_lines : (xs ys : List Line) (awaits : Bool) →
      record { lines = map cell_of xs ++ map cell_of ys; running = None; awaits = awaits; markers = []; hanging = [] }
      ≡ laid (xs ++ ys) awaits
  after_lines xs ys awaits = ap (λ cs. let all : Laid Tag =
      record { lines = cs; running = None; awaits = awaits; markers = []; hanging = [] } in all)
      (sym (cells_both xs ys))

  content_is : (lines : List Line) → cells_have_content (map cell_of lines) ≡ has_content lines
  content_is [] = refl
  content_is (l ∷ lines) = ap (λ b. l.content || b) (content_is lines)

  module _ (width : ℕ) where
    abbrev m : Measure
    m = measure o width

    started_by : (lines : List Line) (awaits b : Bool) →
        (if b then record {
          lines = map cell_of lines ++ cell_of (empty_line o width outermost None) ∷ [];
          running = None;
          awaits = false;
          markers = [];
          hanging = [];
        } else laid lines false) ≡ laid (if b then lines ++ empty_line o width outermost None ∷ [] else lines) false
    started_by lines awaits true = after_lines lines (empty_line o width outermost None ∷ []) false
    started_by lines awaits false = refl

    pub started_is : (lines : List Line) (awaits : Bool) →
        start_block m outermost (laid lines awaits) ≡ Some (laid (parted o width lines) false)
    started_is lines awaits = ap Some
        (ap (λ b. if b then record {
          lines = map cell_of lines ++ cell_of (empty_line o width outermost None) ∷ [];
          running = None;
          awaits = false;
          markers = [];
          hanging = [];
        } else laid lines false) (content_is lines)
        ∙ started_by lines awaits (has_content lines))

    -- lines after prefixes
    module _ (within : ℕ) where
      others_added : (following : List ℕ) (lines before : List Line) (awaits : Bool) →
          fold (add_prefixed (measure o within) m outermost following) (laid before awaits) (map cell_of lines)
          ≡ laid (before ++ map (trailing o width following) lines) awaits
      others_added following [] before awaits = ap (λ ls. laid ls awaits) (sym (append-nil before))
      others_added following (l ∷ lines) before awaits =
          let one : Line = trailing o width following l in
          ap (λ b. fold (add_prefixed (measure o within) m outermost following) b (map cell_of lines))
          (after_lines before (one ∷ []) awaits)
          ∙ others_added following lines (before ++ one ∷ []) awaits
          ∙ ap (λ ls. laid ls awaits) (append_assoc before (one ∷ []) (map (trailing o width following) lines))

      appended : (first following : List ℕ) (lines before : List Line) (awaits : Bool) →
          add_block (measure o within) m outermost first following (map cell_of lines) (laid before awaits)
          ≡ laid (before ++ prefixed o width first following lines) awaits
      appended first following [] before awaits = ap (λ ls. laid ls awaits) (sym (append-nil before))
      appended first following (l ∷ lines) before awaits =
          let one : Line = trailing o width first l in
          ap (λ b. fold (add_prefixed (measure o within) m outermost following) b (map cell_of lines))
          (after_lines before (one ∷ []) awaits)
          ∙ others_added following lines (before ++ one ∷ []) awaits
          ∙ ap (λ ls. laid ls awaits) (append_assoc before (one ∷ []) (map (trailing o width following) lines))

    -- ---- text that runs is laid out before anything else is done

    abbrev end : Option (Laid Tag) → Option (Laid Tag)
    end b = option_and_then (flush m outermost) b

    nowhere : {A B : Type 0} (x : Option A) → option_and_then (λ (a : A). let none : Option B = None in none) x ≡ None
    nowhere None = refl
    nowhere (Some a) = refl

    ended_nowhere : (x : Option (Laid Tag)) → x ≡ None → end x ≡ None
    ended_nowhere x e = ap end e

    both_nowhere : (subs : ℕ → Option (Laid Tag)) (x : Option ℕ) →
        option_and_then (λ within. option_and_then (λ (sub : Laid Tag). let none : Option (Laid Tag) = None in none)
        (subs within)) x ≡ None
    both_nowhere subs None = refl
    both_nowhere subs (Some within) = nowhere (subs within)

    -- a block whose running text can't be laid out
    refused : (ts : List (List ℕ)) (a : Blocks) (b : Laid Tag) → flush m outermost b ≡ None →
        end (run_blocks o width ts a b) ≡ None
    refused ts no_blocks b e = e
    refused ts (paragraph is rest) b e =
        ap (λ x. end (option_and_then (λ b. run_blocks o width (ts ++ targets_in o is) rest (end_block b))
        (option_and_then (run m (parts_of o outermost ts is)) (option_map (laid_parted m outermost) x)))) e
    refused ts (heading level is rest) b e = let prefix : List ℕ = replicate level 0x23 ++ codes " " in
        let subs : ℕ → Option (Laid Tag) = λ within. run_whole (measure o within) (parts_of o outermost ts is)
        (block_with [] None []) in
        ap (λ x. end (option_and_then (λ within. option_and_then (λ sub. option_and_then
        (λ b. run_blocks o width (ts ++ targets_in o is) rest
        (end_block (append o width within prefix prefix sub b))) (option_map (laid_parted m outermost) x))
        (subs within))
        (room width (level + 1) (capped (least_in o is + (level + 1)))))) e
        ∙ ended_nowhere _ (both_nowhere subs (room width (level + 1) (capped (least_in o is + (level + 1)))))
    refused ts (division kids rest) b e =
        ap (λ x. end (option_and_then (run_blocks o width (ts ++ targets_of o kids) rest)
        (end (option_and_then (run_blocks o width ts kids) x)))) e
    refused ts (quote kids rest) b e =
        let subs : ℕ → Option (Laid Tag) = λ within. option_and_then (flush (measure o within) outermost)
        (run_blocks o within ts kids (laid [] false)) in
        ap (λ x. end (option_and_then (λ within. option_and_then (λ sub. option_and_then
        (λ b. run_blocks o width (ts ++ targets_of o kids) rest
        (end_block (append o width within quote_prefix quote_prefix sub b)))
        (option_map (laid_parted m outermost) x)) (subs within)) (room width 2 (capped (least_of o kids + 2))))) e
        ∙ ended_nowhere _ (both_nowhere subs (room width 2 (capped (least_of o kids + 2))))
    refused ts (bullets items rest) b e =
        ap (λ x. end (option_and_then (run_blocks o width (ts ++ targets_of_items o items) rest)
        (option_and_then (run_items o width ts 2 (capped (least_of_items o items + 2)) None items)
        (option_map (laid_parted m outermost) x)))) e
    refused ts (numbers first items rest) b e = let columns = room_of_numbers first (how_many items) in
        ap (λ x. end (option_and_then (run_blocks o width (ts ++ targets_of_items o items) rest)
        (option_and_then (run_items o width ts columns (capped (least_of_items o items + columns)) (Some first) items)
        (option_map (laid_parted m outermost) x)))) e

    -- a block whose running text is laid out goes on as the one with its lines
    goes_on : (ts : List (List ℕ)) (a : Blocks) (b : Laid Tag) (lines : List Line) (awaits : Bool) →
        flush m outermost b ≡ Some (laid lines awaits) →
        end (run_blocks o width ts a b) ≡ end (run_blocks o width ts a (laid lines awaits))
    goes_on ts no_blocks b lines awaits e = e
    goes_on ts (paragraph is rest) b lines awaits e =
        ap (λ x. end (option_and_then (λ b. run_blocks o width (ts ++ targets_in o is) rest (end_block b))
        (option_and_then (run m (parts_of o outermost ts is)) (option_map (laid_parted m outermost) x)))) e
    goes_on ts (heading level is rest) b lines awaits e = let prefix : List ℕ = replicate level 0x23 ++ codes " " in
        ap (λ x. end (option_and_then (λ within. option_and_then (λ sub. option_and_then
        (λ b. run_blocks o width (ts ++ targets_in o is) rest
        (end_block (append o width within prefix prefix sub b))) (option_map (laid_parted m outermost) x))
        (run_whole (measure o within) (parts_of o outermost ts is) (block_with [] None [])))
        (room width (level + 1) (capped (least_in o is + (level + 1)))))) e
    goes_on ts (division kids rest) b lines awaits e =
        ap (λ x. end (option_and_then (run_blocks o width (ts ++ targets_of o kids) rest)
        (end (option_and_then (run_blocks o width ts kids) x)))) e
    goes_on ts (quote kids rest) b lines awaits e =
        ap (λ x. end (option_and_then (λ within. option_and_then (λ sub. option_and_then
        (λ b. run_blocks o width (ts ++ targets_of o kids) rest
        (end_block (append o width within quote_prefix quote_prefix sub b))) (option_map (laid_parted m outermost) x))
        (option_and_then (flush (measure o within) outermost) (run_blocks o within ts kids (laid [] false))))
        (room width 2 (capped (least_of o kids + 2))))) e
    goes_on ts (bullets items rest) b lines awaits e =
        ap (λ x. end (option_and_then (run_blocks o width (ts ++ targets_of_items o items) rest)
        (option_and_then (run_items o width ts 2 (capped (least_of_items o items + 2)) None items)
        (option_map (laid_parted m outermost) x)))) e
    goes_on ts (numbers first items rest) b lines awaits e = let columns = room_of_numbers first (how_many items) in
        ap (λ x. end (option_and_then (run_blocks o width (ts ++ targets_of_items o items) rest)
        (option_and_then (run_items o width ts columns (capped (least_of_items o items + columns)) (Some first) items)
        (option_map (laid_parted m outermost) x)))) e

  -- ---- all blocks

  abbrev IsLaid : (width k : ℕ) (ts : List (List ℕ)) → Blocks → List Line → Bool → Type 0
  IsLaid width k ts a lines awaits =
      option_and_then (flush (measure o width) outermost) (run_blocks o width ts a (laid lines awaits))
      ≡ option_map (λ all. laid all (awaits_after a awaits)) (lay o width k ts a lines)

  -- what stands after a paragraph
  rest_laid : (width k : ℕ) (ts : List (List ℕ)) (rest : Blocks) (before : List Line) (ran : Option (Laid Tag))
      (new : Option (List Line)) →
      option_and_then (flush (measure o width) outermost) ran
      ≡ option_map (λ lines. block_with (map cell_of before ++ map cell_of lines) None []) new →
      ((lines : List Line) → IsLaid width k ts rest (before ++ lines) true) →
      option_and_then (flush (measure o width) outermost)
      (option_and_then (λ b. run_blocks o width ts rest (end_block b)) ran)
      ≡ option_map (λ all. laid all (awaits_after rest true))
      (option_and_then (λ lines. lay o width k ts rest (before ++ lines)) new)
  rest_laid width k ts rest before None None e h = refl
  rest_laid width k ts rest before None (Some lines) e h = cc
  rest_laid width k ts rest before (Some b) None e h =
      refused width ts rest (end_block b) (flush_awaited (measure o width) outermost b ∙ ap (option_map end_block) e)
  rest_laid width k ts rest before (Some b) (Some lines) e h =
      goes_on width ts rest (end_block b) (before ++ lines) true
      (flush_awaited (measure o width) outermost b ∙ ap (option_map end_block) e
      ∙ ap Some (after_lines before lines true))
      ∙ h lines

  -- what stands after a block that was laid
  then_laid : (width k : ℕ) (ts : List (List ℕ)) (rest : Blocks) (awaits : Bool) (x : Option (Laid Tag))
      (y : Option (List Line)) →
      x ≡ option_map (λ lines. laid lines awaits) y → ((lines : List Line) → IsLaid width k ts rest lines awaits) →
      option_and_then (flush (measure o width) outermost) (option_and_then (run_blocks o width ts rest) x)
      ≡ option_map (λ all. laid all (awaits_after rest awaits)) (option_and_then (lay o width k ts rest) y)
  then_laid width k ts rest awaits x None e h =
      ap (λ x. option_and_then (flush (measure o width) outermost) (option_and_then (run_blocks o width ts rest) x)) e
  then_laid width k ts rest awaits x (Some lines) e h =
      ap (λ x. option_and_then (flush (measure o width) outermost) (option_and_then (run_blocks o width ts rest) x)) e
      ∙ h lines

  heading_laid : (width k : ℕ) (ts : List (List ℕ)) (level : ℕ) (is : Inlines) (rest : Blocks) (lines : List Line)
      (awaits : Bool) (space : Option ℕ) →
      ((before : List Line) → IsLaid width (suc k) (ts ++ targets_in o is) rest before true) →
      let prefix = replicate level 0x23 ++ codes " " in
      option_and_then (flush (measure o width) outermost)
      (option_and_then (λ within. option_and_then (λ sub. option_and_then
      (λ b. run_blocks o width (ts ++ targets_in o is) rest (end_block (append o width within prefix prefix sub b)))
      (start_block (measure o width) outermost (laid lines awaits)))
      (run_whole (measure o within) (parts_of o outermost ts is) (block_with [] None []))) space)
      ≡ option_map (λ all. laid all (awaits_after rest true))
      (option_and_then (λ new. lay o width (suc k) (ts ++ targets_in o is) rest
      (parted o width lines ++ prefixed o width prefix prefix new))
      (option_and_then (λ within. paragraph_lines o within k ts is) space))
  heading_laid width k ts level is rest lines awaits None h = refl
  heading_laid width k ts level is rest lines awaits (Some within) h =
      let prefix : List ℕ = replicate level 0x23 ++ codes " " in
      by (paragraph_lines o within k ts is)
      (ap (λ sub. option_and_then (flush (measure o width) outermost) (option_and_then (λ sub. option_and_then
      (λ b. run_blocks o width (ts ++ targets_in o is) rest (end_block (append o width within prefix prefix sub b)))
      (start_block (measure o width) outermost (laid lines awaits))) sub))
      (paragraph_called kept o within k [] ts is []))
    where
      by : (new : Option (List Line)) → {x : Option (Laid Tag)} → x
          ≡ option_and_then (flush (measure o width) outermost) (option_and_then (λ sub. option_and_then
          (λ b. run_blocks o width (ts ++ targets_in o is) rest
          (end_block (append o width within (replicate level 0x23 ++ codes " ") (replicate level 0x23
          ++ codes " ") sub b)))
          (start_block (measure o width) outermost (laid lines awaits)))
          (option_map (λ ls. block_with (map cell_of ls) None []) new)) → x
          ≡ option_map (λ all. laid all (awaits_after rest true))
          (option_and_then (λ new. lay o width (suc k) (ts ++ targets_in o is) rest
          (parted o width lines ++ prefixed o width (replicate level 0x23 ++ codes " ")
          (replicate level 0x23 ++ codes " ") new))
          new)
      by None e = e
      by (Some new) e = let prefix : List ℕ = replicate level 0x23 ++ codes " " in
          e ∙ ap (λ b. option_and_then (flush (measure o width) outermost) (option_and_then
          (λ b. run_blocks o width (ts ++ targets_in o is) rest
          (end_block (add_block (measure o within) (measure o width) outermost prefix prefix (map cell_of new) b))) b))
          (started_is width lines awaits)
          ∙ ap (λ b. option_and_then (flush (measure o width) outermost)
          (run_blocks o width (ts ++ targets_in o is) rest (end_block b)))
          (appended width within prefix prefix new (parted o width lines) false)
          ∙ h (parted o width lines ++ prefixed o width prefix prefix new)

  quote_laid : (width k : ℕ) (ts : List (List ℕ)) (kids rest : Blocks) (lines : List Line) (awaits : Bool)
      (space : Option ℕ) →
      ((within : ℕ) → IsLaid within k ts kids [] false) →
      ((before : List Line) → IsLaid width (k + count kids) (ts ++ targets_of o kids) rest before true) →
      option_and_then (flush (measure o width) outermost)
      (option_and_then (λ within. option_and_then (λ sub. option_and_then
      (λ b. run_blocks o width (ts ++ targets_of o kids) rest
      (end_block (append o width within quote_prefix quote_prefix sub b)))
      (start_block (measure o width) outermost (laid lines awaits)))
      (option_and_then (flush (measure o within) outermost) (run_blocks o within ts kids (laid [] false)))) space)
      ≡ option_map (λ all. laid all (awaits_after rest true))
      (option_and_then (λ new. lay o width (k + count kids) (ts ++ targets_of o kids) rest
      (parted o width lines ++ prefixed o width quote_prefix quote_prefix new))
      (option_and_then (λ within. lay o within k ts kids []) space))
  quote_laid width k ts kids rest lines awaits None h g = refl
  quote_laid width k ts kids rest lines awaits (Some within) h g =
      ap (λ sub. option_and_then (flush (measure o width) outermost) (option_and_then (λ sub. option_and_then
      (λ b. run_blocks o width (ts ++ targets_of o kids) rest
      (end_block (append o width within quote_prefix quote_prefix sub b)))
      (start_block (measure o width) outermost (laid lines awaits))) sub)) (h within)
      ∙ by (lay o within k ts kids [])
    where
      by : (new : Option (List Line)) →
          option_and_then (flush (measure o width) outermost) (option_and_then (λ sub. option_and_then
          (λ b. run_blocks o width (ts ++ targets_of o kids) rest
          (end_block (append o width within quote_prefix quote_prefix sub b)))
          (start_block (measure o width) outermost (laid lines awaits)))
          (option_map (λ all. laid all (awaits_after kids false)) new))
          ≡ option_map (λ all. laid all (awaits_after rest true))
          (option_and_then (λ new. lay o width (k + count kids) (ts ++ targets_of o kids) rest
          (parted o width lines ++ prefixed o width quote_prefix quote_prefix new)) new)
      by None = refl
      by (Some new) =
          ap (λ b. option_and_then (flush (measure o width) outermost) (option_and_then
          (λ b. run_blocks o width (ts ++ targets_of o kids) rest (end_block
          (add_block (measure o within) (measure o width) outermost quote_prefix quote_prefix (map cell_of new) b))) b))
          (started_is width lines awaits)
          ∙ ap (λ b. option_and_then (flush (measure o width) outermost)
          (run_blocks o width (ts ++ targets_of o kids) rest (end_block b)))
          (appended width within quote_prefix quote_prefix new (parted o width lines) false)
          ∙ g (parted o width lines ++ prefixed o width quote_prefix quote_prefix new)

  item_laid : (width k : ℕ) (ts : List (List ℕ)) (columns least : ℕ) (at : Option ℤ) (kids : Blocks) (rest : Items)
      (lines : List Line) (space : Option ℕ) → ((within : ℕ) → IsLaid within k ts kids [] false) →
      ((before : List Line) → run_items o width (ts ++ targets_of o kids) columns least (next_number at) rest
      (laid before false) ≡ option_map (λ all. laid all false)
      (lay_items o width (k + count kids) (ts ++ targets_of o kids) columns least (next_number at) rest before)) →
      option_and_then (λ within. option_and_then (λ sub. option_and_then
      (λ b. run_items o width (ts ++ targets_of o kids) columns least (next_number at) rest
      (append o width within (to_room columns (item_prefix at)) (spaces columns) sub b))
      (flush (measure o width) outermost (laid lines false)))
      (option_and_then (flush (measure o within) outermost) (run_blocks o within ts kids (laid [] false)))) space
      ≡ option_map (λ all. laid all false) (option_and_then (λ new. lay_items o width (k + count kids)
      (ts ++ targets_of o kids) columns least (next_number at) rest
      (lines ++ prefixed o width (to_room columns (item_prefix at)) (spaces columns) new))
      (option_and_then (λ within. lay o within k ts kids []) space))
  item_laid width k ts columns least at kids rest lines None h g = refl
  item_laid width k ts columns least at kids rest lines (Some within) h g =
      let first : List ℕ = to_room columns (item_prefix at) in
      ap (λ sub. option_and_then (λ sub. option_and_then
      (λ b. run_items o width (ts ++ targets_of o kids) columns least (next_number at) rest
      (append o width within first (spaces columns) sub b))
      (flush (measure o width) outermost (laid lines false))) sub) (h within)
      ∙ by (lay o within k ts kids [])
    where
      by : (new : Option (List Line)) → option_and_then (λ sub. option_and_then
          (λ b. run_items o width (ts ++ targets_of o kids) columns least (next_number at) rest
          (append o width within (to_room columns (item_prefix at)) (spaces columns) sub b))
          (flush (measure o width) outermost (laid lines false)))
          (option_map (λ all. laid all (awaits_after kids false)) new)
          ≡ option_map (λ all. laid all false) (option_and_then (λ new. lay_items o width (k + count kids)
          (ts ++ targets_of o kids) columns least (next_number at) rest
          (lines ++ prefixed o width (to_room columns (item_prefix at)) (spaces columns) new)) new)
      by None = refl
      by (Some new) =
          ap (run_items o width (ts ++ targets_of o kids) columns least (next_number at) rest)
          (appended width within (to_room columns (item_prefix at)) (spaces columns) new lines false)
          ∙ g (lines ++ prefixed o width (to_room columns (item_prefix at)) (spaces columns) new)

  mutual
    pub blocks_called : (width k : ℕ) (ts : List (List ℕ)) (a : Blocks) (lines : List Line) (awaits : Bool) →
        IsLaid width k ts a lines awaits
    blocks_called width k ts no_blocks lines awaits = refl
    blocks_called width k ts (paragraph is rest) lines awaits =
        let before : List Line = parted o width lines in
        ap (λ x. option_and_then (flush (measure o width) outermost)
        (option_and_then (λ b. run_blocks o width (ts ++ targets_in o is) rest (end_block b))
        (option_and_then (run (measure o width) (parts_of o outermost ts is)) x))) (started_is width lines awaits)
        ∙ rest_laid width (suc k) (ts ++ targets_in o is) rest before
        (run (measure o width) (parts_of o outermost ts is) (laid before false)) (paragraph_lines o width k ts is)
        (paragraph_called kept o width k [] ts is (map cell_of before))
        (λ new. blocks_called width (suc k) (ts ++ targets_in o is) rest (before ++ new) true)
    blocks_called width k ts (heading level is rest) lines awaits =
        heading_laid width k ts level is rest lines awaits
        (room width (level + 1) (capped (least_in o is + (level + 1))))
        (λ before. blocks_called width (suc k) (ts ++ targets_in o is) rest before true)
    blocks_called width k ts (division kids rest) lines awaits =
        then_laid width (k + count kids) (ts ++ targets_of o kids) rest (awaits_after kids awaits)
        (option_and_then (flush (measure o width) outermost) (run_blocks o width ts kids (laid lines awaits)))
        (lay o width k ts kids lines) (blocks_called width k ts kids lines awaits)
        (λ before. blocks_called width (k + count kids) (ts ++ targets_of o kids) rest before
        (awaits_after kids awaits))
    blocks_called width k ts (quote kids rest) lines awaits =
        quote_laid width k ts kids rest lines awaits (room width 2 (capped (least_of o kids + 2)))
        (λ within. blocks_called within k ts kids [] false)
        (λ before. blocks_called width (k + count kids) (ts ++ targets_of o kids) rest before true)
    blocks_called width k ts (bullets items rest) lines awaits = let least = capped (least_of_items o items + 2) in
        ap (λ x. option_and_then (flush (measure o width) outermost)
        (option_and_then (run_blocks o width (ts ++ targets_of_items o items) rest)
        (option_and_then (run_items o width ts 2 least None items) x))) (started_is width lines awaits)
        ∙ then_laid width (k + count_items items) (ts ++ targets_of_items o items) rest false
        (run_items o width ts 2 least None items (laid (parted o width lines) false))
        (lay_items o width k ts 2 least None items (parted o width lines))
        (items_called width k ts 2 least None items (parted o width lines))
        (λ before. blocks_called width (k + count_items items) (ts ++ targets_of_items o items) rest before false)
    blocks_called width k ts (numbers first items rest) lines awaits =
        let columns = room_of_numbers first (how_many items) in
        let least = capped (least_of_items o items + columns) in
        ap (λ x. option_and_then (flush (measure o width) outermost)
        (option_and_then (run_blocks o width (ts ++ targets_of_items o items) rest)
        (option_and_then (run_items o width ts columns least (Some first) items) x))) (started_is width lines awaits)
        ∙ then_laid width (k + count_items items) (ts ++ targets_of_items o items) rest false
        (run_items o width ts columns least (Some first) items (laid (parted o width lines) false))
        (lay_items o width k ts columns least (Some first) items (parted o width lines))
        (items_called width k ts columns least (Some first) items (parted o width lines))
        (λ before. blocks_called width (k + count_items items) (ts ++ targets_of_items o items) rest before false)

    items_called : (width k : ℕ) (ts : List (List ℕ)) (columns least : ℕ) (at : Option ℤ) (a : Items)
        (lines : List Line) →
        run_items o width ts columns least at a (laid lines false)
        ≡ option_map (λ all. laid all false) (lay_items o width k ts columns least at a lines)
    items_called width k ts columns least at no_items lines = refl
    items_called width k ts columns least at (item kids rest) lines =
        item_laid width k ts columns least at kids rest lines (room width columns least)
        (λ within. blocks_called within k ts kids [] false)
        (λ before. items_called width (k + count kids) (ts ++ targets_of o kids) columns least (next_number at) rest
        before)

  lines_alone : (awaits : Bool) (x : Option (List Line)) →
      option_map (λ (b : Laid Tag). b.lines) (option_map (λ all. laid all awaits) x) ≡ option_map (map cell_of) x
  lines_alone awaits None = refl
  lines_alone awaits (Some lines) = refl

  pub lines_called : (width : ℕ) (a : Blocks) → option_map (λ (b : Laid Tag). b.lines)
      (option_and_then (flush (measure o width) outermost) (run_blocks o width [] a (laid [] false)))
      ≡ option_map (map cell_of) (lay o width 0 [] a [])
  lines_called width a =
      ap (option_map (λ (b : Laid Tag). b.lines)) (blocks_called width 0 [] a [] false)
      ∙ lines_alone (awaits_after a false) (lay o width 0 [] a [])
