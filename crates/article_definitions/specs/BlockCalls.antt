-- An article's blocks as calls of blocks of lines, by the words of block_layout.
use Rattle.std.specs.Prelude.{◌+◌, [], ◌∷◌, ◌++◌, if◌then◌else◌, Bool, List, None, Option, Some, codes, false}
use Rattle.std.specs.Prelude.{replicate, suc, true, ℕ, ℤ}
use Rattle.std.specs.Option.{option_and_then, option_map}
use Rattle.block_layout.specs.Laid.{Laid, add_block, add_text_lines, end_block, flush, nothing_laid, start_block}
use Rattle.text_footnotes.specs.Footnotes.{footnote_lines}
use Rattle.text_lines.specs.Tagged.{tagged}
use Rattle.text_decorators.specs.Texts.{footnote_text}
use Rattle.layout_state.specs.Items.{spaces}
use Rattle.render_sizes.specs.Extents.{capped}
use Rattle.article_values.specs.Articles.{Blocks, Items, bullets, division, heading, item, no_blocks, no_items, numbers}
use Rattle.article_values.specs.Articles.{paragraph, quote}
use Rattle.article_definitions.specs.Calls.{measure, run, run_whole}
use Rattle.article_definitions.specs.Layouts.{Options, Tag, how_many, item_prefix, least_in, least_of, least_of_items}
use Rattle.article_definitions.specs.Layouts.{listed_targets}
use Rattle.article_definitions.specs.Layouts.{next_number, outermost, parts_of, quote_prefix, room, room_of_numbers}
use Rattle.article_definitions.specs.Layouts.{targets_in, targets_of, targets_of_items, to_room}

-- the lines of another block after prefixes
abbrev pub append : Options → (width within : ℕ) → List ℕ → List ℕ → Laid Tag → Laid Tag → Laid Tag
append o width within first following sub b =
    add_block (measure o within) (measure o width) outermost first following sub.lines b

-- after links to these targets
abbrev mutual
  pub run_blocks : Options → ℕ → List (List ℕ) → Blocks → Laid Tag → Option (Laid Tag)
  run_blocks o width ts no_blocks b = Some b
  run_blocks o width ts (paragraph is rest) b =
      option_and_then (λ b. run_blocks o width (ts ++ targets_in o is) rest (end_block b))
      (option_and_then (run (measure o width) (parts_of o outermost ts is)) (start_block (measure o width) outermost b))
  run_blocks o width ts (heading level is rest) b = let prefix = replicate level 0x23 ++ codes " " in
      option_and_then (λ within. option_and_then (λ sub. option_and_then
      (λ b. run_blocks o width (ts ++ targets_in o is) rest (end_block (append o width within prefix prefix sub b)))
      (start_block (measure o width) outermost b))
      (run_whole (measure o within) (parts_of o outermost ts is) nothing_laid))
      (room width (level + 1) (capped (least_in o is + (level + 1))))
  run_blocks o width ts (division kids rest) b =
      option_and_then (run_blocks o width (ts ++ targets_of o kids) rest)
      (option_and_then (flush (measure o width) outermost)
      (option_and_then (run_blocks o width ts kids) (flush (measure o width) outermost b)))
  run_blocks o width ts (quote kids rest) b = option_and_then (λ within. option_and_then (λ sub. option_and_then
      (λ b. run_blocks o width (ts ++ targets_of o kids) rest
      (end_block (append o width within quote_prefix quote_prefix sub b)))
      (start_block (measure o width) outermost b))
      (option_and_then (flush (measure o within) outermost) (run_blocks o within ts kids nothing_laid)))
      (room width 2 (capped (least_of o kids + 2)))
  run_blocks o width ts (bullets items rest) b =
      option_and_then (run_blocks o width (ts ++ targets_of_items o items) rest)
      (option_and_then (run_items o width ts 2 (capped (least_of_items o items + 2)) None items)
      (start_block (measure o width) outermost b))
  run_blocks o width ts (numbers first items rest) b = let columns = room_of_numbers first (how_many items) in
      option_and_then (run_blocks o width (ts ++ targets_of_items o items) rest)
      (option_and_then (run_items o width ts columns (capped (least_of_items o items + columns)) (Some first) items)
      (start_block (measure o width) outermost b))

  pub run_items : Options → ℕ → List (List ℕ) → (columns least : ℕ) → Option ℤ → Items → Laid Tag → Option (Laid Tag)
  run_items o width ts columns least at no_items b = Some b
  run_items o width ts columns least at (item kids rest) b =
      option_and_then (λ within. option_and_then (λ sub. option_and_then
      (λ b. run_items o width (ts ++ targets_of o kids) columns least (next_number at) rest
      (append o width within (to_room columns (item_prefix at)) (spaces columns) sub b))
      (flush (measure o width) outermost b))
      (option_and_then (flush (measure o within) outermost) (run_blocks o within ts kids nothing_laid)))
      (room width columns least)

-- whether the next text would start a block
abbrev pub awaits_after : Blocks → Bool → Bool
awaits_after no_blocks b = b
awaits_after (paragraph is rest) b = awaits_after rest true
awaits_after (heading level is rest) b = awaits_after rest true
awaits_after (division kids rest) b = awaits_after rest (awaits_after kids b)
awaits_after (quote kids rest) b = awaits_after rest true
awaits_after (bullets items rest) b = awaits_after rest false
awaits_after (numbers first items rest) b = awaits_after rest false

-- ---- after the last block

-- the lines of targets, numbered from a number on
abbrev pub add_notes : Options → (width number : ℕ) → List (List ℕ) → Laid Tag → Laid Tag
add_notes o width n [] b = b
add_notes o width n (target ∷ targets) b =
    add_notes o width (suc n) targets (add_text_lines (measure o width) outermost outermost
    (footnote_lines o.wraps_links width (tagged (footnote_text n target) tt)) b)

-- targets are a block of their own, where there are any
abbrev pub run_notes : Options → ℕ → List (List ℕ) → Laid Tag → Option (Laid Tag)
run_notes o width [] b = Some b
run_notes o width (target ∷ targets) b = option_map (add_notes o width 1 (target ∷ targets))
    (option_and_then (flush (measure o width) outermost) (start_block (measure o width) outermost b))

-- those that stand there
abbrev pub noted : Options → List (List ℕ) → List (List ℕ)
noted o targets = if o.footnotes then listed_targets o targets else []
