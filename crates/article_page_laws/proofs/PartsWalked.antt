-- Parts of a page after prefixes: what a walk makes of them in a renderer, as calls of blocks of lines.
use Rattle.std.proofs.Common.{◌≡◌, ◌-◌, [], ◌∷◌, if◌then◌else◌, ◌∙◌, Bool, List, None, Option, Some, ap, false, max}
use Rattle.std.proofs.Common.{refl, sym, true, ℕ}
use Rattle.std.specs.Option.{option_and_then, option_map}
use Rattle.std.specs.Prelude.{IfSome, nat_le}
use Rattle.article_definitions.specs.BlockCalls.{append}
use Rattle.article_definitions.specs.Calls.{measure}
use Rattle.article_definitions.specs.Layouts.{Options, Tag, if_fits, outermost, room}
use Rattle.block_layout.specs.Laid.{Laid, Running, add_text_line, add_text_lines, after_empty_line, flush, flush_of}
use Rattle.block_layout.specs.Laid.{has_content, laid_text, nothing_laid, parted, start_block, started, text_laid}
use Rattle.block_layout.specs.Laid.{without_running}
use Rattle.block_layout.specs.declared.measure.Measure.{Measure}
use Rattle.layout_state.specs.LayoutState.{Step, after_prefix, in_around, in_current, in_part, part_begun, part_ended}
use Rattle.layout_state.specs.LayoutState.{says}
use Rattle.layout_state.specs.declared.around.Around.{Around}
use Rattle.block_trait.specs.Renderers.{with_block, with_laid}
use Rattle.block_trait.specs.declared.options.RenderOptions.{RenderOptions}
use Rattle.text_lines.specs.Tagged.{Item}
use Rattle.text_block_renderer.specs.PlainText.{plain_marking}
use Rattle.article_page_laws.specs.Pages.{Place, renderer_at}
use Rattle.article_page_laws.proofs.PagesLaid.{Layings, Page, laying, m, o, part_at, twice}
use Rattle.article_page_laws.proofs.SaidTexts.{IsQuiet}

pub then_walk : {A B : Type 0} (f : B → Option B) (g : A → Option A) (here there : A → B) (x : Option A) →
    ((a : A) → f (here a) ≡ option_map there (g a)) →
    option_and_then f (option_map here x) ≡ option_map there (option_and_then g x)
then_walk f g here there None same = refl
then_walk f g here there (Some a) same = same a

-- no text runs
abbrev pub IsResting : Option (Laid Tag) → Type 0
IsResting x = IfSome x (λ (b : Laid Tag). b.running ≡ None)

module _ (w : Measure) where
  -- ---- the start of a block

  parted_quiet : (has : Bool) (b : Laid Tag) →
      (if has then after_empty_line w outermost b else started b).awaits ≡ false
  parted_quiet true b = refl
  parted_quiet false b = refl

  start_quiet_by : (x : Option (Laid Tag)) → IsQuiet (option_map (parted w outermost) x)
  start_quiet_by None = tt
  start_quiet_by (Some b) = parted_quiet (has_content b.lines) b

  pub start_quiet : (b : Laid Tag) → IsQuiet (start_block w outermost b)
  start_quiet b = start_quiet_by (flush w outermost b)

  lines_rest : (fill : Tag) (lines : List (List (Item Tag))) (b : Laid Tag) →
      (add_text_lines w outermost fill lines b).running ≡ b.running
  lines_rest fill [] b = refl
  lines_rest fill (l ∷ lines) b = lines_rest fill lines (add_text_line w outermost fill b l)

  found_rests : (fill : Tag) (b : Laid Tag) (found : Option (List (List ℕ) × List (List (Item Tag)))) →
      b.running ≡ None → IsResting (option_map (text_laid w outermost fill b) found)
  found_rests fill b None e = tt
  found_rests fill b (Some found) e = lines_rest fill found.1 b ∙ e

  flush_rests : (r : Option (Running Tag)) (b : Laid Tag) → b.running ≡ None → IsResting (flush_of w outermost r b)
  flush_rests None b e = e
  flush_rests (Some r) b e = found_rests r.fill b (laid_text r.text) e

  parted_rests : (has : Bool) (b : Laid Tag) → b.running ≡ None →
      (if has then after_empty_line w outermost b else started b).running ≡ None
  parted_rests true b e = e
  parted_rests false b e = e

  start_rests_by : (x : Option (Laid Tag)) → IsResting x → IsResting (option_map (parted w outermost) x)
  start_rests_by None e = tt
  start_rests_by (Some b) e = parted_rests (has_content b.lines) b e

  pub start_rests : (b : Laid Tag) → IsResting (start_block w outermost b)
  start_rests b = start_rests_by (flush w outermost b) (flush_rests b.running (without_running b) refl)

  pub flush_resting : (b : Laid Tag) → b.running ≡ None → flush w outermost b ≡ Some b
  flush_resting b e = ap (λ r. flush_of w outermost r (without_running b)) e
      ∙ ap (λ r. let some : Option (Laid Tag) = Some (record b { running = r }) in some) (sym e)

module _ (given : RenderOptions) (decorates : Bool) (min_wrap : ℕ) (held : Unit {0}) where
  abbrev pub article : Options
  article = o given decorates min_wrap held

  abbrev pub at : Place → List (List ℕ) → Laid Tag → Layings
  at p ts b = laying given decorates min_wrap held p ts outermost b

  -- the same in a list
  abbrev pub in_list : Around → Place → List (List ℕ) → Laid Tag → Layings
  in_list around p ts b = in_around around (at p ts b)

  abbrev pub ms : Place → Measure
  ms = m given decorates min_wrap held

  -- ---- a part after prefixes

  room_by : (f : ℕ → Layings) (fits : Bool) (n asked : ℕ) →
      option_map f (if fits then Some n else (if false then Some asked else None)) ≡ option_map f (if_fits fits n)
  room_by f true n asked = refl
  room_by f false n asked = refl

  part_is : (around : Around) (columns least : ℕ) (p : Place) (ts : List (List ℕ)) (b : Laid Tag) →
      part_begun plain_marking columns least (in_list around p ts b)
      ≡ option_map (λ within. at (part_at within p) ts nothing_laid) (room p.width columns least)
  unfolding part_begun in_part
  part_is around columns least p ts b =
      room_by (λ within. at (part_at within p) ts nothing_laid)
      (nat_le (max (least - columns) 1) (p.width - columns)) (p.width - columns) (max (least - columns) 1)

  part_ended_is : (p : Place) (ts : List (List ℕ)) (within : ℕ) (first following : List ℕ) (b sub : Laid Tag) →
      part_ended plain_marking (renderer_at given held p outermost b) first following (at (part_at within p) ts sub)
      ≡ option_and_then (λ sub. option_map (λ b. at p ts (append article p.width within first following sub b))
      (flush (ms p) outermost b)) (flush (measure article within) outermost sub)
  unfolding part_ended says
  part_ended_is p ts within first following b sub =
      by (flush (ms p) outermost b) (flush (measure article within) outermost sub)
    where
      by : (x y : Option (Laid Tag)) → option_map (in_current (at p ts b)) (option_and_then
          (λ (s : Page). option_map (with_block s first following)
          (option_map (with_laid (renderer_at given held (part_at within p) outermost sub)) y))
          (option_map (with_laid (renderer_at given held p outermost b)) x))
          ≡ option_and_then (λ sub. option_map (λ b. at p ts (append article p.width within first following sub b)) x) y
      by None None = refl
      by None (Some sub) = refl
      by (Some b) None = refl
      by (Some b) (Some sub) = refl

  -- what is laid out in a part, after prefixes in the block around it
  abbrev pub put : Place → (columns least : ℕ) → (first following : List ℕ) → (ℕ → Option (Laid Tag)) → Laid Tag
      → Option (Laid Tag)
  put p columns least first following go b = option_and_then (λ within. option_and_then
      (λ sub. option_map (append article p.width within first following sub) (flush (ms p) outermost b))
      (option_and_then (flush (measure article within) outermost) (go within))) (room p.width columns least)

  pub after_is : (around : Around) (columns least : ℕ) (first following : List ℕ) (inside : Step (Unit {0}) (Unit {0}))
      (p : Place) (ts all : List (List ℕ)) (b : Laid Tag) (go : ℕ → Option (Laid Tag)) →
      ((within : ℕ) → inside (at (part_at within p) ts nothing_laid)
      ≡ option_map (at (part_at within p) all) (go within)) →
      after_prefix plain_marking columns first following least inside (in_list around p ts b)
      ≡ option_map (at p all) (put p columns least first following go b)
  after_is around columns least first following inside p ts all b go same =
      ap (option_and_then (λ l. option_and_then
      (part_ended plain_marking (renderer_at given held p outermost b) first following) (inside l)))
      (part_is around columns least p ts b) ∙ by (room p.width columns least)
    where
      added : (within : ℕ) (y : Option (Laid Tag)) →
          option_and_then (λ sub. option_map (λ b. at p all (append article p.width within first following sub b))
          (flush (ms p) outermost b)) y
          ≡ option_map (at p all) (option_and_then
          (λ sub. option_map (append article p.width within first following sub) (flush (ms p) outermost b)) y)
      added within None = refl
      added within (Some sub) = sym (twice (at p all) (append article p.width within first following sub)
          (λ b. at p all (append article p.width within first following sub b)) (flush (ms p) outermost b) (λ b. refl))

      ended : (within : ℕ) (y : Option (Laid Tag)) → option_and_then
          (part_ended plain_marking (renderer_at given held p outermost b) first following)
          (option_map (at (part_at within p) all) y)
          ≡ option_map (at p all) (option_and_then
          (λ sub. option_map (append article p.width within first following sub) (flush (ms p) outermost b))
          (option_and_then (flush (measure article within) outermost) y))
      ended within None = refl
      ended within (Some sub) = part_ended_is p all within first following b sub
          ∙ added within (flush (measure article within) outermost sub)

      by : (x : Option ℕ) → option_and_then (λ l. option_and_then
          (part_ended plain_marking (renderer_at given held p outermost b) first following) (inside l))
          (option_map (λ within. at (part_at within p) ts nothing_laid) x)
          ≡ option_map (at p all) (option_and_then (λ within. option_and_then
          (λ sub. option_map (append article p.width within first following sub) (flush (ms p) outermost b))
          (option_and_then (flush (measure article within) outermost) (go within))) x)
      by None = refl
      by (Some within) = ap (option_and_then
          (part_ended plain_marking (renderer_at given held p outermost b) first following)) (same within)
          ∙ ended within (go within)

  -- ---- in which order

  pub put_then : (p : Place) (columns least : ℕ) (first following : List ℕ) (go : ℕ → Option (Laid Tag)) (b : Laid Tag)
      (rest : Laid Tag → Option (Laid Tag)) → option_and_then rest (put p columns least first following go b)
      ≡ option_and_then (λ within. option_and_then (λ sub. option_and_then
      (λ b. rest (append article p.width within first following sub b)) (flush (ms p) outermost b))
      (option_and_then (flush (measure article within) outermost) (go within))) (room p.width columns least)
  put_then p columns least first following go b rest = by_room (room p.width columns least)
    where
      by_outer : (within : ℕ) (sub : Laid Tag) (x : Option (Laid Tag)) →
          option_and_then rest (option_map (append article p.width within first following sub) x)
          ≡ option_and_then (λ b. rest (append article p.width within first following sub b)) x
      by_outer within sub None = refl
      by_outer within sub (Some b) = refl

      by_part : (within : ℕ) (x : Option (Laid Tag)) → option_and_then rest (option_and_then
          (λ sub. option_map (append article p.width within first following sub) (flush (ms p) outermost b)) x)
          ≡ option_and_then (λ sub. option_and_then (λ b. rest (append article p.width within first following sub b))
          (flush (ms p) outermost b)) x
      by_part within None = refl
      by_part within (Some sub) = by_outer within sub (flush (ms p) outermost b)

      by_room : (x : Option ℕ) → option_and_then rest (option_and_then (λ within. option_and_then
          (λ sub. option_map (append article p.width within first following sub) (flush (ms p) outermost b))
          (option_and_then (flush (measure article within) outermost) (go within))) x)
          ≡ option_and_then (λ within. option_and_then (λ sub. option_and_then
          (λ b. rest (append article p.width within first following sub b)) (flush (ms p) outermost b))
          (option_and_then (flush (measure article within) outermost) (go within))) x
      by_room None = refl
      by_room (Some within) = by_part within (option_and_then (flush (measure article within) outermost) (go within))

  pub start_last : (p : Place) (columns least : ℕ) (first following : List ℕ) (go : ℕ → Option (Laid Tag))
      (rest : Laid Tag → Option (Laid Tag)) (x : Option (Laid Tag)) → IsResting x →
      option_and_then rest (option_and_then (put p columns least first following go) x)
      ≡ option_and_then (λ within. option_and_then (λ sub. option_and_then
      (λ b. rest (append article p.width within first following sub b)) x)
      (option_and_then (flush (measure article within) outermost) (go within))) (room p.width columns least)
  start_last p columns least first following go rest (Some b) resting =
      put_then p columns least first following go b rest
      ∙ ap (λ x. option_and_then (λ within. option_and_then (λ sub. option_and_then
      (λ b. rest (append article p.width within first following sub b)) x)
      (option_and_then (flush (measure article within) outermost) (go within))) (room p.width columns least))
      (flush_resting (ms p) b resting)
  start_last p columns least first following go rest None resting = by_room (room p.width columns least)
    where
      by_part : (x : Option (Laid Tag)) → (let none : Option (Laid Tag) = None in none)
          ≡ option_and_then (λ (sub : Laid Tag). let none : Option (Laid Tag) = None in none) x
      by_part None = refl
      by_part (Some sub) = refl

      by_room : (x : Option ℕ) → (let none : Option (Laid Tag) = None in none)
          ≡ option_and_then (λ within. option_and_then (λ (sub : Laid Tag). let none : Option (Laid Tag) = None in none)
          (option_and_then (flush (measure article within) outermost) (go within))) x
      by_room None = refl
      by_room (Some within) = by_part (option_and_then (flush (measure article within) outermost) (go within))
