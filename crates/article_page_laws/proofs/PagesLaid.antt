-- A page's renderer by the block of lines that it holds, and what calls of the renderer do to that block.
use Rattle.std.proofs.Common.{◌≡◌, ◌&&◌, [], ◌∷◌, ◌++◌, if◌then◌else◌, ◌∙◌, Bool, List, None, Option, Some, ap, codes}
use Rattle.std.proofs.Common.{false, fold, not, refl, sym, true, ℕ}
use Rattle.std.specs.List.{list_all}
use Rattle.std.specs.Char.{is_whitespace}
use Rattle.std.specs.Option.{option_and_then, option_map}
use Rattle.article_definitions.specs.Calls.{measure}
use Rattle.article_definitions.specs.Layouts.{Options, Tag, number_mark, outermost, within}
use Rattle.block_layout.specs.Laid.{Laid, add_text, break_line, end_block, flush, start_block}
use Rattle.block_layout.specs.declared.measure.Measure.{Measure}
use Rattle.text_footnotes.specs.Targets.{last_number}
use Rattle.layout_state.specs.LayoutState.{LayoutState, begins_link, ends_link, in_current, in_parts, says}
use Rattle.block_trait.specs.Calls.{adds_text, breaks_line, ends_block, ends_line, ends_mark, starts_block, starts_mark}
use Rattle.block_trait.specs.Renderers.{Sub, add_inline, on_laid, popped, with_laid}
use Rattle.block_trait.specs.declared.options.RenderOptions.{RenderOptions}
use Rattle.text_block_renderer.specs.PlainText.{plain_marking}
use Rattle.text_block_renderer.specs.Parts.{Parts, add_part_number, footnote_mark, with_current, with_target}
use Rattle.text_pieces.specs.Modes.{is_preserved}
use Rattle.text_pieces.specs.declared.white_space.WhiteSpace.{WhiteSpace}
use Rattle.text_pieces.specs.declared.white_space.WhiteSpace.TheVariants.{Normal}
use Rattle.text_decorators.specs.Texts.{plain_text}
use Rattle.text_decorators.specs.Marks.{Mark}
use Rattle.article_page_laws.specs.Pages.{Place, laying_at, options_of, renderer_at}
use Rattle.article_page_laws.proofs.SaidTexts.{IsQuiet, empty_last, last_off, say, say_quiet}

abbrev pub Page : Type 0
Page = Sub (Unit {0}) (Unit {0})

abbrev pub Layings : Type 0
Layings = LayoutState (Unit {0}) (Unit {0})

-- of a part with so many columns
abbrev pub part_at : ℕ → Place → Place
part_at width p = record { width = width; modes = fold (λ _ mode. mode) Normal p.modes ∷ []; normal = p.normal }

pub twice : {A B C : Type 0} (f : B → C) (g : A → B) (h : A → C) (x : Option A) → ((a : A) → f (g a) ≡ h a) →
    option_map f (option_map g x) ≡ option_map h x
twice f g h None e = refl
twice f g h (Some a) e = ap Some (e a)

module _ (given : RenderOptions) (decorates : Bool) (min_wrap : ℕ) (held : Unit {0}) where
  abbrev pub o : Options
  o = options_of given decorates min_wrap

  abbrev pub sub_at : Place → Tag → Laid Tag → Page
  sub_at = renderer_at given held

  abbrev pub laying : Place → List (List ℕ) → Tag → Laid Tag → Layings
  laying = laying_at given held

  abbrev pub m : Place → Measure
  m p = measure o p.width

  -- ---- text

  abbrev added_by : Place → Tag → List ℕ → Laid Tag → Bool → WhiteSpace → List ℕ → Option Page
  added_by p d cs b awaits mode text =
      if awaits && (not (is_preserved mode) && list_all is_whitespace cs) then Some (sub_at p d b)
      else on_laid (sub_at p d b) (option_and_then (add_text (m p) d mode text d d)
      (if awaits then start_block (m p) d b else Some b))

  unstruck : (b : Bool) (cs : List ℕ) → (if b then cs else cs) ≡ cs
  unstruck true cs = refl
  unstruck false cs = refl

  pub inline_is : (p : Place) (d : Tag) (cs : List ℕ) (b : Laid Tag) → b.awaits ≡ false →
      add_inline plain_marking cs (sub_at p d b) ≡ option_map (sub_at p d) (say (m p) d cs b)
  inline_is p d cs b quiet =
      ap (λ awaits. added_by p d cs b awaits (fold (λ _ mode. mode) Normal p.modes)
      (if given.use_unicode_strikeout then cs else cs)) quiet
      ∙ ap (λ mode. added_by p d cs b false mode (if given.use_unicode_strikeout then cs else cs)) p.normal
      ∙ ap (λ text. added_by p d cs b false Normal text) (unstruck given.use_unicode_strikeout cs)

  -- ---- calls

  pub said : (p : Place) (ts : List (List ℕ)) (d : Tag) (cs : List ℕ) (b : Laid Tag) → b.awaits ≡ false →
      says plain_marking (adds_text cs) (laying p ts d b) ≡ option_map (laying p ts d) (say (m p) d cs b)
  unfolding says
  said p ts d cs b quiet =
      ap (option_map (in_current (laying p ts d b))) (inline_is p d cs b quiet)
      ∙ twice (in_current (laying p ts d b)) (sub_at p d) (laying p ts d) (say (m p) d cs b) (λ b. refl)

  pub broke : (p : Place) (ts : List (List ℕ)) (d : Tag) (b : Laid Tag) →
      says plain_marking breaks_line (laying p ts d b) ≡ option_map (laying p ts d) (break_line (m p) d b)
  unfolding says
  broke p ts d b = twice (in_current (laying p ts d b)) (with_laid (sub_at p d b)) (laying p ts d)
      (break_line (m p) d b) (λ b. refl)

  pub started : (p : Place) (ts : List (List ℕ)) (b : Laid Tag) →
      says plain_marking starts_block (laying p ts outermost b)
      ≡ option_map (laying p ts outermost) (start_block (m p) outermost b)
  unfolding says
  started p ts b = twice (in_current (laying p ts outermost b)) (with_laid (sub_at p outermost b))
      (laying p ts outermost) (start_block (m p) outermost b) (λ b. refl)

  pub ended : (p : Place) (ts : List (List ℕ)) (b : Laid Tag) →
      says plain_marking ends_block (laying p ts outermost b) ≡ Some (laying p ts outermost (end_block b))
  unfolding says
  ended p ts b = refl

  pub flushed : (p : Place) (ts : List (List ℕ)) (b : Laid Tag) →
      says plain_marking ends_line (laying p ts outermost b)
      ≡ option_map (laying p ts outermost) (flush (m p) outermost b)
  unfolding says
  flushed p ts b = twice (in_current (laying p ts outermost b)) (with_laid (sub_at p outermost b))
      (laying p ts outermost) (flush (m p) outermost b) (λ b. refl)

  -- ---- marks

  pub mark_begun : (kind : Mark) → plain_text kind ≡ [] → (p : Place) (ts : List (List ℕ)) (d : Tag) (b : Laid Tag) →
      b.awaits ≡ false → says plain_marking (starts_mark kind) (laying p ts d b)
      ≡ option_map (laying p ts (within d)) (say (m p) (within d) [] b)
  unfolding says
  mark_begun kind e p ts d b quiet =
      ap (λ text. option_map (in_current (laying p ts d b)) (add_inline plain_marking text (sub_at p (within d) b))) e
      ∙ ap (option_map (in_current (laying p ts d b))) (inline_is p (within d) [] b quiet)
      ∙ twice (in_current (laying p ts d b)) (sub_at p (within d)) (laying p ts (within d)) (say (m p) (within d) [] b)
      (λ b. refl)

  off : (p : Place) (ts : List (List ℕ)) (d : Tag) (b : Laid Tag) (x : Option (Laid Tag)) →
      option_map (in_current (laying p ts (within d) b)) (option_map popped (option_map (sub_at p (within d)) x))
      ≡ option_map (laying p ts d) x
  off p ts d b None = refl
  off p ts d b (Some c) = ap (λ e. let all : Option Layings = Some (laying p ts e c) in all) (last_off d)

  pub mark_ended : (kind : Mark) → plain_text kind ≡ [] → (p : Place) (ts : List (List ℕ)) (d : Tag) (b : Laid Tag) →
      b.awaits ≡ false → says plain_marking (ends_mark kind) (laying p ts (within d) b)
      ≡ option_map (laying p ts d) (say (m p) (within d) [] b)
  unfolding says
  mark_ended kind e p ts d b quiet =
      ap (λ text. option_map (in_current (laying p ts (within d) b))
      (option_map popped (add_inline plain_marking text (sub_at p (within d) b)))) e
      ∙ ap (λ s. option_map (in_current (laying p ts (within d) b)) (option_map popped s))
      (inline_is p (within d) [] b quiet)
      ∙ off p ts d b (say (m p) (within d) [] b)

  -- ---- links

  pub link_begun : (target : List ℕ) (p : Place) (ts : List (List ℕ)) (d : Tag) (b : Laid Tag) → b.awaits ≡ false →
      begins_link plain_marking target (laying p ts d b)
      ≡ option_map (laying p (ts ++ target ∷ []) (within d)) (say (m p) (within d) (codes "[") b)
  unfolding begins_link
  link_begun target p ts d b quiet = let now = laying p ts d b in
      ap (λ s. option_map (in_parts now) (option_map (with_current (with_target target now.parts)) s))
      (inline_is p (within d) (codes "[") b quiet)
      ∙ three (say (m p) (within d) (codes "[") b)
    where
      three : (x : Option (Laid Tag)) → option_map (in_parts (laying p ts d b))
          (option_map (with_current (with_target target (laying p ts d b).parts)) (option_map (sub_at p (within d)) x))
          ≡ option_map (laying p (ts ++ target ∷ []) (within d)) x
      three None = refl
      three (Some b) = refl

  numbered_by : (notes : Bool) (n : ℕ) (p : Place) (d : Tag) (b : Laid Tag) → b.awaits ≡ false →
      say (m p) d [] b ≡ Some b →
      (if notes then add_inline plain_marking (footnote_mark n) (sub_at p d b) else Some (sub_at p d b))
      ≡ option_map (sub_at p d) (say (m p) d (if notes then footnote_mark n else []) b)
  numbered_by true n p d b quiet same = inline_is p d (footnote_mark n) b quiet
  numbered_by false n p d b quiet same = sym (ap (option_map (sub_at p d)) same)

  abbrev part_after : Place → List (List ℕ) → Tag → Laid Tag → Parts (Unit {0}) (Unit {0})
  part_after p ts d b = record { below = []; current = sub_at p d b; targets = ts }

  number_by : (p : Place) (ts : List (List ℕ)) (d : Tag) (b : Laid Tag) (x : Option (Laid Tag)) → IsQuiet x →
      option_and_then (say (m p) d []) x ≡ x →
      option_map (in_parts (laying p ts (within d) b)) (option_and_then (add_part_number plain_marking)
      (option_map (with_current (part_after p ts (within d) b)) (option_map popped (option_map (sub_at p
      (within d)) x))))
      ≡ option_map (laying p ts d) (option_and_then (say (m p) d (number_mark o ts)) x)
  number_by p ts d b None quiet same = refl
  number_by p ts d b (Some c) quiet same =
      ap (λ e. option_map (in_parts (laying p ts (within d) b)) (add_part_number plain_marking (part_after p ts e c)))
      (last_off d)
      ∙ ap (λ s. option_map (in_parts (laying p ts (within d) b)) (option_map (with_current (part_after p ts d c)) s))
      (numbered_by given.include_link_footnotes (last_number given.shared_footnotes ts) p d c quiet same)
      ∙ three (say (m p) d (number_mark o ts) c)
    where
      three : (x : Option (Laid Tag)) → option_map (in_parts (laying p ts (within d) b))
          (option_map (with_current (part_after p ts d c)) (option_map (sub_at p d) x)) ≡ option_map (laying p ts d) x
      three None = refl
      three (Some b) = refl

  pub link_ended : (p : Place) (ts : List (List ℕ)) (d : Tag) (b : Laid Tag) → b.awaits ≡ false →
      ends_link plain_marking (laying p ts (within d) b)
      ≡ option_map (laying p ts d)
      (option_and_then (say (m p) d (number_mark o ts)) (say (m p) (within d) (codes "]") b))
  unfolding ends_link
  link_ended p ts d b quiet =
      ap (λ s. option_map (in_parts (laying p ts (within d) b)) (option_and_then (add_part_number plain_marking)
      (option_map (with_current (part_after p ts (within d) b)) (option_map popped s))))
      (inline_is p (within d) (codes "]") b quiet)
      ∙ number_by p ts d b (say (m p) (within d) (codes "]") b) (say_quiet (m p) (within d) (codes "]") b quiet)
      (empty_last (m p) (within d) d (codes "]") b)
