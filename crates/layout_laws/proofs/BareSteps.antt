-- Each step makes the same of a page whose renderers keep no annotations: outside of tables.
use Rattle.std.proofs.Common.{◌≡◌, ℕ, ◌-◌, Bool, true, false, List, [], Option, None, Some, map, ap, ◌∙◌, refl}
use Rattle.std.specs.Prelude.{if◌then◌else◌}
use Rattle.std.specs.Option.{option_map, option_and_then}
use Rattle.block_trait.specs.Bare.{bare_of}
use Rattle.block_trait.specs.Calls.{Call, call_of, step}
use Rattle.block_trait.specs.Calls as calls
use Rattle.block_trait.specs.Renderers.{Marking, Sub, add_inline, begin_link, finish_link, room_after}
use Rattle.text_block_renderer.specs.Parts.{Parts, add_part_number, begin_part_link, finish_part_link, footnote_mark}
use Rattle.text_block_renderer.specs.Parts.{numbered, with_current, with_target}
use Rattle.text_lines.specs.Columns.{text_columns}
use Rattle.text_decorators.specs.Marks as marks
use Rattle.render_values.specs.declared.info.Head.{Head}
use Rattle.render_values.specs.declared.info.RenderInfo.{RenderInfo}
use Rattle.render_values.specs.declared.info.RenderInfo.TheVariants as infos
use Rattle.render_values.specs.declared.style.RenderStyle.{RenderStyle}
use Rattle.text_pieces.specs.declared.white_space.WhiteSpace.TheVariants.{Pre}
use Rattle.layout_state.specs.Begins.{begins, ends, following, fragment_leads, leading, named, style_begins, style_ends}
use Rattle.layout_state.specs.Begins.{rule_border, rule_laid}
use Rattle.layout_state.specs.Items.{item_columns, item_mark, last_mark, next_mark, padded, spaces}
use Rattle.layout_state.specs.LayoutState.{LayoutState, Step, TablePlace, after_prefix, begins_link, cells, ends_link}
use Rattle.layout_state.specs.LayoutState.{for_some, goes_on, goes_to, in_current, in_part, in_parts, in_turn, mark_of}
use Rattle.layout_state.specs.LayoutState.{outside, part_begun, part_ended, rows, says}
use Rattle.layout_state.specs.declared.around.Around.{Around}
use Rattle.layout_state.specs.declared.around.Around.TheVariants.{Flow, Items}
use Rattle.layout_state.specs.declared.around.ItemMark.{ItemMark}
use Rattle.layout_values.specs.Lay.{after_mark, item_laid, listed, placed, styled}
use Rattle.layout_laws.specs.BareLaws.{bare_parts}

-- what the crate below says of calls
pub record BareLaws {H A : Type 0} (m : Marking H A) : Type 0 where
  pub does : (c : Call (Sub H A)) (s : Sub H A) → step m (call_of bare_of c) (bare_of s)
      ≡ option_map bare_of (step m c s)

abbrev pub bares : {H A : Type 0} → List (Sub H A × ℕ) → List (Sub H A × ℕ)
bares made = map (λ c. (bare_of c.0, c.1)) made

abbrev pub bare_place : {H A : Type 0} → TablePlace H A → TablePlace H A
bare_place (outside in_cell) = outside in_cell
bare_place (rows widths slots fragments) = rows widths slots fragments
bare_place (cells widths more fragments slots made) = cells widths more fragments slots (bares made)

abbrev pub bare_laying : {H A : Type 0} → LayoutState H A → LayoutState H A
bare_laying l = record { parts = bare_parts l.parts; around = l.around; table = bare_place l.table }

-- The first step makes of a page without annotations what the second makes of the page, without them.
pub record Alike {H A : Type 0} (f g : Step H A) : Type 0 where
  pub at : (l : LayoutState H A) → f (bare_laying l) ≡ option_map bare_laying (g l)

-- ---- steps

pub then_alike : {X Y P Q : Type 0} (g : X → Option Y) (h : P → Option Q) (R : X → P) (S : Y → Q)
    → ((x : X) → h (R x) ≡ option_map S (g x)) → (o : Option X)
    → option_and_then h (option_map R o) ≡ option_map S (option_and_then g o)
then_alike g h R S same None = refl
then_alike g h R S same (Some x) = same x

pub map_alike : {X Y P Q : Type 0} (g : X → Y) (h : P → Q) (R : X → P) (S : Y → Q) → ((x : X) → h (R x) ≡ S (g x))
    → (o : Option X) → option_map h (option_map R o) ≡ option_map S (option_map g o)
map_alike g h R S same None = refl
map_alike g h R S same (Some x) = ap Some (same x)

pub stays : {H A : Type 0} → Alike {H = H} {A = A} Some Some
stays = record { at = λ l. refl }

pub turn : {H A : Type 0} (f g p q : Step H A) → Alike f g → Alike p q → Alike (in_turn f p) (in_turn g q)
turn f g p q first next = record {
  at = λ l. ap (option_and_then p) (first.at l) ∙ then_alike q p bare_laying bare_laying next.at (g l);
}

pub either : {H A : Type 0} (t : Bool) (f g p q : Step H A) → Alike f g → Alike p q
    → Alike (if t then f else p) (if t then g else q)
either true f g p q one other = one
either false f g p q one other = other

pub for_each : {X H A : Type 0} (o : Option X) (f : X → Step H A) → ((x : X) → Alike (f x) (f x))
    → Alike (for_some o f) (for_some o f)
for_each None f each = stays
for_each (Some x) f each = each x

pub on_alike : {H A : Type 0} (around : Around) → Alike {H = H} {A = A} (goes_on around) (goes_on around)
on_alike around = record { at = λ l. refl }

pub to_alike : {H A : Type 0} (place : TablePlace H A) → Alike (goes_to (bare_place place)) (goes_to place)
to_alike place = record { at = λ l. refl }

pub says_alike : {H A : Type 0} {m : Marking H A} (laws : BareLaws m) (c : Call (Sub H A))
    → Alike (says m (call_of bare_of c)) (says m c)
unfolding says
says_alike {m = m} laws c = record {
  at = λ l. ap (option_map (in_current (bare_laying l))) (laws.does c l.parts.current)
      ∙ map_alike (in_current l) (in_current (bare_laying l)) bare_of bare_laying (λ s. refl)
      (step m c l.parts.current);
}

-- ---- links

begun_alike : {H A : Type 0} {m : Marking H A} (laws : BareLaws m) (target : List ℕ) (p : Parts H A)
    → begin_part_link m target (bare_parts p) ≡ option_map bare_parts (begin_part_link m target p)
begun_alike {m = m} laws target p =
    ap (option_map (with_current (with_target target (bare_parts p))))
    (laws.does (calls.starts_link (marks.link_start target)) p.current)
    ∙ map_alike (with_current (with_target target p)) (with_current (with_target target (bare_parts p))) bare_of
    bare_parts (λ s. refl) (begin_link m (marks.link_start target) p.current)

number_alike : {H A : Type 0} {m : Marking H A} (laws : BareLaws m) (n : ℕ) (s : Sub H A)
    → numbered m n (bare_of s) ≡ option_map bare_of (numbered m n s)
number_alike {m = m} laws n s = by s.options.include_link_footnotes
  where
    by : (t : Bool) → (if t then add_inline m (footnote_mark n) (bare_of s) else Some (bare_of s))
        ≡ option_map bare_of (if t then add_inline m (footnote_mark n) s else Some s)
    by true = laws.does (calls.adds_text (footnote_mark n)) s
    by false = refl

number_added : {H A : Type 0} {m : Marking H A} (laws : BareLaws m) (p : Parts H A)
    → add_part_number m (bare_parts p) ≡ option_map bare_parts (add_part_number m p)
number_added {m = m} laws p =
    ap (option_map (with_current (bare_parts p))) (number_alike laws _ p.current)
    ∙ map_alike (with_current p) (with_current (bare_parts p)) bare_of bare_parts (λ s. refl) (numbered m _ p.current)

ended_alike : {H A : Type 0} {m : Marking H A} (laws : BareLaws m) (p : Parts H A)
    → finish_part_link m (bare_parts p) ≡ option_map bare_parts (finish_part_link m p)
ended_alike {m = m} laws p =
    let ended = finish_link m marks.link_end p.current in
    ap (λ o. option_and_then (add_part_number m) (option_map (with_current (bare_parts p)) o))
    (laws.does calls.ends_link p.current)
    ∙ ap (option_and_then (add_part_number m))
    (map_alike (with_current p) (with_current (bare_parts p)) bare_of bare_parts (λ s. refl) ended)
    ∙ then_alike (add_part_number m) (add_part_number m) bare_parts bare_parts (number_added laws)
    (option_map (with_current p) ended)

link_begins : {H A : Type 0} {m : Marking H A} (laws : BareLaws m) (target : List ℕ)
    → Alike (begins_link m target) (begins_link m target)
unfolding begins_link
link_begins {m = m} laws target = record {
  at = λ l. ap (option_map (in_parts (bare_laying l))) (begun_alike laws target l.parts)
      ∙ map_alike (in_parts l) (in_parts (bare_laying l)) bare_parts bare_laying (λ p. refl)
      (begin_part_link m target l.parts);
}

link_ends : {H A : Type 0} {m : Marking H A} (laws : BareLaws m) → Alike (ends_link m) (ends_link m)
unfolding ends_link
link_ends {m = m} laws = record {
  at = λ l. ap (option_map (in_parts (bare_laying l))) (ended_alike laws l.parts)
      ∙ map_alike (in_parts l) (in_parts (bare_laying l)) bare_parts bare_laying (λ p. refl)
      (finish_part_link m l.parts);
}

-- ---- parts

pub part_alike : {H A : Type 0} (m : Marking H A) (width : ℕ) (l : LayoutState H A)
    → in_part m width (bare_laying l) ≡ bare_laying (in_part m width l)
unfolding in_part
part_alike m width l = refl

opened : {H A : Type 0} (m : Marking H A) (l : LayoutState H A) (o : Option ℕ)
    → option_map (λ width. in_part m width (bare_laying l)) o
    ≡ option_map bare_laying (option_map (λ width. in_part m width l) o)
opened m l None = refl
opened m l (Some width) = ap Some (part_alike m width l)

part_begins : {H A : Type 0} (m : Marking H A) (columns least : ℕ)
    → Alike (part_begun m columns least) (part_begun m columns least)
unfolding part_begun
part_begins m columns least = record { at = λ l. opened m l (room_after columns (least - columns) l.parts.current) }

part_ends : {H A : Type 0} {m : Marking H A} (laws : BareLaws m) (outer : Sub H A) (first further : List ℕ)
    → Alike (part_ended m (bare_of outer) first further) (part_ended m outer first further)
unfolding part_ended
part_ends laws outer first further = record {
  at = λ l. (says_alike laws (calls.adds_block l.parts.current first further)).at (in_current l outer);
}

pub prefix_alike : {H A : Type 0} {m : Marking H A} (laws : BareLaws m) (columns : ℕ) (first further : List ℕ)
    (least : ℕ) (f g : Step H A) → Alike f g
    → Alike (after_prefix m columns first further least f) (after_prefix m columns first further least g)
prefix_alike {m = m} laws columns first further least f g same = record {
  at = λ l. (turn _ _ _ _ (part_begins m columns least)
      (turn f g _ _ same (part_ends laws l.parts.current first further))).at l;
}

-- ---- a value

pub mark_alike : {H A : Type 0} {m : Marking H A} (laws : BareLaws m) (kind : marks.Mark) (least : ℕ) (f g : Step H A)
    → Alike f g → Alike (after_mark m kind least f) (after_mark m kind least g)
unfolding mark_of
mark_alike {m = m} laws kind least f g same = record {
  at = λ l. let text = m.mark_text l.parts.current.held kind in
      (prefix_alike laws (text_columns text) text text least f g same).at l;
}

pub list_alike : {H A : Type 0} (m : Marking H A) (first : ItemMark) (items least : ℕ) (f g : Step H A) → Alike f g
    → Alike (listed m first items least f) (listed m first items least g)
unfolding mark_of
list_alike m first items least f g same = record {
  at = λ l. (turn _ _ _ _ (on_alike (Items first (item_columns m first (last_mark first items) l) least))
      (turn f g _ _ same (on_alike Flow))).at l;
}

item_alike : {H A : Type 0} {m : Marking H A} (laws : BareLaws m) (mark : ItemMark) (columns least : ℕ)
    (f g : Step H A) → Alike f g → Alike (item_laid m mark columns least f) (item_laid m mark columns least g)
unfolding mark_of
item_alike {m = m} laws mark columns least f g same = record {
  at = λ l. (turn _ _ _ _ (prefix_alike laws columns
      (padded columns (m.mark_text l.parts.current.held (item_mark mark))) (spaces columns) least f g same)
      (on_alike (Items (next_mark mark) columns least))).at l;
}

pub placed_alike : {H A : Type 0} {m : Marking H A} (laws : BareLaws m) (around : Around) (f g : Step H A) → Alike f g
    → Alike (placed m around f) (placed m around g)
placed_alike laws Flow f g same = same
placed_alike laws (Items mark columns least) f g same = item_alike laws mark columns least f g same

border_alike : {H A : Type 0} {m : Marking H A} (laws : BareLaws m) → Alike (rule_border m) (rule_border m)
border_alike {m = m} laws = record {
  at = λ l. (either l.parts.current.options.draw_borders (says m calls.adds_border) (says m calls.adds_border) Some Some
      (says_alike laws calls.adds_border) stays).at l;
}

rule_alike : {H A : Type 0} {m : Marking H A} (laws : BareLaws m) → Alike (rule_laid m) (rule_laid m)
rule_alike {m = m} laws =
    turn _ _ _ _ (turn _ _ _ _ (says_alike laws (calls.starts_mode Pre))
    (turn _ _ _ _ (says_alike laws (calls.adds_text [])) (says_alike laws calls.ends_mode)))
    (turn _ _ _ _ (says_alike laws calls.ends_line) (border_alike laws))

pub begins_alike : {H A : Type 0} {m : Marking H A} (laws : BareLaws m) (info : RenderInfo)
    → Alike (begins m info) (begins m info)
unfolding begins
begins_alike laws (infos.Text cs) = says_alike laws (calls.adds_text cs)
begins_alike laws (infos.Image source title) = says_alike laws (calls.adds_image source title)
begins_alike laws infos.Break = says_alike laws calls.breaks_line
begins_alike laws infos.Rule = rule_alike laws
begins_alike laws (infos.Link target) = link_begins laws target
begins_alike laws infos.Emphasis = says_alike laws (calls.starts_mark marks.emphasis_start)
begins_alike laws infos.Strong = says_alike laws (calls.starts_mark marks.strong_start)
begins_alike laws infos.Strikeout = says_alike laws calls.starts_strikeout
begins_alike laws infos.Code = says_alike laws (calls.starts_mark marks.code_start)
begins_alike laws infos.Superscript = says_alike laws (calls.starts_mark marks.superscript_start)
begins_alike laws infos.Block = says_alike laws calls.starts_block
begins_alike laws infos.Division = says_alike laws calls.ends_line
begins_alike laws (infos.Heading level) = says_alike laws calls.starts_block
begins_alike laws infos.Quote = says_alike laws calls.starts_block
begins_alike {m = m} laws infos.Preformatted =
    turn (says m calls.starts_block) (says m calls.starts_block) (says m calls.starts_preformat)
    (says m calls.starts_preformat) (says_alike laws calls.starts_block) (says_alike laws calls.starts_preformat)
begins_alike laws infos.Bullets = says_alike laws calls.starts_block
begins_alike laws (infos.Numbers first) = says_alike laws calls.starts_block
begins_alike laws infos.Descriptions = says_alike laws calls.starts_block
begins_alike {m = m} laws infos.Term =
    turn (says m calls.ends_line) (says m calls.ends_line) (says m (calls.starts_mark marks.emphasis_start))
    (says m (calls.starts_mark marks.emphasis_start)) (says_alike laws calls.ends_line)
    (says_alike laws (calls.starts_mark marks.emphasis_start))
begins_alike laws infos.Nothing = stays
begins_alike laws infos.Container = stays
begins_alike laws infos.Details = stays
begins_alike laws infos.Table = stays
begins_alike laws infos.TableGroup = stays
begins_alike laws infos.TableRow = stays
begins_alike laws (infos.TableCell columns taken) = stays

pub ends_alike : {H A : Type 0} {m : Marking H A} (laws : BareLaws m) (info : RenderInfo)
    → Alike (ends m info) (ends m info)
unfolding ends
ends_alike laws (infos.Link target) = link_ends laws
ends_alike laws infos.Emphasis = says_alike laws (calls.ends_mark marks.emphasis_end)
ends_alike laws infos.Strong = says_alike laws (calls.ends_mark marks.strong_end)
ends_alike laws infos.Strikeout = says_alike laws calls.ends_strikeout
ends_alike laws infos.Code = says_alike laws (calls.ends_mark marks.code_end)
ends_alike laws infos.Superscript = says_alike laws (calls.ends_mark marks.superscript_end)
ends_alike laws infos.Block = says_alike laws calls.ends_block
ends_alike laws infos.Division = says_alike laws calls.ends_line
ends_alike laws (infos.Heading level) = says_alike laws calls.ends_block
ends_alike laws infos.Quote = says_alike laws calls.ends_block
ends_alike {m = m} laws infos.Preformatted =
    turn (says m calls.ends_preformat) (says m calls.ends_preformat) (says m calls.ends_block)
    (says m calls.ends_block) (says_alike laws calls.ends_preformat) (says_alike laws calls.ends_block)
ends_alike {m = m} laws infos.Term =
    turn (says m (calls.ends_mark marks.emphasis_end)) (says m (calls.ends_mark marks.emphasis_end))
    (says m calls.ends_line) (says m calls.ends_line) (says_alike laws (calls.ends_mark marks.emphasis_end))
    (says_alike laws calls.ends_line)
ends_alike laws infos.Nothing = stays
ends_alike laws (infos.Text cs) = stays
ends_alike laws (infos.Image source title) = stays
ends_alike laws infos.Break = stays
ends_alike laws infos.Rule = stays
ends_alike laws infos.Container = stays
ends_alike laws infos.Bullets = stays
ends_alike laws (infos.Numbers first) = stays
ends_alike laws infos.Descriptions = stays
ends_alike laws infos.Details = stays
ends_alike laws infos.Table = stays
ends_alike laws infos.TableGroup = stays
ends_alike laws infos.TableRow = stays
ends_alike laws (infos.TableCell columns taken) = stays

pub named_alike : {H A : Type 0} {m : Marking H A} (laws : BareLaws m) (fragment : Option (List ℕ))
    → Alike (named m fragment) (named m fragment)
named_alike {m = m} laws fragment = for_each fragment (λ name. says m (calls.starts_fragment name))
    (λ name. says_alike laws (calls.starts_fragment name))

pub leading_alike : {H A : Type 0} {m : Marking H A} (laws : BareLaws m) (head : Head)
    → Alike (leading m head) (leading m head)
unfolding leading
leading_alike {m = m} laws head = either (fragment_leads head.info) (named m head.fragment) (named m head.fragment)
    Some Some (named_alike laws head.fragment) stays

pub following_alike : {H A : Type 0} {m : Marking H A} (laws : BareLaws m) (head : Head)
    → Alike (following m head) (following m head)
unfolding following
following_alike {m = m} laws head = either (fragment_leads head.info) Some Some (named m head.fragment)
    (named m head.fragment) stays (named_alike laws head.fragment)

style_begun : {H A : Type 0} {m : Marking H A} (laws : BareLaws m) (s : RenderStyle)
    → Alike (style_begins m s) (style_begins m s)
unfolding style_begins
style_begun {m = m} laws s =
    turn _ _ _ _ (for_each s.colour (λ c. says m (calls.starts_colour (marks.colour_start c)))
    (λ c. says_alike laws (calls.starts_colour (marks.colour_start c))))
    (turn _ _ _ _ (for_each s.background (λ c. says m (calls.starts_colour (marks.background_start c)))
    (λ c. says_alike laws (calls.starts_colour (marks.background_start c))))
    (for_each s.white_space (λ mode. says m (calls.starts_mode mode))
    (λ mode. says_alike laws (calls.starts_mode mode))))

style_ended : {H A : Type 0} {m : Marking H A} (laws : BareLaws m) (s : RenderStyle)
    → Alike (style_ends m s) (style_ends m s)
unfolding style_ends
style_ended {m = m} laws s =
    turn _ _ _ _ (for_each s.white_space (λ mode. says m calls.ends_mode) (λ mode. says_alike laws calls.ends_mode))
    (turn _ _ _ _ (for_each s.background (λ c. says m (calls.ends_colour marks.background_end))
    (λ c. says_alike laws (calls.ends_colour marks.background_end)))
    (for_each s.colour (λ c. says m (calls.ends_colour marks.colour_end))
    (λ c. says_alike laws (calls.ends_colour marks.colour_end))))

pub styled_alike : {H A : Type 0} {m : Marking H A} (laws : BareLaws m) (s : RenderStyle) (f g : Step H A)
    → Alike f g → Alike (styled m s f) (styled m s g)
styled_alike {m = m} laws s f g same =
    turn _ _ _ _ (style_begun laws s) (turn f g _ _ same (style_ended laws s))
