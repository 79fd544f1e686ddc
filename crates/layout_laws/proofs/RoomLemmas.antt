-- Where characters may overflow, each value is laid out.
use Rattle.std.proofs.Common.{ℕ, ◌-◌, Bool, true, false, List, [], Option, None, Some}
use Rattle.std.specs.Prelude.{All, IsSome, IsSomeAnd, if◌then◌else◌}
use Rattle.std.specs.Option.{option_map}
use Rattle.block_layout_laws.proofs.OptionLemmas.{given_mapped, given_chained}
use Rattle.block_renderer.specs.NewParts.{part_of}
use Rattle.block_trait.specs.Calls.{Call, step}
use Rattle.block_trait.specs.Calls as calls
use Rattle.block_trait.specs.Renderers.{Marking, Sub, room_after}
use Rattle.block_laws.specs.RendererLaws.{CallHasRoom, HasRoom}
use Rattle.text_block_renderer.specs.PartLaws.{HaveRoom}
use Rattle.text_block_renderer.specs.Parts.{Parts, begin_part_link, finish_part_link}
use Rattle.text_decorators.specs.Marks as marks
use Rattle.render_values.specs.declared.info.Head.{Head}
use Rattle.render_values.specs.declared.info.RenderInfo.{RenderInfo}
use Rattle.render_values.specs.declared.info.RenderInfo.TheVariants as infos
use Rattle.render_values.specs.declared.style.RenderStyle.{RenderStyle}
use Rattle.text_pieces.specs.declared.white_space.WhiteSpace.TheVariants.{Pre}
use Rattle.layout_state.specs.Begins.{begins, ends, following, fragment_leads, leading, named, style_begins, style_ends}
use Rattle.layout_state.specs.Begins.{rule_border, rule_laid}
use Rattle.layout_state.specs.Items.{next_mark}
use Rattle.layout_state.specs.LayoutState.{LayoutState, Step, TablePlace, after_prefix, begins_link, cells, ends_link}
use Rattle.layout_state.specs.LayoutState.{for_some, goes_on, goes_to, in_current, in_part, in_parts, in_turn, outside}
use Rattle.layout_state.specs.LayoutState.{part_begun, part_ended, rows, says}
use Rattle.layout_state.specs.declared.around.Around.{Around}
use Rattle.layout_state.specs.declared.around.Around.TheVariants.{Flow, Items}
use Rattle.layout_values.specs.Lay.{placed, styled}

-- what the crates below say of renderers
pub record RoomLaws {H A : Type 0} (m : Marking H A) : Type 0 where
  pub does : (c : Call (Sub H A)) (s : Sub H A) → HasRoom s → CallHasRoom c → IsSomeAnd (step m c s) HasRoom
  pub part : (width : ℕ) (s : Sub H A) → HasRoom s → HasRoom (part_of m.sub width s)
  pub trailing : (prefix least : ℕ) (s : Sub H A) → HasRoom s → IsSome (room_after prefix least s)
  pub link_begins : (target : List ℕ) (p : Parts H A) → HaveRoom p → IsSomeAnd (begin_part_link m target p) HaveRoom
  pub link_ends : (p : Parts H A) → HaveRoom p → IsSomeAnd (finish_part_link m p) HaveRoom

-- so do all that stand in a row
abbrev pub RoomAt : {H A : Type 0} → TablePlace H A → Type 0
RoomAt (outside in_cell) = Unit {0}
RoomAt (rows widths slots fragments) = Unit {0}
RoomAt (cells widths more fragments slots made) = All (λ c. HasRoom c.0) made

-- all renderers of the page have room
abbrev pub Roomy : {H A : Type 0} → LayoutState H A → Type 0
Roomy l = HaveRoom l.parts × RoomAt l.table

-- Where there was room, the step is done, and there is still room.
abbrev pub Goes : {H A : Type 0} → Step H A → Type 0
Goes {H} {A} f = (x : LayoutState H A) → Roomy x → IsSomeAnd (f x) Roomy

-- ---- steps

pub goes_by : {H A : Type 0} → Goes {H = H} {A = A} Some
goes_by x room = room

pub goes_through : {H A : Type 0} (f g : Step H A) → Goes f → Goes g → Goes (in_turn f g)
goes_through f g one other x room = given_chained Roomy Roomy g (f x) other (one x room)

pub goes_around : {H A : Type 0} (a : Around) → Goes {H = H} {A = A} (goes_on a)
goes_around a x room = room

pub goes_there : {H A : Type 0} (place : TablePlace H A) → RoomAt place → Goes {H = H} {A = A} (goes_to place)
goes_there place at x room = (room.0, at)

pub for_goes : {X H A : Type 0} (o : Option X) (f : X → Step H A) → ((x : X) → Goes (f x)) → Goes (for_some o f)
for_goes None f each = goes_by
for_goes (Some x) f each = each x

pub says_goes : {H A : Type 0} {m : Marking H A} (laws : RoomLaws m) (c : Call (Sub H A)) → CallHasRoom c
    → Goes (says m c)
unfolding says
says_goes {m = m} laws c taken x room = given_mapped HasRoom Roomy (in_current x) (step m c x.parts.current)
    (λ s h. (record { current = h; below = room.0.below }, room.1))
    (laws.does c x.parts.current room.0.current taken)

link_goes : {H A : Type 0} {m : Marking H A} (laws : RoomLaws m) (target : List ℕ) → Goes (begins_link m target)
unfolding begins_link
link_goes {m = m} laws target x room = given_mapped HaveRoom Roomy (in_parts x) (begin_part_link m target x.parts)
    (λ p h. (h, room.1)) (laws.link_begins target x.parts room.0)

link_end_goes : {H A : Type 0} {m : Marking H A} (laws : RoomLaws m) → Goes (ends_link m)
unfolding ends_link
link_end_goes {m = m} laws x room = given_mapped HaveRoom Roomy (in_parts x) (finish_part_link m x.parts)
    (λ p h. (h, room.1)) (laws.link_ends x.parts room.0)

-- ---- parts

opened : {X Y : Type 0} (Q : Y → Type 0) (f : X → Y) (o : Option X) → ((x : X) → Q (f x)) → IsSome o
    → IsSomeAnd (option_map f o) Q
opened Q f None each some = absurd (cc some)
opened Q f (Some x) each some = each x

pub part_goes : {H A : Type 0} {m : Marking H A} (laws : RoomLaws m) (width : ℕ) (x : LayoutState H A) → Roomy x
    → Roomy (in_part m width x)
unfolding in_part
part_goes laws width x room =
    (record { current = laws.part width x.parts.current room.0.current; below = room.0.below }, room.1)

part_begins : {H A : Type 0} {m : Marking H A} (laws : RoomLaws m) (columns least : ℕ)
    → Goes (part_begun m columns least)
unfolding part_begun
part_begins {m = m} laws columns least x room = opened Roomy (λ width. in_part m width x)
    (room_after columns (least - columns) x.parts.current) (λ width. part_goes laws width x room)
    (laws.trailing columns (least - columns) x.parts.current room.0.current)

part_ends : {H A : Type 0} {m : Marking H A} (laws : RoomLaws m) (outer : Sub H A) (first further : List ℕ)
    → HasRoom outer → Goes (part_ended m outer first further)
unfolding part_ended
part_ends {m = m} laws outer first further has x room =
    says_goes laws (calls.adds_block x.parts.current first further) room.0.current (in_current x outer)
    (record { current = has; below = room.0.below }, room.1)

pub prefix_goes : {H A : Type 0} {m : Marking H A} (laws : RoomLaws m) (columns : ℕ) (first further : List ℕ)
    (least : ℕ) (inside : Step H A) (x : LayoutState H A) → Goes inside → Roomy x
    → IsSomeAnd (after_prefix m columns first further least inside x) Roomy
prefix_goes {m = m} laws columns first further least inside x goes room =
    goes_through (part_begun m columns least) (in_turn inside (part_ended m x.parts.current first further))
    (part_begins laws columns least)
    (goes_through inside (part_ended m x.parts.current first further) goes
    (part_ends laws x.parts.current first further room.0.current)) x room

-- ---- a value

pub list_goes : {H A : Type 0} (a : Around) (inside : Step H A) (x : LayoutState H A) → Goes inside → Roomy x
    → IsSomeAnd (in_turn (goes_on a) (in_turn inside (goes_on Flow)) x) Roomy
list_goes a inside x goes room = goes_through (goes_on a) (in_turn inside (goes_on Flow)) (goes_around a)
    (goes_through inside (goes_on Flow) goes (goes_around Flow)) x room

border_goes_by : {H A : Type 0} {m : Marking H A} (laws : RoomLaws m) (drawn : Bool)
    → Goes (if drawn then says m calls.adds_border else Some)
border_goes_by laws true = says_goes laws calls.adds_border tt
border_goes_by laws false = goes_by

border_goes : {H A : Type 0} {m : Marking H A} (laws : RoomLaws m) → Goes (rule_border m)
border_goes laws x room = border_goes_by laws x.parts.current.options.draw_borders x room

rule_goes : {H A : Type 0} {m : Marking H A} (laws : RoomLaws m) → Goes (rule_laid m)
rule_goes {m = m} laws =
    goes_through _ _ (goes_through _ _ (says_goes laws (calls.starts_mode Pre) tt)
    (goes_through _ _ (says_goes laws (calls.adds_text []) tt) (says_goes laws calls.ends_mode tt)))
    (goes_through _ _ (says_goes laws calls.ends_line tt) (border_goes laws))

pub begins_goes : {H A : Type 0} {m : Marking H A} (laws : RoomLaws m) (info : RenderInfo) → Goes (begins m info)
unfolding begins
begins_goes laws (infos.Text cs) = says_goes laws (calls.adds_text cs) tt
begins_goes laws (infos.Image source title) = says_goes laws (calls.adds_image source title) tt
begins_goes laws infos.Break = says_goes laws calls.breaks_line tt
begins_goes laws infos.Rule = rule_goes laws
begins_goes laws (infos.Link target) = link_goes laws target
begins_goes laws infos.Emphasis = says_goes laws (calls.starts_mark marks.emphasis_start) tt
begins_goes laws infos.Strong = says_goes laws (calls.starts_mark marks.strong_start) tt
begins_goes laws infos.Strikeout = says_goes laws calls.starts_strikeout tt
begins_goes laws infos.Code = says_goes laws (calls.starts_mark marks.code_start) tt
begins_goes laws infos.Superscript = says_goes laws (calls.starts_mark marks.superscript_start) tt
begins_goes laws infos.Block = says_goes laws calls.starts_block tt
begins_goes laws infos.Division = says_goes laws calls.ends_line tt
begins_goes laws (infos.Heading level) = says_goes laws calls.starts_block tt
begins_goes laws infos.Quote = says_goes laws calls.starts_block tt
begins_goes {m = m} laws infos.Preformatted =
    goes_through (says m calls.starts_block) (says m calls.starts_preformat)
    (says_goes laws calls.starts_block tt) (says_goes laws calls.starts_preformat tt)
begins_goes laws infos.Bullets = says_goes laws calls.starts_block tt
begins_goes laws (infos.Numbers first) = says_goes laws calls.starts_block tt
begins_goes laws infos.Descriptions = says_goes laws calls.starts_block tt
begins_goes {m = m} laws infos.Term =
    goes_through (says m calls.ends_line) (says m (calls.starts_mark marks.emphasis_start))
    (says_goes laws calls.ends_line tt) (says_goes laws (calls.starts_mark marks.emphasis_start) tt)
begins_goes laws infos.Nothing = goes_by
begins_goes laws infos.Container = goes_by
begins_goes laws infos.Details = goes_by
begins_goes laws infos.Table = goes_by
begins_goes laws infos.TableGroup = goes_by
begins_goes laws infos.TableRow = goes_by
begins_goes laws (infos.TableCell columns taken) = goes_by

pub ends_goes : {H A : Type 0} {m : Marking H A} (laws : RoomLaws m) (info : RenderInfo) → Goes (ends m info)
unfolding ends
ends_goes laws (infos.Link target) = link_end_goes laws
ends_goes laws infos.Emphasis = says_goes laws (calls.ends_mark marks.emphasis_end) tt
ends_goes laws infos.Strong = says_goes laws (calls.ends_mark marks.strong_end) tt
ends_goes laws infos.Strikeout = says_goes laws calls.ends_strikeout tt
ends_goes laws infos.Code = says_goes laws (calls.ends_mark marks.code_end) tt
ends_goes laws infos.Superscript = says_goes laws (calls.ends_mark marks.superscript_end) tt
ends_goes laws infos.Block = says_goes laws calls.ends_block tt
ends_goes laws infos.Division = says_goes laws calls.ends_line tt
ends_goes laws (infos.Heading level) = says_goes laws calls.ends_block tt
ends_goes laws infos.Quote = says_goes laws calls.ends_block tt
ends_goes {m = m} laws infos.Preformatted =
    goes_through (says m calls.ends_preformat) (says m calls.ends_block)
    (says_goes laws calls.ends_preformat tt) (says_goes laws calls.ends_block tt)
ends_goes {m = m} laws infos.Term =
    goes_through (says m (calls.ends_mark marks.emphasis_end)) (says m calls.ends_line)
    (says_goes laws (calls.ends_mark marks.emphasis_end) tt) (says_goes laws calls.ends_line tt)
ends_goes laws infos.Nothing = goes_by
ends_goes laws (infos.Text cs) = goes_by
ends_goes laws (infos.Image source title) = goes_by
ends_goes laws infos.Break = goes_by
ends_goes laws infos.Rule = goes_by
ends_goes laws infos.Container = goes_by
ends_goes laws infos.Bullets = goes_by
ends_goes laws (infos.Numbers first) = goes_by
ends_goes laws infos.Descriptions = goes_by
ends_goes laws infos.Details = goes_by
ends_goes laws infos.Table = goes_by
ends_goes laws infos.TableGroup = goes_by
ends_goes laws infos.TableRow = goes_by
ends_goes laws (infos.TableCell columns taken) = goes_by

pub named_goes : {H A : Type 0} {m : Marking H A} (laws : RoomLaws m) (fragment : Option (List ℕ))
    → Goes (named m fragment)
named_goes {m = m} laws fragment = for_goes fragment (λ name. says m (calls.starts_fragment name))
    (λ name. says_goes laws (calls.starts_fragment name) tt)

pub either_goes : {H A : Type 0} (t : Bool) (f g : Step H A) → Goes f → Goes g → Goes (if t then f else g)
either_goes true f g one other = one
either_goes false f g one other = other

pub leading_goes : {H A : Type 0} {m : Marking H A} (laws : RoomLaws m) (head : Head) → Goes (leading m head)
unfolding leading
leading_goes {m = m} laws head = either_goes (fragment_leads head.info) (named m head.fragment) Some
    (named_goes laws head.fragment) goes_by

pub following_goes : {H A : Type 0} {m : Marking H A} (laws : RoomLaws m) (head : Head) → Goes (following m head)
unfolding following
following_goes {m = m} laws head = either_goes (fragment_leads head.info) Some (named m head.fragment) goes_by
    (named_goes laws head.fragment)

look_begins : {H A : Type 0} {m : Marking H A} (laws : RoomLaws m) (s : RenderStyle) → Goes (style_begins m s)
unfolding style_begins
look_begins {m = m} laws s = goes_through _ _
    (for_goes s.colour (λ c. says m (calls.starts_colour (marks.colour_start c)))
    (λ c. says_goes laws (calls.starts_colour (marks.colour_start c)) tt))
    (goes_through _ _
    (for_goes s.background (λ c. says m (calls.starts_colour (marks.background_start c)))
    (λ c. says_goes laws (calls.starts_colour (marks.background_start c)) tt))
    (for_goes s.white_space (λ mode. says m (calls.starts_mode mode))
    (λ mode. says_goes laws (calls.starts_mode mode) tt)))

look_ends : {H A : Type 0} {m : Marking H A} (laws : RoomLaws m) (s : RenderStyle) → Goes (style_ends m s)
unfolding style_ends
look_ends {m = m} laws s = goes_through _ _
    (for_goes s.white_space (λ mode. says m calls.ends_mode) (λ mode. says_goes laws calls.ends_mode tt))
    (goes_through _ _
    (for_goes s.background (λ c. says m (calls.ends_colour marks.background_end))
    (λ c. says_goes laws (calls.ends_colour marks.background_end) tt))
    (for_goes s.colour (λ c. says m (calls.ends_colour marks.colour_end))
    (λ c. says_goes laws (calls.ends_colour marks.colour_end) tt)))

pub styled_goes : {H A : Type 0} {m : Marking H A} (laws : RoomLaws m) (s : RenderStyle) (inside : Step H A)
    → Goes inside → Goes (styled m s inside)
styled_goes {m = m} laws s inside goes =
    goes_through _ _ (look_begins laws s) (goes_through _ _ goes (look_ends laws s))

pub placed_goes : {H A : Type 0} {m : Marking H A} (laws : RoomLaws m) (a : Around) (inside : Step H A)
    (x : LayoutState H A)
    → Goes inside → Roomy x → IsSomeAnd (placed m a inside x) Roomy
placed_goes laws Flow inside x goes room = goes x room
placed_goes {m = m} laws (Items mark columns least) inside x goes room = given_chained Roomy Roomy _ _
    (goes_around (Items (next_mark mark) columns least)) (prefix_goes laws _ _ _ least inside x goes room)
