-- No line passes the width of its renderer, whatever values are laid out outside of tables.
use Rattle.std.proofs.Common.{◌≡◌, ◌+◌, ◌-◌, ◌≤◌, ◌≤ℤ◌, ◌∙◌, [], Bool, IfSome, List, None, Option, Some, ap, arith}
use Rattle.std.proofs.Common.{false}
use Rattle.std.proofs.Common.{max, refl, subst, suc, sym, true, zero, ℕ, ℤ}
use Rattle.std.specs.Prelude.{FitsSigned, if◌then◌else◌}
use Rattle.std.specs.Int.{w64}
use Rattle.std.specs.Option.{option_and_then}
use Rattle.std.proofs.lemmas.Int.{ints}
use Rattle.block_layout_laws.proofs.OptionLemmas.{known, mapped, chained}
use Rattle.block_renderer.specs.NewParts.{part_of}
use Rattle.column_fits.specs.Across.{AreFits, fitted_across}
use Rattle.column_fits.specs.declared.fit.ColumnFit.{ColumnFit}
use Rattle.layout_values.proofs.FitLemmas.{FitsLaw}
use Rattle.table_widths.specs.Across.{FitAcross, widths_across}
use Rattle.block_trait.specs.Calls.{Call, step}
use Rattle.block_trait.specs.Calls as calls
use Rattle.block_trait.specs.Renderers.{Marking, Sub, room_after}
use Rattle.block_laws.specs.RendererLaws.{CallFits, IsKeptWithin, StaysWithin}
use Rattle.table_grid.specs.declared.columns.Column.{Column}
use Rattle.table_widths.specs.RowLaws.{AreWholeRows}
use Rattle.text_lines.specs.Columns.{text_columns}
use Rattle.text_block_renderer.specs.PartLaws.{AreKeptWithin, PartsStayWithin}
use Rattle.text_block_renderer.specs.Parts.{Parts, begin_part_link, finish_part_link}
use Rattle.text_decorators.specs.Marks.{IsSteady, Mark, ordered_item, unordered_item}
use Rattle.text_decorators.specs.Marks as marks
use Rattle.text_pieces.specs.declared.white_space.WhiteSpace.{WhiteSpace}
use Rattle.render_sizes.specs.Extents.{Measure, table_in}
use Rattle.render_values.specs.Values.{Values}
use Rattle.render_values.specs.declared.info.Head.{Head}
use Rattle.render_values.specs.declared.info.RenderInfo.{RenderInfo}
use Rattle.render_values.specs.declared.info.RenderInfo.TheVariants as infos
use Rattle.render_values.specs.declared.style.RenderStyle.{RenderStyle}
use Rattle.text_pieces.specs.declared.white_space.WhiteSpace.TheVariants.{Pre}
use Rattle.layout_state.specs.Begins.{begins, ends, following, fragment_leads, leading, named, style_begins, style_ends}
use Rattle.layout_state.specs.Begins.{rule_border, rule_laid}
use Rattle.layout_state.specs.Items.{item_columns, item_mark, last_mark, next_mark, number_after, padded, spaces}
use Rattle.layout_state.specs.LayoutState.{LayoutState, Step, after_prefix, begins_link, ends_link, for_some, goes_on}
use Rattle.layout_state.specs.LayoutState.{in_current, in_part, in_parts, in_turn, mark_of, outside, part_begun}
use Rattle.layout_state.specs.LayoutState.{part_ended, says}
use Rattle.layout_state.specs.declared.around.Around.{Around}
use Rattle.layout_state.specs.declared.around.Around.TheVariants.{Flow, Items}
use Rattle.layout_state.specs.declared.around.ItemMark.{ItemMark}
use Rattle.layout_state.specs.declared.around.ItemMark.TheVariants.{Bullet, Number}
use Rattle.layout_values.specs.Lay.{after_mark, listed, placed, styled}
use Rattle.layout_laws.proofs.NumberLemmas.{Reaches, first_reaches, next_above, next_reaches, number_fits, padded_fits}
use Rattle.layout_laws.proofs.NumberLemmas.{spaces_fit, up_to_last}
use Rattle.layout_laws.proofs.RowFitLemmas.{SeatLaws}

-- what the crates below say of renderers, and prefixes are steady
pub record WidthLaws {H A : Type 0} (m : Marking H A) : Type 0 where
  pub does : (c : Call (Sub H A)) (s new : Sub H A) → IsKeptWithin s → CallFits c s → step m c s ≡ Some new
      → StaysWithin s new
  pub part : (width : ℕ) (s : Sub H A) → IsKeptWithin s → IsKeptWithin (part_of m.sub width s)
  pub trailing : (prefix least : ℕ) (s : Sub H A) → IsKeptWithin s
      → IfSome (room_after prefix least s) (λ n. (prefix + n ≡ s.width) × ((1 ≤ n) × (least ≤ n)))
  pub link_begins : (target : List ℕ) (p new : Parts H A) → AreKeptWithin p → begin_part_link m target p ≡ Some new
      → PartsStayWithin p new
  pub link_ends : (p new : Parts H A) → AreKeptWithin p → finish_part_link m p ≡ Some new → PartsStayWithin p new
  pub steady : IsSteady m.mark_text
  pub seats : SeatLaws (List A)
  pub across : (columns : List Column) (width : ℕ) → IfSome (widths_across columns width) (FitAcross columns width)
  pub fitted : (columns : List Column) (fits : List ColumnFit) (width : ℕ) → AreFits columns fits
      → IfSome (fitted_across columns fits width) (FitAcross columns width)
  pub asked : FitsLaw
  pub tables : (w : Measure) (values : Values) → AreWholeRows (table_in w values)

-- ---- what a list says

abbrev pub next_around : Around → Around
next_around Flow = Flow
next_around (Items mark columns least) = Items (next_mark mark) columns least

-- after so many values
abbrev pub around_after : ℕ → Around → Around
around_after zero a = a
around_after (suc n) a = around_after n (next_around a)

pub flow_after : (n : ℕ) → around_after n Flow ≡ Flow
flow_after zero = refl
flow_after (suc n) = flow_after n

-- Whatever a decorator holds, the next value's mark stays within the list's columns.
abbrev pub MarkFits : {H A : Type 0} → Marking H A → Around → Type 0
MarkFits m Flow = Unit {0}
MarkFits {H} m (Items mark columns least) = (h : H) → text_columns (m.mark_text h (item_mark mark)) ≤ columns

-- So do the marks of so many.
abbrev pub MarksFit : {H A : Type 0} → Marking H A → ℕ → Around → Type 0
MarksFit m zero a = Unit {0}
MarksFit m (suc n) a = MarkFits m a × MarksFit m n (next_around a)

pub flow_fits : {H A : Type 0} (m : Marking H A) (n : ℕ) → MarksFit m n Flow
flow_fits m zero = tt
flow_fits m (suc n) = (tt, flow_fits m n)

bullets_fit : {H A : Type 0} (m : Marking H A) (columns least n : ℕ)
    → ((h : H) → text_columns (m.mark_text h unordered_item) ≤ columns) → MarksFit m n (Items Bullet columns least)
bullets_fit m columns least zero fits = tt
bullets_fit m columns least (suc n) fits = (fits, bullets_fit m columns least n fits)

numbers_fit : {H A : Type 0} (m : Marking H A) → IsSteady m.mark_text → (first last : ℤ) (columns least : ℕ)
    → FitsSigned w64 first → FitsSigned w64 last
    → ((h : H) → max (text_columns (m.mark_text h (ordered_item first)))
    (text_columns (m.mark_text h (ordered_item last))) ≤ columns)
    → (n : ℕ) (z : ℤ) → FitsSigned w64 z → first ≤ℤ z → Reaches z n last
    → MarksFit m n (Items (Number z) columns least)
numbers_fit m steady first last columns least low high ends zero z fits above reaches = tt
numbers_fit m steady first last columns least low high ends (suc n) z fits above reaches = (
  (λ h. omega (
    arith,
    ends h,
    steady.ends_are_widest h first z last low high above (up_to_last z last n fits reaches),
  )),
  numbers_fit m steady first last columns least low high ends n (number_after z 1) (number_fits z 1)
      (next_above first z fits above) (next_reaches z last n fits reaches),
)

-- ---- steps

-- No character overflows, and what is laid is within its renderer.
pub record AreSound {H A : Type 0} (p : Parts H A) : Type 0 where
  pub kept : AreKeptWithin p

-- What was within the width still is, and the next value stands so.
abbrev pub Kept : {H A : Type 0} → (LayoutState H A → Type 0) → LayoutState H A → LayoutState H A → Type 0
Kept Q old new = PartsStayWithin old.parts new.parts × Q new

abbrev pub Steps : {H A : Type 0} → (P Q : LayoutState H A → Type 0) → Step H A → Type 0
Steps {H} {A} P Q f = (x : LayoutState H A) → AreSound x.parts → P x → IfSome (f x) (Kept Q x)

-- The next value stands outside of tables, and the list around says this.
abbrev pub At : {H A : Type 0} → Bool → Around → LayoutState H A → Type 0
At in_cell a x = (x.around ≡ a) × (x.table ≡ outside in_cell)

abbrev pub Keeps : {H A : Type 0} → (from to : Around) → Step H A → Type 0
Keeps {H} {A} from to f = (in_cell : Bool) → Steps (At in_cell from) (At in_cell to) f

pub stays_on : {H A : Type 0} (p q r : Parts H A) → PartsStayWithin p q → PartsStayWithin q r → PartsStayWithin p r
stays_on p q r before trailing = record {
  current = (
    trailing.current.0,
    (
      trailing.current.1.0 ∙ before.current.1.0,
      trailing.current.1.1
          ∙ before.current.1.1,
    ),
  );
  below = trailing.below ∙ before.below;
  kept = trailing.kept;
}

pub stays : {H A : Type 0} (p : Parts H A) → AreKeptWithin p → PartsStayWithin p p
stays p kept = record { current = (kept.current, (refl, refl)); below = refl; kept = kept }

pub sound_on : {H A : Type 0} (p q : Parts H A) → AreSound p → PartsStayWithin p q → AreSound q
sound_on p q sound inside =
    record { kept = inside.kept }

pub weaker : {X : Type 0} (P Q : X → Type 0) (o : Option X) → ((x : X) → P x → Q x) → IfSome o P → IfSome o Q
weaker P Q None h given = tt
weaker P Q (Some x) h given = h x given

pub onward : {H A : Type 0} (Q R : LayoutState H A → Type 0) (g : Step H A) (x : LayoutState H A)
    (o : Option (LayoutState H A))
    → AreSound x.parts → Steps Q R g → IfSome o (Kept Q x) → IfSome (option_and_then g o) (Kept R x)
onward Q R g x o sound does given = chained (Kept Q x) (Kept R x) g o
    (λ y k. weaker (Kept R y) (Kept R x) (g y) (λ z j. (stays_on x.parts y.parts z.parts k.0 j.0, j.1))
    (does y (sound_on x.parts y.parts sound k.0) k.1)) given

pub steps_by : {H A : Type 0} (P : LayoutState H A → Type 0) → Steps P P Some
steps_by P x sound at = (stays x.parts sound.kept, at)

pub steps_through : {H A : Type 0} (P Q R : LayoutState H A → Type 0) (f g : Step H A) → Steps P Q f → Steps Q R g
    → Steps P R (in_turn f g)
steps_through P Q R f g one other x sound at = onward Q R g x (f x) sound other (one x sound at)

pub for_steps : {X H A : Type 0} (P : LayoutState H A → Type 0) (o : Option X) (f : X → Step H A)
    → ((x : X) → Steps P P (f x)) → Steps P P (for_some o f)
for_steps P None f each = steps_by P
for_steps P (Some x) f each = each x

pub keeps_by : {H A : Type 0} (a : Around) → Keeps {H = H} {A = A} a a Some
keeps_by a in_cell = steps_by (At in_cell a)

pub keeps_through : {H A : Type 0} (from mid to : Around) (f g : Step H A) → Keeps from mid f → Keeps mid to g
    → Keeps from to (in_turn f g)
keeps_through from mid to f g one other in_cell =
    steps_through (At in_cell from) (At in_cell mid) (At in_cell to) f g (one in_cell) (other in_cell)

keeps_around : {H A : Type 0} (from to : Around) → Keeps {H = H} {A = A} from to (goes_on to)
keeps_around from to in_cell x sound at = (stays x.parts sound.kept, (refl, at.1))

for_keeps : {X H A : Type 0} (a : Around) (o : Option X) (f : X → Step H A) → ((x : X) → Keeps a a (f x))
    → Keeps a a (for_some o f)
for_keeps a o f each in_cell = for_steps (At in_cell a) o f (λ x. each x in_cell)

-- the current renderer by another one that stays as wide
current_stays : {H A : Type 0} (p : Parts H A) (s : Sub H A) → AreKeptWithin p → StaysWithin p.current s
    → PartsStayWithin p (record p { current = s })
current_stays p s kept inside =
    record { current = inside; below = refl; kept = record { current = inside.0; below = kept.below } }

-- a call that fits where it is made
pub says_there : {H A : Type 0} {m : Marking H A} (laws : WidthLaws m) (Q : LayoutState H A → Type 0)
    (c : Call (Sub H A))
    (x : LayoutState H A) → AreSound x.parts → CallFits c x.parts.current
    → ((s : Sub H A) → StaysWithin x.parts.current s → step m c x.parts.current ≡ Some s → Q (in_current x s))
    → IfSome (says m c x) (Kept Q x)
unfolding says
says_there {H} {A} {m} laws Q c x sound fits trailing =
    mapped (λ (s : Sub H A). StaysWithin x.parts.current s × Q (in_current x s)) (Kept Q x) (in_current x)
    (step m c x.parts.current) (λ s h. (current_stays x.parts s sound.kept h.0, h.1))
    (known (λ (s : Sub H A). StaysWithin x.parts.current s × Q (in_current x s)) (step m c x.parts.current)
    (λ s does. both s does (laws.does c x.parts.current s sound.kept.current fits does)))
  where
    both : (s : Sub H A) → step m c x.parts.current ≡ Some s → StaysWithin x.parts.current s
        → StaysWithin x.parts.current s × Q (in_current x s)
    both s does inside = (inside, trailing s inside does)

pub says_steps : {H A : Type 0} {m : Marking H A} (laws : WidthLaws m) (P Q : LayoutState H A → Type 0)
    (c : Call (Sub H A)) → ((x : LayoutState H A) → P x → CallFits c x.parts.current)
    → ((x : LayoutState H A) (s : Sub H A) → P x → StaysWithin x.parts.current s
    → step m c x.parts.current ≡ Some s → Q (in_current x s))
    → Steps P Q (says m c)
says_steps laws P Q c fits trailing x sound at =
    says_there laws Q c x sound (fits x at) (λ s inside does. trailing x s at inside does)

pub says_keeps : {H A : Type 0} {m : Marking H A} (laws : WidthLaws m) (a : Around) (c : Call (Sub H A))
    → ((s : Sub H A) → CallFits c s) → Keeps a a (says m c)
says_keeps laws a c fits in_cell = says_steps laws (At in_cell a) (At in_cell a) c
    (λ x at. fits x.parts.current) (λ x s at inside does. at)

link_keeps : {H A : Type 0} {m : Marking H A} (laws : WidthLaws m) (a : Around) (target : List ℕ)
    → Keeps a a (begins_link m target)
unfolding begins_link
link_keeps {m = m} laws a target in_cell x sound at =
    mapped (PartsStayWithin x.parts) (Kept (At in_cell a) x) (in_parts x) (begin_part_link m target x.parts)
    (λ p inside. (inside, at))
    (known (PartsStayWithin x.parts) (begin_part_link m target x.parts)
    (λ p does. laws.link_begins target x.parts p sound.kept does))

link_end_keeps : {H A : Type 0} {m : Marking H A} (laws : WidthLaws m) (a : Around) → Keeps a a (ends_link m)
unfolding ends_link
link_end_keeps {m = m} laws a in_cell x sound at =
    mapped (PartsStayWithin x.parts) (Kept (At in_cell a) x) (in_parts x) (finish_part_link m x.parts)
    (λ p inside. (inside, at))
    (known (PartsStayWithin x.parts) (finish_part_link m x.parts)
    (λ p does. laws.link_ends x.parts p sound.kept does))

-- ---- parts

-- a part after so many columns of another renderer
pub record IsPart {H A : Type 0} (columns : ℕ) (outer part : LayoutState H A) : Type 0 where
  pub sound : AreSound part.parts
  pub flows : part.around ≡ Flow
  pub table : part.table ≡ outer.table
  pub below : part.parts.below ≡ outer.parts.below
  pub fits : columns + part.parts.current.width ≤ outer.parts.current.width

part_is : {H A : Type 0} {m : Marking H A} (laws : WidthLaws m) (columns width : ℕ) (x : LayoutState H A)
    → AreSound x.parts → columns + width ≤ x.parts.current.width → IsPart columns x (in_part m width x)
unfolding in_part
part_is laws columns width x sound fits = record {
  sound = record {
    kept = record { current = laws.part width x.parts.current sound.kept.current; below = sound.kept.below };
  };
  flows = refl;
  table = refl;
  below = refl;
  fits = fits;
}

part_begins : {H A : Type 0} {m : Marking H A} (laws : WidthLaws m) (columns least : ℕ) (x : LayoutState H A)
    → AreSound x.parts → IfSome (part_begun m columns least x) (IsPart columns x)
unfolding part_begun
part_begins {m = m} laws columns least x sound =
    mapped (λ (n : ℕ). (columns + n ≡ x.parts.current.width) × ((1 ≤ n) × (least - columns ≤ n)))
    (IsPart columns x) (λ width. in_part m width x) (room_after columns (least - columns) x.parts.current)
    (λ width h. part_is laws columns width x sound (omega (arith, h.0)))
    (laws.trailing columns (least - columns) x.parts.current sound.kept.current)

part_stays : {H A : Type 0} (columns : ℕ) (in_cell : Bool) (x y z : LayoutState H A) → x.table ≡ outside in_cell
    → IsPart columns x y → Kept (At in_cell Flow) y z → IsPart columns x z
part_stays columns in_cell x y z is part inside = record {
  sound = sound_on y.parts z.parts part.sound inside.0;
  flows = inside.1.0;
  table = inside.1.1 ∙ sym is;
  below = inside.0.below ∙ part.below;
  fits = omega (arith, part.fits, inside.0.current.1.0);
}

part_ends : {H A : Type 0} {m : Marking H A} (laws : WidthLaws m) (columns : ℕ) (first further : List ℕ)
    (in_cell : Bool) (x z : LayoutState H A) → text_columns first ≤ columns → text_columns further ≤ columns
    → AreSound x.parts → x.table ≡ outside in_cell → IsPart columns x z
    → IfSome (part_ended m x.parts.current first further z) (Kept (At in_cell Flow) x)
unfolding part_ended says
part_ends {m = m} laws columns first further in_cell x z one other sound is part =
    mapped (StaysWithin x.parts.current) (Kept (At in_cell Flow) x) (in_current (in_current z x.parts.current))
    (step m (calls.adds_block z.parts.current first further) x.parts.current)
    (λ s inside. (
      record {
        current = inside;
        below = part.below;
        kept = record { current = inside.0; below = part.sound.kept.below };
      },
      (part.flows, part.table ∙ is),
    ))
    (known (StaysWithin x.parts.current) (step m (calls.adds_block z.parts.current first further) x.parts.current)
    (λ s does. laws.does (calls.adds_block z.parts.current first further) x.parts.current s sound.kept.current
    (part.sound.kept.current, (omega (arith, one, part.fits), omega (arith, other, part.fits))) does))

pub prefix_keeps : {H A : Type 0} {m : Marking H A} (laws : WidthLaws m) (columns : ℕ) (first further : List ℕ)
    (least : ℕ) (inside : Step H A) (in_cell : Bool) (x : LayoutState H A) → text_columns first ≤ columns
    → text_columns further ≤ columns → Keeps Flow Flow inside → AreSound x.parts → x.table ≡ outside in_cell
    → IfSome (after_prefix m columns first further least inside x) (Kept (At in_cell Flow) x)
prefix_keeps {m = m} laws columns first further least inside in_cell x one other keeps sound is =
    chained (IsPart columns x) (Kept (At in_cell Flow) x)
    (in_turn inside (part_ended m x.parts.current first further)) (part_begun m columns least x)
    (λ y part. chained (IsPart columns x) (Kept (At in_cell Flow) x) (part_ended m x.parts.current first further)
    (inside y) (λ z stood. part_ends laws columns first further in_cell x z one other sound is stood)
    (weaker (Kept (At in_cell Flow) y) (IsPart columns x) (inside y)
    (λ z k. part_stays columns in_cell x y z is part k)
    (keeps in_cell y part.sound (part.flows, part.table ∙ is))))
    (part_begins laws columns least x sound)

pub mark_keeps : {H A : Type 0} {m : Marking H A} (laws : WidthLaws m) (kind : Mark) (least : ℕ) (inside : Step H A)
    → Keeps Flow Flow inside → Keeps Flow Flow (after_mark m kind least inside)
mark_keeps {m = m} laws kind least inside keeps in_cell x sound at =
    prefix_keeps laws (text_columns (mark_of m kind x)) (mark_of m kind x) (mark_of m kind x) least inside in_cell x
    (omega arith) (omega arith) keeps sound at.1

-- what stands in a value, of so many values
abbrev pub KeepsAll : {H A : Type 0} → Marking H A → ℕ → Step H A → Type 0
KeepsAll m items f = (a : Around) → MarksFit m items a → Keeps a (around_after items a) f

pub keeps_flow : {H A : Type 0} (m : Marking H A) (items : ℕ) (f : Step H A) → KeepsAll m items f → Keeps Flow Flow f
keeps_flow m items f keeps = subst (λ a. Keeps Flow a f) (flow_after items) (keeps Flow (flow_fits m items))

-- ---- lists

-- a number of 64 bits
abbrev pub IsFirst : ItemMark → Type 0
IsFirst Bullet = Unit {0}
IsFirst (Number z) = FitsSigned w64 z

-- the marks of a list that begins with one
marks_fit : {H A : Type 0} {m : Marking H A} (laws : WidthLaws m) (first : ItemMark) (items least : ℕ)
    (x : LayoutState H A) → IsFirst first
    → MarksFit m items (Items first (item_columns m first (last_mark first items) x) least)
unfolding mark_of
marks_fit {m = m} laws Bullet items least x fits = bullets_fit m _ least items
    (λ h. omega (arith, ap text_columns (laws.steady.alone h x.parts.current.held unordered_item tt)))
marks_fit {m = m} laws (Number z) items least x fits =
    let last : ℤ = number_after z (items - 1) in
    numbers_fit m laws.steady z last _ least fits (number_fits z (items - 1))
    (λ h. omega (
      arith,
      ap text_columns (laws.steady.alone h x.parts.current.held (ordered_item z) tt),
      ap text_columns (laws.steady.alone h x.parts.current.held (ordered_item last) tt),
    ))
    items z fits (omega (arith, ints)) (first_reaches z items fits)

pub list_keeps : {H A : Type 0} {m : Marking H A} (laws : WidthLaws m) (first : ItemMark) (items least : ℕ)
    (inside : Step H A) → IsFirst first → KeepsAll m items inside
    → Keeps Flow Flow (listed m first items least inside)
list_keeps {m = m} laws first items least inside fits keeps in_cell x sound at =
    let a : Around = Items first (item_columns m first (last_mark first items) x) least in
    keeps_through Flow a Flow (goes_on a) (in_turn inside (goes_on Flow)) (keeps_around Flow a)
    (keeps_through a (around_after items a) Flow inside (goes_on Flow)
    (keeps a (marks_fit laws first items least x fits)) (keeps_around (around_after items a) Flow))
    in_cell x sound at

mark_within : {H A : Type 0} (m : Marking H A) (mark : ItemMark) (columns : ℕ) (x : LayoutState H A)
    → ((h : H) → text_columns (m.mark_text h (item_mark mark)) ≤ columns)
    → text_columns (mark_of m (item_mark mark) x) ≤ columns
unfolding mark_of
mark_within m mark columns x fits = fits x.parts.current.held

pub placed_keeps : {H A : Type 0} {m : Marking H A} (laws : WidthLaws m) (a : Around) (inside : Step H A)
    (in_cell : Bool) (x : LayoutState H A) → MarkFits m a → Keeps Flow Flow inside → AreSound x.parts → At in_cell a x
    → IfSome (placed m a inside x) (Kept (At in_cell (next_around a)) x)
placed_keeps laws Flow inside in_cell x fits keeps sound at = keeps in_cell x sound at
placed_keeps {m = m} laws (Items mark columns least) inside in_cell x fits keeps sound at =
    onward (At in_cell Flow) (At in_cell (Items (next_mark mark) columns least))
    (goes_on (Items (next_mark mark) columns least)) x
    (after_prefix m columns (padded columns (mark_of m (item_mark mark) x)) (spaces columns) least inside x) sound
    (keeps_around Flow (Items (next_mark mark) columns least) in_cell)
    (prefix_keeps laws columns (padded columns (mark_of m (item_mark mark) x)) (spaces columns) least inside in_cell x
    (padded_fits columns (mark_of m (item_mark mark) x) (mark_within m mark columns x fits)) (spaces_fit columns)
    keeps sound at.1)

-- ---- a value

border_keeps_by : {H A : Type 0} {m : Marking H A} (laws : WidthLaws m) (drawn : Bool)
    → Keeps Flow Flow (if drawn then says m calls.adds_border else Some)
border_keeps_by laws true = says_keeps laws Flow calls.adds_border (λ s. tt)
border_keeps_by laws false = keeps_by Flow

border_keeps : {H A : Type 0} {m : Marking H A} (laws : WidthLaws m) → Keeps Flow Flow (rule_border m)
border_keeps laws in_cell x sound at = border_keeps_by laws x.parts.current.options.draw_borders in_cell x sound at

rule_keeps : {H A : Type 0} {m : Marking H A} (laws : WidthLaws m) → Keeps Flow Flow (rule_laid m)
rule_keeps {m = m} laws =
    keeps_through Flow Flow Flow _ _
    (keeps_through Flow Flow Flow _ _ (says_keeps laws Flow (calls.starts_mode Pre) (λ s. tt))
    (keeps_through Flow Flow Flow _ _ (says_keeps laws Flow (calls.adds_text []) (λ s. tt))
    (says_keeps laws Flow calls.ends_mode (λ s. tt))))
    (keeps_through Flow Flow Flow _ _ (says_keeps laws Flow calls.ends_line (λ s. tt)) (border_keeps laws))

pub begins_keeps : {H A : Type 0} {m : Marking H A} (laws : WidthLaws m) (info : RenderInfo)
    → Keeps Flow Flow (begins m info)
unfolding begins
begins_keeps laws (infos.Text cs) = says_keeps laws Flow (calls.adds_text cs) (λ s. tt)
begins_keeps laws (infos.Image source title) = says_keeps laws Flow (calls.adds_image source title) (λ s. tt)
begins_keeps laws infos.Break = says_keeps laws Flow calls.breaks_line (λ s. tt)
begins_keeps laws infos.Rule = rule_keeps laws
begins_keeps laws (infos.Link target) = link_keeps laws Flow target
begins_keeps laws infos.Emphasis = says_keeps laws Flow (calls.starts_mark marks.emphasis_start) (λ s. tt)
begins_keeps laws infos.Strong = says_keeps laws Flow (calls.starts_mark marks.strong_start) (λ s. tt)
begins_keeps laws infos.Strikeout = says_keeps laws Flow calls.starts_strikeout (λ s. tt)
begins_keeps laws infos.Code = says_keeps laws Flow (calls.starts_mark marks.code_start) (λ s. tt)
begins_keeps laws infos.Superscript = says_keeps laws Flow (calls.starts_mark marks.superscript_start) (λ s. tt)
begins_keeps laws infos.Block = says_keeps laws Flow calls.starts_block (λ s. tt)
begins_keeps laws infos.Division = says_keeps laws Flow calls.ends_line (λ s. tt)
begins_keeps laws (infos.Heading level) = says_keeps laws Flow calls.starts_block (λ s. tt)
begins_keeps laws infos.Quote = says_keeps laws Flow calls.starts_block (λ s. tt)
begins_keeps {m = m} laws infos.Preformatted =
    keeps_through Flow Flow Flow (says m calls.starts_block) (says m calls.starts_preformat)
    (says_keeps laws Flow calls.starts_block (λ s. tt)) (says_keeps laws Flow calls.starts_preformat (λ s. tt))
begins_keeps laws infos.Bullets = says_keeps laws Flow calls.starts_block (λ s. tt)
begins_keeps laws (infos.Numbers first) = says_keeps laws Flow calls.starts_block (λ s. tt)
begins_keeps laws infos.Descriptions = says_keeps laws Flow calls.starts_block (λ s. tt)
begins_keeps {m = m} laws infos.Term =
    keeps_through Flow Flow Flow (says m calls.ends_line) (says m (calls.starts_mark marks.emphasis_start))
    (says_keeps laws Flow calls.ends_line (λ s. tt))
    (says_keeps laws Flow (calls.starts_mark marks.emphasis_start) (λ s. tt))
begins_keeps laws infos.Nothing = keeps_by Flow
begins_keeps laws infos.Container = keeps_by Flow
begins_keeps laws infos.Details = keeps_by Flow
begins_keeps laws infos.Table = keeps_by Flow
begins_keeps laws infos.TableGroup = keeps_by Flow
begins_keeps laws infos.TableRow = keeps_by Flow
begins_keeps laws (infos.TableCell columns taken) = keeps_by Flow

pub ends_keeps : {H A : Type 0} {m : Marking H A} (laws : WidthLaws m) (info : RenderInfo)
    → Keeps Flow Flow (ends m info)
unfolding ends
ends_keeps laws (infos.Link target) = link_end_keeps laws Flow
ends_keeps laws infos.Emphasis = says_keeps laws Flow (calls.ends_mark marks.emphasis_end) (λ s. tt)
ends_keeps laws infos.Strong = says_keeps laws Flow (calls.ends_mark marks.strong_end) (λ s. tt)
ends_keeps laws infos.Strikeout = says_keeps laws Flow calls.ends_strikeout (λ s. tt)
ends_keeps laws infos.Code = says_keeps laws Flow (calls.ends_mark marks.code_end) (λ s. tt)
ends_keeps laws infos.Superscript = says_keeps laws Flow (calls.ends_mark marks.superscript_end) (λ s. tt)
ends_keeps laws infos.Block = says_keeps laws Flow calls.ends_block (λ s. tt)
ends_keeps laws infos.Division = says_keeps laws Flow calls.ends_line (λ s. tt)
ends_keeps laws (infos.Heading level) = says_keeps laws Flow calls.ends_block (λ s. tt)
ends_keeps laws infos.Quote = says_keeps laws Flow calls.ends_block (λ s. tt)
ends_keeps {m = m} laws infos.Preformatted =
    keeps_through Flow Flow Flow (says m calls.ends_preformat) (says m calls.ends_block)
    (says_keeps laws Flow calls.ends_preformat (λ s. tt)) (says_keeps laws Flow calls.ends_block (λ s. tt))
ends_keeps {m = m} laws infos.Term =
    keeps_through Flow Flow Flow (says m (calls.ends_mark marks.emphasis_end)) (says m calls.ends_line)
    (says_keeps laws Flow (calls.ends_mark marks.emphasis_end) (λ s. tt))
    (says_keeps laws Flow calls.ends_line (λ s. tt))
ends_keeps laws infos.Nothing = keeps_by Flow
ends_keeps laws (infos.Text cs) = keeps_by Flow
ends_keeps laws (infos.Image source title) = keeps_by Flow
ends_keeps laws infos.Break = keeps_by Flow
ends_keeps laws infos.Rule = keeps_by Flow
ends_keeps laws infos.Container = keeps_by Flow
ends_keeps laws infos.Bullets = keeps_by Flow
ends_keeps laws (infos.Numbers first) = keeps_by Flow
ends_keeps laws infos.Descriptions = keeps_by Flow
ends_keeps laws infos.Details = keeps_by Flow
ends_keeps laws infos.Table = keeps_by Flow
ends_keeps laws infos.TableGroup = keeps_by Flow
ends_keeps laws infos.TableRow = keeps_by Flow
ends_keeps laws (infos.TableCell columns taken) = keeps_by Flow

pub named_keeps : {H A : Type 0} {m : Marking H A} (laws : WidthLaws m) (a : Around) (fragment : Option (List ℕ))
    → Keeps a a (named m fragment)
named_keeps {m = m} laws a fragment = for_keeps a fragment (λ name. says m (calls.starts_fragment name))
    (λ name. says_keeps laws a (calls.starts_fragment name) (λ s. tt))

pub either_keeps : {H A : Type 0} (a : Around) (t : Bool) (f g : Step H A) → Keeps a a f → Keeps a a g
    → Keeps a a (if t then f else g)
either_keeps a true f g one other = one
either_keeps a false f g one other = other

pub leading_keeps : {H A : Type 0} {m : Marking H A} (laws : WidthLaws m) (head : Head)
    → Keeps Flow Flow (leading m head)
unfolding leading
leading_keeps {m = m} laws head = either_keeps Flow (fragment_leads head.info) (named m head.fragment) Some
    (named_keeps laws Flow head.fragment) (keeps_by Flow)

pub following_keeps : {H A : Type 0} {m : Marking H A} (laws : WidthLaws m) (a : Around) (head : Head)
    → Keeps a a (following m head)
unfolding following
following_keeps {m = m} laws a head = either_keeps a (fragment_leads head.info) Some (named m head.fragment)
    (keeps_by a) (named_keeps laws a head.fragment)

-- ---- styles

-- Calls of styles leave it as it is where the next value stands.
pub record AreCalm {H A : Type 0} (m : Marking H A) (P : LayoutState H A → Type 0) : Type 0 where
  pub colour : (kind : Mark) → Steps P P (says m (calls.starts_colour kind))
  pub colour_end : (kind : Mark) → Steps P P (says m (calls.ends_colour kind))
  pub mode : (mode : WhiteSpace) → Steps P P (says m (calls.starts_mode mode))
  pub mode_end : Steps P P (says m calls.ends_mode)

look_begins : {H A : Type 0} {m : Marking H A} (P : LayoutState H A → Type 0) → AreCalm m P → (s : RenderStyle)
    → Steps P P (style_begins m s)
unfolding style_begins
look_begins {m = m} P calm s = steps_through P P P _ _
    (for_steps P s.colour (λ c. says m (calls.starts_colour (marks.colour_start c)))
    (λ c. calm.colour (marks.colour_start c)))
    (steps_through P P P _ _
    (for_steps P s.background (λ c. says m (calls.starts_colour (marks.background_start c)))
    (λ c. calm.colour (marks.background_start c)))
    (for_steps P s.white_space (λ mode. says m (calls.starts_mode mode)) (λ mode. calm.mode mode)))

look_ends : {H A : Type 0} {m : Marking H A} (P : LayoutState H A → Type 0) → AreCalm m P → (s : RenderStyle)
    → Steps P P (style_ends m s)
unfolding style_ends
look_ends {m = m} P calm s = steps_through P P P _ _
    (for_steps P s.white_space (λ mode. says m calls.ends_mode) (λ mode. calm.mode_end))
    (steps_through P P P _ _
    (for_steps P s.background (λ c. says m (calls.ends_colour marks.background_end))
    (λ c. calm.colour_end marks.background_end))
    (for_steps P s.colour (λ c. says m (calls.ends_colour marks.colour_end))
    (λ c. calm.colour_end marks.colour_end)))

pub styled_steps : {H A : Type 0} {m : Marking H A} (P Q : LayoutState H A → Type 0) → AreCalm m P → AreCalm m Q
    → (s : RenderStyle) (inside : Step H A) → Steps P Q inside → Steps P Q (styled m s inside)
styled_steps {m = m} P Q calm calm_after s inside does = steps_through P P Q (style_begins m s) _
    (look_begins P calm s) (steps_through P Q Q inside (style_ends m s) does (look_ends Q calm_after s))

pub styled_keeps : {H A : Type 0} {m : Marking H A} (laws : WidthLaws m) (s : RenderStyle) (inside : Step H A)
    → Keeps Flow Flow inside → Keeps Flow Flow (styled m s inside)
styled_keeps {H} {A} {m} laws s inside keeps in_cell =
    styled_steps (At in_cell Flow) (At in_cell Flow) calm calm s inside (keeps in_cell)
  where
    calm : AreCalm {H = H} {A = A} m (At in_cell Flow)
    calm = record {
      colour = λ kind. says_keeps laws Flow (calls.starts_colour kind) (λ s. tt) in_cell;
      colour_end = λ kind. says_keeps laws Flow (calls.ends_colour kind) (λ s. tt) in_cell;
      mode = λ mode. says_keeps laws Flow (calls.starts_mode mode) (λ s. tt) in_cell;
      mode_end = says_keeps laws Flow calls.ends_mode (λ s. tt) in_cell;
    }
