-- What tables, rows and cells leave to be done.
use Rattle.std.proofs.Common.{◌≡◌, ◌≤◌, [], ◌∷◌, ◌++◌, if◌then◌else◌, ◌∙◌, Bool, IfSome, List, None, Option, Some, ap}
use Rattle.std.proofs.Common.{append_assoc, arith, false, length, map, refl, sym, true, ℕ}
use Rattle.std.proofs.lemmas.List.{map-append}
use Rattle.std.proofs.lemmas.List.Elements.{All-cons, All-head, All-nil, All-tail}
use Rattle.std.specs.Option.{option_and_then}
use Rattle.std.specs.Prelude.{All}
use Rattle.layout_state.proofs.StepLemmas.{turn_off, turn_on}
use Rattle.layout_state.specs.Begins.{named}
use Rattle.layout_state.specs.LayoutState.{LayoutState, Step, TablePlace, cells, goes_to, in_part, in_table, in_turn}
use Rattle.layout_values.specs.Sizing.{Sizing}
use Rattle.text_pieces.specs.declared.white_space.WhiteSpace.TheVariants.{Normal}
use Rattle.render_values.specs.declared.info.Head.{Head}
use Rattle.render_values.specs.declared.info.RenderInfo.{RenderInfo}
use Rattle.render_values.specs.declared.info.RenderInfo.TheVariants as infos
use Rattle.render_values.specs.declared.style.RenderStyle.{RenderStyle}
use Rattle.layout_values.specs.Lay.{Content, among_cells, among_rows, laid, laid_at, styled}
use Rattle.layout_values.specs.Seen.{maybe, where_entered}
use Rattle.layout_tables.specs.Tables.{cell_begun, cell_ended, cell_laid, empties_before, empty_slots, from_cell}
use Rattle.layout_tables.specs.Tables.{in_cell, in_slot, row_ended, slot_width, table_ended}
use Rattle.layout_values.specs.Continuation.{Continuation, cell_ends, row_ends, table_ends, unwound}
use Rattle.block_trait.specs.Renderers.{Marking, Sub}
use Rattle.table_widths.specs.Slots.{has_columns}
use Rattle.table_widths.specs.declared.slot.Slot.{Slot}
use Rattle.layout_values.proofs.StepLemmas.{all_wait, nothing_waits, one_waits, opens_both}

-- ---- lists

pub some_all : {X : Type 0} (P : X → Type 0) (o : Option X) → IfSome o P → All P (maybe o)
some_all P None h = All-nil P
some_all P (Some x) h = All-cons P x [] h (All-nil P)

pub some_few : {X : Type 0} (o : Option X) → length (maybe o) ≤ 1
some_few None = omega arith
some_few (Some x) = omega arith

pub all_and_one : {X : Type 0} (P : X → Type 0) (xs : List X) (y : X) → All P xs → P y → All P (xs ++ y ∷ [])
all_and_one P [] y h k = All-cons P y [] k (All-nil P)
all_and_one P (x ∷ xs) y h k = All-cons P x (xs ++ y ∷ []) (All-head P x xs h)
    (all_and_one P xs y (All-tail P x xs h) k)

pub all_both : {X : Type 0} (P : X → Type 0) (xs ys : List X) → All P xs → All P ys → All P (xs ++ ys)
all_both P [] ys h k = k
all_both P (x ∷ xs) ys h k = All-cons P x (xs ++ ys) (All-head P x xs h) (all_both P xs ys (All-tail P x xs h) k)

pub pushed_both : {X : Type 0} (old one new xs ys : List X) → one ≡ old ++ xs → new ≡ one ++ ys
    → new ≡ old ++ (xs ++ ys)
pushed_both old one new xs ys h k = k ∙ (ap (λ v. v ++ ys) h ∙ append_assoc old xs ys)

-- for what is known of every sizing
pub whichever_sizing : Sizing
whichever_sizing = record {
  measure = record {
    min_wrap = 0;
    prefixes = record { heading = λ level. 0; quote = 0; bullet = 0; numbers = λ first items. 0 };
  };
  fitted = None;
  mode = Normal;
}

-- what may be left out, where it is, and where it isn't
pub left_out : {H A : Type 0} (m : Marking H A) (w : Sizing) (xs : List (Continuation H A)) (entered : Bool)
    (inside : Step H A) (new : LayoutState H A) (whole : Option (LayoutState H A)) → entered ≡ false
    → whole ≡ option_and_then (unwound m w xs) (where_entered entered inside new)
    → whole ≡ option_and_then (unwound m w xs) (Some new)
left_out m w xs entered inside new whole is h =
    h ∙ ap (λ b. option_and_then (unwound m w xs) (where_entered b inside new)) is

pub let_in : {H A : Type 0} (m : Marking H A) (w : Sizing) (xs : List (Continuation H A)) (entered : Bool)
    (inside : Step H A) (new : LayoutState H A) (whole : Option (LayoutState H A)) → entered ≡ true
    → whole ≡ option_and_then (unwound m w xs) (where_entered entered inside new)
    → whole ≡ option_and_then (unwound m w xs) (inside new)
let_in m w xs entered inside new whole is h =
    h ∙ ap (λ b. option_and_then (unwound m w xs) (where_entered b inside new)) is

pub row_left_out : {H A : Type 0} (m : Marking H A) (w : Sizing) (shown : Bool) (inside : Step H A)
    (new : LayoutState H A) (whole : Option (LayoutState H A)) → shown ≡ false → whole ≡ where_entered shown inside new
    → whole ≡ option_and_then (unwound m w []) (Some new)
row_left_out m w shown inside new whole is h =
    h ∙ (ap (λ b. where_entered b inside new) is ∙ nothing_waits m w (Some new))

pub row_let_in : {H A : Type 0} (shown : Bool) (inside : Step H A) (new : LayoutState H A)
    (whole : Option (LayoutState H A))
    → shown ≡ true → whole ≡ where_entered shown inside new → whole ≡ inside new
row_let_in shown inside new whole is h = h ∙ ap (λ b. where_entered b inside new) is

-- ---- tables

pub table_waits : {H A : Type 0} (m : Marking H A) (w : Sizing) (inside : Step H A) (fenced : Bool)
    (place there : TablePlace H A) (new : LayoutState H A) → place ≡ there
    → option_and_then (table_ended m fenced there) (inside new)
    ≡ option_and_then (unwound m w (table_ends fenced place ∷ [])) (inside new)
table_waits m w inside fenced place there new same =
    ap (λ p. option_and_then (table_ended m fenced p) (inside new)) (sym same)
    ∙ one_waits m w (table_ends fenced place) (inside new)

-- ---- rows

pub row_opens : {X H A : Type 0} (f : X → Continuation H A) (m : Marking H A) (w : Sizing) (style : RenderStyle)
    (inside : Step H A) (xs : List X) (last : X) (mid new : LayoutState H A) (whole : Option (LayoutState H A))
    → f last ≡ row_ends → whole ≡ styled m style (in_turn inside (row_ended m)) mid
    → ((x : Step H A) → styled m style x mid ≡ option_and_then (unwound m w (map f xs)) (x new))
    → whole ≡ option_and_then (unwound m w (map f (xs ++ last ∷ []))) (inside new)
row_opens f m w style inside xs last mid new whole is h look =
    h ∙ (look (in_turn inside (row_ended m))
    ∙ (ap (option_and_then (unwound m w (map f xs))) (one_waits m w row_ends (inside new))
    ∙ (all_wait m w (map f xs) (row_ends ∷ []) (inside new)
    ∙ (ap (λ x. option_and_then (unwound m w (map f xs ++ x ∷ [])) (inside new)) (sym is)
    ∙ ap (λ v. option_and_then (unwound m w v) (inside new)) (sym (map-append f xs (last ∷ [])))))))

-- ---- cells

pub slot_ended : {H A : Type 0} (m : Marking H A) (w : Sizing) (widths : Option (List ℕ)) (more : List (List Slot))
    (fragments fs : List (List ℕ)) (slots : List Slot) (made : List (Sub H A × ℕ)) (inside : Step H A)
    (l : LayoutState H A) → slots ≡ [] → fs ≡ [] → in_slot m widths more fragments slots made inside l
    ≡ option_and_then (unwound m w []) (Some (in_table (cells widths more fs slots made) l))
slot_ended m w widths more fragments fs slots made inside l none no_fs =
    ap (λ v. in_slot m widths more fragments v made inside l) none
    ∙ (ap (λ v. Some (in_table (cells widths more [] v made) l)) (sym none)
    ∙ (ap (λ v. Some (in_table (cells widths more v slots made) l)) (sym no_fs)
    ∙ nothing_waits m w (Some (in_table (cells widths more fs slots made) l))))

pub slot_skipped : {H A : Type 0} (m : Marking H A) (w : Sizing) (widths : Option (List ℕ)) (more : List (List Slot))
    (fragments fs : List (List ℕ)) (slots left : List Slot) (s : Slot) (made : List (Sub H A × ℕ)) (inside : Step H A)
    (l : LayoutState H A) → slots ≡ s ∷ left → has_columns s ≡ false → fs ≡ []
    → in_slot m widths more fragments slots made inside l
    ≡ option_and_then (unwound m w []) (Some (in_table (cells widths more fs left made) l))
slot_skipped {H} {A} m w widths more fragments fs slots left s made inside l first narrow no_fs =
    ap (λ v. in_slot m widths more fragments v made inside l) first
    ∙ (ap (λ (b : Bool). (if b then in_turn (cell_begun m (slot_width widths l.parts.current.width s) fragments)
    (in_turn inside (cell_ended l.parts.current widths more left made s.rows)) l
    else goes_to (cells widths more [] left made) l)) narrow
    ∙ (ap (λ v. Some (in_table (cells widths more v left made) l)) (sym no_fs)
    ∙ nothing_waits m w (Some (in_table (cells widths more fs left made) l))))

pub slot_taken : {H A : Type 0} (m : Marking H A) (widths : Option (List ℕ)) (more : List (List Slot))
    (fragments names : List (List ℕ)) (slots left : List Slot) (s : Slot) (width : ℕ) (made : List (Sub H A × ℕ))
    (inside : Step H A) (l : LayoutState H A) (o : Option (LayoutState H A)) → slots ≡ s ∷ left → has_columns s ≡ true
    → width ≡ slot_width widths l.parts.current.width s → names ≡ fragments → cell_begun m width names l ≡ o
    → in_slot m widths more fragments slots made inside l
    ≡ option_and_then (in_turn inside (cell_ended l.parts.current widths more left made s.rows)) o
slot_taken {H} {A} m widths more fragments names slots left s width made inside l o first broad wide same h =
    let ended : Step H A = in_turn inside (cell_ended l.parts.current widths more left made s.rows) in
    ap (λ v. in_slot m widths more fragments v made inside l) first
    ∙ (ap (λ (b : Bool). (if b then in_turn (cell_begun m (slot_width widths l.parts.current.width s) fragments)
    ended l else goes_to (cells widths more [] left made) l)) broad
    ∙ (ap (λ (n : ℕ). option_and_then ended (cell_begun m n fragments l)) (sym wide)
    ∙ (ap (λ v. option_and_then ended (cell_begun m width v l)) (sym same) ∙ ap (option_and_then ended) h)))

pub cell_waits : {H A : Type 0} (m : Marking H A) (w : Sizing) (inside : Step H A) (outer here : Sub H A)
    (widths : Option (List ℕ)) (more : List (List Slot)) (left : List Slot) (made : List (Sub H A × ℕ)) (taken : ℕ)
    (new : LayoutState H A) → outer ≡ here
    → option_and_then (cell_ended here widths more left made taken) (inside new)
    ≡ option_and_then (unwound m w (cell_ends outer widths more left made taken ∷ [])) (inside new)
cell_waits m w inside outer here widths more left made taken new same =
    ap (λ s. option_and_then (cell_ended s widths more left made taken) (inside new)) (sym same)
    ∙ one_waits m w (cell_ends outer widths more left made taken) (inside new)

-- A cell is laid out alike wherever values stood before.
any_place : {H A : Type 0} (m : Marking H A) (widths : Option (List ℕ)) (more : List (List Slot))
    (fragments : List (List ℕ)) (slots : List Slot) (made : List (Sub H A × ℕ)) (inside : Step H A)
    (l : LayoutState H A) (place : TablePlace H A) →
    in_slot m widths more fragments slots made inside (in_table place l)
    ≡ in_slot m widths more fragments slots made inside l
unfolding cell_begun in_cell in_part
any_place m widths more fragments [] made inside l place = refl
any_place m widths more fragments (s ∷ slots) made inside l place = refl

pub cell_at_any : {H A : Type 0} (m : Marking H A) (widths : Option (List ℕ)) (more : List (List Slot))
    (fragments : List (List ℕ)) (slots : List Slot) (made : List (Sub H A × ℕ)) (inside : Step H A)
    (l : LayoutState H A) (place : TablePlace H A) →
    cell_laid m widths more fragments slots made inside (in_table place l)
    ≡ cell_laid m widths more fragments slots made inside l
unfolding cell_laid
cell_at_any m widths more fragments slots made inside l place = any_place m widths more fragments (from_cell slots)
    (made ++ empty_slots m widths l.parts.current (empties_before slots)) inside l place

pub cell_after : {H A : Type 0} (m : Marking H A) (widths : Option (List ℕ)) (more : List (List Slot))
    (fragments : List (List ℕ)) (slots left : List Slot) (made all : List (Sub H A × ℕ)) (inside : Step H A)
    (l mid : LayoutState H A) (o : Option (LayoutState H A)) → mid ≡ l → left ≡ from_cell slots
    → all ≡ made ++ empty_slots m widths l.parts.current (empties_before slots)
    → in_slot m widths more fragments left all inside mid ≡ o
    → cell_laid m widths more fragments slots made inside l ≡ o
unfolding cell_laid
cell_after m widths more fragments slots left made all inside l mid o same trailing whole h =
    ap (λ v. in_slot m widths more fragments v (made ++ empty_slots m widths l.parts.current (empties_before slots))
    inside l) (sym trailing)
    ∙ (ap (λ v. in_slot m widths more fragments left v inside l) (sym whole)
    ∙ (ap (λ x. in_slot m widths more fragments left all inside x) (sym same) ∙ h))

pub cell_opens : {X H A : Type 0} (f : X → Continuation H A) (m : Marking H A) (w : Sizing) (g : Step H A → Step H A)
    (style : RenderStyle) (fragment : Option (List ℕ)) (inside : Step H A) (xs ys : List X)
    (old one two new : LayoutState H A)
    → ((x : Step H A) → g x old ≡ option_and_then (unwound m w (map f xs)) (x one))
    → ((x : Step H A) → styled m style x one ≡ option_and_then (unwound m w (map f ys)) (x two))
    → named m fragment two ≡ Some new → g (styled m style (in_turn (named m fragment) inside)) old
    ≡ option_and_then (unwound m w (map f (xs ++ ys))) (inside new)
cell_opens f m w g style fragment inside xs ys old one two new cell look h =
    opens_both m w g (styled m style (in_turn (named m fragment) inside)) (map f xs) (map f ys) old one
    (in_turn (named m fragment) inside two) cell (look (in_turn (named m fragment) inside))
    ∙ (ap (λ v. option_and_then (unwound m w v) (in_turn (named m fragment) inside two)) (sym (map-append f xs ys))
    ∙ ap (option_and_then (unwound m w (map f (xs ++ ys)))) (turn_on (named m fragment) inside two new _ h refl))

pub no_cell_look : {H A : Type 0} (m : Marking H A) (w : Sizing) (g : Step H A → Step H A)
    (xs : List (Continuation H A))
    (inside : Step H A) (old one : LayoutState H A)
    → ((x : Step H A) → g x old ≡ option_and_then (unwound m w xs) (x one)) → inside one ≡ None
    → g inside old ≡ None
no_cell_look m w g xs inside old one h never = h inside ∙ ap (option_and_then (unwound m w xs)) never

pub no_cell_name : {H A : Type 0} (m : Marking H A) (w : Sizing) (g : Step H A → Step H A) (style : RenderStyle)
    (fragment : Option (List ℕ)) (inside : Step H A) (xs ys : List (Continuation H A)) (old one two : LayoutState H A)
    → ((x : Step H A) → g x old ≡ option_and_then (unwound m w xs) (x one))
    → ((x : Step H A) → styled m style x one ≡ option_and_then (unwound m w ys) (x two))
    → named m fragment two ≡ None → g (styled m style (in_turn (named m fragment) inside)) old ≡ None
no_cell_name m w g style fragment inside xs ys old one two cell look never =
    no_cell_look m w g xs (styled m style (in_turn (named m fragment) inside)) old one cell
    (no_cell_look m w (styled m style) ys (in_turn (named m fragment) inside) one two look
    (turn_off (named m fragment) inside two never))

-- ---- places

pub nothing_among_rows : {H A : Type 0} (m : Marking H A) (w : Sizing) (info : RenderInfo) (head : Head)
    (widths : Option (List ℕ)) (slots : List (List Slot)) (fragments : List (List ℕ)) (inside : Step H A)
    (l : LayoutState H A) → (info ≡ infos.TableGroup → ⊥) → (info ≡ infos.TableRow → ⊥)
    → among_rows m info head widths slots fragments inside l ≡ option_and_then (unwound m w []) (Some l)
nothing_among_rows m w infos.Nothing head widths slots fragments inside l a b = nothing_waits m w (Some l)
nothing_among_rows m w (infos.Text cs) head widths slots fragments inside l a b = nothing_waits m w (Some l)
nothing_among_rows m w (infos.Image source title) head widths slots fragments inside l a b = nothing_waits m w (Some l)
nothing_among_rows m w infos.Break head widths slots fragments inside l a b = nothing_waits m w (Some l)
nothing_among_rows m w infos.Rule head widths slots fragments inside l a b = nothing_waits m w (Some l)
nothing_among_rows m w infos.Container head widths slots fragments inside l a b = nothing_waits m w (Some l)
nothing_among_rows m w (infos.Link target) head widths slots fragments inside l a b = nothing_waits m w (Some l)
nothing_among_rows m w infos.Emphasis head widths slots fragments inside l a b = nothing_waits m w (Some l)
nothing_among_rows m w infos.Strong head widths slots fragments inside l a b = nothing_waits m w (Some l)
nothing_among_rows m w infos.Strikeout head widths slots fragments inside l a b = nothing_waits m w (Some l)
nothing_among_rows m w infos.Code head widths slots fragments inside l a b = nothing_waits m w (Some l)
nothing_among_rows m w infos.Superscript head widths slots fragments inside l a b = nothing_waits m w (Some l)
nothing_among_rows m w infos.Block head widths slots fragments inside l a b = nothing_waits m w (Some l)
nothing_among_rows m w infos.Division head widths slots fragments inside l a b = nothing_waits m w (Some l)
nothing_among_rows m w (infos.Heading level) head widths slots fragments inside l a b = nothing_waits m w (Some l)
nothing_among_rows m w infos.Quote head widths slots fragments inside l a b = nothing_waits m w (Some l)
nothing_among_rows m w infos.Preformatted head widths slots fragments inside l a b = nothing_waits m w (Some l)
nothing_among_rows m w infos.Bullets head widths slots fragments inside l a b = nothing_waits m w (Some l)
nothing_among_rows m w (infos.Numbers first) head widths slots fragments inside l a b = nothing_waits m w (Some l)
nothing_among_rows m w infos.Descriptions head widths slots fragments inside l a b = nothing_waits m w (Some l)
nothing_among_rows m w infos.Term head widths slots fragments inside l a b = nothing_waits m w (Some l)
nothing_among_rows m w infos.Details head widths slots fragments inside l a b = nothing_waits m w (Some l)
nothing_among_rows m w infos.Table head widths slots fragments inside l a b = nothing_waits m w (Some l)
nothing_among_rows m w infos.TableGroup head widths slots fragments inside l a b = absurd (a refl)
nothing_among_rows m w infos.TableRow head widths slots fragments inside l a b = absurd (b refl)
nothing_among_rows m w (infos.TableCell columns taken) head widths slots fragments inside l a b = nothing_waits m w
    (Some l)

pub nothing_among_cells : {H A : Type 0} (m : Marking H A) (w : Sizing) (info : RenderInfo) (head : Head)
    (place : TablePlace H A) (inside : Step H A) (l : LayoutState H A)
    → ((columns taken : ℕ) → info ≡ infos.TableCell columns taken → ⊥)
    → among_cells m info head place inside l ≡ option_and_then (unwound m w []) (Some l)
nothing_among_cells m w infos.Nothing head place inside l a = nothing_waits m w (Some l)
nothing_among_cells m w (infos.Text cs) head place inside l a = nothing_waits m w (Some l)
nothing_among_cells m w (infos.Image source title) head place inside l a = nothing_waits m w (Some l)
nothing_among_cells m w infos.Break head place inside l a = nothing_waits m w (Some l)
nothing_among_cells m w infos.Rule head place inside l a = nothing_waits m w (Some l)
nothing_among_cells m w infos.Container head place inside l a = nothing_waits m w (Some l)
nothing_among_cells m w (infos.Link target) head place inside l a = nothing_waits m w (Some l)
nothing_among_cells m w infos.Emphasis head place inside l a = nothing_waits m w (Some l)
nothing_among_cells m w infos.Strong head place inside l a = nothing_waits m w (Some l)
nothing_among_cells m w infos.Strikeout head place inside l a = nothing_waits m w (Some l)
nothing_among_cells m w infos.Code head place inside l a = nothing_waits m w (Some l)
nothing_among_cells m w infos.Superscript head place inside l a = nothing_waits m w (Some l)
nothing_among_cells m w infos.Block head place inside l a = nothing_waits m w (Some l)
nothing_among_cells m w infos.Division head place inside l a = nothing_waits m w (Some l)
nothing_among_cells m w (infos.Heading level) head place inside l a = nothing_waits m w (Some l)
nothing_among_cells m w infos.Quote head place inside l a = nothing_waits m w (Some l)
nothing_among_cells m w infos.Preformatted head place inside l a = nothing_waits m w (Some l)
nothing_among_cells m w infos.Bullets head place inside l a = nothing_waits m w (Some l)
nothing_among_cells m w (infos.Numbers first) head place inside l a = nothing_waits m w (Some l)
nothing_among_cells m w infos.Descriptions head place inside l a = nothing_waits m w (Some l)
nothing_among_cells m w infos.Term head place inside l a = nothing_waits m w (Some l)
nothing_among_cells m w infos.Details head place inside l a = nothing_waits m w (Some l)
nothing_among_cells m w infos.Table head place inside l a = nothing_waits m w (Some l)
nothing_among_cells m w infos.TableGroup head place inside l a = nothing_waits m w (Some l)
nothing_among_cells m w infos.TableRow head place inside l a = nothing_waits m w (Some l)
nothing_among_cells m w (infos.TableCell columns taken) head place inside l a = absurd (a columns taken refl)

pub laid_at_place : {H A : Type 0} (m : Marking H A) (head : Head) (c : Content) (inside : Step H A)
    (l : LayoutState H A)
    (place : TablePlace H A) → l.table ≡ place
    → laid m head c inside l ≡ laid_at m head c place inside (in_table place l)
laid_at_place m head c inside l place is = ap (λ p. laid_at m head c p inside (in_table p l)) is
