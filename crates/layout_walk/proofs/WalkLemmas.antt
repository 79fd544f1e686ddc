-- Values in turn, and what waits after them.
use Rattle.std.proofs.Common.{◌≡◌, ◌+◌, ◌-◌, [], ◌∷◌, ◌++◌, ◌∙◌, List, None, Option, Some, ap, append-nil, arith}
use Rattle.std.proofs.Common.{length, refl, sym, take, ℕ}
use Rattle.std.specs.Option.{option_and_then, option_map}
use Rattle.block_trait.specs.Renderers.{Marking}
use Rattle.layout_values.specs.Sizing.{Sizing, within}
use Rattle.render_values.specs.Values.{Values, none, value}
use Rattle.render_values.specs.declared.info.Head.{Head}
use Rattle.render_values.specs.declared.info.RenderInfo.{RenderInfo}
use Rattle.render_values.specs.declared.info.RenderInfo.TheVariants as infos
use Rattle.text_block_renderer.specs.Parts.{Parts}
use Rattle.layout_tables.specs.Tables.{table_laid}
use Rattle.layout_values.specs.Lay.{Content, after_mark, content_of, holds, laid, laid_at, laid_parts, lay, listed}
use Rattle.layout_values.specs.Lay.{on_page, placed, styled}
use Rattle.layout_values.specs.Seen.{AreAlike}
use Rattle.text_decorators.specs.Marks.{header, quote}
use Rattle.layout_state.specs.Begins.{begins, ends, following, leading}
use Rattle.layout_state.specs.Items.{spaces}
use Rattle.layout_state.specs.declared.around.ItemMark.TheVariants.{Bullet, Number}
use Rattle.layout_state.specs.LayoutState.{LayoutState, Step, TablePlace, after_prefix, cells, in_turn, outside, rows}
use Rattle.layout_values.specs.Continuation.{Continuation, undone, unwound}
use Rattle.layout_state.proofs.StepLemmas.{then_same, then_some}
use Rattle.layout_values.proofs.StepLemmas.{all_wait, unwound_on}

-- ---- what a layout looks at of what stands in a value

holds_alike : {H A : Type 0} (m : Marking H A) (info : RenderInfo) (c d : Content) (inside : Step H A)
    → AreAlike info c d → holds m info c inside ≡ holds m info d inside
unfolding holds
holds_alike m (infos.Heading level) c d inside h = ap (λ n. after_mark m (header level) n inside) h
holds_alike m infos.Quote c d inside h = ap (λ n. after_mark m quote n inside) h
holds_alike m infos.Details c d inside h = ap (λ n. after_prefix m 2 (spaces 2) (spaces 2) n inside) h
holds_alike m infos.Bullets c d inside h =
    ap (λ n. listed m Bullet n c.least inside) h.0 ∙ ap (λ n. listed m Bullet d.items n inside) h.1
holds_alike m (infos.Numbers first) c d inside h =
    ap (λ n. listed m (Number first) n c.least inside) h.0 ∙ ap (λ n. listed m (Number first) d.items n inside) h.1
holds_alike m infos.Table c d inside h =
    ap (λ t. table_laid m t c.fits inside) h.0 ∙ ap (λ f. table_laid m d.table f inside) h.1
holds_alike m infos.Nothing c d inside h = refl
holds_alike m (infos.Text cs) c d inside h = refl
holds_alike m (infos.Image source title) c d inside h = refl
holds_alike m infos.Break c d inside h = refl
holds_alike m infos.Rule c d inside h = refl
holds_alike m infos.Container c d inside h = refl
holds_alike m (infos.Link target) c d inside h = refl
holds_alike m infos.Emphasis c d inside h = refl
holds_alike m infos.Strong c d inside h = refl
holds_alike m infos.Strikeout c d inside h = refl
holds_alike m infos.Code c d inside h = refl
holds_alike m infos.Superscript c d inside h = refl
holds_alike m infos.Block c d inside h = refl
holds_alike m infos.Division c d inside h = refl
holds_alike m infos.Preformatted c d inside h = refl
holds_alike m infos.Descriptions c d inside h = refl
holds_alike m infos.Term c d inside h = refl
holds_alike m infos.TableGroup c d inside h = refl
holds_alike m infos.TableRow c d inside h = refl
holds_alike m (infos.TableCell columns taken) c d inside h = refl

laid_alike_at : {H A : Type 0} (m : Marking H A) (head : Head) (c d : Content) (place : TablePlace H A)
    (inside : Step H A) (l : LayoutState H A) → AreAlike head.info c d
    → laid_at m head c place inside l ≡ laid_at m head d place inside l
laid_alike_at m head c d (outside in_cell) inside l h =
    ap (λ held. placed m l.around (styled m head.style (in_turn (leading m head) (in_turn (begins m head.info)
    (in_turn held (ends m head.info))))) l)
    (holds_alike m head.info c d (in_turn (following m head) inside) h)
laid_alike_at m head c d (rows widths slots fragments) inside l h = refl
laid_alike_at m head c d (cells widths more fragments slots made) inside l h = refl

pub laid_alike : {H A : Type 0} (m : Marking H A) (head : Head) (c d : Content) (inside : Step H A)
    (l : LayoutState H A)
    → AreAlike head.info c d → laid m head c inside l ≡ laid m head d inside l
laid_alike m head c d inside l h = laid_alike_at m head c d l.table inside l h

-- ---- values in turn

-- a value begins: what comes of what stands in it is next, and what stands after it waits
pub enters : {H A : Type 0} (m : Marking H A) (w here : Sizing) (before trailing pushed : List (Continuation H A))
    (head : Head) (inner later vs : Values) (c : Content) (old : LayoutState H A) (o : Option (LayoutState H A))
    → ((l : LayoutState H A) → unwound m w trailing l ≡ lay m here later l) → vs ≡ value head inner later
    → AreAlike head.info c (content_of here head inner)
    → laid m head c (lay m (within here head) inner) old ≡ option_and_then (unwound m w pushed) o
    → option_and_then (unwound m w (before ++ (trailing ++ pushed))) o
    ≡ option_and_then (unwound m w before) (lay m here vs old)
enters m w here before trailing pushed head inner later vs c old o waits is known opens =
    sym (all_wait m w before (trailing ++ pushed) o)
    ∙ ap (option_and_then (unwound m w before))
    (sym (all_wait m w trailing pushed o)
    ∙ (then_same (unwound m w trailing) (lay m here later) (option_and_then (unwound m w pushed) o) waits
    ∙ (ap (option_and_then (lay m here later)) (sym opens
    ∙ laid_alike m head c (content_of here head inner) (lay m (within here head) inner) old known)
    ∙ ap (λ v. lay m here v old) (sym is))))

pub never_enters : {H A : Type 0} (m : Marking H A) (w here : Sizing) (before : List (Continuation H A)) (head : Head)
    (inner later vs : Values) (c : Content) (old : LayoutState H A) → vs ≡ value head inner later
    → AreAlike head.info c (content_of here head inner) → ((inside : Step H A) → laid m head c inside old ≡ None)
    → option_and_then (unwound m w before) (lay m here vs old) ≡ None
never_enters m w here before head inner later vs c old is known never =
    ap (λ v. option_and_then (unwound m w before) (lay m here v old)) is
    ∙ ap (λ o. option_and_then (unwound m w before) (option_and_then (lay m here later) o))
    (sym (laid_alike m head c (content_of here head inner) (lay m (within here head) inner) old known)
    ∙ never (lay m (within here head) inner))

-- what waited last is next
pub leaves : {H A : Type 0} (m : Marking H A) (w here next_here : Sizing) (items kept : List (Continuation H A))
    (x : Continuation H A)
    (vs next : Values) (old new : LayoutState H A) → items ≡ kept ++ x ∷ [] → vs ≡ none
    → lay m next_here next new ≡ undone m w x old
    → option_and_then (unwound m w kept) (lay m next_here next new)
    ≡ option_and_then (unwound m w items) (lay m here vs old)
unfolding unwound
leaves m w here next_here items kept x vs next old new is over goes =
    ap (option_and_then (unwound m w kept)) goes
    ∙ (sym (unwound_on m w kept (x ∷ []) old)
    ∙ (ap (λ xs. unwound m w xs old) (sym is)
    ∙ ap (λ v. option_and_then (unwound m w items) (lay m here v old)) (sym over)))

pub never_leaves : {H A : Type 0} (m : Marking H A) (w here : Sizing) (items kept : List (Continuation H A))
    (x : Continuation H A)
    (vs : Values) (old : LayoutState H A) → items ≡ kept ++ x ∷ [] → vs ≡ none → undone m w x old ≡ None
    → option_and_then (unwound m w items) (lay m here vs old) ≡ None
unfolding unwound
never_leaves m w here items kept x vs old is over never =
    ap (λ v. option_and_then (unwound m w items) (lay m here v old)) over
    ∙ (ap (λ xs. unwound m w xs old) is
    ∙ (unwound_on m w kept (x ∷ []) old ∙ ap (option_and_then (unwound m w kept)) never))

-- the beginning and the end
pub begins_here : {H A : Type 0} (m : Marking H A) (w here : Sizing) (vs all : Values) (l : LayoutState H A) → vs ≡ all
    → option_and_then (unwound m w []) (lay m here vs l) ≡ lay m here all l
unfolding unwound
begins_here m w here vs all l is = then_some (lay m here vs l) ∙ ap (λ v. lay m here v l) is

pub ends_here : {H A : Type 0} (m : Marking H A) (w here : Sizing) (items : List (Continuation H A)) (vs : Values)
    (l : LayoutState H A) → items ≡ [] → vs ≡ none → option_and_then (unwound m w items) (lay m here vs l) ≡ Some l
unfolding unwound
ends_here m w here items vs l is over =
    ap (λ xs. option_and_then (unwound m w xs) (lay m here vs l)) is
    ∙ ap (λ v. option_and_then (unwound m w []) (lay m here v l)) over

-- ---- a tree

pub laid_by : {H A : Type 0} (m : Marking H A) (w : Sizing) (vs tree : Values) (p : Parts H A) (new : LayoutState H A)
    → vs ≡ tree → lay m w vs (on_page p) ≡ Some new → laid_parts m w tree p ≡ Some new.parts
laid_by {H} {A} m w vs tree p new is h =
    ap (λ v. option_map (λ (l : LayoutState H A). l.parts) (lay m w v (on_page p))) (sym is)
    ∙ ap (option_map (λ (l : LayoutState H A). l.parts)) h

pub never_laid : {H A : Type 0} (m : Marking H A) (w : Sizing) (vs tree : Values) (p : Parts H A)
    → vs ≡ tree → lay m w vs (on_page p) ≡ None → laid_parts m w tree p ≡ None
never_laid {H} {A} m w vs tree p is h =
    ap (λ v. option_map (λ (l : LayoutState H A). l.parts) (lay m w v (on_page p))) (sym is)
    ∙ ap (option_map (λ (l : LayoutState H A). l.parts)) h

pub none_below : {X : Type 0} (xs : List X) → length xs + 1 ≡ 1 → xs ≡ []
none_below [] h = refl
none_below (x ∷ xs) h = absurd (omega (arith, h))

pub nothing_popped : {X : Type 0} (old new : List X) (count : ℕ) → count ≡ 0 → new ≡ take (count - 1) old
    → old ≡ new ++ [] → old ≡ []
nothing_popped old new count it_is taken is =
    is ∙ (append-nil new ∙ (taken ∙ ap (λ n. take (n - 1) old) it_is))
