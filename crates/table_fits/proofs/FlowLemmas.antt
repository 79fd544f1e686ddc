-- Flows where values begin and end.
use Rattle.std.proofs.Common.{◌≡◌, ◌∙◌, ◌++◌, ℕ, Bool, List, Option, None, Some, ap, append_assoc, false, refl, subst}
use Rattle.std.proofs.Common.{[], ◌∷◌, sym, true}
use Rattle.block_trait.specs.declared.options.RenderOptions.{RenderOptions}
use Rattle.content_widths.specs.Flows.{FlowItem, flow_widths, no_columns, text}
use Rattle.content_widths.specs.Reading.{Measures}
use Rattle.content_widths.specs.declared.flow.FlowWidths.{FlowWidths}
use Rattle.content_widths.specs.declared.widths.ContentWidths.{ContentWidths}
use Rattle.column_fits.specs.declared.fit.ColumnFit.{ColumnFit}
use Rattle.render_values.specs.declared.info.Head.{Head}
use Rattle.render_values.specs.declared.info.RenderInfo.{RenderInfo}
use Rattle.std.specs.Prelude.{codes, if◌then◌else◌}
use Rattle.table_fits.specs.Flowing.{Fitting, following, image_flow, leading, link_end, mode_in, placed, standing}
use Rattle.table_fits.specs.Flowing.{standing_flow}
use Rattle.table_fits.specs.Flowing.{widths_of}
use Rattle.table_fits.specs.Pass.{added, inside_flow, is_along, is_own, own_ended, own_flow}
use Rattle.table_fits.specs.declared.standing.Around.{Around}
use Rattle.text_pieces.specs.declared.white_space.WhiteSpace.{WhiteSpace}
use Rattle.table_fits.specs.Seen.{FlowIs}
use Rattle.table_fits.specs.declared.standing.Standing.{Standing}
use Rattle.table_fits.specs.declared.standing.Standing.TheVariants.{AfterPrefix, Along, Cell, Table}

pub widths_seen : (options : RenderOptions) (whole : Option FlowWidths) (flow : FlowWidths)
    (items : Option (List FlowItem)) (w : ContentWidths) → whole ≡ Some flow → FlowIs options whole items
    → ((most : Option ℕ) (is : List FlowItem) → Measures flow most is → w ≡ flow_widths most is)
    → w ≡ widths_of options (inside_flow items)
widths_seen options whole flow items w e h is = by items (subst (λ o. FlowIs options o items) e h)
  where
    by : (items : Option (List FlowItem)) → FlowIs options (Some flow) items → w ≡ widths_of options (inside_flow items)
    by None k = absurd k
    by (Some all) k = is options.wrap_width all k

pub own_alone : (stands : Standing) → is_own None stands ≡ true → is_along stands ≡ false
own_alone Along h = absurd (cc h)
own_alone AfterPrefix h = refl
own_alone Table h = refl
own_alone Cell h = refl

pub added_twice : (a b : List FlowItem) (flow : Option (List FlowItem)) → added b (added a flow) ≡ added (a ++ b) flow
added_twice a b None = refl
added_twice a b (Some items) = ap (λ l. Some l) (append_assoc items a b)

pub own_added : (f : Fitting) (around : Around) (head : Head) (fits : List ColumnFit) (within : List FlowItem)
    (items : Option (List FlowItem)) (mode : WhiteSpace) (stands : Standing) → around.prefix ≡ None
    → stands ≡ standing head.info → mode ≡ mode_in around.mode head
    → added (following f.options mode head.info) (added (standing_flow f head.info stands within fits) items)
    ≡ added (own_ended f around head fits within) items
own_added f around head fits within items mode stands alone is mode_is =
    ap (λ m. added (following f.options m head.info) (added
    (standing_flow f head.info stands within fits) items)) mode_is
    ∙ (ap (λ s. added (following f.options (mode_in around.mode head) head.info)
    (added (standing_flow f head.info s within fits) items)) is
    ∙ (added_twice (standing_flow f head.info (standing head.info) within fits)
    (following f.options (mode_in around.mode head) head.info) items
    ∙ ap (λ p. added (placed f p (standing_flow f head.info (standing head.info) within fits
    ++ following f.options (mode_in around.mode head) head.info)) items) (sym alone)))

pub none_seen : (options : RenderOptions) (whole : Option FlowWidths) (items : Option (List FlowItem))
    (w : ContentWidths)
    → whole ≡ None → FlowIs options whole items → w ≡ no_columns → w ≡ widths_of options (inside_flow items)
unfolding flow_widths
none_seen options whole items w e h is = by items (subst (λ o. FlowIs options o items) e h)
  where
    by : (items : Option (List FlowItem)) → FlowIs options None items → w ≡ widths_of options (inside_flow items)
    by None k = is
    by (Some all) k = absurd k

pub opened : (options : RenderOptions) (flow : Option FlowWidths) (mode here : WhiteSpace) (stands is : Standing)
    (own owns : Bool) (info : RenderInfo) (items : Option (List FlowItem)) → mode ≡ here → stands ≡ is → own ≡ owns
    → FlowIs options flow (added (leading options mode info) (own_flow stands own items))
    → FlowIs options flow (added (leading options here info) (own_flow is owns items))
opened options flow mode here stands is own owns info items a b c h =
    subst (λ m. FlowIs options flow (added (leading options m info) (own_flow is owns items))) a
    (subst (λ s. FlowIs options flow (added (leading options mode info) (own_flow s owns items))) b
    (subst (λ o. FlowIs options flow (added (leading options mode info) (own_flow stands o items))) c h))

pub link_ends : (options : RenderOptions) → options.include_link_footnotes ≡ true → link_end options ≡ codes "][000]"
link_ends options h = ap (λ b. if b then codes "][000]" else codes "]") h

pub link_ends_plain : (options : RenderOptions) → options.include_link_footnotes ≡ false → link_end options ≡ codes "]"
link_ends_plain options h = ap (λ b. if b then codes "][000]" else codes "]") h

added_thrice : (a b c : FlowItem) (flow : Option (List FlowItem))
    → added (c ∷ []) (added (b ∷ []) (added (a ∷ []) flow)) ≡ added (a ∷ b ∷ c ∷ []) flow
added_thrice a b c flow =
    ap (added (c ∷ [])) (added_twice (a ∷ []) (b ∷ []) flow) ∙ added_twice (a ∷ b ∷ []) (c ∷ []) flow

pub image_added : (options : RenderOptions) (flow : Option FlowWidths) (items : Option (List FlowItem))
    (mode : WhiteSpace)
    (title : List ℕ) (shown : Option (List ℕ)) → Some title ≡ shown
    → FlowIs options flow (added (text mode (codes "]") ∷ []) (added (text mode title ∷ [])
    (added (text mode (codes "[") ∷ []) items)))
    → FlowIs options flow (added (image_flow mode shown) items)
image_added options flow items mode title shown e h =
    subst (λ s. FlowIs options flow (added (image_flow mode s) items)) e
    (subst (FlowIs options flow) (added_thrice (text mode (codes "[")) (text mode title) (text mode
    (codes "]")) items) h)
