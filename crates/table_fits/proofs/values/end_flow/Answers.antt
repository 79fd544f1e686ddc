use Rattle.std.proofs.Common.{◌≡◌, ◌∙◌, ap, subst, sym, true}
use Rattle.std.specs.Prelude.{OnOk}
use Rattle.table_fits.specs.Flowing.{fitting, standing}
use Rattle.table_fits.specs.Pass.{flow_ended, inside_flow, is_own}
use Rattle.table_fits.specs.Seen.{FlowIs}
use Rattle.table_fits.proofs.values.end_flow.Goals as goal

pub returns : goal.returns
returns g c = λ w items before p h outer_is.
    let options = c.args.options.now in
    let f = fitting options w in
    let around = c.args.around in
    let head = c.args.head.now in
    let own : is_own around.prefix (standing head.info) ≡ true = ap (is_own around.prefix) (sym c.standing_of.ensures)
    ∙ (sym c.is_own-own.ensures ∙ c.if-not-own.false) in
    subst (λ b. OnOk c.end_own.result (FlowIs options c.end_own.new.flow
    (flow_ended f around head b c.args.fits.now before items))) (sym own)
    (c.end_own.ensures w before (inside_flow items) p own
    (c.inside_or_new-inside.ensures items (subst (λ l. FlowIs options l items) (sym c.replace-inside.ensures.value) h))
    (subst (λ l. FlowIs options l before) (sym c.replace-inside.ensures.after) (outer_is own)))
