use Rattle.std.proofs.Common.{◌∷◌, [], ◌∙◌, ap, sym}
use Rattle.std.specs.Option.{option_map}
use Rattle.std.specs.Str.{chars}
use Rattle.content_widths.specs.Flows.{text}
use Rattle.table_fits.proofs.FlowLemmas.{image_added}
use Rattle.table_fits.specs.Pass.{added}
use Rattle.block_trait.specs.Renderers.{image_title}
use Rattle.std.specs.Prelude.{codes}
use Rattle.table_fits.proofs.reading.lead_image.Goals as goal

pub returns-in-Some : goal.returns-in-Some
unfolding chars
returns-in-Some c = λ items h.
    let options = c.args.options.now in
    let mode = c.args.mode in
    let title = chars c.in-Some.title.now in
    let opened = added (text mode (codes "[") ∷ []) items in
    image_added options c.add_text-in-Some-2.new.flow items mode title
    (image_title options.img_mode (chars c.args.source.now) (chars c.args.title.now))
    (ap (option_map (λ t. chars t.now)) (sym c.in-Some.is) ∙ c.shown_title.ensures)
    (c.add_text-in-Some-2.ensures options (added (text mode title ∷ []) opened)
    (c.add_text-in-Some.ensures options opened (c.add_text.ensures options items h)))
