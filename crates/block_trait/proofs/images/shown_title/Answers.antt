use Rattle.std.proofs.Common.{chars, refl, sym, ap, ◌∙◌}
use Rattle.std.specs.Prelude.{None, Some}
use Rattle.text_normal.proofs.WordLemmas.{empty_text, some_text}
use Rattle.block_trait.specs.declared.options.ImageRenderMode.TheVariants.{IgnoreEmpty, Replace, Filename}
use Rattle.block_trait.proofs.ImageLemmas.{titled, untitled}
use Rattle.block_trait.proofs.images.shown_title.Goals as goal

pub returns-then-not-is_empty : goal.returns-then-not-is_empty
returns-then-not-is_empty c = titled c.args.mode (chars c.args.src.now) (chars c.args.title.now)
    (some_text c.args.title.now c.utf8.title (sym c.is_empty.ensures ∙ c.if-not-is_empty.true))

pub returns-in-IgnoreEmpty : goal.returns-in-IgnoreEmpty
returns-in-IgnoreEmpty c = untitled c.args.mode IgnoreEmpty (chars c.args.src.now) (chars c.args.title.now) None
    (empty_text c.args.title.now (sym c.is_empty.ensures ∙ c.if-not-is_empty.false)) c.in-IgnoreEmpty.is refl

pub returns-in-Replace : goal.returns-in-Replace
returns-in-Replace c = untitled c.args.mode (Replace c.in-Replace.name) (chars c.args.src.now)
    (chars c.args.title.now) (Some (chars c.in-Replace.name.now))
    (empty_text c.args.title.now (sym c.is_empty.ensures ∙ c.if-not-is_empty.false)) c.in-Replace.is refl

pub returns-in-Filename : goal.returns-in-Filename
returns-in-Filename c = untitled c.args.mode Filename (chars c.args.src.now) (chars c.args.title.now)
    (Some (chars c.file_name.result.now))
    (empty_text c.args.title.now (sym c.is_empty.ensures ∙ c.if-not-is_empty.false)) c.in-Filename.is
    (ap (λ t. Some t) c.file_name.ensures)
