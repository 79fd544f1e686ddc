use Rattle.std.proofs.Common.{ap, ◌∙◌, max}
use Rattle.std.specs.Str.{chars}
use Rattle.article_layout.specs.Settings.{options_of}
use Rattle.article_definitions.specs.Layouts.{least_in, least_text, mark_of}
use Rattle.article_values.specs.Articles.{bold, code, emphasis, italic, strong}
use Rattle.article_values.specs.Views.{inline_view, inlines_view}
use Rattle.article_values.proofs.VariantViews.{seen_bold, seen_code, seen_emphasis, seen_italic, seen_strong}
use Rattle.article_layout.proofs.InlineLemmas.{max_three}
use Rattle.article_layout.proofs.leasts.+measuring.Goals as goal

pub least_of_inline-returns-in-Bold : goal.least_of_inline-returns-in-Bold
unfolding chars
least_of_inline-returns-in-Bold t c =
    λ rest. ap (λ v. least_in (options_of c.args.options) (inline_view v rest)) c.in-Bold.is
    ∙ ap (least_in (options_of c.args.options)) (seen_bold c.in-Bold.contents rest)
    ∙ max_three (least_text (options_of c.args.options) (mark_of (options_of c.args.options) bold))
    (least_in (options_of c.args.options) (inlines_view c.in-Bold.contents.items))
    (least_in (options_of c.args.options) rest) c.least_of_span.result
    (c.least_of_span.ensures ∙ ap (λ xs. max (least_text (options_of c.args.options)
    (mark_of (options_of c.args.options) bold)) (least_in (options_of c.args.options) (inlines_view xs)))
    c.as_slice.ensures.value)

pub least_of_inline-returns-in-Italic : goal.least_of_inline-returns-in-Italic
unfolding chars
least_of_inline-returns-in-Italic t c =
    λ rest. ap (λ v. least_in (options_of c.args.options) (inline_view v rest)) c.in-Italic.is
    ∙ ap (least_in (options_of c.args.options)) (seen_italic c.in-Italic.contents rest)
    ∙ max_three (least_text (options_of c.args.options) (mark_of (options_of c.args.options) italic))
    (least_in (options_of c.args.options) (inlines_view c.in-Italic.contents.items))
    (least_in (options_of c.args.options) rest) c.least_of_span-in-Italic.result
    (c.least_of_span-in-Italic.ensures ∙ ap (λ xs. max (least_text (options_of c.args.options)
    (mark_of (options_of c.args.options) italic)) (least_in (options_of c.args.options) (inlines_view xs)))
    c.as_slice-in-Italic.ensures.value)

pub least_of_inline-returns-in-Emphasis : goal.least_of_inline-returns-in-Emphasis
unfolding chars
least_of_inline-returns-in-Emphasis t c =
    λ rest. ap (λ v. least_in (options_of c.args.options) (inline_view v rest)) c.in-Emphasis.is
    ∙ ap (least_in (options_of c.args.options)) (seen_emphasis c.in-Emphasis.contents rest)
    ∙ max_three (least_text (options_of c.args.options) (mark_of (options_of c.args.options) emphasis))
    (least_in (options_of c.args.options) (inlines_view c.in-Emphasis.contents.items))
    (least_in (options_of c.args.options) rest) c.least_of_span-in-Emphasis.result
    (c.least_of_span-in-Emphasis.ensures ∙ ap (λ xs. max (least_text (options_of c.args.options)
    (mark_of (options_of c.args.options) emphasis)) (least_in (options_of c.args.options) (inlines_view xs)))
    c.as_slice-in-Emphasis.ensures.value)

pub least_of_inline-returns-in-Code : goal.least_of_inline-returns-in-Code
unfolding chars
least_of_inline-returns-in-Code t c =
    λ rest. ap (λ v. least_in (options_of c.args.options) (inline_view v rest)) c.in-Code.is
    ∙ ap (least_in (options_of c.args.options)) (seen_code c.in-Code.contents rest)
    ∙ max_three (least_text (options_of c.args.options) (mark_of (options_of c.args.options) code))
    (least_in (options_of c.args.options) (inlines_view c.in-Code.contents.items))
    (least_in (options_of c.args.options) rest) c.least_of_span-in-Code.result
    (c.least_of_span-in-Code.ensures ∙ ap (λ xs. max (least_text (options_of c.args.options)
    (mark_of (options_of c.args.options) code)) (least_in (options_of c.args.options) (inlines_view xs)))
    c.as_slice-in-Code.ensures.value)

pub least_of_inline-returns-in-Strong : goal.least_of_inline-returns-in-Strong
unfolding chars
least_of_inline-returns-in-Strong t c =
    λ rest. ap (λ v. least_in (options_of c.args.options) (inline_view v rest)) c.in-Strong.is
    ∙ ap (least_in (options_of c.args.options)) (seen_strong c.in-Strong.contents rest)
    ∙ max_three (least_text (options_of c.args.options) (mark_of (options_of c.args.options) strong))
    (least_in (options_of c.args.options) (inlines_view c.in-Strong.contents.items))
    (least_in (options_of c.args.options) rest) c.least_of_span-in-Strong.result
    (c.least_of_span-in-Strong.ensures ∙ ap (λ xs. max (least_text (options_of c.args.options)
    (mark_of (options_of c.args.options) strong)) (least_in (options_of c.args.options) (inlines_view xs)))
    c.as_slice-in-Strong.ensures.value)
