use Rattle.std.proofs.Common.{◌≡◌, [], None, Some, Err, refl, sym, ap, ◌∙◌, if◌then◌else◌}
use Rattle.std.specs.Option.{option_and_then}
use Rattle.std.specs.Str.{chars}
use Rattle.std.proofs.lemmas.Result.{err_from_is_err_and, on_ok_weaker}
use Rattle.article_layout.specs.Lines.{tag_of}
use Rattle.article_layout.specs.Seen.{said_of}
use Rattle.article_layout.specs.Settings.{options_of}
use Rattle.article_layout.specs.Walks.{adds, said, spanned}
use Rattle.article_definitions.specs.Calls.{measure}
use Rattle.article_definitions.specs.Layouts.{within}
use Rattle.article_values.specs.Articles.{bold, code, emphasis, italic, strong}
use Rattle.article_values.specs.Views.{inline_view, inlines_view}
use Rattle.article_values.proofs.VariantViews.{seen_bold, seen_code, seen_emphasis, seen_italic, seen_strong, seen_text}
use Rattle.text_footnotes.specs.Links.{all_targets}
use Rattle.text_pieces.specs.declared.fault.BlockError.TheVariants.{TooNarrow}
use Rattle.article_layout.proofs.SayingSteps.{link_by, span_by, target_noted}
use Rattle.article_layout.proofs.inlines.+saying.Goals as goal

pub say_inline-returns-in-Text-clause-done : goal.say_inline-returns-in-Text-clause-done
say_inline-returns-in-Text-clause-done t c = on_ok_weaker c.say.result (λ h. λ rest.
    ap (λ v. said (options_of c.args.room.options) (measure (options_of c.args.room.options) c.args.room.width)
    (tag_of c.args.tag.now) (inline_view v rest) (said_of c.args.block.now c.args.targets.now)) c.in-Text.is
    ∙ ap (λ is. said (options_of c.args.room.options) (measure (options_of c.args.room.options) c.args.room.width)
    (tag_of c.args.tag.now) is (said_of c.args.block.now c.args.targets.now)) (seen_text c.in-Text.text rest)
    ∙ ap (option_and_then
    (said (options_of c.args.room.options) (measure (options_of c.args.room.options) c.args.room.width)
    (tag_of c.args.tag.now) rest))
    (ap (λ bs. adds (measure (options_of c.args.room.options) c.args.room.width) (chars bs) (tag_of c.args.tag.now)
    (said_of c.args.block.now c.args.targets.now)) (sym c.as_str.ensures.value) ∙ h))
    (c.say.ensures.done c.args.targets.now)

pub say_inline-returns-in-Text-clause-narrow : goal.say_inline-returns-in-Text-clause-narrow
say_inline-returns-in-Text-clause-narrow t c = λ e. λ rest.
    ap (λ v. said (options_of c.args.room.options) (measure (options_of c.args.room.options) c.args.room.width)
    (tag_of c.args.tag.now) (inline_view v rest) (said_of c.args.block.now c.args.targets.now)) c.in-Text.is
    ∙ ap (λ is. said (options_of c.args.room.options) (measure (options_of c.args.room.options) c.args.room.width)
    (tag_of c.args.tag.now) is (said_of c.args.block.now c.args.targets.now)) (seen_text c.in-Text.text rest)
    ∙ ap (option_and_then
    (said (options_of c.args.room.options) (measure (options_of c.args.room.options) c.args.room.width)
    (tag_of c.args.tag.now) rest))
    (ap (λ bs. adds (measure (options_of c.args.room.options) c.args.room.width) (chars bs) (tag_of c.args.tag.now)
    (said_of c.args.block.now c.args.targets.now)) (sym c.as_str.ensures.value) ∙
    c.say.ensures.narrow c.args.targets.now e)

pub say_inline-returns-in-Bold-clause-done : goal.say_inline-returns-in-Bold-clause-done
unfolding chars
say_inline-returns-in-Bold-clause-done t c = on_ok_weaker c.say_span.result (λ h. λ rest.
    ap (λ v. said (options_of c.args.room.options) (measure (options_of c.args.room.options) c.args.room.width)
    (tag_of c.args.tag.now) (inline_view v rest) (said_of c.args.block.now c.args.targets.now)) c.in-Bold.is
    ∙ ap (λ is. said (options_of c.args.room.options) (measure (options_of c.args.room.options) c.args.room.width)
    (tag_of c.args.tag.now) is (said_of c.args.block.now c.args.targets.now)) (seen_bold c.in-Bold.contents rest)
    ∙ ap (option_and_then
    (said (options_of c.args.room.options) (measure (options_of c.args.room.options) c.args.room.width)
    (tag_of c.args.tag.now) rest))
    (ap (λ xs. spanned (options_of c.args.room.options) (measure (options_of c.args.room.options) c.args.room.width)
    (tag_of c.args.tag.now) bold
    (said (options_of c.args.room.options) (measure (options_of c.args.room.options) c.args.room.width)
    (within (tag_of c.args.tag.now)) (inlines_view xs)) (said_of c.args.block.now c.args.targets.now))
    (sym c.as_slice.ensures.value) ∙ h bold refl)) c.say_span.ensures.done

pub say_inline-returns-in-Bold-clause-narrow : goal.say_inline-returns-in-Bold-clause-narrow
unfolding chars
say_inline-returns-in-Bold-clause-narrow t c = λ e. λ rest.
    ap (λ v. said (options_of c.args.room.options) (measure (options_of c.args.room.options) c.args.room.width)
    (tag_of c.args.tag.now) (inline_view v rest) (said_of c.args.block.now c.args.targets.now)) c.in-Bold.is
    ∙ ap (λ is. said (options_of c.args.room.options) (measure (options_of c.args.room.options) c.args.room.width)
    (tag_of c.args.tag.now) is (said_of c.args.block.now c.args.targets.now)) (seen_bold c.in-Bold.contents rest)
    ∙ ap (option_and_then
    (said (options_of c.args.room.options) (measure (options_of c.args.room.options) c.args.room.width)
    (tag_of c.args.tag.now) rest))
    (ap (λ xs. spanned (options_of c.args.room.options) (measure (options_of c.args.room.options) c.args.room.width)
    (tag_of c.args.tag.now) bold
    (said (options_of c.args.room.options) (measure (options_of c.args.room.options) c.args.room.width)
    (within (tag_of c.args.tag.now)) (inlines_view xs)) (said_of c.args.block.now c.args.targets.now))
    (sym c.as_slice.ensures.value) ∙ c.say_span.ensures.narrow e bold refl)

pub say_inline-returns-in-Italic-clause-done : goal.say_inline-returns-in-Italic-clause-done
unfolding chars
say_inline-returns-in-Italic-clause-done t c = on_ok_weaker c.say_span-in-Italic.result (λ h. λ rest.
    ap (λ v. said (options_of c.args.room.options) (measure (options_of c.args.room.options) c.args.room.width)
    (tag_of c.args.tag.now) (inline_view v rest) (said_of c.args.block.now c.args.targets.now)) c.in-Italic.is
    ∙ ap (λ is. said (options_of c.args.room.options) (measure (options_of c.args.room.options) c.args.room.width)
    (tag_of c.args.tag.now) is (said_of c.args.block.now c.args.targets.now))
    (seen_italic c.in-Italic.contents rest)
    ∙ ap (option_and_then
    (said (options_of c.args.room.options) (measure (options_of c.args.room.options) c.args.room.width)
    (tag_of c.args.tag.now) rest))
    (ap (λ xs. spanned (options_of c.args.room.options) (measure (options_of c.args.room.options) c.args.room.width)
    (tag_of c.args.tag.now) italic
    (said (options_of c.args.room.options) (measure (options_of c.args.room.options) c.args.room.width)
    (within (tag_of c.args.tag.now)) (inlines_view xs)) (said_of c.args.block.now c.args.targets.now))
    (sym c.as_slice-in-Italic.ensures.value) ∙ h italic refl)) c.say_span-in-Italic.ensures.done

pub say_inline-returns-in-Italic-clause-narrow : goal.say_inline-returns-in-Italic-clause-narrow
unfolding chars
say_inline-returns-in-Italic-clause-narrow t c = λ e. λ rest.
    ap (λ v. said (options_of c.args.room.options) (measure (options_of c.args.room.options) c.args.room.width)
    (tag_of c.args.tag.now) (inline_view v rest) (said_of c.args.block.now c.args.targets.now)) c.in-Italic.is
    ∙ ap (λ is. said (options_of c.args.room.options) (measure (options_of c.args.room.options) c.args.room.width)
    (tag_of c.args.tag.now) is (said_of c.args.block.now c.args.targets.now))
    (seen_italic c.in-Italic.contents rest)
    ∙ ap (option_and_then
    (said (options_of c.args.room.options) (measure (options_of c.args.room.options) c.args.room.width)
    (tag_of c.args.tag.now) rest))
    (ap (λ xs. spanned (options_of c.args.room.options) (measure (options_of c.args.room.options) c.args.room.width)
    (tag_of c.args.tag.now) italic
    (said (options_of c.args.room.options) (measure (options_of c.args.room.options) c.args.room.width)
    (within (tag_of c.args.tag.now)) (inlines_view xs)) (said_of c.args.block.now c.args.targets.now))
    (sym c.as_slice-in-Italic.ensures.value) ∙ c.say_span-in-Italic.ensures.narrow e italic refl)

pub say_inline-returns-in-Emphasis-clause-done : goal.say_inline-returns-in-Emphasis-clause-done
unfolding chars
say_inline-returns-in-Emphasis-clause-done t c = on_ok_weaker c.say_span-in-Emphasis.result (λ h. λ rest.
    ap (λ v. said (options_of c.args.room.options) (measure (options_of c.args.room.options) c.args.room.width)
    (tag_of c.args.tag.now) (inline_view v rest) (said_of c.args.block.now c.args.targets.now)) c.in-Emphasis.is
    ∙ ap (λ is. said (options_of c.args.room.options) (measure (options_of c.args.room.options) c.args.room.width)
    (tag_of c.args.tag.now) is (said_of c.args.block.now c.args.targets.now))
    (seen_emphasis c.in-Emphasis.contents rest)
    ∙ ap (option_and_then
    (said (options_of c.args.room.options) (measure (options_of c.args.room.options) c.args.room.width)
    (tag_of c.args.tag.now) rest))
    (ap (λ xs. spanned (options_of c.args.room.options) (measure (options_of c.args.room.options) c.args.room.width)
    (tag_of c.args.tag.now) emphasis
    (said (options_of c.args.room.options) (measure (options_of c.args.room.options) c.args.room.width)
    (within (tag_of c.args.tag.now)) (inlines_view xs)) (said_of c.args.block.now c.args.targets.now))
    (sym c.as_slice-in-Emphasis.ensures.value) ∙ h emphasis refl)) c.say_span-in-Emphasis.ensures.done

pub say_inline-returns-in-Emphasis-clause-narrow : goal.say_inline-returns-in-Emphasis-clause-narrow
unfolding chars
say_inline-returns-in-Emphasis-clause-narrow t c = λ e. λ rest.
    ap (λ v. said (options_of c.args.room.options) (measure (options_of c.args.room.options) c.args.room.width)
    (tag_of c.args.tag.now) (inline_view v rest) (said_of c.args.block.now c.args.targets.now)) c.in-Emphasis.is
    ∙ ap (λ is. said (options_of c.args.room.options) (measure (options_of c.args.room.options) c.args.room.width)
    (tag_of c.args.tag.now) is (said_of c.args.block.now c.args.targets.now))
    (seen_emphasis c.in-Emphasis.contents rest)
    ∙ ap (option_and_then
    (said (options_of c.args.room.options) (measure (options_of c.args.room.options) c.args.room.width)
    (tag_of c.args.tag.now) rest))
    (ap (λ xs. spanned (options_of c.args.room.options) (measure (options_of c.args.room.options) c.args.room.width)
    (tag_of c.args.tag.now) emphasis
    (said (options_of c.args.room.options) (measure (options_of c.args.room.options) c.args.room.width)
    (within (tag_of c.args.tag.now)) (inlines_view xs)) (said_of c.args.block.now c.args.targets.now))
    (sym c.as_slice-in-Emphasis.ensures.value) ∙ c.say_span-in-Emphasis.ensures.narrow e emphasis refl)

pub say_inline-returns-in-Code-clause-done : goal.say_inline-returns-in-Code-clause-done
unfolding chars
say_inline-returns-in-Code-clause-done t c = on_ok_weaker c.say_span-in-Code.result (λ h. λ rest.
    ap (λ v. said (options_of c.args.room.options) (measure (options_of c.args.room.options) c.args.room.width)
    (tag_of c.args.tag.now) (inline_view v rest) (said_of c.args.block.now c.args.targets.now)) c.in-Code.is
    ∙ ap (λ is. said (options_of c.args.room.options) (measure (options_of c.args.room.options) c.args.room.width)
    (tag_of c.args.tag.now) is (said_of c.args.block.now c.args.targets.now)) (seen_code c.in-Code.contents rest)
    ∙ ap (option_and_then
    (said (options_of c.args.room.options) (measure (options_of c.args.room.options) c.args.room.width)
    (tag_of c.args.tag.now) rest))
    (ap (λ xs. spanned (options_of c.args.room.options) (measure (options_of c.args.room.options) c.args.room.width)
    (tag_of c.args.tag.now) code
    (said (options_of c.args.room.options) (measure (options_of c.args.room.options) c.args.room.width)
    (within (tag_of c.args.tag.now)) (inlines_view xs)) (said_of c.args.block.now c.args.targets.now))
    (sym c.as_slice-in-Code.ensures.value) ∙ h code refl)) c.say_span-in-Code.ensures.done

pub say_inline-returns-in-Code-clause-narrow : goal.say_inline-returns-in-Code-clause-narrow
unfolding chars
say_inline-returns-in-Code-clause-narrow t c = λ e. λ rest.
    ap (λ v. said (options_of c.args.room.options) (measure (options_of c.args.room.options) c.args.room.width)
    (tag_of c.args.tag.now) (inline_view v rest) (said_of c.args.block.now c.args.targets.now)) c.in-Code.is
    ∙ ap (λ is. said (options_of c.args.room.options) (measure (options_of c.args.room.options) c.args.room.width)
    (tag_of c.args.tag.now) is (said_of c.args.block.now c.args.targets.now)) (seen_code c.in-Code.contents rest)
    ∙ ap (option_and_then
    (said (options_of c.args.room.options) (measure (options_of c.args.room.options) c.args.room.width)
    (tag_of c.args.tag.now) rest))
    (ap (λ xs. spanned (options_of c.args.room.options) (measure (options_of c.args.room.options) c.args.room.width)
    (tag_of c.args.tag.now) code
    (said (options_of c.args.room.options) (measure (options_of c.args.room.options) c.args.room.width)
    (within (tag_of c.args.tag.now)) (inlines_view xs)) (said_of c.args.block.now c.args.targets.now))
    (sym c.as_slice-in-Code.ensures.value) ∙ c.say_span-in-Code.ensures.narrow e code refl)

pub say_inline-returns-in-Strong-clause-done : goal.say_inline-returns-in-Strong-clause-done
unfolding chars
say_inline-returns-in-Strong-clause-done t c = on_ok_weaker c.say_span-in-Strong.result (λ h. λ rest.
    ap (λ v. said (options_of c.args.room.options) (measure (options_of c.args.room.options) c.args.room.width)
    (tag_of c.args.tag.now) (inline_view v rest) (said_of c.args.block.now c.args.targets.now)) c.in-Strong.is
    ∙ ap (λ is. said (options_of c.args.room.options) (measure (options_of c.args.room.options) c.args.room.width)
    (tag_of c.args.tag.now) is (said_of c.args.block.now c.args.targets.now))
    (seen_strong c.in-Strong.contents rest)
    ∙ ap (option_and_then
    (said (options_of c.args.room.options) (measure (options_of c.args.room.options) c.args.room.width)
    (tag_of c.args.tag.now) rest))
    (ap (λ xs. spanned (options_of c.args.room.options) (measure (options_of c.args.room.options) c.args.room.width)
    (tag_of c.args.tag.now) strong
    (said (options_of c.args.room.options) (measure (options_of c.args.room.options) c.args.room.width)
    (within (tag_of c.args.tag.now)) (inlines_view xs)) (said_of c.args.block.now c.args.targets.now))
    (sym c.as_slice-in-Strong.ensures.value) ∙ h strong refl)) c.say_span-in-Strong.ensures.done

pub say_inline-returns-in-Strong-clause-narrow : goal.say_inline-returns-in-Strong-clause-narrow
unfolding chars
say_inline-returns-in-Strong-clause-narrow t c = λ e. λ rest.
    ap (λ v. said (options_of c.args.room.options) (measure (options_of c.args.room.options) c.args.room.width)
    (tag_of c.args.tag.now) (inline_view v rest) (said_of c.args.block.now c.args.targets.now)) c.in-Strong.is
    ∙ ap (λ is. said (options_of c.args.room.options) (measure (options_of c.args.room.options) c.args.room.width)
    (tag_of c.args.tag.now) is (said_of c.args.block.now c.args.targets.now))
    (seen_strong c.in-Strong.contents rest)
    ∙ ap (option_and_then
    (said (options_of c.args.room.options) (measure (options_of c.args.room.options) c.args.room.width)
    (tag_of c.args.tag.now) rest))
    (ap (λ xs. spanned (options_of c.args.room.options) (measure (options_of c.args.room.options) c.args.room.width)
    (tag_of c.args.tag.now) strong
    (said (options_of c.args.room.options) (measure (options_of c.args.room.options) c.args.room.width)
    (within (tag_of c.args.tag.now)) (inlines_view xs)) (said_of c.args.block.now c.args.targets.now))
    (sym c.as_slice-in-Strong.ensures.value) ∙ c.say_span-in-Strong.ensures.narrow e strong refl)

pub say_span-returns-in_err-say-clause-narrow : goal.say_span-returns-in_err-say-clause-narrow
say_span-returns-in_err-say-clause-narrow t c = λ e. λ style f.
    let q = err_from_is_err_and c.from_residual-in_err-say.result c.from_residual-in_err-say.ensures.1 in
    let same : c.in_err-say.field-0.0 ≡ TooNarrow = cc (q.1, q.2, e) in
    span_by (options_of c.args.room.options) (measure (options_of c.args.room.options) c.args.room.width)
    (tag_of c.args.tag.now)
    (λ d. said (options_of c.args.room.options) (measure (options_of c.args.room.options) c.args.room.width) d
    (inlines_view c.args.contents.now)) (said_of c.args.block.now c.args.targets.now) style
    (chars c.shown_mark-mark.result.now) (tag_of c.in_ok-inner.inner) None None None
    (c.shown_mark-mark.ensures ∙ ap (λ cs. if c.args.room.options.decorates then cs
    else []) (sym f)) c.in_ok-inner.ensures
    (c.say.ensures.narrow c.args.targets.now (c.in_err-say.was ∙ ap Err same)) refl refl

pub say_span-returns-in_err-say_inlines-clause-narrow : goal.say_span-returns-in_err-say_inlines-clause-narrow
say_span-returns-in_err-say_inlines-clause-narrow t c = λ e. λ style f.
    let q = err_from_is_err_and c.from_residual-in_err-say_inlines.result c.from_residual-in_err-say_inlines.ensures.1
    in
    let same : c.in_err-say_inlines.field-0.0 ≡ TooNarrow = cc (q.1, q.2, e) in
    span_by (options_of c.args.room.options) (measure (options_of c.args.room.options) c.args.room.width)
    (tag_of c.args.tag.now)
    (λ d. said (options_of c.args.room.options) (measure (options_of c.args.room.options) c.args.room.width) d
    (inlines_view c.args.contents.now)) (said_of c.args.block.now c.args.targets.now) style
    (chars c.shown_mark-mark.result.now) (tag_of c.in_ok-inner.inner)
    (Some (said_of c.say.new.block c.args.targets.now)) None None
    (c.shown_mark-mark.ensures ∙ ap (λ cs. if c.args.room.options.decorates then cs
    else []) (sym f)) c.in_ok-inner.ensures
    (c.in_ok-say.ensures.done c.args.targets.now)
    (c.say_inlines.ensures.narrow (c.in_err-say_inlines.was ∙ ap Err same)) refl

pub say_span-returns-clause-done : goal.say_span-returns-clause-done
say_span-returns-clause-done t c = on_ok_weaker c.say-2.result (λ h. λ style f.
    span_by (options_of c.args.room.options) (measure (options_of c.args.room.options) c.args.room.width)
    (tag_of c.args.tag.now)
    (λ d. said (options_of c.args.room.options) (measure (options_of c.args.room.options) c.args.room.width) d
    (inlines_view c.args.contents.now)) (said_of c.args.block.now c.args.targets.now) style
    (chars c.shown_mark-mark.result.now) (tag_of c.in_ok-inner.inner)
    (Some (said_of c.say.new.block c.args.targets.now))
    (Some (said_of c.say_inlines.new.block c.say_inlines.new.targets))
    (Some (said_of c.say-2.new.block c.say_inlines.new.targets))
    (c.shown_mark-mark.ensures ∙ ap (λ cs. if c.args.room.options.decorates then cs
    else []) (sym f)) c.in_ok-inner.ensures
    (c.in_ok-say.ensures.done c.args.targets.now) c.in_ok-say_inlines.ensures.done h)
    (c.say-2.ensures.done c.say_inlines.new.targets)

pub say_span-returns-clause-narrow : goal.say_span-returns-clause-narrow
say_span-returns-clause-narrow t c = λ e. λ style f.
    span_by (options_of c.args.room.options) (measure (options_of c.args.room.options) c.args.room.width)
    (tag_of c.args.tag.now)
    (λ d. said (options_of c.args.room.options) (measure (options_of c.args.room.options) c.args.room.width) d
    (inlines_view c.args.contents.now)) (said_of c.args.block.now c.args.targets.now) style
    (chars c.shown_mark-mark.result.now) (tag_of c.in_ok-inner.inner)
    (Some (said_of c.say.new.block c.args.targets.now))
    (Some (said_of c.say_inlines.new.block c.say_inlines.new.targets)) None
    (c.shown_mark-mark.ensures ∙ ap (λ cs. if c.args.room.options.decorates then cs
    else []) (sym f)) c.in_ok-inner.ensures
    (c.in_ok-say.ensures.done c.args.targets.now) c.in_ok-say_inlines.ensures.done
    (c.say-2.ensures.narrow c.say_inlines.new.targets e)

pub say_link-returns-in_err-say-clause-narrow : goal.say_link-returns-in_err-say-clause-narrow
unfolding chars
say_link-returns-in_err-say-clause-narrow t c = λ e.
    let q = err_from_is_err_and c.from_residual-in_err-say.result c.from_residual-in_err-say.ensures.1 in
    let same : c.in_err-say.field-0.0 ≡ TooNarrow = cc (q.1, q.2, e) in
    link_by (options_of c.args.room.options) (measure (options_of c.args.room.options) c.args.room.width)
    (tag_of c.args.tag.now)
    (λ d. said (options_of c.args.room.options) (measure (options_of c.args.room.options) c.args.room.width) d
    (inlines_view c.args.contents.now)) (said_of c.args.block.now c.args.targets.now) _ (chars c.args.target.now)
    (tag_of c.in_ok-inner.inner) (said_of c.args.block.now c.push.new.self) None None None None
    (sym c.all_shallow.ensures ∙ c.if-all_shallow.false) c.in_ok-inner.ensures
    (target_noted _ (all_targets c.args.targets.now) (all_targets c.push.new.self) (chars c.args.target.now)
    c.in_ok-push.ensures.pushed)
    (c.say.ensures.narrow c.push.new.self (c.in_err-say.was ∙ ap Err same)) refl refl refl

pub say_link-returns-in_err-say_inlines-clause-narrow : goal.say_link-returns-in_err-say_inlines-clause-narrow
unfolding chars
say_link-returns-in_err-say_inlines-clause-narrow t c = λ e.
    let q = err_from_is_err_and c.from_residual-in_err-say_inlines.result c.from_residual-in_err-say_inlines.ensures.1
    in
    let same : c.in_err-say_inlines.field-0.0 ≡ TooNarrow = cc (q.1, q.2, e) in
    link_by (options_of c.args.room.options) (measure (options_of c.args.room.options) c.args.room.width)
    (tag_of c.args.tag.now)
    (λ d. said (options_of c.args.room.options) (measure (options_of c.args.room.options) c.args.room.width) d
    (inlines_view c.args.contents.now)) (said_of c.args.block.now c.args.targets.now) _ (chars c.args.target.now)
    (tag_of c.in_ok-inner.inner) (said_of c.args.block.now c.push.new.self)
    (Some (said_of c.say.new.block c.push.new.self)) None None None
    (sym c.all_shallow.ensures ∙ c.if-all_shallow.false)
    c.in_ok-inner.ensures (target_noted _ (all_targets c.args.targets.now) (all_targets c.push.new.self)
    (chars c.args.target.now) c.in_ok-push.ensures.pushed)
    (c.in_ok-say.ensures.done c.push.new.self)
    (c.say_inlines.ensures.narrow (c.in_err-say_inlines.was ∙ ap Err same)) refl refl

pub say_link-returns-in_err-say-2-clause-narrow : goal.say_link-returns-in_err-say-2-clause-narrow
unfolding chars
say_link-returns-in_err-say-2-clause-narrow t c = λ e.
    let q = err_from_is_err_and c.from_residual-in_err-say-2.result c.from_residual-in_err-say-2.ensures.1 in
    let same : c.in_err-say-2.field-0.0 ≡ TooNarrow = cc (q.1, q.2, e) in
    link_by (options_of c.args.room.options) (measure (options_of c.args.room.options) c.args.room.width)
    (tag_of c.args.tag.now)
    (λ d. said (options_of c.args.room.options) (measure (options_of c.args.room.options) c.args.room.width) d
    (inlines_view c.args.contents.now)) (said_of c.args.block.now c.args.targets.now) _ (chars c.args.target.now)
    (tag_of c.in_ok-inner.inner) (said_of c.args.block.now c.push.new.self)
    (Some (said_of c.say.new.block c.push.new.self))
    (Some (said_of c.say_inlines.new.block c.say_inlines.new.targets)) None None
    (sym c.all_shallow.ensures ∙ c.if-all_shallow.false)
    c.in_ok-inner.ensures (target_noted _ (all_targets c.args.targets.now) (all_targets c.push.new.self)
    (chars c.args.target.now) c.in_ok-push.ensures.pushed)
    (c.in_ok-say.ensures.done c.push.new.self) c.in_ok-say_inlines.ensures.done
    (c.say-2.ensures.narrow c.say_inlines.new.targets (c.in_err-say-2.was ∙ ap Err same)) refl

pub say_link-returns-clause-done : goal.say_link-returns-clause-done
unfolding chars
say_link-returns-clause-done t c = on_ok_weaker c.say_number.result (λ h.
    link_by (options_of c.args.room.options) (measure (options_of c.args.room.options) c.args.room.width)
    (tag_of c.args.tag.now)
    (λ d. said (options_of c.args.room.options) (measure (options_of c.args.room.options) c.args.room.width) d
    (inlines_view c.args.contents.now)) (said_of c.args.block.now c.args.targets.now) _ (chars c.args.target.now)
    (tag_of c.in_ok-inner.inner) (said_of c.args.block.now c.push.new.self)
    (Some (said_of c.say.new.block c.push.new.self))
    (Some (said_of c.say_inlines.new.block c.say_inlines.new.targets))
    (Some (said_of c.say-2.new.block c.say_inlines.new.targets))
    (Some (said_of c.say_number.new.block c.say_number.new.targets))
    (sym c.all_shallow.ensures ∙ c.if-all_shallow.false)
    c.in_ok-inner.ensures (target_noted _ (all_targets c.args.targets.now) (all_targets c.push.new.self)
    (chars c.args.target.now) c.in_ok-push.ensures.pushed)
    (c.in_ok-say.ensures.done c.push.new.self) c.in_ok-say_inlines.ensures.done
    (c.in_ok-say-2.ensures.done c.say_inlines.new.targets) h) c.say_number.ensures.done

pub say_link-returns-clause-narrow : goal.say_link-returns-clause-narrow
unfolding chars
say_link-returns-clause-narrow t c = λ e.
    link_by (options_of c.args.room.options) (measure (options_of c.args.room.options) c.args.room.width)
    (tag_of c.args.tag.now)
    (λ d. said (options_of c.args.room.options) (measure (options_of c.args.room.options) c.args.room.width) d
    (inlines_view c.args.contents.now)) (said_of c.args.block.now c.args.targets.now) _ (chars c.args.target.now)
    (tag_of c.in_ok-inner.inner) (said_of c.args.block.now c.push.new.self)
    (Some (said_of c.say.new.block c.push.new.self))
    (Some (said_of c.say_inlines.new.block c.say_inlines.new.targets))
    (Some (said_of c.say-2.new.block c.say_inlines.new.targets)) None
    (sym c.all_shallow.ensures ∙ c.if-all_shallow.false)
    c.in_ok-inner.ensures (target_noted _ (all_targets c.args.targets.now) (all_targets c.push.new.self)
    (chars c.args.target.now) c.in_ok-push.ensures.pushed)
    (c.in_ok-say.ensures.done c.push.new.self) c.in_ok-say_inlines.ensures.done
    (c.in_ok-say-2.ensures.done c.say_inlines.new.targets) (c.say_number.ensures.narrow e)
