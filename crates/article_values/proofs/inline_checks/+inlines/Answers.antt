use Rattle.std.proofs.Common.{refl, ap, ◌∙◌, chars, string_bytes, Err}
use Rattle.std.proofs.lemmas.List.{at_drop_all}
use Rattle.std.proofs.lemmas.Result.{err_from_is_err_and}
use Rattle.article_values.specs.Articles.{bold, code, emphasis, italic, strong}
use Rattle.article_values.specs.Outcomes.{fault_met}
use Rattle.article_values.specs.Views.{inline_view}
use Rattle.article_values.proofs.Turns.{ends, goes_on, link_case, seen_bold, seen_code, seen_emphasis, seen_italic}
use Rattle.article_values.proofs.Turns.{seen_link, seen_strong, span_case, stops}
use Rattle.article_values.proofs.inline_checks.+inlines.Goals as goal

pub check_inline-returns-in-Bold : goal.check_inline-returns-in-Bold
check_inline-returns-in-Bold t c = λ rest. span_case c.args.inline.now c.args.depth c.args.in_link c.args.after_text
    c.in-Bold.contents.items c.as_slice.result.now bold (fault_met c.check_span.result) rest
    (λ r. ap (λ v. inline_view v r) c.in-Bold.is ∙ seen_bold c.in-Bold.contents r)
    c.as_slice.ensures.value c.check_span.ensures

pub check_inline-returns-in-Italic : goal.check_inline-returns-in-Italic
check_inline-returns-in-Italic t c = λ rest. span_case c.args.inline.now c.args.depth c.args.in_link
    c.args.after_text c.in-Italic.contents.items c.as_slice-in-Italic.result.now italic
    (fault_met c.check_span-in-Italic.result) rest
    (λ r. ap (λ v. inline_view v r) c.in-Italic.is ∙ seen_italic c.in-Italic.contents r)
    c.as_slice-in-Italic.ensures.value c.check_span-in-Italic.ensures

pub check_inline-returns-in-Emphasis : goal.check_inline-returns-in-Emphasis
check_inline-returns-in-Emphasis t c = λ rest. span_case c.args.inline.now c.args.depth c.args.in_link
    c.args.after_text c.in-Emphasis.contents.items c.as_slice-in-Emphasis.result.now emphasis
    (fault_met c.check_span-in-Emphasis.result) rest
    (λ r. ap (λ v. inline_view v r) c.in-Emphasis.is ∙ seen_emphasis c.in-Emphasis.contents r)
    c.as_slice-in-Emphasis.ensures.value c.check_span-in-Emphasis.ensures

pub check_inline-returns-in-Code : goal.check_inline-returns-in-Code
check_inline-returns-in-Code t c = λ rest. span_case c.args.inline.now c.args.depth c.args.in_link
    c.args.after_text c.in-Code.contents.items c.as_slice-in-Code.result.now code
    (fault_met c.check_span-in-Code.result) rest
    (λ r. ap (λ v. inline_view v r) c.in-Code.is ∙ seen_code c.in-Code.contents r)
    c.as_slice-in-Code.ensures.value c.check_span-in-Code.ensures

pub check_inline-returns-in-Strong : goal.check_inline-returns-in-Strong
check_inline-returns-in-Strong t c = λ rest. span_case c.args.inline.now c.args.depth c.args.in_link
    c.args.after_text c.in-Strong.contents.items c.as_slice-in-Strong.result.now strong
    (fault_met c.check_span-in-Strong.result) rest
    (λ r. ap (λ v. inline_view v r) c.in-Strong.is ∙ seen_strong c.in-Strong.contents r)
    c.as_slice-in-Strong.ensures.value c.check_span-in-Strong.ensures

pub check_inline-returns-in-Link : goal.check_inline-returns-in-Link
check_inline-returns-in-Link t c = λ rest. link_case c.args.inline.now c.args.depth c.args.in_link
    c.args.after_text (chars (string_bytes c.in-Link.target)) (chars c.as_str-in-Link.result.now)
    c.in-Link.contents.items
    c.as_slice-in-Link.result.now (fault_met c.check_link.result) rest
    (λ r. ap (λ v. inline_view v r) c.in-Link.is ∙ seen_link c.in-Link.contents r c.in-Link.target)
    c.as_slice-in-Link.ensures.value (ap chars c.as_str-in-Link.ensures.value)
    c.check_link.ensures

pub check_inlines-inlines-init : goal.check_inlines-inlines-init
check_inlines-inlines-init t c = refl

pub check_inlines-returns-in_err-check_inline : goal.check_inlines-returns-in_err-check_inline
check_inlines-returns-in_err-check_inline t c =
    let p = err_from_is_err_and c.from_residual.result c.from_residual.ensures.1 in
    ap fault_met (p.1 ∙ ap Err p.2)
    ∙ stops c.args.depth c.args.in_link c.args.inlines.now c.inlines.inline-index c.inlines.after_text
    c.inline-item.result (fault_met c.check_inline.result) c.inlines.invariant c.inlines-test.true c.inline-item.is
    c.check_inline.ensures c.in_err-check_inline.field-0.0 (ap fault_met c.in_err-check_inline.was)

pub check_inlines-inlines-preserved : goal.check_inlines-inlines-preserved
check_inlines-inlines-preserved t c =
    goes_on c.args.depth c.args.in_link c.args.inlines.now c.inlines.inline-index c.inlines.after_text
    c.inline-item.result (fault_met c.check_inline.result) c.inlines.invariant c.inlines-test.true c.inline-item.is
    c.check_inline.ensures c.is_text-after_text.result (ap fault_met c.in_ok-check_inline.was)
    c.is_text-after_text.ensures

pub check_inlines-returns : goal.check_inlines-returns
check_inlines-returns t c = ends c.args.depth c.args.in_link c.args.inlines.now c.inlines.inline-index
    c.inlines.after_text c.inlines.invariant
    (at_drop_all (λ xs. xs) c.args.inlines.now c.inlines.inline-index c.inlines-test.false)
