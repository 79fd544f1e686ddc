-- What is asked for is written in one way.
use Rattle.std.proofs.Common.{◌≡◌, ℕ, Bool, true, false, List, sym, subst, ◌∙◌}
use Rattle.command_line.specs.CommandWords.{Asked}
use Rattle.lex_base.specs.References.{References}
use Rattle.html2text.specs.Written.{EitherLook, IsSetting}
use Rattle.page_config.proofs.SeenSettings.{AreAlike, answers_alike, texts_alike}
use Rattle.page_config.specs.PageAnswers.{HasAnswer, HasText, PageAnswer, fail, lines, too_narrow}
use Rattle.html_render_tree.specs.PageLaws.{IsTextWithin}
use Rattle.html_render_tree.specs.PlainText.{plain_closes, plain_marking}
use Rattle.page_config.specs.RichPages.{HasRichAnswer, HasRichText}
use Rattle.html_render_tree.specs.RichText.{rich_closes, rich_marking}
use Rattle.page_config.specs.Settings.{PageSetting}
use Rattle.text_decorators.specs.Annotations.{rich_tag}

pub asked_alike : (asked : Asked) (names : References) (c d : PageSetting (Unit {0})) → IsSetting asked names c
    → IsSetting asked names d → AreAlike c d
asked_alike asked names c d p q = record {
  table = p.table ∙ sym q.table;
  parsing = p.parsing ∙ sym q.parsing;
  conversion = p.conversion ∙ sym q.conversion;
  rules = p.rules ∙ sym q.rules;
  options = p.options ∙ sym q.options;
  min_wrap = p.min_wrap ∙ sym q.min_wrap;
}

-- by one setting there is one text, and one answer
abbrev PlainText : PageSetting (Unit {0}) → ℕ → (bytes text : List ℕ) → Type 0
PlainText c width bytes text = HasText plain_marking (λ _. tt) plain_closes c width bytes text

abbrev PlainAnswer : PageSetting (Unit {0}) → ℕ → (bytes : List ℕ) → PageAnswer (Unit {0}) → Type 0
PlainAnswer c width bytes answer = HasAnswer plain_marking (λ _. tt) plain_closes c width bytes answer

abbrev pub OneText : (PageSetting (Unit {0}) → ℕ → (bytes text : List ℕ) → Type 0) → Type 0
OneText Has = (c : PageSetting (Unit {0})) (width : ℕ) (bytes one other : List ℕ) → Has c width bytes one
    → Has c width bytes other → one ≡ other

abbrev pub OneAnswer : {A : Type 0} → (PageSetting (Unit {0}) → ℕ → (bytes : List ℕ) → PageAnswer A → Type 0) → Type 0
OneAnswer {A} Has = (c : PageSetting (Unit {0})) (width : ℕ) (bytes : List ℕ) (one other : PageAnswer A)
    → Has c width bytes one → Has c width bytes other → one ≡ other

pub one_look : (rich : Bool) (c d : PageSetting (Unit {0})) (width : ℕ) (bytes one other : List ℕ) → AreAlike c d
    → OneText HasRichText → OneText PlainText
    → EitherLook rich (HasRichText c width bytes one) (PlainText c width bytes one)
    → EitherLook rich (HasRichText d width bytes other) (PlainText d width bytes other) → one ≡ other
one_look true c d width bytes one other alike riches plains first second =
    riches d width bytes one other (texts_alike rich_marking rich_tag rich_closes c d alike width bytes one first)
    second
one_look false c d width bytes one other alike riches plains first second =
    plains d width bytes one other (texts_alike plain_marking (λ _. tt) plain_closes c d alike width bytes one first)
    second

-- ---- what holds of rich and of plain text holds of what is asked for

pub look_within : (rich : Bool) (c : PageSetting (Unit {0})) (width : ℕ) (bytes text : List ℕ)
    → (HasRichText c width bytes text → IsTextWithin width text) →
    (PlainText c width bytes text → IsTextWithin width text)
    → EitherLook rich (HasRichText c width bytes text) (PlainText c width bytes text) → IsTextWithin width text
look_within true c width bytes text riches plains has = riches has
look_within false c width bytes text riches plains has = plains has

-- ---- answers of two kinds exclude one another

abbrev HasLines : {A : Type 0} → PageAnswer A → Type 0
HasLines (lines shown) = Unit {0}
HasLines too_narrow = ⊥
HasLines fail = ⊥

abbrev IsNarrow : {A : Type 0} → PageAnswer A → Type 0
IsNarrow (lines shown) = ⊥
IsNarrow too_narrow = Unit {0}
IsNarrow fail = ⊥

pub text_or_narrow : (rich : Bool) (c d : PageSetting (Unit {0})) (width : ℕ) (bytes text : List ℕ) → AreAlike c d
    → OneAnswer HasRichAnswer → OneAnswer PlainAnswer
    → EitherLook rich (HasRichText c width bytes text) (PlainText c width bytes text)
    → EitherLook rich (HasRichAnswer d width bytes too_narrow) (PlainAnswer d width bytes too_narrow) → ⊥
text_or_narrow true c d width bytes text alike riches plains first second =
    subst HasLines (riches d width bytes (lines first.shown) too_narrow
    (answers_alike rich_marking rich_tag rich_closes c d alike width bytes (lines first.shown) first.answer) second) tt
text_or_narrow false c d width bytes text alike riches plains first second =
    subst HasLines (plains d width bytes (lines first.shown) too_narrow
    (answers_alike plain_marking (λ _. tt) plain_closes c d alike width bytes (lines first.shown) first.answer) second)
    tt

pub text_or_none : (rich : Bool) (c d : PageSetting (Unit {0})) (width : ℕ) (bytes text : List ℕ) → AreAlike c d
    → OneAnswer HasRichAnswer → OneAnswer PlainAnswer
    → EitherLook rich (HasRichText c width bytes text) (PlainText c width bytes text)
    → EitherLook rich (HasRichAnswer d width bytes fail) (PlainAnswer d width bytes fail) → ⊥
text_or_none true c d width bytes text alike riches plains first second =
    subst HasLines (riches d width bytes (lines first.shown) fail
    (answers_alike rich_marking rich_tag rich_closes c d alike width bytes (lines first.shown) first.answer) second) tt
text_or_none false c d width bytes text alike riches plains first second =
    subst HasLines (plains d width bytes (lines first.shown) fail
    (answers_alike plain_marking (λ _. tt) plain_closes c d alike width bytes (lines first.shown) first.answer) second)
    tt

pub narrow_or_none : (rich : Bool) (c d : PageSetting (Unit {0})) (width : ℕ) (bytes : List ℕ) → AreAlike c d
    → OneAnswer HasRichAnswer → OneAnswer PlainAnswer
    → EitherLook rich (HasRichAnswer c width bytes too_narrow) (PlainAnswer c width bytes too_narrow)
    → EitherLook rich (HasRichAnswer d width bytes fail) (PlainAnswer d width bytes fail) → ⊥
narrow_or_none true c d width bytes alike riches plains first second =
    subst IsNarrow (riches d width bytes too_narrow fail
    (answers_alike rich_marking rich_tag rich_closes c d alike width bytes too_narrow first) second) tt
narrow_or_none false c d width bytes alike riches plains first second =
    subst IsNarrow (plains d width bytes too_narrow fail
    (answers_alike plain_marking (λ _. tt) plain_closes c d alike width bytes too_narrow first) second) tt
