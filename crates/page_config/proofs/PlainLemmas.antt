-- What a page is as plain text, of what was made of it by the decorator of plain text.
use Rattle.std.proofs.Common.{◌∙◌, Global, IfOk, IfSome, List, None, Option, Some, String, chars, refl, string_bytes}
use Rattle.std.proofs.Common.{sym, ℕ}
use Rattle.std.specs.Prelude.{Err, Ok, Result}
use Rattle.lex_base.specs.References.{References}
use Rattle.page_config.proofs.SeenSettings.{AreAlike}
use Rattle.page_config.specs.PageAnswers.{Answers, IsEmitted, PageAnswer}
use Rattle.page_config.specs.PlainPages.{HasPlainAnswer, HasPlainText, IsPlain, plain_view}
use Rattle.page_config.specs.Settings.{PageSetting}

-- configurations of plain text are seen alike
pub plain_alike : (table : References) (c d : PageSetting (Unit {0})) → IsPlain table c → IsPlain table d → AreAlike c d
plain_alike table c d p q = record {
  table = p.table ∙ sym q.table;
  parsing = p.parsing ∙ sym q.parsing;
  conversion = p.conversion ∙ sym q.conversion;
  rules = p.rules ∙ sym q.rules;
  options = p.options ∙ sym q.options;
  min_wrap = p.min_wrap ∙ sym q.min_wrap;
}

-- annotations of plain text are seen in one way
plain_emitted : (table : References) (c : PageSetting (Unit {0})) (width : ℕ) (all : Option (List ℕ)) (emitted : List ℕ)
    → IsPlain table c
    → IfSome all (λ bytes. IsEmitted {A = Unit {0}} (λ _. tt) plain_view c width bytes emitted)
    → IfSome all (λ bytes. HasPlainText table width bytes emitted)
plain_emitted table c width None emitted plain is = tt
plain_emitted table c width (Some bytes) emitted plain is = record {
  setting = c;
  plain = plain;
  has = is (λ _ _. tt) (λ h m a given. refl);
}

pub plain_answer : (table : References) (c : PageSetting (Unit {0})) (width : ℕ) (all : Option (List ℕ))
    (answer : PageAnswer (Unit {0})) → IsPlain table c
    → IfSome all (λ bytes. Answers {A = Unit {0}} (λ _. tt) plain_view c width bytes answer)
    → IfSome all (λ bytes. HasPlainAnswer table width bytes answer)
plain_answer table c width None answer plain is = tt
plain_answer table c width (Some bytes) answer plain is = record {
  setting = c;
  plain = plain;
  has = is (λ _ _. tt) (λ h m a given. refl);
}

pub emitted_text : {E : Type 0} (table : References) (c : PageSetting (Unit {0})) (width : ℕ) (all : Option (List ℕ))
    (r : Result (String Global) E) → IsPlain table c
    → IfOk r (λ text. IfSome all (λ bytes. IsEmitted {A = Unit {0}} (λ _. tt) plain_view c width bytes
    (chars (string_bytes text))))
    → IfOk r (λ text. IfSome all (λ bytes. HasPlainText table width bytes (chars (string_bytes text))))
emitted_text table c width all (Ok text) plain is = plain_emitted table c width all (chars (string_bytes text)) plain is
emitted_text table c width all (Err e) plain is = tt
