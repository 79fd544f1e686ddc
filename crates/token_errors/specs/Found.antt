-- What contracts say of parse errors: those that were found and are not emitted yet, and what may come to one.
use Rattle.std.specs.Prelude.{ℕ, Bool, true, false, ◌≡◌, ◌==◌, ◌&&◌, ◌||◌, List, [], ◌∷◌, ◌++◌}
use Rattle.std.specs.Option.{is_some}
use Rattle.html_lexemes.specs.declared.states.RawKind.{RawKind}
use Rattle.html_lexemes.specs.declared.states.RawKind.TheVariants.{ScriptDataEscaped}
use Rattle.html_lexemes.specs.declared.states.State.{State}
use Rattle.html_lexemes.specs.declared.states.State.TheVariants.{CdataSection, CdataSectionBracket, CdataSectionEnd}
use Rattle.html_lexemes.specs.declared.states.State.TheVariants.{RawData, RawEndTagName, RawEndTagOpen, RawLessThanSign}
use Rattle.html_lexemes.specs.declared.states.State.TheVariants.{ScriptDataDoubleEscapeEnd, ScriptDataEscapeStart}
use Rattle.html_lexemes.specs.declared.states.State.TheVariants.{ScriptDataEscapedDash, ScriptDataEscapedDashDash}
use Rattle.html_lexemes.specs.declared.states.ScriptEscapeKind.TheVariants.{DoubleEscaped}
use Rattle.token_errors.specs.Noncharacters.{is_noncharacter}
use Rattle.token_errors.specs.declared.errors.FoundError.{FoundError}
use Rattle.token_errors.specs.declared.errors.ParseErrors.{ParseErrors}

abbrev pub found_of : ParseErrors → List FoundError
found_of errors = errors.found.items

-- the wording is exact
abbrev pub is_exact : ParseErrors → Bool
is_exact errors = errors.exact

-- an unknown name after `&` is read, which `;` makes an error
abbrev pub is_watching : ParseErrors → Bool
is_watching errors = is_some errors.watched

-- a character of text matters: NUL, any while a name is watched, and with exact wording a control or noncharacter
abbrev pub heeds : ParseErrors → ℕ → Bool
heeds errors c = c == 0 || is_watching errors || (is_exact errors && is_noncharacter c)

-- the errors that were found before come first, in their order, and the wording is as it was
pub record GoesOn (before trailing : ParseErrors) : Type 0 where
  pub wording : is_exact trailing ≡ is_exact before
  pub more : List FoundError
  pub order : found_of trailing ≡ found_of before ++ more

-- one more error is found, on a line
pub record HasOneMore (before : ParseErrors) (line : ℕ) (trailing : ParseErrors) : Type 0 where
  pub error : FoundError
  pub order : found_of trailing ≡ found_of before ++ error ∷ []
  pub on_line : error.line ≡ line

-- text of a script within `<!--`
abbrev pub is_escaped : RawKind → Bool
is_escaped (ScriptDataEscaped _) = true
is_escaped _ = false

-- the end of the page is an error in a CDATA section, and in the text of a script within `<!--`
abbrev pub is_error_at_end : State → Bool
is_error_at_end CdataSection = true
is_error_at_end CdataSectionBracket = true
is_error_at_end CdataSectionEnd = true
is_error_at_end (ScriptDataEscapeStart DoubleEscaped) = true
is_error_at_end ScriptDataDoubleEscapeEnd = true
is_error_at_end (ScriptDataEscapedDash _) = true
is_error_at_end (ScriptDataEscapedDashDash _) = true
is_error_at_end (RawData kind) = is_escaped kind
is_error_at_end (RawLessThanSign kind) = is_escaped kind
is_error_at_end (RawEndTagOpen kind) = is_escaped kind
is_error_at_end (RawEndTagName kind) = is_escaped kind
is_error_at_end _ = false
