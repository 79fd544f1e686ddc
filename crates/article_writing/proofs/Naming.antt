-- Names of elements and attributes.
use Rattle.std.proofs.Common.{◌≡◌, ℕ, ◌+◌, ◌<◌, List, [], ◌∷◌, ◌++◌, ap, ◌∙◌, arith}
use Rattle.std.specs.Prelude.{IsUtf8, chars, encode_utf8}
use Rattle.std.specs.Char.{IsScalar}
use Rattle.std.proofs.lemmas.List.Elements.{All-cons, All-nil}
use Rattle.std.proofs.lemmas.Str.{chars-IsAscii, chars-append}
use Rattle.std.proofs.lemmas.Str.Ascii.{IsAscii-from_all}
use Rattle.lex_base.proofs.TextFronts.{chars-encode}
use Rattle.html_lexemes.specs.declared.names.Attribute.{Attribute}
use Rattle.html_lexemes.specs.declared.names.Namespace.TheVariants.{Other}
use Rattle.html_lexemes.specs.declared.names.QualName.{QualName}
use Rattle.document_laws.specs.Contents.{in_no_namespace}
use Rattle.article_writing.specs.Contents.{heading_name}

abbrev attribute_of : QualName → List ℕ → Attribute
attribute_of q text = record { name = q; value = text }

abbrev name_in : List ℕ → List ℕ → QualName
name_in ns local = record { ns = Other ns; local = local }

pub attribute_is : (q : QualName) (ns local text name value : List ℕ) → q ≡ name_in ns local →
    ns ≡ [] → local ≡ name → text ≡ value → attribute_of q text ≡ in_no_namespace name value
attribute_is q ns local text name value made none same given =
    ap (λ n. attribute_of n text) made
    ∙ ap (λ n. attribute_of (name_in n local) text) none
    ∙ ap (λ n. attribute_of (name_in [] n) text) same
    ∙ ap (λ v. attribute_of (name_in [] name) v) given

one_letter : chars (104 ∷ []) ≡ 104 ∷ []
one_letter = chars-IsAscii (104 ∷ []) (IsAscii-from_all (104 ∷ [])
    (All-cons (λ b. b < 128) 104 [] (omega arith) (All-nil (λ b. b < 128))))

pub heading_is : (old new : List ℕ) (digit level : ℕ) → IsUtf8 old → old ≡ 104 ∷ [] → new ≡ old ++ encode_utf8 digit →
    IsScalar digit → digit ≡ 48 + level → chars new ≡ heading_name level
heading_is old new digit level utf8 h pushed scalar same =
    ap chars pushed ∙ chars-append old (encode_utf8 digit) utf8
    ∙ ap (λ cs. chars old ++ cs) (chars-encode digit scalar)
    ∙ ap (λ bs. chars bs ++ digit ∷ []) h ∙ ap (λ cs. cs ++ digit ∷ []) one_letter
    ∙ ap (λ d. 104 ∷ d ∷ []) same
