-- Texts, with and without characters.
use Rattle.std.proofs.Common.{◌≡◌, [], ◌∷◌, ◌==◌, ◌∙◌, FitsSigned, IsUtf8, List, ap, arith, chars, encode_utf8_all}
use Rattle.std.proofs.Common.{false, length, refl, sym, true, ℕ, ℤ}
use Rattle.std.specs.Fmt.{signed_decimal}
use Rattle.std.specs.Int.{cast_signed, cast_unsigned, w64}
use Rattle.std.proofs.lemmas.Fmt.{IsAscii-signed}
use Rattle.std.proofs.lemmas.Int.{to_z-of_z, ints}
use Rattle.std.proofs.lemmas.Bool.{eqb-true}
use Rattle.std.proofs.lemmas.List.{nil_from_length}
use Rattle.std.proofs.lemmas.Str.{chars-IsAscii, chars-nil, encodes-chars}
use Rattle.tree_serializer.specs.Calls.{Call, text_run}
use Rattle.article_values.specs.Articles.{Inlines, words}
use Rattle.article_writing.specs.Contents.{content_of_inlines}
use Rattle.written_document_laws.specs.Emissions.{calls_and, text_content}

pub empty_calls : (bs : List ℕ) (more : List Call) → (length bs == 0) ≡ true →
    calls_and (text_content (chars bs)) more ≡ more
empty_calls bs more e =
    ap (λ cs. calls_and (text_content cs) more) (ap chars (nil_from_length bs (eqb-true (length bs) 0 e)) ∙ chars-nil)

pub some_calls : (bs : List ℕ) (more : List Call) → IsUtf8 bs → (length bs == 0) ≡ false →
    calls_and (text_content (chars bs)) more ≡ text_run (chars bs) ∷ more
some_calls bs more u e = by (chars bs) refl where
  by : (cs : List ℕ) → chars bs ≡ cs → calls_and (text_content cs) more ≡ text_run cs ∷ more
  by [] k = absurd (let bytes : bs ≡ [] = sym (encodes-chars bs u) ∙ ap encode_utf8_all k in
      let wrong : true ≡ false = sym (ap (λ xs. length xs == 0) bytes) ∙ e in cc)
  by (c ∷ cs) k = refl

pub text_calls : (cs : List ℕ) (rest : Inlines) (more : List Call) → calls_and (content_of_inlines (words cs rest)) more
    ≡ calls_and (text_content cs) (calls_and (content_of_inlines rest) more)
text_calls [] rest more = refl
text_calls (c ∷ cs) rest more = refl

pub number_chars : (z : ℤ) (bs : List ℕ) → FitsSigned w64 z →
    bs ≡ signed_decimal (cast_signed w64 (cast_unsigned w64 z)) → chars bs ≡ signed_decimal z
number_chars z bs fits e = ap chars (e ∙ ap signed_decimal (to_z-of_z w64 z fits))
    ∙ chars-IsAscii (signed_decimal z) (IsAscii-signed z (omega (arith, ints)))
