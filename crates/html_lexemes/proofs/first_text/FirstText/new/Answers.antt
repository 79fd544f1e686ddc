use Rattle.std.proofs.Common.{string_bytes}
use Rattle.std.proofs.lemmas.Str.{IsUtf8-string_bytes, IsCharBoundary-start}
use Rattle.html_lexemes.proofs.first_text.FirstText.new.Goals as goal

pub invariant_of-result : goal.invariant_of-result
invariant_of-result c = IsCharBoundary-start (string_bytes c.args.text) (IsUtf8-string_bytes c.args.text)
