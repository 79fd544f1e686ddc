use Rattle.std.proofs.Common.{[], ◌∷◌, Some, ap, subst, ◌∙◌, string_bytes, OnOk, true}
use Rattle.std.proofs.lemmas.Str.{IsUtf8-string_bytes}
use Rattle.std.specs.Fmt.{AppendsText, digits, option_append}
use Rattle.test_fields.specs.Escapes.{code_of}
use Rattle.test_fields.proofs.AddedLemmas.{code_reads, is_added}
use Rattle.test_fields.proofs.escapes.push_code.Goals as goal

pub returns : goal.returns
returns c =
    let old = string_bytes c.args.line.now in
    let new = string_bytes c.write.new.self in
    is_added c.write.result old new (code_of c.args.c) (code_of c.args.c) (IsUtf8-string_bytes c.args.line.now)
    (code_reads c.args.c)
    (subst (λ o. OnOk c.write.result (AppendsText old new
    (option_append (Some (92 ∷ 117 ∷ 123 ∷ [])) (option_append o (Some (125 ∷ []))))))
    (c.in_radix.ensures ∙ ap (λ n. Some (digits 16 true n)) c.from.ensures) c.write.ensures.bytes)
