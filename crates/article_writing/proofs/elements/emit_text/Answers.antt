use Rattle.std.proofs.Common.{List, ◌∷◌, refl, sym, ◌∙◌, chars}
use Rattle.article_writing.proofs.Emitting.{one_emitted, reemitted}
use Rattle.article_writing.proofs.Texts.{empty_calls, some_calls}
use Rattle.std.specs.Prelude.{Ok, Result}
use Rattle.tree_serializer.specs.Calls.{Call, text_run}
use Rattle.tree_serializer.specs.declared.fault.SerializeFault.{SerializeFault}
use Rattle.article_writing.specs.Emits.{Emits}
use Rattle.written_document_laws.specs.Emissions.{calls_and, text_content}
use Rattle.article_writing.proofs.elements.emit_text.Goals as goal

pub returns-then-is_empty : goal.returns-then-is_empty
returns-then-is_empty g c =
    let same : List Call → List Call = λ more. more in
    let means = g.S.Serializer.means in
    let s = g.S.Serializer.seen c.args.serializer.now in
    let done : Result (Unit {0}) SerializeFault = Ok tt in
    let nothing : Emits {X = List Call} means s s done same same = λ more reply end h. h in
    reemitted means s s done same same (λ more. calls_and (text_content (chars c.args.text.now)) more) same same
    (λ more. empty_calls c.args.text.now more (sym c.is_empty.ensures ∙ c.if-is_empty.true)) (λ more. refl) nothing

pub returns : goal.returns
returns g c =
    let same : List Call → List Call = λ more. more in
    let emitted : List Call → List Call = λ more. text_run (chars c.args.text.now) ∷ more in
    reemitted g.S.Serializer.means _ _ _ emitted same (λ more. calls_and (text_content (chars c.args.text.now)) more)
    same
    same
    (λ more. some_calls c.args.text.now more c.utf8.text (sym c.is_empty.ensures ∙ c.if-is_empty.false))
    (λ more. refl)
    (one_emitted g.S.Serializer.means _ _ (text_run (chars c.args.text.now)) same _ c.write_text.ensures)
