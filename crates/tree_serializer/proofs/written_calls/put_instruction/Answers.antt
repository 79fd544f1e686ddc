use Rattle.std.proofs.Common.{chars, sym, ◌∙◌}
use Rattle.std.proofs.lemmas.Result.{err_from_is_err_and}
use Rattle.tree_serializer.specs.Calls.{instruction_of}
use Rattle.tree_serializer.specs.Entries.{entries_of}
use Rattle.tree_serializer.specs.Escapes.{instruction_text}
use Rattle.tree_serializer.proofs.MeansLemmas.{plain_cut, plain_done, plain_silent, instruction_outcome}
use Rattle.tree_serializer.proofs.written_calls.put_instruction.Goals as goal

pub returns-then-is_silent : goal.returns-then-is_silent
returns-then-is_silent g c = λ scripting makes.
    plain_silent scripting makes
    (entries_of c.args.entries.now) (g.W.ByteWriter.contents c.args.writer.now)
    (g.W.ByteWriter.has_failed c.args.writer.now) (instruction_of (chars c.args.target.now) (chars c.args.contents.now))
    (instruction_text (chars c.args.target.now) (chars c.args.contents.now))
    (instruction_outcome scripting makes (entries_of c.args.entries.now) (g.W.ByteWriter.contents c.args.writer.now)
    (g.W.ByteWriter.has_failed c.args.writer.now) (chars c.args.target.now) (chars c.args.contents.now))
    (sym (c.is_silent.ensures) ∙ c.if-is_silent.true)

pub returns-in_err-write_instruction : goal.returns-in_err-write_instruction
returns-in_err-write_instruction g c = λ scripting makes.
    let p = err_from_is_err_and c.from_residual.result c.from_residual.ensures.1 in
    plain_cut scripting makes
    (entries_of c.args.entries.now) (g.W.ByteWriter.contents c.args.writer.now)
    (g.W.ByteWriter.contents c.write_instruction.new.writer) (g.W.ByteWriter.has_failed c.args.writer.now)
    (g.W.ByteWriter.has_failed c.write_instruction.new.writer)
    (instruction_of (chars c.args.target.now) (chars c.args.contents.now))
    (instruction_text (chars c.args.target.now) (chars c.args.contents.now)) c.from_residual.result p.0 p.1 p.2
    (instruction_outcome scripting makes (entries_of c.args.entries.now) (g.W.ByteWriter.contents c.args.writer.now)
    (g.W.ByteWriter.has_failed c.args.writer.now) (chars c.args.target.now) (chars c.args.contents.now))
    (sym (c.is_silent.ensures) ∙ c.if-is_silent.false)
    c.in_err-write_instruction.ensures.part c.in_err-write_instruction.ensures.failed

pub returns : goal.returns
returns g c = λ scripting makes.
    plain_done scripting makes
    (entries_of c.args.entries.now) (g.W.ByteWriter.contents c.args.writer.now)
    (g.W.ByteWriter.contents c.write_instruction.new.writer) (g.W.ByteWriter.has_failed c.args.writer.now)
    (g.W.ByteWriter.has_failed c.write_instruction.new.writer)
    (instruction_of (chars c.args.target.now) (chars c.args.contents.now))
    (instruction_text (chars c.args.target.now) (chars c.args.contents.now))
    (instruction_outcome scripting makes (entries_of c.args.entries.now) (g.W.ByteWriter.contents c.args.writer.now)
    (g.W.ByteWriter.has_failed c.args.writer.now) (chars c.args.target.now) (chars c.args.contents.now))
    (sym (c.is_silent.ensures) ∙ c.if-is_silent.false)
    c.in_ok-write_instruction.ensures.ok c.in_ok-write_instruction.ensures.stays
