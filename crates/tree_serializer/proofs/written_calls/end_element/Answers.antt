use Rattle.std.proofs.Common.{[], Bool, Err, false, refl, true}
use Rattle.std.proofs.lemmas.Result.{err_from_is_err_and}
use Rattle.tree_serializer.specs.Calls.{finish}
use Rattle.tree_serializer.specs.Entries.{IsClosed, entries_of}
use Rattle.tree_serializer.specs.Escapes.{end_text}
use Rattle.tree_serializer.proofs.GrowthLemmas.{grows_none}
use Rattle.tree_serializer.proofs.MeansLemmas.{needy_cut, needy_done, needy_refused, finish_within}
use Rattle.tree_serializer.proofs.written_calls.end_element.Goals as goal

pub returns-in_err-in_silence : goal.returns-in_err-in_silence
returns-in_err-in_silence g c = λ scripting.
    let p = err_from_is_err_and c.from_residual.result c.from_residual.ensures.1 in
    needy_refused {A = Unit {0}} {B = Bool} scripting c.args.makes_parents
    (entries_of c.args.entries.now.items) (entries_of c.close_entry.new.entries.items)
    (g.W.ByteWriter.contents c.args.writer.now) (g.W.ByteWriter.has_failed c.args.writer.now)
    (finish c.args.name.now) c.from_residual.result (Err c.in_err-in_silence.field-0.0)
    p.0 c.in_err-in_silence.field-0.0 p.1 p.2 refl c.in_err-in_silence.ensures.no_write
    c.in_err-in_silence.ensures.none c.in_err-in_silence.ensures.err tt

pub returns-then-in_silence : goal.returns-then-in_silence
returns-then-in_silence g c = λ scripting.
    let o : IsClosed c.args.makes_parents (entries_of c.args.entries.now.items)
    c.in_ok-in_silence.in_silence (entries_of c.close_entry.new.entries.items) = c.in_ok-in_silence.ensures.ok in
    needy_done scripting c.args.makes_parents
    (entries_of c.args.entries.now.items) (entries_of c.close_entry.new.entries.items)
    (g.W.ByteWriter.contents c.args.writer.now) (g.W.ByteWriter.contents c.args.writer.now)
    (g.W.ByteWriter.has_failed c.args.writer.now) (g.W.ByteWriter.has_failed c.args.writer.now)
    o.parent (entries_of c.close_entry.new.entries.items) (finish c.args.name.now) [] tt o.found
    (finish_within scripting c.args.makes_parents c.args.name.now
    (entries_of c.args.entries.now.items) c.in_ok-in_silence.in_silence
    (entries_of c.close_entry.new.entries.items) true o c.if-in_silence.true)
    (grows_none (g.W.ByteWriter.contents c.args.writer.now)) (λ h. h)

pub returns-in_err-write_end : goal.returns-in_err-write_end
returns-in_err-write_end g c = λ scripting.
    let o : IsClosed c.args.makes_parents (entries_of c.args.entries.now.items)
    c.in_ok-in_silence.in_silence (entries_of c.close_entry.new.entries.items) = c.in_ok-in_silence.ensures.ok in
    let p = err_from_is_err_and c.from_residual-in_err-write_end.result c.from_residual-in_err-write_end.ensures.1 in
    needy_cut {A = Unit {0}} scripting c.args.makes_parents
    (entries_of c.args.entries.now.items) (entries_of c.close_entry.new.entries.items)
    (entries_of c.close_entry.new.entries.items)
    (g.W.ByteWriter.contents c.args.writer.now) (g.W.ByteWriter.contents c.write_end.new.writer)
    (g.W.ByteWriter.has_failed c.args.writer.now) (g.W.ByteWriter.has_failed c.write_end.new.writer)
    o.parent (entries_of c.close_entry.new.entries.items) (finish c.args.name.now)
    (end_text c.args.name.now)
    c.from_residual-in_err-write_end.result p.0 p.1 p.2 tt o.found
    (finish_within scripting c.args.makes_parents c.args.name.now
    (entries_of c.args.entries.now.items) c.in_ok-in_silence.in_silence
    (entries_of c.close_entry.new.entries.items) false o c.if-in_silence.false)
    c.in_err-write_end.ensures.part c.in_err-write_end.ensures.failed

pub returns : goal.returns
returns g c = λ scripting.
    let o : IsClosed c.args.makes_parents (entries_of c.args.entries.now.items)
    c.in_ok-in_silence.in_silence (entries_of c.close_entry.new.entries.items) = c.in_ok-in_silence.ensures.ok in
    needy_done scripting c.args.makes_parents
    (entries_of c.args.entries.now.items) (entries_of c.close_entry.new.entries.items)
    (g.W.ByteWriter.contents c.args.writer.now) (g.W.ByteWriter.contents c.write_end.new.writer)
    (g.W.ByteWriter.has_failed c.args.writer.now) (g.W.ByteWriter.has_failed c.write_end.new.writer)
    o.parent (entries_of c.close_entry.new.entries.items) (finish c.args.name.now)
    (end_text c.args.name.now) tt o.found
    (finish_within scripting c.args.makes_parents c.args.name.now
    (entries_of c.args.entries.now.items) c.in_ok-in_silence.in_silence
    (entries_of c.close_entry.new.entries.items) false o c.if-in_silence.false)
    c.in_ok-write_end.ensures.ok c.in_ok-write_end.ensures.stays
