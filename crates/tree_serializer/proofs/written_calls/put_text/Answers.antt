use Rattle.std.proofs.Common.{[], ap, chars, Err, false, refl, sym, true, ◌∙◌}
use Rattle.std.proofs.lemmas.Result.{err_from_is_err_and}
use Rattle.tree_serializer.specs.Calls.{text_run}
use Rattle.tree_serializer.specs.Entries.{IsWithin, entries_of, is_silent_in, name_in}
use Rattle.tree_serializer.specs.Escapes.{escaped}
use Rattle.tree_serializer.specs.Walks.{is_raw}
use Rattle.tree_serializer.proofs.GrowthLemmas.{grows_none}
use Rattle.tree_serializer.proofs.MeansLemmas.{needy_cut, needy_done, needy_refused, text_within}
use Rattle.tree_serializer.proofs.written_calls.put_text.Goals as goal

pub returns-in_err-find_parent : goal.returns-in_err-find_parent
returns-in_err-find_parent g c =
    let p = err_from_is_err_and c.from_residual.result c.from_residual.ensures.1 in
    needy_refused {A = Unit {0}} {B = Unit {0}} c.args.scripting c.args.makes_parents
    (entries_of c.args.entries.now.items) (entries_of c.find_parent.new.entries.items)
    (g.W.ByteWriter.contents c.args.writer.now) (g.W.ByteWriter.has_failed c.args.writer.now)
    (text_run (chars c.args.text.now)) c.from_residual.result (Err c.in_err-find_parent.field-0.0)
    p.0 c.in_err-find_parent.field-0.0 p.1 p.2 refl c.in_err-find_parent.ensures.kinds
    c.in_err-find_parent.ensures.none c.in_err-find_parent.ensures.err tt

pub returns-then-is_silent : goal.returns-then-is_silent
returns-then-is_silent g c =
    let o : IsWithin c.args.makes_parents (entries_of c.args.entries.now.items)
    (entries_of c.find_parent.new.entries.items) = c.in_ok-find_parent.ensures.ok in
    needy_done c.args.scripting c.args.makes_parents
    (entries_of c.args.entries.now.items) (entries_of c.find_parent.new.entries.items)
    (g.W.ByteWriter.contents c.args.writer.now) (g.W.ByteWriter.contents c.args.writer.now)
    (g.W.ByteWriter.has_failed c.args.writer.now) (g.W.ByteWriter.has_failed c.args.writer.now)
    o.parent o.outer (text_run (chars c.args.text.now)) [] tt o.found
    (text_within c.args.scripting c.args.makes_parents
    (entries_of c.args.entries.now.items) (entries_of c.find_parent.new.entries.items)
    (chars c.args.text.now) true (is_raw c.args.scripting (name_in (entries_of c.find_parent.new.entries.items))) o
    (sym (c.is_silent.ensures ∙ ap (λ l. is_silent_in (entries_of l)) c.as_slice.ensures.value) ∙ c.if-is_silent.true)
    refl)
    (grows_none (g.W.ByteWriter.contents c.args.writer.now)) (λ h. h)

pub returns-in_err-write_text : goal.returns-in_err-write_text
returns-in_err-write_text g c =
    let o : IsWithin c.args.makes_parents (entries_of c.args.entries.now.items)
    (entries_of c.find_parent.new.entries.items) = c.in_ok-find_parent.ensures.ok in
    let p = err_from_is_err_and c.from_residual-in_err-write_text.result c.from_residual-in_err-write_text.ensures.1 in
    needy_cut {A = Unit {0}} c.args.scripting c.args.makes_parents
    (entries_of c.args.entries.now.items) (entries_of c.find_parent.new.entries.items)
    (entries_of c.find_parent.new.entries.items)
    (g.W.ByteWriter.contents c.args.writer.now) (g.W.ByteWriter.contents c.write_text.new.writer)
    (g.W.ByteWriter.has_failed c.args.writer.now) (g.W.ByteWriter.has_failed c.write_text.new.writer)
    o.parent o.outer (text_run (chars c.args.text.now)) (chars c.args.text.now)
    c.from_residual-in_err-write_text.result p.0 p.1 p.2 tt o.found
    (text_within c.args.scripting c.args.makes_parents
    (entries_of c.args.entries.now.items) (entries_of c.find_parent.new.entries.items)
    (chars c.args.text.now) false true o
    (sym (c.is_silent.ensures ∙ ap (λ l. is_silent_in (entries_of l)) c.as_slice.ensures.value) ∙ c.if-is_silent.false)
    (sym (c.keeps_text.ensures ∙ ap (λ l. is_raw c.args.scripting (name_in (entries_of l)))
    c.as_slice-2.ensures.value) ∙ c.if-keeps_text.true))
    c.in_err-write_text.ensures.part c.in_err-write_text.ensures.failed

pub returns-then-keeps_text : goal.returns-then-keeps_text
returns-then-keeps_text g c =
    let o : IsWithin c.args.makes_parents (entries_of c.args.entries.now.items)
    (entries_of c.find_parent.new.entries.items) = c.in_ok-find_parent.ensures.ok in
    needy_done c.args.scripting c.args.makes_parents
    (entries_of c.args.entries.now.items) (entries_of c.find_parent.new.entries.items)
    (g.W.ByteWriter.contents c.args.writer.now) (g.W.ByteWriter.contents c.write_text.new.writer)
    (g.W.ByteWriter.has_failed c.args.writer.now) (g.W.ByteWriter.has_failed c.write_text.new.writer)
    o.parent o.outer (text_run (chars c.args.text.now)) (chars c.args.text.now) tt o.found
    (text_within c.args.scripting c.args.makes_parents
    (entries_of c.args.entries.now.items) (entries_of c.find_parent.new.entries.items)
    (chars c.args.text.now) false true o
    (sym (c.is_silent.ensures ∙ ap (λ l. is_silent_in (entries_of l)) c.as_slice.ensures.value) ∙ c.if-is_silent.false)
    (sym (c.keeps_text.ensures ∙ ap (λ l. is_raw c.args.scripting (name_in (entries_of l)))
    c.as_slice-2.ensures.value) ∙ c.if-keeps_text.true))
    c.in_ok-write_text.ensures.ok c.in_ok-write_text.ensures.stays

pub returns-in_err-write_escaped : goal.returns-in_err-write_escaped
returns-in_err-write_escaped g c =
    let o : IsWithin c.args.makes_parents (entries_of c.args.entries.now.items)
    (entries_of c.find_parent.new.entries.items) = c.in_ok-find_parent.ensures.ok in
    let p = err_from_is_err_and c.from_residual-in_err-write_escaped.result
    c.from_residual-in_err-write_escaped.ensures.1 in
    needy_cut {A = Unit {0}} c.args.scripting c.args.makes_parents
    (entries_of c.args.entries.now.items) (entries_of c.find_parent.new.entries.items)
    (entries_of c.find_parent.new.entries.items)
    (g.W.ByteWriter.contents c.args.writer.now) (g.W.ByteWriter.contents c.write_escaped.new.writer)
    (g.W.ByteWriter.has_failed c.args.writer.now) (g.W.ByteWriter.has_failed c.write_escaped.new.writer)
    o.parent o.outer (text_run (chars c.args.text.now)) (escaped false (chars c.args.text.now))
    c.from_residual-in_err-write_escaped.result p.0 p.1 p.2 tt o.found
    (text_within c.args.scripting c.args.makes_parents
    (entries_of c.args.entries.now.items) (entries_of c.find_parent.new.entries.items)
    (chars c.args.text.now) false false o
    (sym (c.is_silent.ensures ∙ ap (λ l. is_silent_in (entries_of l)) c.as_slice.ensures.value) ∙ c.if-is_silent.false)
    (sym (c.keeps_text.ensures ∙ ap (λ l. is_raw c.args.scripting (name_in (entries_of l)))
    c.as_slice-2.ensures.value) ∙ c.if-keeps_text.false))
    c.in_err-write_escaped.ensures.part c.in_err-write_escaped.ensures.failed

pub returns : goal.returns
returns g c =
    let o : IsWithin c.args.makes_parents (entries_of c.args.entries.now.items)
    (entries_of c.find_parent.new.entries.items) = c.in_ok-find_parent.ensures.ok in
    needy_done c.args.scripting c.args.makes_parents
    (entries_of c.args.entries.now.items) (entries_of c.find_parent.new.entries.items)
    (g.W.ByteWriter.contents c.args.writer.now) (g.W.ByteWriter.contents c.write_escaped.new.writer)
    (g.W.ByteWriter.has_failed c.args.writer.now) (g.W.ByteWriter.has_failed c.write_escaped.new.writer)
    o.parent o.outer (text_run (chars c.args.text.now)) (escaped false (chars c.args.text.now)) tt o.found
    (text_within c.args.scripting c.args.makes_parents
    (entries_of c.args.entries.now.items) (entries_of c.find_parent.new.entries.items)
    (chars c.args.text.now) false false o
    (sym (c.is_silent.ensures ∙ ap (λ l. is_silent_in (entries_of l)) c.as_slice.ensures.value) ∙ c.if-is_silent.false)
    (sym (c.keeps_text.ensures ∙ ap (λ l. is_raw c.args.scripting (name_in (entries_of l)))
    c.as_slice-2.ensures.value) ∙ c.if-keeps_text.false))
    c.in_ok-write_escaped.ensures.ok c.in_ok-write_escaped.ensures.stays
