use Rattle.std.proofs.Common.{◌<◌, IsTrue, length, chars, string_bytes, sym, ap, subst, ◌∙◌}
use Rattle.std.specs.FinMap as finite
use Rattle.lex_base.specs.References.{is_name, is_value}
use Rattle.lex_base.specs.Table.{AreInOrder, AreSound, table_of}
use Rattle.lex_base.proofs.SoundReferences.{set_sound, insert_sound}
use Rattle.lex_base.proofs.TableSearch.{set_in_order, set_inserts, insert_in_order, insert_inserts}
use Rattle.lex_base.proofs.table.ReferenceTable.insert.Goals as goal

pub invariant_of-self : goal.invariant_of-self
invariant_of-self c = record {
  order =
      set_in_order c.as_slice.result.now c.self.inside.references.items c.args.self.now
      (chars c.args.name.now) c.as_slice.ensures.value c.self.view_is c.self.invariant.order
      c.in-Ok.at c.index_mut.result.now _ (c.in-Ok.ensures.bound, c.in-Ok.ensures.position)
      (ap (λ r. chars (string_bytes r.name)) c.index_mut.ensures.value);
  sound =
      set_sound c.self.inside.references.items c.in-Ok.at c.index_mut.result.now _ c.self.invariant.sound
      (subst (λ l. c.in-Ok.at < length l) c.as_slice.ensures.value c.in-Ok.ensures.bound)
      (ap (λ r. chars (string_bytes r.name)) c.index_mut.ensures.value)
      (subst (λ v. IsTrue (is_value (chars v))) (sym c.in_ok-value-in-Ok.ensures.ok) c.requires.value);
}

pub invariant_of-self-in-Err : goal.invariant_of-self-in-Err
invariant_of-self-in-Err c = record {
  order =
      subst AreInOrder (sym c.in_ok-insert-in-Err.ensures.items)
      (insert_in_order c.as_slice.result.now c.self.inside.references.items c.args.self.now
      (chars c.args.name.now) c.as_slice.ensures.value c.self.view_is c.self.invariant.order
      c.in-Err.at _ (c.in-Err.ensures.bound, c.in-Err.ensures.position) (ap chars c.in_ok-name-in-Err.ensures.ok));
  sound =
      subst AreSound (sym c.in_ok-insert-in-Err.ensures.items)
      (insert_sound c.self.inside.references.items c.in-Err.at _ c.self.invariant.sound
      (subst (λ v. IsTrue (is_name (chars v))) (sym c.in_ok-name-in-Err.ensures.ok) c.requires.name)
      (subst (λ v. IsTrue (is_value (chars v))) (sym c.in_ok-value-in-Err.ensures.ok) c.requires.value));
}

pub returns-in_ok-value-in-Ok-clause-ok : goal.returns-in_ok-value-in-Ok-clause-ok
returns-in_ok-value-in-Ok-clause-ok c =
    set_inserts c.as_slice.result.now c.self.inside.references.items c.args.self.now
    (chars c.args.name.now) c.as_slice.ensures.value c.self.view_is c.self.invariant.order
    c.in-Ok.at c.index_mut.result.now _ (c.in-Ok.ensures.bound, c.in-Ok.ensures.position)
    (ap (λ r. chars (string_bytes r.name)) c.index_mut.ensures.value)
    ∙ ap (λ v. finite.insert c.args.self.now (chars c.args.name.now) (chars v)) c.in_ok-value-in-Ok.ensures.ok

pub returns-in_ok-insert-in-Err-clause-ok : goal.returns-in_ok-insert-in-Err-clause-ok
returns-in_ok-insert-in-Err-clause-ok c =
    ap table_of c.in_ok-insert-in-Err.ensures.items
    ∙ insert_inserts c.as_slice.result.now c.self.inside.references.items c.args.self.now
    (chars c.args.name.now) c.as_slice.ensures.value c.self.view_is c.self.invariant.order
    c.in-Err.at _ (c.in-Err.ensures.bound, c.in-Err.ensures.position) (ap chars c.in_ok-name-in-Err.ensures.ok)
    ∙ ap (λ v. finite.insert c.args.self.now (chars c.args.name.now) (chars v)) c.in_ok-value-in-Err.ensures.ok
