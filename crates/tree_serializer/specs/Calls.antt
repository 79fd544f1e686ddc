-- What a serializer is given, and what it answers.
use Rattle.std.specs.Prelude.{ℕ, List, Result, Ok, Err}
use Rattle.html_lexemes.specs.declared.names.Attribute.{Attribute}
use Rattle.html_lexemes.specs.declared.names.QualName.{QualName}
use Rattle.tree_serializer.specs.declared.fault.SerializeFault.{SerializeFault}

pub data Call : Type 0 where
  start : QualName → List Attribute → Call
  finish : QualName → Call
  text_run : List ℕ → Call
  remark : List ℕ → Call
  doctype_of : List ℕ → Call
  instruction_of : List ℕ → List ℕ → Call

pub data Reply : Type 0 where
  done : Reply
  refused : SerializeFault → Reply

abbrev pub reply_of : {A : Type 0} → Result A SerializeFault → Reply
reply_of (Ok value) = done
reply_of (Err fault) = refused fault
