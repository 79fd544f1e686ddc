-- What each call makes of a serializer that writes (WHATWG HTML, 13.3).
use Rattle.std.specs.Prelude.{◌≡◌, ℕ, Bool, true, false, List, [], ◌∷◌, ◌++◌, Option, None, Some, if◌then◌else◌}
use Rattle.std.specs.Io.KnownBytes.{Appends}
use Rattle.std.specs.Str.{IsUtf8, chars}
use Rattle.lex_base.specs.KnownPart.{AppendsPart}
use Rattle.html_lexemes.specs.declared.names.QualName.{QualName}
use Rattle.tree_serializer.specs.Calls.{Call, Reply, doctype_of, done, finish, instruction_of, refused, remark, start}
use Rattle.tree_serializer.specs.Calls.{text_run}
use Rattle.tree_serializer.specs.Escapes.{comment_text, doctype_text, end_text, instruction_text, start_text}
use Rattle.tree_serializer.specs.Walks.{run_text}
use Rattle.tree_serializer.specs.declared.fault.SerializeFault.TheVariants as faults
use Rattle.tree_names.specs.ElementSets.{void_elements}
use Rattle.tree_names.specs.Sets.{is_element_of}

-- an open entry: the element's name, where it has one; within a void element nothing is written
pub record Entry : Type 0 where
  pub name : Option QualName
  pub is_silent : Bool

-- a serializer: whether scripts are run, whether a missing parent is made up, the open entries, the innermost first;
-- what its writer holds, where that is known, and whether the writer has failed
pub record Writing : Type 0 where
  pub scripting : Bool
  pub makes_parents : Bool
  pub entries : List Entry
  pub contents : Option (List ℕ)
  pub has_failed : Bool

-- what a call comes to while the writer takes what it is given: a text, and the entries that are open then
pub data Outcome : Type 0 where
  writes : List ℕ → List Entry → Outcome
  no_parent : Outcome

-- an entry that is made up
abbrev pub nameless : Entry
nameless = record { name = None; is_silent = false }

abbrev pub unless_silent : Entry → List ℕ → List ℕ
unless_silent e cs = if e.is_silent then [] else cs

abbrev pub entry_below : Entry → QualName → Entry
entry_below parent name = record {
  name = Some name;
  is_silent = if parent.is_silent then true else is_element_of void_elements name;
}

-- within the innermost entry
abbrev pub within : (scripting : Bool) → Entry → List Entry → Call → Outcome
within scripting e outer (start name attributes) =
    writes (unless_silent e (start_text name attributes)) (entry_below e name ∷ e ∷ outer)
within scripting e outer (finish name) = writes (unless_silent e (end_text name)) outer
within scripting e outer (text_run cs) = writes (unless_silent e (run_text scripting e.name cs)) (e ∷ outer)
within scripting e outer (remark cs) = writes (unless_silent e (comment_text cs)) (e ∷ outer)
within scripting e outer (doctype_of name) = writes (unless_silent e (doctype_text name)) (e ∷ outer)
within scripting e outer (instruction_of target cs) =
    writes (unless_silent e (instruction_text target cs)) (e ∷ outer)

-- where no entry is open: comments, doctypes and instructions need none; for others one is made up, or there is no
-- parent
abbrev pub alone : (makes_parents scripting : Bool) → Call → Outcome
alone makes scripting (remark cs) = writes (comment_text cs) []
alone makes scripting (doctype_of name) = writes (doctype_text name) []
alone makes scripting (instruction_of target cs) = writes (instruction_text target cs) []
alone true scripting call = within scripting nameless [] call
alone false scripting call = no_parent

abbrev pub outcome : Writing → Call → Outcome
outcome w call = by w.entries where
  by : List Entry → Outcome
  by [] = alone w.makes_parents w.scripting call
  by (e ∷ outer) = within w.scripting e outer call

-- the writer's contents have grown by a text
pub record Grows (cs : List ℕ) (old new : Option (List ℕ)) : Type 0 where
  pub bytes : List ℕ
  pub utf8 : IsUtf8 bytes
  pub text : chars bytes ≡ cs
  pub added : Appends old new bytes

-- or by a beginning of it, which may end within a character
pub record GrowsPart (cs : List ℕ) (old new : Option (List ℕ)) : Type 0 where
  pub bytes : List ℕ
  pub rest : List ℕ
  pub utf8 : IsUtf8 bytes
  pub text : cs ≡ chars bytes ++ rest
  pub added : AppendsPart old new bytes

-- options stay; a writer that has failed stays failed
pub record IsSame (old new : Writing) : Type 0 where
  pub scripting : new.scripting ≡ old.scripting
  pub makes_parents : new.makes_parents ≡ old.makes_parents
  pub stays : old.has_failed ≡ true → new.has_failed ≡ true

abbrev pub IsWritten : Outcome → Writing → Writing → Type 0
IsWritten (writes cs entries) old new = (new.entries ≡ entries) × Grows cs old.contents new.contents
IsWritten no_parent old new = ⊥

abbrev pub IsCut : Outcome → Writing → Writing → Type 0
IsCut (writes cs entries) old new = (new.has_failed ≡ true) × GrowsPart cs old.contents new.contents
IsCut no_parent old new = ⊥

-- A call that is refused since allocation fails, or of a parent, leaves all as it was; a fault of the writer leaves a
-- beginning of what was to be written.
abbrev pub Means : Writing → Call → Reply → Writing → Type 0
Means old call done new = IsSame old new × IsWritten (outcome old call) old new
Means old call (refused faults.Write) new = IsSame old new × IsCut (outcome old call) old new
Means old call (refused faults.NoParent) new = (outcome old call ≡ no_parent) × (new ≡ old)
Means old call (refused faults.Memory) new = new ≡ old
