-- What a call is said to mean, from what was found, written and opened.
use Rattle.std.proofs.Common.{◌≡◌, [], ◌∷◌, ◌∙◌, if◌then◌else◌, Bool, List, None, Option, Some, ap, false, refl, subst}
use Rattle.std.proofs.Common.{sym, true, ℕ}
use Rattle.std.specs.Prelude.{Result, Err}
use Rattle.html_lexemes.specs.declared.names.Attribute.{Attribute}
use Rattle.html_lexemes.specs.declared.names.QualName.{QualName}
use Rattle.tree_serializer.specs.Calls.{Call, doctype_of, done, finish, instruction_of, refused, remark, reply_of}
use Rattle.tree_serializer.specs.Calls.{start, text_run}
use Rattle.tree_serializer.specs.Entries.{IsClosed, IsOpened, IsWithin, is_silent_in, name_in, parent_in}
use Rattle.tree_serializer.specs.Escapes.{comment_text, doctype_text, end_text, escaped, instruction_text, start_text}
use Rattle.tree_serializer.specs.Parts.{writing}
use Rattle.tree_serializer.specs.Walks.{is_raw, run_text}
use Rattle.tree_serializer.specs.Writing.{Entry, Grows, GrowsPart, IsCut, IsWritten, Means, Writing, alone, entry_below}
use Rattle.tree_serializer.specs.Writing.{nameless, no_parent, outcome, within, writes}
use Rattle.tree_serializer.specs.declared.fault.SerializeFault.{SerializeFault}
use Rattle.tree_serializer.specs.declared.fault.SerializeFault.TheVariants.{Memory, NoParent, Write}
use Rattle.tree_serializer.proofs.GrowthLemmas.{grows_none}

-- calls that need a parent
abbrev pub Needs : Call → Type 0
Needs (start name attributes) = Unit {0}
Needs (finish name) = Unit {0}
Needs (text_run cs) = Unit {0}
Needs (remark cs) = ⊥
Needs (doctype_of name) = ⊥
Needs (instruction_of target cs) = ⊥

alone_made : (scripting : Bool) (call : Call) → Needs call
    → alone true scripting call ≡ within scripting nameless [] call
alone_made scripting (start name attributes) h = refl
alone_made scripting (finish name) h = refl
alone_made scripting (text_run cs) h = refl
alone_made scripting (remark cs) h = absurd h
alone_made scripting (doctype_of name) h = absurd h
alone_made scripting (instruction_of target cs) h = absurd h

alone_refused : (scripting : Bool) (call : Call) → Needs call → alone false scripting call ≡ no_parent
alone_refused scripting (start name attributes) h = refl
alone_refused scripting (finish name) h = refl
alone_refused scripting (text_run cs) h = refl
alone_refused scripting (remark cs) h = absurd h
alone_refused scripting (doctype_of name) h = absurd h
alone_refused scripting (instruction_of target cs) h = absurd h

some_same : {A : Type 0} (a b : A) → Some a ≡ Some b → a ≡ b
some_same a b h = cc

pub found_outcome : (scripting makes : Bool) (es : List Entry) (contents : Option (List ℕ)) (failed : Bool)
    (parent : Entry) (outer : List Entry) (call : Call) → Needs call → parent_in makes es ≡ Some (parent, outer)
    → outcome (writing scripting makes es contents failed) call ≡ within scripting parent outer call
found_outcome scripting makes (e ∷ rest) contents failed parent outer call needs found =
    let same = some_same (e, rest) (parent, outer) found in
    ap (λ (p : Entry × List Entry). within scripting p.0 p.1 call) same
found_outcome scripting true [] contents failed parent outer call needs found =
    let same = some_same (nameless, []) (parent, outer) found in
    alone_made scripting call needs ∙ ap (λ (p : Entry × List Entry). within scripting p.0 p.1 call) same
found_outcome scripting false [] contents failed parent outer call needs found = cc

pub none_outcome : (scripting makes : Bool) (es : List Entry) (contents : Option (List ℕ)) (failed : Bool)
    (call : Call) → Needs call → parent_in makes es ≡ None
    → outcome (writing scripting makes es contents failed) call ≡ no_parent
none_outcome scripting makes (e ∷ rest) contents failed call needs none = cc
none_outcome scripting true [] contents failed call needs none = cc
none_outcome scripting false [] contents failed call needs none = alone_refused scripting call needs

-- a call that was done, or cut by the writer
pub means_done : (old new : Writing) (call : Call) (cs : List ℕ) → outcome old call ≡ writes cs new.entries
    → new.scripting ≡ old.scripting → new.makes_parents ≡ old.makes_parents
    → (old.has_failed ≡ true → new.has_failed ≡ true) → Grows cs old.contents new.contents → Means old call done new
means_done old new call cs e scripting makes stays grown = (
  record { scripting = scripting; makes_parents = makes; stays = stays },
  subst (λ o. IsWritten o old new) (sym e) (refl, grown),
)

pub means_cut : (old new : Writing) (call : Call) (cs : List ℕ) (es : List Entry) → outcome old call ≡ writes cs es
    → new.scripting ≡ old.scripting → new.makes_parents ≡ old.makes_parents → new.has_failed ≡ true
    → GrowsPart cs old.contents new.contents → Means old call (refused Write) new
means_cut old new call cs es e scripting makes failed grown = (
  record { scripting = scripting; makes_parents = makes; stays = λ _. failed },
  subst (λ o. IsCut o old new) (sym e) (failed, grown),
)

-- a call that changed nothing
pub means_refused : (old new : Writing) (call : Call) (fault : SerializeFault) → ¬ (fault ≡ Write)
    → (fault ≡ NoParent → outcome old call ≡ no_parent) → new ≡ old → Means old call (refused fault) new
means_refused old new call Write apart none same = absurd (apart refl)
means_refused old new call NoParent apart none same = (none refl, same)
means_refused old new call Memory apart none same = same

-- the reply of what was returned
pub means_reply : {A : Type 0} (old new : Writing) (call : Call) (r : Result A SerializeFault)
    (fault : SerializeFault) → r ≡ Err fault → Means old call (refused fault) new → Means old call (reply_of r) new
means_reply {A} old new call r fault e =
    subst (λ (s : Result A SerializeFault). Means old call (reply_of s) new) (sym e)

-- comments, doctypes and instructions are written wherever nothing is silent
pub remark_outcome : (scripting makes : Bool) (es : List Entry) (contents : Option (List ℕ)) (failed : Bool)
    (cs : List ℕ) → outcome (writing scripting makes es contents failed) (remark cs)
    ≡ writes (if is_silent_in es then [] else comment_text cs) es
remark_outcome scripting makes (e ∷ rest) contents failed cs = refl
remark_outcome scripting makes [] contents failed cs = refl

pub doctype_outcome : (scripting makes : Bool) (es : List Entry) (contents : Option (List ℕ)) (failed : Bool)
    (name : List ℕ) → outcome (writing scripting makes es contents failed) (doctype_of name)
    ≡ writes (if is_silent_in es then [] else doctype_text name) es
doctype_outcome scripting makes (e ∷ rest) contents failed name = refl
doctype_outcome scripting makes [] contents failed name = refl

pub instruction_outcome : (scripting makes : Bool) (es : List Entry) (contents : Option (List ℕ)) (failed : Bool)
    (target cs : List ℕ) → outcome (writing scripting makes es contents failed) (instruction_of target cs)
    ≡ writes (if is_silent_in es then [] else instruction_text target cs) es
instruction_outcome scripting makes (e ∷ rest) contents failed target cs = refl
instruction_outcome scripting makes [] contents failed target cs = refl

silent_text : (es : List Entry) (cs : List ℕ) (b : Bool) → is_silent_in es ≡ b
    → writes (if is_silent_in es then [] else cs) es ≡ writes (if b then [] else cs) es
silent_text es cs b h = ap (λ b. writes (if b then [] else cs) es) h

-- such a call where the entries are silent, where it writes, and where the writer refuses
pub plain_silent : (scripting makes : Bool) (es : List Entry) (contents : Option (List ℕ)) (failed : Bool)
    (call : Call) (cs : List ℕ)
    → outcome (writing scripting makes es contents failed) call ≡ writes (if is_silent_in es then [] else cs) es
    → is_silent_in es ≡ true
    → Means (writing scripting makes es contents failed) call done (writing scripting makes es contents failed)
plain_silent scripting makes es contents failed call cs e silent =
    let w = writing scripting makes es contents failed in
    means_done w w call [] (e ∙ silent_text es cs true silent) refl refl (λ h. h) (grows_none contents)

pub plain_done : (scripting makes : Bool) (es : List Entry) (contents more : Option (List ℕ)) (failed fails : Bool)
    (call : Call) (cs : List ℕ)
    → outcome (writing scripting makes es contents failed) call ≡ writes (if is_silent_in es then [] else cs) es
    → is_silent_in es ≡ false → Grows cs contents more → (failed ≡ true → fails ≡ true)
    → Means (writing scripting makes es contents failed) call done (writing scripting makes es more fails)
plain_done scripting makes es contents more failed fails call cs e silent grown stays =
    means_done (writing scripting makes es contents failed) (writing scripting makes es more fails) call cs
    (e ∙ silent_text es cs false silent) refl refl stays grown

pub plain_cut : {A : Type 0} (scripting makes : Bool) (es : List Entry) (contents more : Option (List ℕ))
    (failed fails : Bool) (call : Call) (cs : List ℕ) (r : Result A SerializeFault) (fault : SerializeFault)
    → r ≡ Err fault → fault ≡ Write
    → outcome (writing scripting makes es contents failed) call ≡ writes (if is_silent_in es then [] else cs) es
    → is_silent_in es ≡ false → GrowsPart cs contents more → fails ≡ true
    → Means (writing scripting makes es contents failed) call (reply_of r) (writing scripting makes es more fails)
plain_cut scripting makes es contents more failed fails call cs r fault is write e silent part fail =
    means_reply (writing scripting makes es contents failed) (writing scripting makes es more fails) call r Write
    (is ∙ ap Err write)
    (means_cut (writing scripting makes es contents failed) (writing scripting makes es more fails) call cs es
    (e ∙ silent_text es cs false silent) refl refl fail part)

-- a call that needs a parent: where it is done, where the writer refuses, and where it changed nothing
pub needy_done : (scripting makes : Bool) (es after : List Entry) (contents more : Option (List ℕ))
    (failed fails : Bool) (parent : Entry) (outer : List Entry) (call : Call) (cs : List ℕ) → Needs call
    → parent_in makes es ≡ Some (parent, outer) → within scripting parent outer call ≡ writes cs after
    → Grows cs contents more → (failed ≡ true → fails ≡ true)
    → Means (writing scripting makes es contents failed) call done (writing scripting makes after more fails)
needy_done scripting makes es after contents more failed fails parent outer call cs needs found e grown stays =
    means_done (writing scripting makes es contents failed) (writing scripting makes after more fails) call cs
    (found_outcome scripting makes es contents failed parent outer call needs found ∙ e) refl refl stays grown

pub needy_cut : {A : Type 0} (scripting makes : Bool) (es now after : List Entry) (contents more : Option (List ℕ))
    (failed fails : Bool) (parent : Entry) (outer : List Entry) (call : Call) (cs : List ℕ)
    (r : Result A SerializeFault) (fault : SerializeFault) → r ≡ Err fault → fault ≡ Write → Needs call
    → parent_in makes es ≡ Some (parent, outer) → within scripting parent outer call ≡ writes cs after
    → GrowsPart cs contents more → fails ≡ true
    → Means (writing scripting makes es contents failed) call (reply_of r) (writing scripting makes now more fails)
needy_cut scripting makes es now after contents more failed fails parent outer call cs r fault is write needs found e
    part fail =
    means_reply (writing scripting makes es contents failed) (writing scripting makes now more fails) call r Write
    (is ∙ ap Err write)
    (means_cut (writing scripting makes es contents failed) (writing scripting makes now more fails) call cs after
    (found_outcome scripting makes es contents failed parent outer call needs found ∙ e) refl refl fail part)

pub needy_refused : {A B : Type 0} (scripting makes : Bool) (es now : List Entry) (contents : Option (List ℕ))
    (failed : Bool) (call : Call) (r : Result A SerializeFault) (q : Result B SerializeFault)
    (fault given : SerializeFault) → r ≡ Err fault → fault ≡ given → q ≡ Err given → ¬ (q ≡ Err Write)
    → (q ≡ Err NoParent → parent_in makes es ≡ None) → now ≡ es → Needs call
    → Means (writing scripting makes es contents failed) call (reply_of r) (writing scripting makes now contents failed)
needy_refused scripting makes es now contents failed call r q fault given is same was apart none kept needs =
    means_reply (writing scripting makes es contents failed) (writing scripting makes now contents failed) call r given
    (is ∙ ap Err same)
    (means_refused (writing scripting makes es contents failed) (writing scripting makes now contents failed) call given
    (λ h. apart (was ∙ ap Err h))
    (λ h. none_outcome scripting makes es contents failed call needs (none (was ∙ ap Err h)))
    (ap (λ l. writing scripting makes l contents failed) kept))

-- what is written within an entry that is silent or not
abbrev pub unless : Bool → List ℕ → List ℕ
unless b cs = if b then [] else cs

-- what is written of an element that was opened or closed, and of a text
pub start_within : (scripting makes : Bool) (name : QualName) (old : List Entry) (in_silence : Bool) (new : List Entry)
    (attributes : List Attribute) (b : Bool) (o : IsOpened makes name old in_silence new) → in_silence ≡ b
    → within scripting o.parent o.outer (start name attributes) ≡ writes (unless b (start_text name attributes)) new
start_within scripting makes name old in_silence new attributes b o h =
    ap (λ b. writes (unless b (start_text name attributes)) (entry_below o.parent name ∷ o.parent ∷ o.outer))
    (sym o.silent ∙ h)
    ∙ ap (λ es. writes (unless b (start_text name attributes)) es) (sym o.entries)

pub finish_within : (scripting makes : Bool) (name : QualName) (old : List Entry) (in_silence : Bool)
    (new : List Entry) (b : Bool) (o : IsClosed makes old in_silence new) → in_silence ≡ b
    → within scripting o.parent new (finish name) ≡ writes (unless b (end_text name)) new
finish_within scripting makes name old in_silence new b o h =
    ap (λ b. writes (unless b (end_text name)) new) (sym o.silent ∙ h)

pub text_within : (scripting makes : Bool) (old new : List Entry) (cs : List ℕ) (b raw : Bool)
    (o : IsWithin makes old new) → is_silent_in new ≡ b → is_raw scripting (name_in new) ≡ raw
    → within scripting o.parent o.outer (text_run cs)
    ≡ writes (unless b (if raw then cs else escaped false cs)) new
text_within scripting makes old new cs b raw o h k =
    ap (λ b. writes (unless b (run_text scripting o.parent.name cs)) (o.parent ∷ o.outer))
    (ap is_silent_in (sym o.entries) ∙ h)
    ∙ ap (λ r. writes (unless b (if r then cs else escaped false cs)) (o.parent ∷ o.outer))
    (ap (λ es. is_raw scripting (name_in es)) (sym o.entries) ∙ k)
    ∙ ap (λ es. writes (unless b (if raw then cs else escaped false cs)) es) (sym o.entries)
