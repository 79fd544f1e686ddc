-- What is written in parts, and what a command line comes to.
use Rattle.std.proofs.Common.{◌≡◌, ◌++◌, ◌⊎◌, ◌∙◌, Bool, List, None, Option, Some, String, Vec, ap, append_assoc, arith}
use Rattle.std.proofs.Common.{false, inl, inr, map, refl, string_bytes, subst, sym, true, ℕ}
use Rattle.std.specs.Prelude.{Result, Ok, Err, IfOk, IfErr}
use Rattle.std.specs.IoError.{error_kind}
use Rattle.std.specs.declared.io.Error.{Error as IoFault}
use Rattle.std.specs.Io.KnownBytes.{Appends, Keeps}
use Rattle.std.proofs.KnownBytes.{Appends-trans}
use Rattle.command_line.specs.CommandWords.{Asked, Asks, words_after_name}
use Rattle.command_line.specs.Requests.{asked_of}
use Rattle.command_line.specs.WordFaults.{Explains, IsHelp, IsRefusedWith, fault_of_kind}
use Rattle.command_line.specs.declared.words.Request.{Request}
use Rattle.command_line.specs.declared.words.WordFault.{WordFault}
use Rattle.command_line.specs.declared.words.WordFault.TheVariants as faults
use Rattle.lex_base.specs.KnownPart.{AppendsPart}
use Rattle.html2text.specs.Endings.{IsAnswered}
use Rattle.html2text.specs.Responses.{Bytes, Files, IsAskedRefusal, IsAskedTableRefusal, IsOutcomeOf, IsRefusal}
use Rattle.html2text.specs.Responses.{IsTableRefusal, WritesAnswer, WritesAnswerPart, WritesAsked, WritesAskedPart}
use Rattle.html2text.specs.Statuses.{status_of}
use Rattle.html2text.specs.declared.outcome.Outcome.{Outcome}
use Rattle.html2text.specs.declared.outcome.Outcome.TheVariants as outcomes
use Rattle.html2text.proofs.WritingLemmas.{nothing_written, part_written}
use Rattle.command_line.specs.declared.table_fault.TableFault.{TableFault}
use Rattle.page_config.specs.declared.error.Error.{Error}
use Rattle.page_config.specs.declared.error.Error.TheVariants as errors

-- a part of the first of three texts
pub first_part : {old a : Option (List ℕ)} (front back : List ℕ) → AppendsPart old a front →
    AppendsPart old a (front ++ back)
first_part {old} {a} front back p = part_written front back (nothing_written old (front ++ back) false) p refl

-- a text, and a part of the one after it
pub later_part : {old a b : Option (List ℕ)} (front back : List ℕ) → Appends old a front → AppendsPart a b back →
    AppendsPart old b (front ++ back)
later_part {old} {a} {b} front back added p =
    record {
      front = front ++ p.front;
      rest = p.rest;
      whole = ap (λ l. front ++ l) p.whole ∙ sym (append_assoc front p.front p.rest);
      added = Appends-trans old a b front p.front added p.added;
    }

pub appends_kept : (old a b : Option (List ℕ)) (bytes : List ℕ) → Appends old a bytes → Keeps a b → Appends old b bytes
appends_kept None a b bytes added kept = tt
appends_kept (Some xs) None b bytes added kept = absurd added
appends_kept (Some xs) (Some ys) None bytes added kept = absurd kept
appends_kept (Some xs) (Some ys) (Some zs) bytes added kept = kept ∙ added

-- the words of a command line after the program's name
abbrev pub asked_words : {A B : Type 0} → Vec (String A) B → List (List ℕ)
asked_words words = words_after_name (map string_bytes words.items)

-- what a request asks, and what is wrong with words, as request_of says it
pub record IsRead {A B : Type 0} (words : Result (Vec (String A) B) IoFault) (request : Result Request WordFault)
    : Type 0 where
  pub asked : IfOk request (λ r. IfOk words (λ all. Asks (asked_words all) (asked_of r)))
  pub explained : IfOk words (λ all. IfErr request (Explains (asked_words all)))
  pub unread : IfErr words (λ error. request ≡ Err (fault_of_kind (error_kind error)))

-- ---- statuses and outcomes

pub done_status : (outcome : Outcome) → status_of outcome ≡ 0 → outcome ≡ outcomes.Done
done_status outcomes.Done e = refl
done_status (outcomes.Page error) e = absurd (omega (arith, e))
done_status outcomes.NotOpened e = absurd (omega (arith, e))
done_status outcomes.Words e = absurd (omega (arith, e))
done_status outcomes.Table e = absurd (omega (arith, e))

abbrev pub IsRefused : Outcome → Type 0
IsRefused outcome = ((error : Error) × (outcome ≡ outcomes.Page error)) ⊎ (outcome ≡ outcomes.NotOpened)

pub refused_status : (outcome : Outcome) → status_of outcome ≡ 1 → IsRefused outcome
refused_status outcomes.Done e = absurd (omega (arith, e))
refused_status (outcomes.Page error) e = inl (error, refl)
refused_status outcomes.NotOpened e = inr refl
refused_status outcomes.Words e = absurd (omega (arith, e))
refused_status outcomes.Table e = absurd (omega (arith, e))

pub words_status : (outcome : Outcome) → status_of outcome ≡ 2 → outcome ≡ outcomes.Words
words_status outcomes.Done e = absurd (omega (arith, e))
words_status (outcomes.Page error) e = absurd (omega (arith, e))
words_status outcomes.NotOpened e = absurd (omega (arith, e))
words_status outcomes.Words e = refl
words_status outcomes.Table e = absurd (omega (arith, e))

pub table_status : (outcome : Outcome) → status_of outcome ≡ 3 → outcome ≡ outcomes.Table
table_status outcomes.Done e = absurd (omega (arith, e))
table_status (outcomes.Page error) e = absurd (omega (arith, e))
table_status outcomes.NotOpened e = absurd (omega (arith, e))
table_status outcomes.Words e = absurd (omega (arith, e))
table_status outcomes.Table e = refl

pub statuses : (outcome : Outcome) (status : ℕ) → status ≡ status_of outcome
    → (status ≡ 0) ⊎ (status ≡ 1) ⊎ (status ≡ 2) ⊎ (status ≡ 3)
statuses outcomes.Done status e = inl e
statuses (outcomes.Page error) status e = inr (inl e)
statuses outcomes.NotOpened status e = inr (inl e)
statuses outcomes.Words status e = inr (inr (inl e))
statuses outcomes.Table status e = inr (inr (inr e))

-- an answer ends as one of a request may
pub answered_outcome : (request : Request) (asked : Asked) (files : Files) (input : Bytes) (rf wf fl : Bool)
    (before after : ℕ) (old new : Bytes) (Unread Untouched Silent : Type 0) (Reported : List ℕ → Type 0)
    (outcome : Outcome)
    → IsAnswered asked files input rf wf fl before after old new Unread Untouched Silent Reported outcome
    → IsOutcomeOf (Ok request) outcome
answered_outcome r asked files input rf wf fl b a old new R U S Reported outcomes.Done is = inl refl
answered_outcome r asked files input rf wf fl b a old new R U S Reported (outcomes.Page error) is =
    inr (inl (error, refl))
answered_outcome r asked files input rf wf fl b a old new R U S Reported outcomes.NotOpened is = inr (inr (inl refl))
answered_outcome r asked files input rf wf fl b a old new R U S Reported outcomes.Words is = absurd is
answered_outcome r asked files input rf wf fl b a old new R U S Reported outcomes.Table is = inr (inr (inr refl))

-- ---- what was written

pub writes_asked : {A B : Type 0} (words : Result (Vec (String A) B) IoFault) (request : Result Request WordFault)
    (files : Files) (input old new : Bytes) → IsRead words request → WritesAnswer request files input old new
    → IfOk words (λ all. WritesAsked (asked_words all) files input old new)
writes_asked (Err error) request files input old new read written = tt
writes_asked (Ok all) (Ok r) files input old new read written = WritesAsked.page (asked_of r) read.asked written
writes_asked (Ok all) (Err (faults.Help text)) files input old new read written =
    WritesAsked.help (string_bytes text) read.explained written
writes_asked (Ok all) (Err (faults.Words text)) files input old new read written = absurd written
writes_asked (Ok all) (Err faults.NotUtf8) files input old new read written = absurd written
writes_asked (Ok all) (Err faults.Memory) files input old new read written = absurd written

pub writes_asked_part : {A B : Type 0} (words : Result (Vec (String A) B) IoFault)
    (request : Result Request WordFault) (files : Files) (input old new : Bytes) → IsRead words request
    → WritesAnswerPart request files input old new
    → IfOk words (λ all. WritesAskedPart (asked_words all) files input old new)
writes_asked_part (Err error) request files input old new read written = tt
writes_asked_part (Ok all) (Ok r) files input old new read written =
    WritesAskedPart.page (asked_of r) read.asked written
writes_asked_part (Ok all) (Err (faults.Help text)) files input old new read written =
    WritesAskedPart.help (string_bytes text) read.explained written
writes_asked_part (Ok all) (Err (faults.Words text)) files input old new read written = absurd written
writes_asked_part (Ok all) (Err faults.NotUtf8) files input old new read written = absurd written
writes_asked_part (Ok all) (Err faults.Memory) files input old new read written = absurd written

-- ---- why a page was refused

same_error : (a b : Error) → outcomes.Page a ≡ outcomes.Page b → a ≡ b
same_error a b e = cc

io_alone : (outcome : Outcome) (error : Error) → outcome ≡ outcomes.Page error
    → (outcome ≡ outcomes.Done) ⊎ (outcome ≡ outcomes.Page errors.IoError) → error ≡ errors.IoError
io_alone outcome error is (inl e) = let bad : outcomes.Page error ≡ outcomes.Done = sym is ∙ e in cc
io_alone outcome error is (inr e) = same_error error errors.IoError (sym is ∙ e)

no_page : {C : Type 0} (outcome : Outcome) (error : Error) → outcome ≡ outcomes.Page error → outcome ≡ outcomes.Words
    → C
no_page outcome error is e = let bad : outcomes.Page error ≡ outcomes.Words = sym is ∙ e in cc

pub asked_refusal : {A B : Type 0} (words : Result (Vec (String A) B) IoFault) (request : Result Request WordFault)
    (outcome : Outcome) (error : Error) (files : Files) (input : Bytes) (failed writer_failed : Bool)
    (before after : ℕ) → IsRead words request → IsOutcomeOf request outcome → outcome ≡ outcomes.Page error
    → IfOk request (λ r. IsRefusal (asked_of r) files input failed before after error)
    → IfErr request (λ _. writer_failed ≡ true)
    → IfOk words (λ all. IsAskedRefusal (asked_words all) files input failed writer_failed before after error)
asked_refusal (Err fault) request outcome error files input failed wf before after read is at reason unhelped = tt
asked_refusal (Ok all) (Ok r) outcome error files input failed wf before after read is at reason unhelped =
    IsAskedRefusal.page (asked_of r) read.asked reason
asked_refusal (Ok all) (Err (faults.Help text)) outcome error files input failed wf before after read is at reason
    unhelped = IsAskedRefusal.help read.explained (io_alone outcome error at is) unhelped
asked_refusal (Ok all) (Err (faults.Words text)) outcome error files input failed wf before after read is at reason
    unhelped = no_page outcome error at is
asked_refusal (Ok all) (Err faults.NotUtf8) outcome error files input failed wf before after read is at reason
    unhelped = no_page outcome error at is
asked_refusal (Ok all) (Err faults.Memory) outcome error files input failed wf before after read is at reason
    unhelped = no_page outcome error at is

-- ---- outcomes of requests alone

-- a file that was not opened, or a table that was not had: what no fault of words ends with
abbrev IsForRequest : Outcome → Type 0
IsForRequest outcome = (outcome ≡ outcomes.NotOpened) ⊎ (outcome ≡ outcomes.Table)

no_fault : (fault : WordFault) (outcome : Outcome) → IsForRequest outcome → IsOutcomeOf (Err fault) outcome → ⊥
no_fault (faults.Help text) outcome (inl e) (inl is) = let bad : outcomes.NotOpened ≡ outcomes.Done = sym e ∙ is in cc
no_fault (faults.Help text) outcome (inl e) (inr is) =
    let bad : outcomes.NotOpened ≡ outcomes.Page errors.IoError = sym e ∙ is in cc
no_fault (faults.Help text) outcome (inr e) (inl is) = let bad : outcomes.Table ≡ outcomes.Done = sym e ∙ is in cc
no_fault (faults.Help text) outcome (inr e) (inr is) =
    let bad : outcomes.Table ≡ outcomes.Page errors.IoError = sym e ∙ is in cc
no_fault (faults.Words text) outcome (inl e) is = let bad : outcomes.NotOpened ≡ outcomes.Words = sym e ∙ is in cc
no_fault (faults.Words text) outcome (inr e) is = let bad : outcomes.Table ≡ outcomes.Words = sym e ∙ is in cc
no_fault faults.NotUtf8 outcome (inl e) is = let bad : outcomes.NotOpened ≡ outcomes.Words = sym e ∙ is in cc
no_fault faults.NotUtf8 outcome (inr e) is = let bad : outcomes.Table ≡ outcomes.Words = sym e ∙ is in cc
no_fault faults.Memory outcome (inl e) is = let bad : outcomes.NotOpened ≡ outcomes.Words = sym e ∙ is in cc
no_fault faults.Memory outcome (inr e) is = let bad : outcomes.Table ≡ outcomes.Words = sym e ∙ is in cc

pub unopened_refusal : {A B : Type 0} (words : Result (Vec (String A) B) IoFault)
    (request : Result Request WordFault) (outcome : Outcome) (files : Files) (input : Bytes)
    (failed writer_failed : Bool) (before after : ℕ) → IsRead words request → IsOutcomeOf request outcome
    → outcome ≡ outcomes.NotOpened → IfOk request (λ r. (name : List ℕ) × ((asked_of r).file ≡ Some name))
    → IfOk words (λ all.
    IsAskedRefusal (asked_words all) files input failed writer_failed before after errors.IoError)
unopened_refusal (Err fault) request outcome files input failed wf before after read is at named = tt
unopened_refusal (Ok all) (Ok r) outcome files input failed wf before after read is at named =
    IsAskedRefusal.unopened (asked_of r) named.0 read.asked named.1 refl
unopened_refusal (Ok all) (Err fault) outcome files input failed wf before after read is at named =
    absurd (no_fault fault outcome (inl at) is)

pub table_refusal : {A B : Type 0} (words : Result (Vec (String A) B) IoFault) (request : Result Request WordFault)
    (outcome : Outcome) (files : Files) (fault : TableFault) → IsRead words request → IsOutcomeOf request outcome
    → outcome ≡ outcomes.Table → IfOk request (λ r. IsTableRefusal files (asked_of r).references fault)
    → IfOk words (λ all. IsAskedTableRefusal (asked_words all) files fault)
table_refusal (Err error) request outcome files fault read is at refusal = tt
table_refusal (Ok all) (Ok r) outcome files fault read is at refusal =
    record { asked = asked_of r; asks = read.asked; refusal = refusal }
table_refusal (Ok all) (Err wrong) outcome files fault read is at refusal =
    absurd (no_fault wrong outcome (inr at) is)

-- ---- words that are refused

refusing : (request : Result Request WordFault) (outcome : Outcome) → outcome ≡ outcomes.Words
    → IsOutcomeOf request outcome → (fault : WordFault) × (request ≡ Err fault) × (IsHelp fault → ⊥)
refusing (Ok r) outcome w (inl e) = let bad : outcomes.Words ≡ outcomes.Done = sym w ∙ e in cc
refusing (Ok r) outcome w (inr (inl e)) = let bad : outcomes.Words ≡ outcomes.Page e.0 = sym w ∙ e.1 in cc
refusing (Ok r) outcome w (inr (inr (inl e))) = let bad : outcomes.Words ≡ outcomes.NotOpened = sym w ∙ e in cc
refusing (Ok r) outcome w (inr (inr (inr e))) = let bad : outcomes.Words ≡ outcomes.Table = sym w ∙ e in cc
refusing (Err (faults.Help text)) outcome w (inl e) = let bad : outcomes.Words ≡ outcomes.Done = sym w ∙ e in cc
refusing (Err (faults.Help text)) outcome w (inr e) =
    let bad : outcomes.Words ≡ outcomes.Page errors.IoError = sym w ∙ e in cc
refusing (Err (faults.Words text)) outcome w e = (faults.Words text, refl, λ h. h)
refusing (Err faults.NotUtf8) outcome w e = (faults.NotUtf8, refl, λ h. h)
refusing (Err faults.Memory) outcome w e = (faults.Memory, refl, λ h. h)

same_fault : (a b : WordFault) → (let r : Result Request WordFault = Err a in r) ≡ Err b → a ≡ b
same_fault a b e = cc

with_fault : {A B : Type 0} (words : Result (Vec (String A) B) IoFault) (fault : WordFault)
    → IsRead words (Err fault) → (IsHelp fault → ⊥) → IsRefusedWith words fault
with_fault (Ok all) fault read other = (read.explained, other)
with_fault (Err error) fault read other = same_fault fault (fault_of_kind (error_kind error)) read.unread

pub refused_with : {A B : Type 0} (words : Result (Vec (String A) B) IoFault) (request : Result Request WordFault)
    (outcome : Outcome) (T : WordFault → Type 0) → IsRead words request → IsOutcomeOf request outcome
    → outcome ≡ outcomes.Words → IfErr request T → (fault : WordFault) × T fault × IsRefusedWith words fault
refused_with words request outcome T read is w reported =
    let by = refusing request outcome w is in
    (by.0, subst (λ r. IfErr r T) by.1 reported, with_fault words by.0 (subst (IsRead words) by.1 read) by.2)
