-- How a page that was written or refused answers what is asked for.
use Rattle.std.proofs.Common.{◌≡◌, inl, inr, ℕ, Bool, List, Option, None, Some, IfSome, refl, sym, subst}
use Rattle.std.specs.Prelude.{◌||◌, Err, Ok, Result}
use Rattle.command_line.specs.CommandWords.{Asked}
use Rattle.html2text.specs.Endings.{EndsBy, IsAnswered}
use Rattle.html2text.specs.Responses.{Bytes, Files, IsFileRefusalBy, IsRefusalBy, IsSourceRefusal, IsTableOf}
use Rattle.html2text.specs.Responses.{IsTableRefusal, page_bytes}
use Rattle.html2text.specs.Written.{HasAskedText, IsOtherPage, IsTooNarrowPage, most_bytes}
use Rattle.html2text.specs.declared.outcome.Outcome.{Outcome}
use Rattle.html2text.specs.declared.outcome.Outcome.TheVariants as outcomes
use Rattle.lex_base.specs.References.{References, basic}
use Rattle.command_line.specs.TableFiles.{IsNoTable}
use Rattle.command_line.specs.declared.table_fault.TableFault.{TableFault}
use Rattle.command_line.specs.declared.table_fault.TableFault.TheVariants as table_faults
use Rattle.page_config.specs.Errors.{error_text}
use Rattle.page_config.specs.declared.error.Error.{Error}
use Rattle.page_config.specs.declared.error.Error.TheVariants as errors

-- a file's refusal says less
file_refusal : (N F : List ℕ → Type 0) (bytes : Bytes) (failed : Bool) (most before after : ℕ) (error : Error)
    → IsRefusalBy N F bytes failed most before after error → IsFileRefusalBy N F bytes most error
file_refusal N F bytes failed most before after errors.TooNarrow is = is
file_refusal N F bytes failed most before after errors.Fail is = is
file_refusal N F bytes failed most before after errors.IoError is = tt
file_refusal N F bytes failed most before after errors.TooLong is = is.1
file_refusal N F bytes failed most before after errors.Memory is = tt

module _ (asked : Asked) (files : Files) (names : References) (table : IsTableOf files asked.references names)
    (input : Bytes) (old new : Bytes) (Unread Untouched Silent : Type 0) (Reported : List ℕ → Type 0) where
  -- the page was that of a device
  abbrev pub Ends : (bytes : Bytes) (read_failed write_failed flushed : Bool) (before after : ℕ)
      → Result (Unit {0}) Error → Type 0
  Ends bytes rf wf fl before after result = EndsBy (HasAskedText asked names) (IsTooNarrowPage asked names)
      (IsOtherPage asked names) (most_bytes asked) bytes rf wf fl before after old new Untouched result

  pub page_shown : (read_failed write_failed flushed : Bool) (before after : ℕ) (rf : Bool) (b a : ℕ)
      → Ends (page_bytes files input asked.file) rf write_failed flushed b a (Ok tt) → Silent
      → IsAnswered asked files input read_failed write_failed flushed before after old new Unread Untouched Silent
      Reported
      outcomes.Done
  page_shown read_failed wf fl before after rf b a ends silent =
      (record { names = names; table = table; written = ends.0 }, ends.1, ends.2, silent)

  page_refused : (read_failed write_failed flushed : Bool) (before after : ℕ) (rf : Bool) (b a : ℕ) (error : Error)
      (outcome : Outcome) → outcome ≡ outcomes.Page error
      → IsSourceRefusal asked names files asked.file input (read_failed || write_failed) before after error
      → Ends (page_bytes files input asked.file) rf write_failed flushed b a (Err error) → Reported (error_text error)
      → IsAnswered asked files input read_failed write_failed flushed before after old new Unread Untouched Silent
      Reported
      outcome
  page_refused read_failed wf fl before after rf b a error outcome is reason ends reported =
      subst (IsAnswered asked files input read_failed wf fl before after old new Unread Untouched Silent Reported)
      (sym is) (
        reported,
        record { names = names; table = table; reason = reason },
        elim ends.1 [
          | inl same ↦ inl same
          | inr part ↦ inr (part.0, record { names = names; table = table; written = part.1 })
        ],
      )

  -- of standard input
  pub shown_here : (rf write_failed flushed : Bool) (before after : ℕ) → asked.file ≡ None
      → Ends input rf write_failed flushed before after (Ok tt) → Silent
      → IsAnswered asked files input rf write_failed flushed before after old new Unread Untouched Silent Reported
      outcomes.Done
  shown_here rf wf fl before after here ends silent = page_shown rf wf fl before after rf before after
      (subst (λ file. Ends (page_bytes files input file) rf wf fl before after (Ok tt)) (sym here) ends) silent

  pub refused_here : (rf write_failed flushed : Bool) (before after : ℕ) (error : Error) (outcome : Outcome)
      → outcome ≡ outcomes.Page error → asked.file ≡ None
      → Ends input rf write_failed flushed before after (Err error) → Reported (error_text error)
      → IsAnswered asked files input rf write_failed flushed before after old new Unread Untouched Silent Reported
      outcome
  refused_here rf wf fl before after error outcome is here ends reported =
      page_refused rf wf fl before after rf before after error outcome is
      (subst (λ file. IsSourceRefusal asked names files file input (rf || wf) before after error) (sym here) ends.0)
      (subst (λ file. Ends (page_bytes files input file) rf wf fl before after (Err error)) (sym here) ends) reported

  -- of a file
  pub shown_there : (read_failed write_failed flushed : Bool) (before after : ℕ) (name : List ℕ) (bytes : Bytes)
      (rf : Bool) (b a : ℕ) → asked.file ≡ Some name → bytes ≡ files name
      → Ends bytes rf write_failed flushed b a (Ok tt) → Silent
      → IsAnswered asked files input read_failed write_failed flushed before after old new Unread Untouched Silent
      Reported
      outcomes.Done
  shown_there read_failed wf fl before after name bytes rf b a there known ends silent =
      page_shown read_failed wf fl before after rf b a
      (subst (λ file. Ends (page_bytes files input file) rf wf fl b a (Ok tt)) (sym there)
      (subst (λ page. Ends page rf wf fl b a (Ok tt)) known ends)) silent

  pub refused_there : (read_failed write_failed flushed : Bool) (before after : ℕ) (name : List ℕ) (bytes : Bytes)
      (rf : Bool) (b a : ℕ) (error : Error) (outcome : Outcome) → outcome ≡ outcomes.Page error
      → asked.file ≡ Some name → bytes ≡ files name
      → Ends bytes rf write_failed flushed b a (Err error) → Reported (error_text error)
      → IsAnswered asked files input read_failed write_failed flushed before after old new Unread Untouched Silent
      Reported
      outcome
  refused_there read_failed wf fl before after name bytes rf b a error outcome is there known ends reported =
      let named : Ends (files name) rf wf fl b a (Err error) =
      subst (λ page. Ends page rf wf fl b a (Err error)) known ends in
      page_refused read_failed wf fl before after rf b a error outcome is
      (subst (λ file. IsSourceRefusal asked names files file input (read_failed || wf) before after error) (sym there)
      (file_refusal (IsTooNarrowPage asked names) (IsOtherPage asked names) (files name) (rf || wf) (most_bytes asked)
      b a error named.0))
      (subst (λ file. Ends (page_bytes files input file) rf wf fl b a (Err error)) (sym there) named) reported

-- there was no memory for the basic table
memory_refusal : (asked : Asked) (names : References) (files : Files) (file : Option (List ℕ)) (input : Bytes)
    (failed : Bool) (before after : ℕ)
    → IsSourceRefusal asked names files file input failed before after errors.Memory
memory_refusal asked names files None input failed before after = tt
memory_refusal asked names files (Some name) input failed before after = tt

pub no_basic : (asked : Asked) (files : Files) (input : Bytes) (rf wf fl : Bool) (before after : ℕ)
    (old new : Bytes) (Unread Untouched Silent : Type 0) (Reported : List ℕ → Type 0) (outcome : Outcome)
    → outcome ≡ outcomes.Page errors.Memory → asked.references ≡ None → Reported (error_text errors.Memory) → Untouched
    → IsAnswered asked files input rf wf fl before after old new Unread Untouched Silent Reported outcome
no_basic asked files input rf wf fl before after old new Unread Untouched Silent Reported outcome is none reported
    same =
    subst (IsAnswered asked files input rf wf fl before after old new Unread Untouched Silent Reported) (sym is) (
      reported,
      record {
        names = basic;
        table = subst (λ references. IsTableOf files references basic) (sym none) refl;
        reason = memory_refusal asked basic files asked.file input (rf || wf) before after;
      },
      inl same,
    )

-- no table was had of the file that is named
pub table_refused : (files : Files) (references : Option (List ℕ)) (name : List ℕ) (fault : TableFault)
    → references ≡ Some name → (fault ≡ table_faults.Refused → IfSome (files name) IsNoTable)
    → IsTableRefusal files references fault
table_refused files references name fault is refused =
    subst (λ r. IsTableRefusal files r fault) (sym is) (by_fault fault refused)
  where
    by_fault : (fault : TableFault) → (fault ≡ table_faults.Refused → IfSome (files name) IsNoTable)
        → IsTableRefusal files (Some name) fault
    by_fault table_faults.NotRead refused = tt
    by_fault table_faults.Refused refused = refused refl
    by_fault table_faults.Memory refused = tt
