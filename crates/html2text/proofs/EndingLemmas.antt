-- What the words for how a call ends come to.
use Rattle.std.proofs.Common.{◌≡◌, ◌⊎◌, ◌+◌, ◌<◌, ◌≤◌, [], Bool, IfSome, List, None, Some, append-nil, chars, false}
use Rattle.std.proofs.Common.{inl, inr, length, refl, subst, sym, true, ℕ}
use Rattle.std.specs.Io.KnownBytes.{Keeps}
use Rattle.std.specs.Prelude.{◌||◌, Err, Ok, Result}
use Rattle.html2text.proofs.ResponseLemmas.{appends_kept}
use Rattle.html2text.specs.Endings.{EndsBy}
use Rattle.html2text.specs.Responses.{Bytes, IsRefusalBy}
use Rattle.html2text.specs.Written.{Gains, GainsPart}
use Rattle.page_config.specs.declared.error.Error.{Error}
use Rattle.page_config.specs.declared.error.Error.TheVariants as errors

pub some_as : (all : Bytes) (P Q : List ℕ → Type 0) → ((bytes : List ℕ) → P bytes → Q bytes) → IfSome all P →
    IfSome all Q
some_as None P Q f p = tt
some_as (Some bytes) P Q f p = f bytes p

gains_as : (P Q : List ℕ → Type 0) (old new : Bytes) → ((text : List ℕ) → P text → Q text) → Gains P old new
    → Gains Q old new
gains_as P Q old new f g =
    record { text = g.text; utf8 = g.utf8; page = f (chars g.text) g.page; added = g.added }

part_as : (P Q : List ℕ → Type 0) (old new : Bytes) → ((text : List ℕ) → P text → Q text) → GainsPart P old new
    → GainsPart Q old new
part_as P Q old new f g =
    record { text = g.text; utf8 = g.utf8; page = f (chars g.text) g.page; part = g.part }

refusal_as : (N M F G : List ℕ → Type 0) (bytes : Bytes) (failed : Bool) (most before after : ℕ) (error : Error)
    → ((page : List ℕ) → N page → M page) → ((page : List ℕ) → F page → G page)
    → IsRefusalBy N F bytes failed most before after error → IsRefusalBy M G bytes failed most before after error
refusal_as N M F G bytes failed most before after errors.TooNarrow n f is = some_as bytes N M n is
refusal_as N M F G bytes failed most before after errors.Fail n f is = some_as bytes F G f is
refusal_as N M F G bytes failed most before after errors.IoError n f is = is
refusal_as N M F G bytes failed most before after errors.TooLong n f is = is
refusal_as N M F G bytes failed most before after errors.Memory n f is = is

ends_mapped : (P Q : List ℕ → List ℕ → Type 0) (N M F G : List ℕ → Type 0) (most : ℕ) (bytes : Bytes)
    (read_failed write_failed flushed : Bool) (before after : ℕ) (old new : Bytes) (U : Type 0)
    (result : Result (Unit {0}) Error) → ((page text : List ℕ) → P page text → Q page text)
    → ((page : List ℕ) → N page → M page) → ((page : List ℕ) → F page → G page)
    → EndsBy P N F most bytes read_failed write_failed flushed before after old new U result
    → EndsBy Q M G most bytes read_failed write_failed flushed before after old new U result
ends_mapped P Q N M F G most bytes rf wf fl before after old new U (Ok done) p n f ends = (
  some_as bytes _ _ (λ page is. (is.0, gains_as (P page) (Q page) old new (p page) is.1)) ends.0,
  ends.1,
  ends.2,
)
ends_mapped P Q N M F G most bytes rf wf fl before after old new U (Err error) p n f ends = (
  refusal_as N M F G bytes (rf || wf) most before after error n f ends.0,
  elim ends.1 [
    | inl same ↦ inl same
    | inr part ↦ inr (part.0, some_as bytes _ _ (λ page is. part_as (P page) (Q page) old new (p page) is) part.1)
  ],
)

-- what a call ended with says more than what is asked
pub ends_as : (P Q : List ℕ → List ℕ → Type 0) (N M F G : List ℕ → Type 0) (most least : ℕ) (bytes : Bytes)
    (read_failed write_failed flushed : Bool) (before after : ℕ) (old new : Bytes) (U : Type 0)
    (result : Result (Unit {0}) Error) → ((page text : List ℕ) → P page text → Q page text)
    → ((page : List ℕ) → N page → M page) → ((page : List ℕ) → F page → G page) → most ≡ least
    → EndsBy P N F most bytes read_failed write_failed flushed before after old new U result
    → EndsBy Q M G least bytes read_failed write_failed flushed before after old new U result
ends_as P Q N M F G most least bytes rf wf fl before after old new U result p n f same ends =
    subst (λ bound. EndsBy Q M G bound bytes rf wf fl before after old new U result) same
    (ends_mapped P Q N M F G most bytes rf wf fl before after old new U result p n f ends)

-- ---- a page that was written is passed on

pub kept : (P : List ℕ → List ℕ → Type 0) (most : ℕ) (all old between new : Bytes)
    → IfSome all (λ page. Gains (P page) old between) → IfSome all (λ page. length page ≤ most) → Keeps between new
    → IfSome all (λ page. (length page ≤ most) × Gains (P page) old new)
kept P most None old between new is short keeps = tt
kept P most (Some bytes) old between new is short keeps = (
  short,
  record {
    text = is.text;
    utf8 = is.utf8;
    page = is.page;
    added = appends_kept old between new is.text is.added keeps;
  },
)

-- and is a beginning of itself
pub kept_part : (P : List ℕ → List ℕ → Type 0) (all old between new : Bytes)
    → IfSome all (λ page. Gains (P page) old between) → Keeps between new
    → IfSome all (λ page. GainsPart (P page) old new)
kept_part P None old between new is keeps = tt
kept_part P (Some bytes) old between new is keeps = record {
  text = is.text;
  utf8 = is.utf8;
  page = is.page;
  part = record {
    front = is.text;
    rest = [];
    whole = sym (append-nil is.text);
    added = appends_kept old between new is.text is.added keeps;
  };
}

-- ---- why it was not

either_failed : (a b : Bool) → (a ≡ true) ⊎ (b ≡ true) → (a || b) ≡ true
either_failed true b h = refl
either_failed false b (inl h) = cc
either_failed false b (inr h) = h

pub run_refused : (N F : List ℕ → Type 0) (all : Bytes) (reader writer : Bool) (most before after : ℕ) (error : Error)
    → (error ≡ errors.TooNarrow → IfSome all N) → (error ≡ errors.Fail → IfSome all F)
    → (error ≡ errors.IoError → (reader ≡ true) ⊎ (writer ≡ true))
    → (error ≡ errors.TooLong → before + most < after)
    → (error ≡ errors.TooLong → IfSome all (λ page. most < length page))
    → IsRefusalBy N F all (reader || writer) most before after error
run_refused N F all reader writer most before after errors.TooNarrow narrow nothing io long longer = narrow refl
run_refused N F all reader writer most before after errors.Fail narrow nothing io long longer = nothing refl
run_refused N F all reader writer most before after errors.IoError narrow nothing io long longer =
    either_failed reader writer (io refl)
run_refused N F all reader writer most before after errors.TooLong narrow nothing io long longer =
    (long refl, longer refl)
run_refused N F all reader writer most before after errors.Memory narrow nothing io long longer = tt

-- ---- how the call ends

pub ends_refused : (P : List ℕ → List ℕ → Type 0) (N F : List ℕ → Type 0) (most : ℕ) (bytes : Bytes)
    (read_failed write_failed flushed : Bool) (before after : ℕ) (old new : Bytes) (U : Type 0)
    (result : Result (Unit {0}) Error) (error : Error) → result ≡ Err error
    → IsRefusalBy N F bytes (read_failed || write_failed) most before after error
    → U ⊎ ((write_failed ≡ true) × IfSome bytes (λ page. GainsPart (P page) old new))
    → EndsBy P N F most bytes read_failed write_failed flushed before after old new U result
ends_refused P N F most bytes rf wf fl before after old new U result error is reason left =
    subst (EndsBy P N F most bytes rf wf fl before after old new U) (sym is) (reason, left)

-- its writer failed when the page was passed on
pub ends_unpassed : (P : List ℕ → List ℕ → Type 0) (N F : List ℕ → Type 0) (most : ℕ) (bytes : Bytes)
    (read_failed write_failed flushed : Bool) (before after : ℕ) (old new : Bytes) (U : Type 0)
    (result : Result (Unit {0}) Error) (error : Error) → result ≡ Err error → error ≡ errors.IoError
    → write_failed ≡ true → IfSome bytes (λ page. GainsPart (P page) old new)
    → EndsBy P N F most bytes read_failed write_failed flushed before after old new U result
ends_unpassed P N F most bytes rf wf fl before after old new U result error is io failed part =
    ends_refused P N F most bytes rf wf fl before after old new U result error is
    (subst (IsRefusalBy N F bytes (rf || wf) most before after) (sym io) (either_failed rf wf (inr failed)))
    (inr (failed, part))
