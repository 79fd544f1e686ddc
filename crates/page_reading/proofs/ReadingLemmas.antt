-- What a loop of reads has read of a page so far.
use Rattle.std.proofs.Common.{◌≡◌, ◌+◌, [], ◌++◌, ◌∙◌, Bool, IfSome, List, None, Option, Some, arith, false, length}
use Rattle.std.proofs.Common.{length-append, refl, subst, true, ℕ}
use Rattle.std.specs.Io.KnownBytes.{Consumes, IsAtEnd}
use Rattle.tree_forest.specs.Forest.{Forest}
use Rattle.tree_forest.specs.declared.sink.QuirksMode.{QuirksMode}
use Rattle.page_reading.specs.Readers.{Comes, Paging}

-- Of the bytes that were known at first a rest is known now, and both are so.
abbrev pub Known : Option (List ℕ) → Option (List ℕ) → (List ℕ → List ℕ → Type 0) → Type 0
Known None now P = Unit {0}
Known (Some bytes) None P = ⊥
Known (Some bytes) (Some rest) P = P bytes rest

-- what comes of a page now and a rest comes of it before and these bytes
abbrev pub ComesOf : (old new : Paging) → (bytes rest : List ℕ) → Type 0
ComesOf old new bytes rest =
    (forest : Forest) (mode : QuirksMode) → Comes new rest forest mode → Comes old bytes forest mode

-- The state of the loop: so many bytes may still come as the bound leaves; what comes of the page now and the rest,
-- comes of it at first and all bytes; what had failed still has.
pub record IsReading (count_then count_now : ℕ) (failed_then failed_now : Bool) (all now : Option (List ℕ))
    (old new : Paging) : Type 0 where
  pub counted : count_now + new.left ≡ count_then + old.left
  pub stays : failed_then ≡ true → failed_now ≡ true
  pub going : new.has_failed ≡ false
  pub reads : Known all now (ComesOf old new)
  pub came : Known all now (λ bytes rest. count_then + length bytes ≡ count_now + length rest)

known_same : (a : Option (List ℕ)) (P : List ℕ → List ℕ → Type 0) → ((bytes : List ℕ) → P bytes bytes) → Known a a P
known_same None P h = tt
known_same (Some bytes) P h = h bytes

known_more : (all now next : Option (List ℕ)) (piece : List ℕ) (P Q : List ℕ → List ℕ → Type 0) → Known all now P →
    Consumes now next piece → ((bytes rest : List ℕ) → P bytes (piece ++ rest) → Q bytes rest) → Known all next Q
known_more None now next piece P Q c d f = tt
known_more (Some bytes) None next piece P Q c d f = absurd c
known_more (Some bytes) (Some rest) None piece P Q c d f = absurd d
known_more (Some bytes) (Some rest) (Some after) piece P Q c d f = f bytes after (subst (P bytes) d c)

known_end : (all now next : Option (List ℕ)) (P : List ℕ → List ℕ → Type 0) (Q : List ℕ → Type 0) → Known all now P →
    Consumes now next [] → IsAtEnd next → ((bytes : List ℕ) → P bytes [] → Q bytes) → IfSome all Q
known_end None now next P Q c d e f = tt
known_end (Some bytes) None next P Q c d e f = absurd c
known_end (Some bytes) (Some rest) None P Q c d e f = absurd d
known_end (Some bytes) (Some rest) (Some after) P Q c d e f = f bytes (subst (P bytes) (d ∙ e) c)

pub some_as : (all : Option (List ℕ)) (P Q : List ℕ → Type 0) → ((bytes : List ℕ) → P bytes → Q bytes) → IfSome all P →
    IfSome all Q
some_as None P Q f p = tt
some_as (Some bytes) P Q f p = f bytes p

pub reading_starts : (count : ℕ) (failed : Bool) (all : Option (List ℕ)) (page : Paging) → page.has_failed ≡ false →
    IsReading count count failed failed all all page page
reading_starts count failed all page works = record {
  counted = refl;
  stays = λ h. h;
  going = works;
  reads = known_same all _ (λ bytes forest mode h. h);
  came = known_same all _ (λ bytes. refl);
}

-- a piece was read and pushed
pub reading_goes_on : {count_then count_now : ℕ} {failed_then failed_now failed_next : Bool}
    {all now next : Option (List ℕ)} {old new : Paging} (count_next : ℕ) (piece : List ℕ) (later : Paging) →
    IsReading count_then count_now failed_then failed_now all now old new →
    (failed_now ≡ true → failed_next ≡ true) → Consumes now next piece → count_next ≡ count_now + length piece →
    later.left + length piece ≡ new.left → later.has_failed ≡ false →
    ((rest : List ℕ) (forest : Forest) (mode : QuirksMode) → Comes later rest forest mode →
    Comes new (piece ++ rest) forest mode) →
    IsReading count_then count_next failed_then failed_next all next old later
reading_goes_on {all = all} {now = now} {next = next}
    count_next piece later r stays consumed counted less works pushed =
    record {
      counted = omega (arith, r.counted);
      stays = λ h. stays (r.stays h);
      going = works;
      reads = known_more all now next piece _ _ r.reads consumed
          (λ bytes rest h forest mode comes. h forest mode (pushed rest forest mode comes));
      came = known_more all now next piece _ _ r.came consumed
          (λ bytes rest h. omega (arith, h, length-append piece rest));
    }

-- the device is at its end
pub reading_ends : {count_then count_now : ℕ} {failed_then failed_now : Bool} {all now : Option (List ℕ)}
    {old new : Paging} (next : Option (List ℕ)) →
    IsReading count_then count_now failed_then failed_now all now old new → Consumes now next [] → IsAtEnd next →
    IfSome all (λ bytes. ComesOf old new bytes [])
reading_ends next r consumed end = known_end _ _ next _ _ r.reads consumed end (λ bytes h. h)

-- and all the bytes came
pub all_came : {count_then count_now : ℕ} {failed_then failed_now : Bool} {all now : Option (List ℕ)}
    {old new : Paging} (next : Option (List ℕ)) (count_next : ℕ) →
    IsReading count_then count_now failed_then failed_now all now old new → Consumes now next [] → IsAtEnd next →
    count_next ≡ count_now + 0 → IfSome all (λ bytes. count_next ≡ count_then + length bytes)
all_came {count_then} {count_now} {all = all} {now = now} next count_next r consumed end same =
    let Q : List ℕ → Type 0 = λ bytes. count_next ≡ count_then + length bytes in
    known_end all now next _ Q r.came consumed end (λ bytes h. omega (arith, h))
