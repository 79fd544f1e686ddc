-- What a loop of writes has written so far.
use Rattle.std.proofs.Common.{◌≡◌, [], ◌++◌, ◌∙◌, ◌==◌, ◌∷◌, ◌+◌, ◌<◌, Bool, List, Option, add-one, ap, append-nil}
use Rattle.std.proofs.Common.{append_assoc, arith, drop, drop-cons, get_or, length, refl, subst, suc, sym, true, ℕ}
use Rattle.std.proofs.lemmas.Bool.Decides.{nat_tests}
use Rattle.std.specs.Prelude.{Result, Ok, Err, IsErr, OnErr}
use Rattle.std.specs.Io.KnownBytes.{Appends}
use Rattle.std.proofs.KnownBytes.{Appends-nil, Appends-trans}
use Rattle.lex_base.specs.KnownPart.{AppendsPart}

-- of the bytes a front was written and the rest is left; what had failed still has
pub record IsWritten (old now : Option (List ℕ)) (bytes rest : List ℕ) (failed_then failed_now : Bool) : Type 0 where
  pub front : List ℕ
  pub whole : bytes ≡ front ++ rest
  pub added : Appends old now front
  pub stays : failed_then ≡ true → failed_now ≡ true

pub nothing_written : (a : Option (List ℕ)) (bytes : List ℕ) (failed : Bool) → IsWritten a a bytes bytes failed failed
nothing_written a bytes failed = record { front = []; whole = refl; added = Appends-nil a; stays = λ h. h }

-- a front of the rest was written, and what is after it is left
pub more_written : {old a b : Option (List ℕ)} {bytes rest : List ℕ} {f g h : Bool} (front after : List ℕ)
    → IsWritten old a bytes rest f g → Appends a b front → rest ≡ front ++ after → (g ≡ true → h ≡ true) →
    IsWritten old b bytes after f h
more_written {old} {a} {b} {bytes} {rest} front after w more at stays =
    record {
      front = w.front ++ front;
      whole = w.whole ∙ ap (λ l. w.front ++ l) at ∙ sym (append_assoc w.front front after);
      added = Appends-trans old a b w.front front w.added more;
      stays = λ h. stays (w.stays h);
    }

pub all_written : {old a : Option (List ℕ)} {bytes rest : List ℕ} {f g : Bool} → IsWritten old a bytes rest f g →
    rest ≡ [] → Appends old a bytes
all_written {old} {a} {bytes} w none =
    subst (Appends old a) (sym (w.whole ∙ ap (λ l. w.front ++ l) none ∙ append-nil w.front)) w.added

-- a part of the front of the rest was written
pub part_written : {old a b : Option (List ℕ)} {bytes rest : List ℕ} {f g : Bool} (front after : List ℕ)
    → IsWritten old a bytes rest f g → AppendsPart a b front → rest ≡ front ++ after → AppendsPart old b bytes
part_written {old} {a} {b} {bytes} {rest} front after w p at =
    record {
      front = w.front ++ p.front;
      rest = p.rest ++ after;
      whole = w.whole ∙ ap (λ l. w.front ++ l) (at ∙ ap (λ l. l ++ after) p.whole ∙ append_assoc p.front p.rest after) ∙
          sym (append_assoc w.front p.front (p.rest ++ after));
      added = Appends-trans old a b w.front p.front w.added p.added;
    }

pub on_err : {T E P : Type 0} (r : Result T E) → IsErr r → P → OnErr r P
on_err (Ok x) e p = tt
on_err (Err e) h p = p

pub on_err_map : {T E P Q : Type 0} (r : Result T E) → (P → Q) → OnErr r P → OnErr r Q
on_err_map (Ok x) f p = tt
on_err_map (Err e) f p = f p

-- a list without elements
pub none_left : {X : Type 0} (xs : List X) → length xs ≡ 0 → xs ≡ []
none_left [] h = refl
none_left (x ∷ xs) h = absurd (omega arith)

eq-eqb-back : (n : ℕ) → (n == 0) ≡ true → n ≡ 0
eq-eqb-back n h = grind (arith, nat_tests)

-- a list that was tested to be empty is
pub no_bytes : (xs : List ℕ) (b : Bool) → b ≡ (length xs == 0) → b ≡ true → xs ≡ []
no_bytes xs b is so = none_left xs (eq-eqb-back (length xs) (sym is ∙ so))

-- what is left from an index on: the item there, and what is left from the next index on
pub drop_item : {X : Type 0} (xs : List X) (i : ℕ) (x : X) → i < length xs → x ≡ get_or xs i x →
    drop i xs ≡ x ∷ drop (i + 1) xs
drop_item xs i x h is = rw (add-one, drop-cons xs i x h) (ap (λ y. y ∷ drop (suc i) xs) (sym is))
