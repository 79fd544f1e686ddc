-- What writes have written so far, by bytes and by characters.
use Rattle.std.proofs.Common.{◌≡◌, [], ◌++◌, ◌∙◌, ◌==◌, Bool, List, Option, ap, append-nil, append_assoc, arith, length}
use Rattle.std.proofs.Common.{refl, subst, sym, true, ℕ}
use Rattle.std.proofs.lemmas.Bool.Decides.{nat_tests}
use Rattle.std.proofs.lemmas.List.{nil_from_length}
use Rattle.std.proofs.lemmas.Str.{IsUtf8-append, chars-append, IsUtf8-nil, chars-nil}
use Rattle.std.specs.Io.KnownBytes.{Appends}
use Rattle.std.specs.Prelude.{Result, Ok, Err, IsErr, OnErr}
use Rattle.std.specs.Str.{IsUtf8, chars}
use Rattle.std.proofs.KnownBytes.{Appends-nil, Appends-trans}
use Rattle.lex_base.specs.KnownPart.{AppendsPart}
use Rattle.tree_serializer.specs.Writing.{Grows, GrowsPart}

-- of the bytes a front was written and the rest is left; what had failed still has
pub record IsWriting (old now : Option (List ℕ)) (bytes rest : List ℕ) (failed_then failed_now : Bool) : Type 0 where
  pub front : List ℕ
  pub whole : bytes ≡ front ++ rest
  pub added : Appends old now front
  pub stays : failed_then ≡ true → failed_now ≡ true

pub nothing_written : (a : Option (List ℕ)) (bytes : List ℕ) (failed : Bool) → IsWriting a a bytes bytes failed failed
nothing_written a bytes failed = record { front = []; whole = refl; added = Appends-nil a; stays = λ h. h }

-- a front of the rest was written, and what is after it is left
pub more_written : {old a b : Option (List ℕ)} {bytes rest : List ℕ} {f g h : Bool} (front after : List ℕ)
    → IsWriting old a bytes rest f g → Appends a b front → rest ≡ front ++ after → (g ≡ true → h ≡ true)
    → IsWriting old b bytes after f h
more_written {old} {a} {b} {bytes} {rest} front after w more at stays = record {
  front = w.front ++ front;
  whole = w.whole ∙ ap (λ l. w.front ++ l) at ∙ sym (append_assoc w.front front after);
  added = Appends-trans old a b w.front front w.added more;
  stays = λ h. stays (w.stays h);
}

pub all_written : {old a : Option (List ℕ)} {bytes rest : List ℕ} {f g : Bool} → IsWriting old a bytes rest f g
    → rest ≡ [] → Appends old a bytes
all_written {old} {a} {bytes} w none =
    subst (Appends old a) (sym (w.whole ∙ ap (λ l. w.front ++ l) none ∙ append-nil w.front)) w.added

-- a part of the front of the rest was written
pub part_written : {old a b : Option (List ℕ)} {bytes rest : List ℕ} {f g : Bool} (front after : List ℕ)
    → IsWriting old a bytes rest f g → AppendsPart a b front → rest ≡ front ++ after → AppendsPart old b bytes
part_written {old} {a} {b} {bytes} {rest} front after w p at = record {
  front = w.front ++ p.front;
  rest = p.rest ++ after;
  whole = w.whole ∙ ap (λ l. w.front ++ l) (at ∙ ap (λ l. l ++ after) p.whole ∙ append_assoc p.front p.rest after)
      ∙ sym (append_assoc w.front p.front (p.rest ++ after));
  added = Appends-trans old a b w.front p.front w.added p.added;
}

pub on_err : {T E P : Type 0} (r : Result T E) → IsErr r → P → OnErr r P
on_err (Ok x) e p = tt
on_err (Err e) h p = p

eq-eqb-back : (n : ℕ) → (n == 0) ≡ true → n ≡ 0
eq-eqb-back n h = grind (arith, nat_tests)

-- a list that was tested to be empty is
pub no_bytes : (xs : List ℕ) (b : Bool) → b ≡ (length xs == 0) → b ≡ true → xs ≡ []
no_bytes xs b is so = nil_from_length xs (eq-eqb-back (length xs) (sym is ∙ so))

-- the bytes of a text
pub grows_by : {old new : Option (List ℕ)} (bytes : List ℕ) → IsUtf8 bytes → Appends old new bytes
    → Grows (chars bytes) old new
grows_by bytes utf8 added = record { bytes = bytes; utf8 = utf8; text = refl; added = added }

pub grows_by_part : {old new : Option (List ℕ)} (bytes : List ℕ) → IsUtf8 bytes → AppendsPart old new bytes
    → GrowsPart (chars bytes) old new
grows_by_part bytes utf8 added =
    record { bytes = bytes; rest = []; utf8 = utf8; text = sym (append-nil (chars bytes)); added = added }

-- nothing, and one text after another
pub grows_none : (a : Option (List ℕ)) → Grows [] a a
grows_none a = record { bytes = []; utf8 = IsUtf8-nil; text = chars-nil; added = Appends-nil a }

pub grows_on : {a b c : Option (List ℕ)} (cs ds : List ℕ) → Grows cs a b → Grows ds b c → Grows (cs ++ ds) a c
grows_on {a} {b} {c} cs ds p q = record {
  bytes = p.bytes ++ q.bytes;
  utf8 = IsUtf8-append p.bytes q.bytes p.utf8 q.utf8;
  text = chars-append p.bytes q.bytes p.utf8 ∙ ap (λ l. l ++ chars q.bytes) p.text ∙ ap (λ l. cs ++ l) q.text;
  added = Appends-trans a b c p.bytes q.bytes p.added q.added;
}

-- a text, and a beginning of another after it
pub grows_on_part : {a b c : Option (List ℕ)} (cs ds : List ℕ) → Grows cs a b → GrowsPart ds b c
    → GrowsPart (cs ++ ds) a c
grows_on_part {a} {b} {c} cs ds p q = record {
  bytes = p.bytes ++ q.bytes;
  rest = q.rest;
  utf8 = IsUtf8-append p.bytes q.bytes p.utf8 q.utf8;
  text = ap (λ l. cs ++ l) q.text ∙ sym (append_assoc cs (chars q.bytes) q.rest)
      ∙ ap (λ l. l ++ chars q.bytes ++ q.rest) (sym p.text)
      ∙ ap (λ l. l ++ q.rest) (sym (chars-append p.bytes q.bytes p.utf8));
  added = record {
    front = p.bytes ++ q.added.front;
    rest = q.added.rest;
    whole = ap (λ l. p.bytes ++ l) q.added.whole ∙ sym (append_assoc p.bytes q.added.front q.added.rest);
    added = Appends-trans a b c p.bytes q.added.front p.added q.added.added;
  };
}

-- a beginning of a text is one of a longer text
pub part_of_more : {a b : Option (List ℕ)} (cs ds : List ℕ) → GrowsPart cs a b → GrowsPart (cs ++ ds) a b
part_of_more cs ds p = record {
  bytes = p.bytes;
  rest = p.rest ++ ds;
  utf8 = p.utf8;
  text = ap (λ l. l ++ ds) p.text ∙ append_assoc (chars p.bytes) p.rest ds;
  added = p.added;
}

-- a text that was written whole is a beginning of a longer one
pub part_of_all : {a b : Option (List ℕ)} (cs ds : List ℕ) → Grows cs a b → GrowsPart (cs ++ ds) a b
part_of_all cs ds p = record {
  bytes = p.bytes;
  rest = ds;
  utf8 = p.utf8;
  text = ap (λ l. l ++ ds) (sym p.text);
  added = record { front = p.bytes; rest = []; whole = sym (append-nil p.bytes); added = p.added };
}

-- of a text a front was written and the rest is left; what had failed still has
pub record IsGrowing (old now : Option (List ℕ)) (cs rest : List ℕ) (failed_then failed_now : Bool) : Type 0 where
  pub front : List ℕ
  pub whole : cs ≡ front ++ rest
  pub grown : Grows front old now
  pub stays : failed_then ≡ true → failed_now ≡ true

pub nothing_grown : (a : Option (List ℕ)) (cs : List ℕ) (failed : Bool) → IsGrowing a a cs cs failed failed
nothing_grown a cs failed = record { front = []; whole = refl; grown = grows_none a; stays = λ h. h }

pub more_grown : {old a b : Option (List ℕ)} {cs rest : List ℕ} {f g h : Bool} (front after : List ℕ)
    → IsGrowing old a cs rest f g → Grows front a b → rest ≡ front ++ after → (g ≡ true → h ≡ true)
    → IsGrowing old b cs after f h
more_grown {old} {a} {b} {cs} {rest} front after w more at stays = record {
  front = w.front ++ front;
  whole = w.whole ∙ ap (λ l. w.front ++ l) at ∙ sym (append_assoc w.front front after);
  grown = grows_on w.front front w.grown more;
  stays = λ h. stays (w.stays h);
}

-- what is left was written, or a beginning of its front
pub all_grown : {old a b : Option (List ℕ)} {cs rest : List ℕ} {f g : Bool} (last : List ℕ)
    → IsGrowing old a cs rest f g → rest ≡ last → Grows last a b → Grows cs old b
all_grown {old} {a} {b} {cs} {rest} last w at more =
    subst (λ l. Grows l old b) (sym (w.whole ∙ ap (λ l. w.front ++ l) at)) (grows_on w.front last w.grown more)

pub part_grown : {old a b : Option (List ℕ)} {cs rest : List ℕ} {f g : Bool} (front after : List ℕ)
    → IsGrowing old a cs rest f g → GrowsPart front a b → rest ≡ front ++ after → GrowsPart cs old b
part_grown {old} {a} {b} {cs} {rest} front after w p at =
    subst (λ l. GrowsPart l old b) (sym (w.whole ∙ ap (λ l. w.front ++ l) at))
    (grows_on_part w.front (front ++ after) w.grown (part_of_more front after p))

pub rest_part_grown : {old a b : Option (List ℕ)} {cs rest : List ℕ} {f g : Bool} (last : List ℕ)
    → IsGrowing old a cs rest f g → rest ≡ last → GrowsPart last a b → GrowsPart cs old b
rest_part_grown {old} {a} {b} {cs} {rest} last w at p =
    subst (λ l. GrowsPart l old b) (sym (w.whole ∙ ap (λ l. w.front ++ l) at)) (grows_on_part w.front last w.grown p)

-- the same text
pub grows_as : {a b : Option (List ℕ)} (cs ds : List ℕ) → cs ≡ ds → Grows cs a b → Grows ds a b
grows_as {a} {b} cs ds e = subst (λ l. Grows l a b) e

pub grows_as_part : {a b : Option (List ℕ)} (cs ds : List ℕ) → cs ≡ ds → GrowsPart cs a b → GrowsPart ds a b
grows_as_part {a} {b} cs ds e = subst (λ l. GrowsPart l a b) e

-- three texts, one after the other: all of them, or up to a part of one
pub three_texts : {o m n t : Option (List ℕ)} (a b c cs : List ℕ) → a ++ b ++ c ≡ cs → Grows a o m → Grows b m n
    → Grows c n t → Grows cs o t
three_texts a b c cs e p q r = grows_as (a ++ b ++ c) cs e (grows_on (a ++ b) c (grows_on a b p q) r)

pub part_of_first : {o t : Option (List ℕ)} (a b c cs : List ℕ) → a ++ b ++ c ≡ cs → GrowsPart a o t → GrowsPart cs o t
part_of_first a b c cs e p = grows_as_part (a ++ b ++ c) cs e (part_of_more (a ++ b) c (part_of_more a b p))

pub part_of_second : {o m t : Option (List ℕ)} (a b c cs : List ℕ) → a ++ b ++ c ≡ cs → Grows a o m → GrowsPart b m t
    → GrowsPart cs o t
part_of_second a b c cs e p q = grows_as_part (a ++ b ++ c) cs e (part_of_more (a ++ b) c (grows_on_part a b p q))

pub part_of_third : {o m n t : Option (List ℕ)} (a b c cs : List ℕ) → a ++ b ++ c ≡ cs → Grows a o m → Grows b m n
    → GrowsPart c n t → GrowsPart cs o t
part_of_third a b c cs e p q r = grows_as_part (a ++ b ++ c) cs e (grows_on_part (a ++ b) c (grows_on a b p q) r)
