-- How far the pairs of a table were read.
use Rattle.std.proofs.Common.{◌≡◌, ◌+◌, ◌<◌, ◌≤◌, [], ◌∷◌, ◌++◌, ◌∙◌, Bor, Err, IfErr, IsErrAnd, List, Ok, Result}
use Rattle.std.proofs.Common.{add-one, ap, append-nil, append_assoc, arith, drop, get_or, length, map, refl, subst, suc}
use Rattle.std.proofs.Common.{sym, take, zero, ℕ}
use Rattle.std.proofs.lemmas.List.{reverse-append, take_all}
use Rattle.std.specs.FinMap as finite
use Rattle.lex_base.specs.Table.{pair_of}
use Rattle.lex_base.specs.declared.table_error.TableError.{TableError}
use Rattle.lex_base.specs.References.{Reference, References, all_checked, checked, references, result_then}
use Rattle.lex_base.specs.References.{table_of_pairs}

-- Of the pairs a front was read: the table is that of the front, and each pair of the front is sound.
pub record HaveRead (front : List Reference) (table : References) : Type 0 where
  pub stands : table ≡ references front
  pub sound : (rest : List Reference) → all_checked (front ++ rest)
      ≡ result_then (all_checked rest) (λ others. Ok (front ++ others))

kept : (r : Result (List Reference) TableError) → r ≡ result_then r (λ others. Ok others)
kept (Ok rs) = refl
kept (Err e) = refl

pub none_read : (table : References) → table ≡ finite.empty → HaveRead [] table
none_read table e = record { stands = e; sound = λ rest. kept (all_checked rest) }

joined : (front : List Reference) (r : Reference) (rest : Result (List Reference) TableError)
    → result_then (result_then rest (λ others. Ok (r ∷ others))) (λ others. Ok (front ++ others))
    ≡ result_then rest (λ others. Ok ((front ++ r ∷ []) ++ others))
joined front r (Ok rs) = ap Ok (sym (append_assoc front (r ∷ []) rs))
joined front r (Err e) = refl

pub one_more_read : (front : List Reference) (r : Reference) (table new : References) → HaveRead front table →
    checked r ≡ Ok r → new ≡ finite.insert table r.0 r.1 → HaveRead (front ++ r ∷ []) new
one_more_read front r table new h ok e = record {
  stands = e ∙ ap (λ t. finite.insert t r.0 r.1) h.stands ∙ ap finite.from_entries
      (sym (reverse-append front (r ∷ [])));
  sound = λ rest.
      ap all_checked (append_assoc front (r ∷ []) rest)
      ∙ h.sound (r ∷ rest)
      ∙ ap (λ c. result_then (result_then c (λ first. result_then (all_checked rest) (λ others. Ok (first ∷ others))))
      (λ others. Ok (front ++ others))) ok
      ∙ joined front r (all_checked rest);
}

pub all_read : (pairs : List Reference) (table : References) → HaveRead pairs table → table_of_pairs pairs ≡ Ok table
all_read pairs table h =
    ap (λ c. result_then c (λ sound. Ok (references sound)))
    (ap all_checked (sym (append-nil pairs)) ∙ h.sound [] ∙ ap Ok (append-nil pairs))
    ∙ ap Ok (sym h.stands)

-- a faulty pair after the front
pub fault_read : (pairs front rest : List Reference) (r : Reference) (table : References) (e : TableError) →
    HaveRead front table → pairs ≡ front ++ r ∷ rest → checked r ≡ Err e → table_of_pairs pairs ≡ Err e
fault_read pairs front rest r table e h whole fault =
    ap table_of_pairs whole
    ∙ ap (λ c. result_then c (λ sound. Ok (references sound)))
    (h.sound (r ∷ rest) ∙
    ap (λ c. result_then (result_then c (λ first. result_then (all_checked rest) (λ others. Ok (first ∷ others))))
    (λ others. Ok (front ++ others))) fault)

map-take-suc : {A B : Type 0} (f : A → B) (xs : List A) (i : ℕ) (d : A) → i < length xs →
    map f (take (suc i) xs) ≡ map f (take i xs) ++ f (get_or xs i d) ∷ []
map-take-suc f [] i d lt = absurd (omega arith)
map-take-suc f (x ∷ xs) zero d lt = refl
map-take-suc f (x ∷ xs) (suc i) d lt = ap (λ l. f x ∷ l) (map-take-suc f xs i d (omega arith))

map-seam : {A B : Type 0} (f : A → B) (xs : List A) (i : ℕ) (d : A) → i < length xs →
    map f xs ≡ map f (take i xs) ++ f (get_or xs i d) ∷ map f (drop (suc i) xs)
map-seam f [] i d lt = absurd (omega arith)
map-seam f (x ∷ xs) zero d lt = refl
map-seam f (x ∷ xs) (suc i) d lt = ap (λ l. f x ∷ l) (map-seam f xs i d (omega arith))

-- the pairs up to an index
module _ (pairs : List (Bor (List ℕ) × Bor (List ℕ))) (i : ℕ) (table : References)
    (h : HaveRead (map pair_of (take i pairs)) table) where
  pub next_read : (d : Bor (List ℕ) × Bor (List ℕ)) (new : References) → i < length pairs →
      checked (pair_of (get_or pairs i d)) ≡ Ok (pair_of (get_or pairs i d))
      → new ≡ finite.insert table (pair_of (get_or pairs i d)).0 (pair_of (get_or pairs i d)).1 →
      HaveRead (map pair_of (take (i + 1) pairs)) new
  next_read d new lt ok e =
      subst (λ l. HaveRead l new) (sym (map-take-suc pair_of pairs i d lt) ∙ ap (λ k. map pair_of (take k pairs))
      (sym (add-one i)))
      (one_more_read (map pair_of (take i pairs)) (pair_of (get_or pairs i d)) table new h ok e)

  pub next_faulty : (d : Bor (List ℕ) × Bor (List ℕ)) (e : TableError) → i < length pairs →
      checked (pair_of (get_or pairs i d)) ≡ Err e → table_of_pairs (map pair_of pairs) ≡ Err e
  next_faulty d e lt fault =
      fault_read (map pair_of pairs) (map pair_of (take i pairs)) (map pair_of (drop (suc i) pairs))
      (pair_of (get_or pairs i d)) table e h (map-seam pair_of pairs i d lt) fault

  pub ends_read : length pairs ≤ i → table_of_pairs (map pair_of pairs) ≡ Ok table
  ends_read le =
      all_read (map pair_of pairs) table (subst (λ l. HaveRead (map pair_of l) table) (take_all i pairs le) h)

pub if_err : {A E : Type 0} (P Q : E → Type 0) (r : Result A E) → IsErrAnd r P → ((e : E) → P e → Q e) → IfErr r Q
if_err P Q (Ok a) h f = absurd h
if_err P Q (Err e) h f = f e h
