-- A map keeps the numbers of targets as one more is noted.
use Rattle.std.proofs.Common.{◌≡◌, ◌+◌, ◌||◌, [], ◌∷◌, ◌++◌, ◌∙◌, Bool, BuildHasherDefault, FoldHasher, List, None}
use Rattle.std.proofs.Common.{Option, Some, String, ap, arith, chars, cond, false, is_some, length, length-append, refl}
use Rattle.std.proofs.Common.{string_bytes, string_eq, sym, true, ℕ}
use Rattle.std.specs.Cmp.Lexicographic.{nat_list_eq_equiv}
use Rattle.std.specs.Global.{Global}
use Rattle.std.specs.HashMap.{HashMap, Updates, get, hash_map_len}
use Rattle.text_footnotes.specs.Seen.{AreNumbered}
use Rattle.text_footnotes.specs.Targets.{distinct, has_text, is_same_text, number_among}
use Rattle.text_footnotes.proofs.TextLemmas.{distinct_again, distinct_new, has_again, has_distinct, has_push, has_same}
use Rattle.text_footnotes.proofs.TextLemmas.{number_after, number_found, string_eq-text, text_of}

abbrev pub Numbers : Type 0
Numbers = HashMap (String Global) ℕ (BuildHasherDefault FoldHasher)

shown : (b : Bool) (n : ℕ) → is_some (cond b (Some n) None) ≡ b
shown true n = refl
shown false n = refl

-- the map has the targets and no other
is_numbered : (m : Numbers) (targets : List (List ℕ)) → AreNumbered targets m → (q : String Global) →
    is_some (get string_eq m q) ≡ has_text targets (text_of q)
is_numbered m targets numbered q = ap is_some (numbered.each q) ∙ shown (has_text targets (text_of q)) _

-- a target that had a number
pub numbered_again : (m : Numbers) (text : String Global) (r : Bool) → r ≡ is_some (get string_eq m text) → r ≡ true →
    (targets : List (List ℕ)) → AreNumbered targets m → AreNumbered (targets ++ text_of text ∷ []) m
numbered_again m text r is found targets numbered =
    let has : has_text targets (text_of text) ≡ true
    = sym (is_numbered m targets numbered text) ∙ (sym is ∙ found) in
    let same = distinct_again targets (text_of text) has in
    record {
      how_many = numbered.how_many ∙ ap length (sym same);
      each = λ q. numbered.each q
          ∙ ap (λ b. cond b (Some (number_among (distinct targets) (Some (text_of q)))) None)
          (sym (has_again targets (text_of text) (text_of q) has))
          ∙ ap (λ l. cond (has_text (targets ++ text_of text ∷ []) (text_of q)) (Some (number_among l
          (Some (text_of q)))) None) (sym same);
    }

-- what the map has of a text when one more target, which is new, has the next number
looked_up : (targets : List (List ℕ)) (text t : List ℕ) (found : Option ℕ) (n : ℕ) (same has : Bool) →
    has_text targets text ≡ false → is_same_text text t ≡ same → has_text targets t ≡ has →
    found ≡ cond has (Some (number_among (distinct targets) (Some t))) None → n ≡ length (distinct targets) + 1 →
    cond same (Some n) found
    ≡ cond (has || same) (Some (number_among (distinct targets ++ text ∷ []) (Some t))) None
looked_up targets text t found n true true new same has is number =
    cc (has, has_same targets text t same, new)
looked_up targets text t found n true false new same has is number =
    ap Some (number ∙ sym (number_after (distinct targets) text t (has_distinct targets t ∙ has)
    (nat_list_eq_equiv.symm t text ∙ same)))
looked_up targets text t found n false true new same has is number =
    is ∙ ap Some (sym (number_found (distinct targets) text t (has_distinct targets t ∙ has)))
looked_up targets text t found n false false new same has is number = is

-- a new target
pub numbered_next : (m n : Numbers) (text key : String Global) (number : ℕ) (old : Option ℕ) (r : Bool) →
    r ≡ is_some (get string_eq m text) → r ≡ false → string_bytes key ≡ string_bytes text →
    number ≡ hash_map_len m + 1 → Updates string_eq m n key (Some number) → old ≡ get string_eq m key →
    hash_map_len n ≡ hash_map_len m + cond (is_some old) 0 1 →
    (targets : List (List ℕ)) → AreNumbered targets m → AreNumbered (targets ++ text_of text ∷ []) n
numbered_next m n text key number old r is absent bytes next updates had longer targets numbered =
    let new : has_text targets (text_of text) ≡ false
    = sym (is_numbered m targets numbered text) ∙ (sym is ∙ absent) in
    let spelt : text_of key ≡ text_of text = ap chars bytes in
    let more = distinct_new targets (text_of text) new in
    let none : is_some old ≡ false
    = ap is_some had ∙ is_numbered m targets numbered key ∙ ap (has_text targets) spelt ∙ new in
    record {
      how_many = longer ∙ ap (λ b. hash_map_len m + cond b 0 1) none
          ∙ omega (arith, numbered.how_many, length-append (distinct targets) (text_of text ∷ []), ap length more);
      each = λ q. updates.0 q
          ∙ ap (λ b. cond b (Some number) (get string_eq m q))
          (string_eq-text key q ∙ ap (λ t. is_same_text t (text_of q)) spelt)
          ∙ looked_up targets (text_of text) (text_of q) (get string_eq m q) number
          (is_same_text (text_of text) (text_of q)) (has_text targets (text_of q)) new refl refl (numbered.each q)
          (omega (arith, next, numbered.how_many))
          ∙ ap (λ b. cond b (Some (number_among (distinct targets ++ text_of text ∷ []) (Some (text_of q)))) None)
          (ap (λ b. has_text targets (text_of q) || b) (nat_list_eq_equiv.symm (text_of text) (text_of q))
          ∙ sym (has_push targets (text_of text) (text_of q)))
          ∙ ap (λ l. cond (has_text (targets ++ text_of text ∷ []) (text_of q)) (Some (number_among l
          (Some (text_of q)))) None) (sym more);
    }
