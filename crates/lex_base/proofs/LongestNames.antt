-- The longest name that a text begins with, from the longest that its front begins with.
use Rattle.std.proofs.Common.{◌≡◌, ◌⊎◌, [], ◌∷◌, ◌++◌, ◌∙◌, IsTrue, List, MatchOption, None, Option, Some, ap}
use Rattle.std.proofs.Common.{append-nil, append_assoc, arith, chars, inl, inr, is_some, length, length-append, refl}
use Rattle.std.proofs.Common.{subst, sym, ℕ}
use Rattle.std.specs.Option.{option_or}
use Rattle.std.specs.FinMap as finite
use Rattle.lex_base.specs.declared.table.NamedReference.{NamedReference}
use Rattle.lex_base.specs.References.{References}
use Rattle.lex_base.specs.Lookup.{HasNameBeginning, BeginsWithNoName, IsLongestName}

-- what `longest_name` answers at a text
abbrev pub Longest : References → List ℕ → Option NamedReference → Type 0
Longest table text r =
    MatchOption r (BeginsWithNoName table text) (λ r. IsLongestName table text (chars r.name.now) (chars r.value.now))

-- what is said of one name
abbrev pub Named : References → List ℕ → Option NamedReference → Type 0
Named table name r =
    MatchOption r (finite.get table name ≡ None) (λ r. (chars r.name.now ≡ name)
    × (finite.get table name ≡ Some (chars r.value.now)))

no_front : (front rest : List ℕ) → [] ≡ front ++ rest → front ≡ []
no_front [] rest e = refl
no_front (c ∷ front) rest e = cc

-- a front of a text is one of what stands before a place, or goes past it
cut_at : (read later front more : List ℕ) (c : ℕ) → read ++ c ∷ later ≡ front ++ more →
    ((k : List ℕ) × (front ≡ (read ++ c ∷ []) ++ k)) ⊎ ((k : List ℕ) × (read ≡ front ++ k))
cut_at read later [] more c e = inr (read, refl)
cut_at [] later (f ∷ front) more c e = let same : f ≡ c = cc in inl (front, ap (λ x. x ∷ front) same)
cut_at (y ∷ read) later (f ∷ front) more c e =
    let same : y ≡ f = cc in
    let tails : read ++ c ∷ later ≡ front ++ more = cc in
    elim (cut_at read later front more c tails) [
      | inl p ↦ inl (p.0, λ i. sym same i ∷ p.1 i)
      | inr p ↦ inr (p.0, λ i. same i ∷ p.1 i)
    ]

-- The fronts of the whole text are those of what was read, and no names.
abbrev pub AddsNoName : References → List ℕ → List ℕ → Type 0
AddsNoName table read whole = (front more : List ℕ) → whole ≡ front ++ more → (finite.get table front ≡ None)
    ⊎ ((k : List ℕ) × (read ≡ front ++ k))

not_none : {A : Type 0} (o : Option A) → o ≡ None → IsTrue (is_some o) → ⊥
not_none None e s = cc
not_none (Some a) e s = cc

none_since : {A : Type 0} (o : Option A) → (IsTrue (is_some o) → ⊥) → o ≡ None
none_since None h = refl
none_since (Some a) h = absurd (h refl)

pub carried : (table : References) (read rest whole : List ℕ) (r : Option NamedReference) → whole ≡ read ++ rest →
    AddsNoName table read whole → Longest table read r → Longest table whole r
carried table read rest whole None e adds h =
    λ front more is. elim (adds front more is) [ inl none ↦ none | inr p ↦ h front p.0 p.1 ]
carried table read rest whole (Some r) e adds h = record {
  rest = h.rest ++ rest;
  begins = e ∙ ap (λ l. l ++ rest) h.begins ∙ append_assoc (chars r.name.now) h.rest rest;
  named = h.named;
  longest =
      λ front more is there. elim (adds front more is)
      [ inl none ↦ absurd (not_none _ none there) | inr p ↦ h.longest front p.0 p.1 there ];
}

-- a text that is a name is the longest that it begins with
whole_name : (table : References) (text : List ℕ) (r : NamedReference) → chars r.name.now ≡ text →
    finite.get table text ≡ Some (chars r.value.now) → IsLongestName table text (chars r.name.now) (chars r.value.now)
whole_name table text r e named = record {
  rest = [];
  begins = sym e ∙ sym (append-nil (chars r.name.now));
  named = ap (finite.get table) e ∙ named;
  longest = λ front more is there. omega (arith, length-append front more, ap length is, ap length e);
}

pub none_longest : (table : References) (r : Option NamedReference) → Named table [] r → Longest table [] r
none_longest table None h = λ front rest e. ap (finite.get table) (no_front front rest e) ∙ h
none_longest table (Some r) h = whole_name table [] r h.0 h.1

only_last : (read front more k : List ℕ) (c : ℕ) → read ++ c ∷ [] ≡ front ++ more → front ≡ (read ++ c ∷ []) ++ k →
    front ≡ read ++ c ∷ []
only_last read front more [] c e f = f ∙ append-nil (read ++ c ∷ [])
only_last read front more (x ∷ k) c e f =
    absurd (omega (arith, ap length e, ap length f, length-append front more, length-append (read ++ c ∷ []) (x ∷ k)))

-- one more character
pub grown_longest : (table : References) (read : List ℕ) (c : ℕ) (found old : Option NamedReference) →
    Named table (read ++ c ∷ []) found → Longest table read old → Longest table (read ++ c ∷ []) (option_or found old)
grown_longest table read c (Some r) old h before = whole_name table (read ++ c ∷ []) r h.0 h.1
grown_longest table read c None old h before =
    carried table read (c ∷ []) (read ++ c ∷ []) old refl (λ front more e. elim (cut_at read [] front more c e) [
      | inl p ↦ inl (ap (finite.get table) (only_last read front more p.0 c e p.1) ∙ h)
      | inr p ↦ inr p
    ]) before

-- no name begins with what was read and one more character
pub stopped_longest : (table : References) (read later whole : List ℕ) (c : ℕ) (r : Option NamedReference) →
    whole ≡ read ++ c ∷ later → (HasNameBeginning table (read ++ c ∷ []) → ⊥) → Longest table read r →
    Longest table whole r
stopped_longest table read later whole c r e stops before =
    carried table read (c ∷ later) whole r e (λ front more is. elim (cut_at read later front more c (sym e ∙ is)) [
      | inl p ↦
          inl (none_since _ (λ there. stops (p.0, subst (λ name. IsTrue (finite.contains_key table name)) p.1 there)))
      | inr p ↦ inr p
    ]) before

-- the same of a name in bytes
pub named_text : (table : References) (bs name : List ℕ) (r : Option NamedReference) → chars bs ≡ name
    → MatchOption r (finite.get table (chars bs) ≡ None) (λ r. (r.name.now ≡ bs)
    × (finite.get table (chars bs) ≡ Some (chars r.value.now))) → Named table name r
named_text table bs name None e h = ap (finite.get table) (sym e) ∙ h
named_text table bs name (Some r) e h = (ap chars h.0 ∙ e, ap (finite.get table) (sym e) ∙ h.1)
