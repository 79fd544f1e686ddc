-- The basic table knows the references of escaped text.
use Rattle.std.proofs.Common.{◌≡◌, ◌==◌, [], ◌∷◌, ◌++◌, if◌then◌else◌, ◌∙◌, Bool, List, None, Ordering, Some, ap, codes}
use Rattle.std.proofs.Common.{cond, false, refl, reverse, sym, true, ℕ}
use Rattle.std.specs.Cmp.Lexicographic.{nat_list_cmp_total, slice_cmp}
use Rattle.std.specs.FinMap as finite
use Rattle.std.specs.Ordering.{is_eq, nat_cmp}
use Rattle.std.specs.declared.cmp.Ordering.TheVariants.{Less, Equal, Greater}
use Rattle.lex_base.specs.References.{Reference, basic, basic_references}
use Rattle.document_laws.specs.Escaped.{KnowsEscapes}

-- a semicolon stands before the last character
abbrev pub goes_on : List ℕ → Bool
goes_on [] = false
goes_on (c ∷ []) = false
goes_on (c ∷ d ∷ cs) = if c == 59 then true else goes_on (d ∷ cs)

either : (b later : Bool) → later ≡ true → (if b then true else later) ≡ true
either true later h = refl
either false later h = h

pub goes_on_after : (front : List ℕ) (c : ℕ) (more : List ℕ) → goes_on (front ++ 59 ∷ c ∷ more) ≡ true
goes_on_after [] c more = refl
goes_on_after (x ∷ []) c more = either (x == 59) true refl
goes_on_after (x ∷ y ∷ front) c more =
    either (x == 59) (goes_on (y ∷ (front ++ 59 ∷ c ∷ more))) (goes_on_after (y ∷ front) c more)

equal : (r : Ordering) → is_eq r ≡ true → r ≡ Equal
equal Less e = cc
equal Equal e = refl
equal Greater e = cc

unless : (b : Bool) → (b ≡ true → ⊥) → b ≡ false
unless true h = absurd (h refl)
unless false h = refl

apart : (q name : List ℕ) → goes_on q ≡ true → goes_on name ≡ false → q ≡ name → ⊥
apart q name h k e = let wrong : true ≡ false = sym h ∙ ap goes_on e ∙ k in cc

-- a text that goes on after a semicolon is none that doesn't
other_name : (q name : List ℕ) → goes_on q ≡ true → goes_on name ≡ false → is_eq (slice_cmp nat_cmp q name) ≡ false
other_name q name h k = unless (is_eq (slice_cmp nat_cmp q name))
    (λ e. apart q name h k
    (finite.slice_cmp-IsAntisymmetric finite.nat_cmp-IsAntisymmetric q name (equal (slice_cmp nat_cmp q name) e)))

not_found : (q : List ℕ) (r : Reference) (rs : List Reference) → goes_on q ≡ true → goes_on r.0 ≡ false →
    finite.find (slice_cmp nat_cmp) q rs ≡ None → finite.find (slice_cmp nat_cmp) q (r ∷ rs) ≡ None
not_found q r rs h k later =
    ap (λ b. cond b (Some r.1) (finite.find (slice_cmp nat_cmp) q rs)) (other_name q r.0 h k) ∙ later

-- names in which no semicolon stands before the last character
abbrev EndThere : List Reference → Type 0
EndThere [] = Unit {0}
EndThere (r ∷ rs) = (goes_on r.0 ≡ false) × EndThere rs

none_found : (q : List ℕ) (rs : List Reference) → goes_on q ≡ true → EndThere rs →
    finite.find (slice_cmp nat_cmp) q rs ≡ None
none_found q [] h k = refl
none_found q (r ∷ rs) h k = not_found q r rs h k.0 (none_found q rs h k.1)

pub basic_knows : KnowsEscapes basic
basic_knows = record {
  ampersand = finite.get-from_entries nat_list_cmp_total (reverse basic_references) (codes "amp;");
  less = finite.get-from_entries nat_list_cmp_total (reverse basic_references) (codes "lt;");
  greater = finite.get-from_entries nat_list_cmp_total (reverse basic_references) (codes "gt;");
  quote = finite.get-from_entries nat_list_cmp_total (reverse basic_references) (codes "quot;");
  space = finite.get-from_entries nat_list_cmp_total (reverse basic_references) (codes "nbsp;");
  ends = λ front c more.
      finite.get-from_entries nat_list_cmp_total (reverse basic_references) (front ++ 59 ∷ c ∷ more)
      ∙ none_found (front ++ 59 ∷ c ∷ more) (reverse basic_references) (goes_on_after front c more)
      (refl, (refl, (refl, (refl, (refl, tt)))));
}
