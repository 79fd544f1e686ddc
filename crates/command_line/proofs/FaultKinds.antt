-- Lists of kinds: none, one that is not help, and the first of two.
use Rattle.std.proofs.Common.{◌≡◌, ◌∙◌, [], ◌∷◌, refl, sym, ap, subst, inl, inr}
use Rattle.clap.specs.Kinds.{IsAmong, Kinds, or_else}
use Rattle.clap.specs.declared.error.kind.ErrorKind.{ErrorKind}
use Rattle.clap.specs.declared.error.kind.ErrorKind.TheVariants.{DisplayHelp}

pub no_kind : {k : ErrorKind} {ks : Kinds} → k ∷ ks ≡ [] → ⊥
no_kind e = cc

-- the fault has one kind, and no help
abbrev pub IsRefusal : Kinds → Type 0
IsRefusal fault = (k : ErrorKind) × (k ≡ DisplayHelp → ⊥) × (fault ≡ k ∷ [])

pub refusal : (fault : Kinds) (k : ErrorKind) → (k ≡ DisplayHelp → ⊥) → fault ≡ k ∷ [] → IsRefusal fault
refusal fault k other is = (k, other, is)

pub no_refusal : (fault : Kinds) → IsRefusal fault → fault ≡ [] → ⊥
no_refusal fault refused none = no_kind (sym refused.2 ∙ none)

pub refusal_harmless : (fault : Kinds) → IsRefusal fault → IsAmong DisplayHelp fault → ⊥
refusal_harmless fault refused h = elim (subst (IsAmong DisplayHelp) refused.2 h)
    [ inl e ↦ refused.1 (sym e) | inr none ↦ none ]

pub or_else_none : (a : Kinds) → or_else a [] ≡ a
or_else_none [] = refl
or_else_none (k ∷ ks) = refl

pub or_else_past : (a b : Kinds) → a ≡ [] → or_else a b ≡ b
or_else_past a b none = ap (λ x. or_else x b) none

pub or_else_first : (a b : Kinds) (k : ErrorKind) → a ≡ k ∷ [] → or_else a b ≡ k ∷ []
or_else_first a b k is = ap (λ x. or_else x b) is

pub or_else_assoc : (a b c : Kinds) → or_else (or_else a b) c ≡ or_else a (or_else b c)
or_else_assoc [] b c = refl
or_else_assoc (k ∷ ks) b c = refl

pub first_refuses : (a b : Kinds) → IsRefusal a → IsRefusal (or_else a b)
first_refuses a b refused = (refused.0, refused.1, or_else_first a b refused.0 refused.2)

pub refusal_as : (a b : Kinds) → a ≡ b → IsRefusal b → IsRefusal a
refusal_as a b same refused = (refused.0, refused.1, same ∙ refused.2)
