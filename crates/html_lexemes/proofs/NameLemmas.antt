-- A name is held in one way alone.
use Rattle.std.proofs.Common.{◌≡◌, ℕ, List, Option, None, Some, refl, ap}
use Rattle.lex_base.specs.declared.known.KnownName.{KnownName}
use Rattle.lex_base.specs.Known.{known_at, known_text}
use Rattle.lex_base.proofs.KnownLemmas.{known_back}
use Rattle.html_lexemes.specs.declared.names.Name.TheVariants.{Known, Other}
use Rattle.html_lexemes.specs.Names.{name_at, name_of}

-- how it is held
pub held_known : (known : KnownName) → name_of (known_text known) ≡ Known known
held_known known = ap (λ found. name_at found (known_text known)) (known_back known)

pub held_other : (text : List ℕ) → known_at text ≡ None → name_of text ≡ Other text
held_other text e = ap (λ found. name_at found text) e

none_by : (found : Option KnownName) (text : List ℕ) → name_at found text ≡ Other text → found ≡ None
none_by None text e = refl
none_by (Some known) text e = absurd cc

pub other_is_none : (text : List ℕ) → name_of text ≡ Other text → known_at text ≡ None
other_is_none text e = none_by (known_at text) text e
