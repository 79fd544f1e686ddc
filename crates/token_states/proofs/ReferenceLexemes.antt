-- When a character reference is over: what its lexeme leaves, and that what follows does not change it.
use Rattle.std.proofs.Common.{◌≡◌, ◌&&◌, ◌||◌, [], ◌∷◌, ◌++◌, ◌∙◌, Bool, List, None, Option, Some, ap, append-nil}
use Rattle.std.proofs.Common.{append_assoc, eqb, false, not, option_map, refl, subst, sym, true, ℕ}
use Rattle.std.specs.Prelude.{IfSome}
use Rattle.std.proofs.lemmas.Bool.{and_parts, ne_eqb}
use Rattle.std.specs.List.{list_all}
use Rattle.std.specs.Option.{option_or}
use Rattle.std.specs.FinMap as finite
use Rattle.lex_base.specs.References.{References}
use Rattle.html_lexemes.specs.declared.states.RawKind.TheVariants.{Rcdata, Rawtext, ScriptData, ScriptDataEscaped}
use Rattle.token_grammar.specs.Lexemes.{reference_lexeme}
use Rattle.token_grammar.specs.References.{Found, named_from, named_here, reference}
use Rattle.token_grammar.specs.declared.modes.Mode.{Mode}
use Rattle.token_grammar.specs.declared.modes.TextKind.{TextKind}
use Rattle.token_grammar.specs.declared.modes.TextKind.TheVariants.{Ordinary, Plain, Raw}
use Rattle.token_grammar.proofs.NameLemmas.{named_as, none_from}
use Rattle.token_states.specs.Turns.{IsOver, IsTaken, LeavesText, is_text, with_more}
use Rattle.token_states.specs.declared.place.LexemeState.TheVariants.{CharacterReference}
use Rattle.token_states.specs.declared.place.ReferencePlace.{ReferencePlace}

-- ---- text in every kind of text

abbrev pub is_plain : ℕ → Bool
is_plain c = not (eqb c 0 || eqb c 60 || eqb c 38 || eqb c 45)

but_last : (a b d e : Bool) → not (a || b || d || e) ≡ true → not (a || b || d) ≡ true
but_last true b d e h = cc
but_last false true d e h = cc
but_last false false true e h = cc
but_last false false false e h = refl

plain_text : (kind : TextKind) (c : ℕ) → is_plain c ≡ true → is_text kind c ≡ true
plain_text Ordinary c h = but_last (eqb c 0) (eqb c 60) (eqb c 38) (eqb c 45) h
plain_text Plain c h = but_last (eqb c 0) (eqb c 60) (eqb c 38) (eqb c 45) h
plain_text (Raw Rcdata) c h = but_last (eqb c 0) (eqb c 60) (eqb c 38) (eqb c 45) h
plain_text (Raw Rawtext) c h = but_last (eqb c 0) (eqb c 60) (eqb c 38) (eqb c 45) h
plain_text (Raw ScriptData) c h = but_last (eqb c 0) (eqb c 60) (eqb c 38) (eqb c 45) h
plain_text (Raw (ScriptDataEscaped kind)) c h = h

pub both_true : (a b : Bool) → a ≡ true → b ≡ true → (a && b) ≡ true
both_true true b p q = q
both_true false b p q = cc

pub all_pass : (p q : ℕ → Bool) → ((c : ℕ) → p c ≡ true → q c ≡ true) → (cs : List ℕ) → list_all p cs ≡ true →
    list_all q cs ≡ true
all_pass p q f [] h = refl
all_pass p q f (c ∷ cs) h =
    both_true (q c) _ (f c (and_parts (p c) (list_all p cs) h).0)
    (all_pass p q f cs (and_parts (p c) (list_all p cs) h).1)

pub all_append : (p : ℕ → Bool) (cs ds : List ℕ) → list_all p cs ≡ true → list_all p ds ≡ true →
    list_all p (cs ++ ds) ≡ true
all_append p [] ds h k = k
all_append p (c ∷ cs) ds h k =
    both_true (p c) _ (and_parts (p c) (list_all p cs) h).0 (all_append p cs ds (and_parts (p c) (list_all p cs) h).1 k)

-- a class that lacks a character
pub other_code : (p : ℕ → Bool) (m c : ℕ) → p m ≡ false → p c ≡ true → eqb c m ≡ false
other_code p m c h k = ne_eqb c m (λ e. let wrong : true ≡ false = sym k ∙ ap p e ∙ h in cc)

pub class_plain : (p : ℕ → Bool) → p 0 ≡ false → p 60 ≡ false → p 38 ≡ false → p 45 ≡ false → (c : ℕ) → p c ≡ true →
    is_plain c ≡ true
class_plain p a b d e c h =
    rw (other_code p 0 c a h, other_code p 60 c b h, other_code p 38 c d h, other_code p 45 c e h) refl

-- ---- references

-- with more text after it
abbrev pub with_rest : List ℕ → Found → Found
with_rest more found = record found { rest = found.rest ++ more }

-- the reference of what is held is over before some characters
pub record IsSettled (table : References) (held follow : List ℕ) : Type 0 where
  pub same : (rest : List ℕ) → reference table (held ++ (follow ++ rest))
      ≡ option_map (with_rest (follow ++ rest)) (reference table held)
  pub plain : list_all is_plain held ≡ true
  pub left : IfSome (reference table held) (λ (found : Found). list_all is_plain found.rest ≡ true)

lexeme_more : (mode : Mode) (held more : List ℕ) (o : Option Found) →
    reference_lexeme mode (held ++ more) (option_map (with_rest more) o) ≡ with_more more (reference_lexeme mode held o)
lexeme_more mode held more None = refl
lexeme_more mode held more (Some found) = refl

leaves : (mode : Mode) (held : List ℕ) (o : Option Found) → list_all is_plain held ≡ true →
    IfSome o (λ (found : Found). list_all is_plain found.rest ≡ true) → LeavesText (reference_lexeme mode held o)
leaves mode held None h k = all_pass is_plain (is_text mode.text) (plain_text mode.text) held h
leaves mode held (Some found) h k = all_pass is_plain (is_text mode.text) (plain_text mode.text) found.rest k

pub over : (table : References) (foreign : Bool) (mode : Mode) (place : ReferencePlace) (held follow : List ℕ) →
    IsSettled table held follow → IsOver table foreign mode (CharacterReference place) held follow
over table foreign mode place held follow h = record {
  settled =
      λ rest. ap (reference_lexeme mode (held ++ (follow ++ rest))) (h.same rest) ∙
      lexeme_more mode held (follow ++ rest) (reference table held);
  left = leaves mode held (reference table held) h.plain h.left;
}

pub taken : (table : References) (foreign : Bool) (mode : Mode) (place next : ReferencePlace) (held : List ℕ) (c : ℕ) →
    IsTaken table foreign mode (CharacterReference place) held c (CharacterReference next) (held ++ c ∷ [])
taken table foreign mode place next held c =
    λ rest. ap (λ l. reference_lexeme mode l (reference table l)) (append_assoc held (c ∷ []) rest)

-- no reference, with the character or without
pub settled_none : (table : References) (held : List ℕ) (c : ℕ) →
    ((rest : List ℕ) → reference table (held ++ c ∷ rest) ≡ None) → reference table held ≡ None →
    list_all is_plain held ≡ true → IsSettled table held (c ∷ [])
settled_none table held c h none plain = record {
  same = λ rest. h rest ∙ ap (option_map (with_rest (c ∷ rest))) (sym none);
  plain = plain;
  left = subst (λ o. IfSome o (λ (found : Found). list_all is_plain found.rest ≡ true)) (sym none) tt;
}

-- ---- names

-- no name goes on after a text, in what follows
abbrev pub NoneOn : References → List ℕ → List ℕ → Type 0
NoneOn table text rest = (d : ℕ) (more later : List ℕ) → rest ≡ d ∷ (more ++ later) →
    finite.get table (text ++ d ∷ more) ≡ None

named_end : (front rest : List ℕ) (o : Option (List ℕ)) → option_map (named_as front rest) o
    ≡ option_map (with_rest rest) (option_map (named_as front []) o)
named_end front rest None = refl
named_end front rest (Some v) = refl

named_either : (front cs rest : List ℕ) (o : Option Found) (v : Option (List ℕ)) →
    option_or (option_map (with_rest rest) o) (option_map (named_as front (cs ++ rest)) v)
    ≡ option_map (with_rest rest) (option_or o (option_map (named_as front cs) v))
named_either front cs rest None None = refl
named_either front cs rest None (Some v) = refl
named_either front cs rest (Some f) v = refl

pub named_on : (table : References) (front cs rest : List ℕ) → NoneOn table (front ++ cs) rest →
    named_from table front (cs ++ rest) ≡ option_map (with_rest rest) (named_from table front cs)
named_on table front [] [] h = named_end front [] (finite.get table front)
named_on table front [] (d ∷ rest) h =
    ap (λ o. option_or o (named_here table front (d ∷ rest)))
    (none_from table (front ++ d ∷ []) rest (λ k more e. subst (λ l. finite.get table l ≡ None)
    (ap (λ l. l ++ d ∷ k) (append-nil front) ∙ sym (append_assoc front (d ∷ []) k))
    (h d k more (ap (λ l. d ∷ l) e))))
    ∙ named_end front (d ∷ rest) (finite.get table front)
named_on table front (e ∷ cs) rest h =
    ap (λ o. option_or o (named_here table front (e ∷ (cs ++ rest))))
    (named_on table (front ++ e ∷ []) cs rest
    (subst (λ l. NoneOn table l rest) (sym (append_assoc front (e ∷ []) cs)) h))
    ∙ named_either front (e ∷ cs) rest (named_from table (front ++ e ∷ []) cs) (finite.get table front)

here_left : (front rest : List ℕ) (o : Option (List ℕ)) → list_all is_plain rest ≡ true →
    IfSome (option_map (named_as front rest) o) (λ (found : Found). list_all is_plain found.rest ≡ true)
here_left front rest None h = tt
here_left front rest (Some v) h = h

either_left : (o u : Option Found) → IfSome o (λ (found : Found). list_all is_plain found.rest ≡ true) →
    IfSome u (λ (found : Found). list_all is_plain found.rest ≡ true) →
    IfSome (option_or o u) (λ (found : Found). list_all is_plain found.rest ≡ true)
either_left None u h k = k
either_left (Some f) u h k = h

pub named_left : (table : References) (front cs : List ℕ) → list_all is_plain cs ≡ true →
    IfSome (named_from table front cs) (λ (found : Found). list_all is_plain found.rest ≡ true)
named_left table front [] h = here_left front [] (finite.get table front) refl
named_left table front (c ∷ cs) h =
    either_left (named_from table (front ++ c ∷ []) cs) (named_here table front (c ∷ cs))
    (named_left table (front ++ c ∷ []) cs (and_parts (is_plain c) (list_all is_plain cs) h).1)
    (here_left front (c ∷ cs) (finite.get table front) h)
