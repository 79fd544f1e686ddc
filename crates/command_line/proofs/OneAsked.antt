-- Words ask for one thing: the rows of two lines with the same words are the same.
use Rattle.std.proofs.Common.{◌≡◌, ◌∙◌, ◌++◌, ◌∷◌, [], Bool, List, None, Option, Some, ap, length, map, not, subst, suc}
use Rattle.std.proofs.Common.{sym, true, zero, ℕ}
use Rattle.std.specs.Option.{option_and_then}
use Rattle.clap.specs.Walk.{Text}
use Rattle.command_line.specs.CommandWords.{Asked, Asks, Flag, GivesNumber, GivesText, GivesWidth, IsGiven, Item}
use Rattle.command_line.specs.CommandWords.{Valued, files_in, footnotes, max_bytes, no_decorate, references, rich}
use Rattle.command_line.specs.CommandWords.{shared_footnotes, uses_in, values_in, width}
use Rattle.command_line.proofs.FoundRows.{row_at}
use Rattle.command_line.proofs.ItemRuns.{trailing}
use Rattle.command_line.proofs.ItemUses.{value_of}
use Rattle.command_line.proofs.NameUses.{files_all, first_of_all, first_text, uses_all, uses_at, value_found}
use Rattle.command_line.proofs.NameUses.{values_all, values_at}
use Rattle.command_line.proofs.NumberValues.{says_one}
use Rattle.command_line.proofs.OptionNames.{Name, filed, flagged, id_of, valued}
use Rattle.command_line.proofs.RequestFields.{not_same, text_emitted}
use Rattle.command_line.proofs.WordOutcomes.{asks_passes}

some_same : (v w : Text) → Some v ≡ Some w → v ≡ w
some_same v w e = cc

one_width : (a b : List Text) (m n : ℕ) → first_of_all a ≡ first_of_all b → GivesWidth a m → GivesWidth b n → m ≡ n
one_width [] [] m n same one other = one ∙ sym other
one_width [] (w ∷ b) m n same one other = cc
one_width (v ∷ a) [] m n same one other = cc
one_width (v ∷ []) (w ∷ []) m n same one other =
    says_one w m n (subst (λ value. GivesWidth (value ∷ []) m) (some_same v w same) one) other
one_width (v ∷ []) (w ∷ x ∷ b) m n same one other = absurd other
one_width (v ∷ x ∷ a) (w ∷ b) m n same one other = absurd one

one_number : (a b : List Text) (m n : Option ℕ) → first_of_all a ≡ first_of_all b → GivesNumber a m → GivesNumber b n
    → m ≡ n
one_number [] [] m n same one other = one ∙ sym other
one_number [] (w ∷ b) m n same one other = cc
one_number (v ∷ a) [] m n same one other = cc
one_number (v ∷ []) (w ∷ []) None n same one other = absurd one
one_number (v ∷ []) (w ∷ []) (Some m) None same one other = absurd other
one_number (v ∷ []) (w ∷ []) (Some m) (Some n) same one other =
    ap (λ k. Some k) (says_one w m n (subst (λ value. GivesNumber (value ∷ []) (Some m)) (some_same v w same) one)
    other)
one_number (v ∷ []) (w ∷ x ∷ b) m n same one other = absurd other
one_number (v ∷ x ∷ a) (w ∷ b) m n same one other = absurd one

one_text : (a b : List Text) (s t : Option Text) → first_of_all a ≡ first_of_all b → GivesText a s → GivesText b t
    → s ≡ t
one_text a b s t same one other = sym (text_emitted a s one) ∙ same ∙ text_emitted b t other

given_some : (n : ℕ) (given : Bool) → IsGiven (suc n) given → given ≡ true
given_some zero given is = is
given_some (suc n) given is = absurd is

one_flag : (us vs : List Item) (b c : Bool) → first_of_all (map value_of us) ≡ first_of_all (map value_of vs)
    → IsGiven (length us) b → IsGiven (length vs) c → b ≡ c
one_flag [] [] b c same one other = one ∙ sym other
one_flag [] (v ∷ vs) b c same one other = cc
one_flag (u ∷ us) [] b c same one other = cc
one_flag (u ∷ us) (v ∷ vs) b c same one other = given_some (length us) b one ∙ sym (given_some (length vs) c other)

pub one_asked : (words : List Text) (one other : Asked) → Asks words one → Asks words other → one ≡ other
one_asked words one other asks too = λ i. record {
  width = columns i;
  rich = flag_same rich one.rich other.rich asks.asks.rich too.asks.rich i;
  decorate = not_same one.decorate other.decorate
      (flag_same no_decorate (not one.decorate) (not other.decorate) asks.asks.decorate too.asks.decorate) i;
  footnotes = flag_same footnotes one.footnotes other.footnotes asks.asks.footnotes too.asks.footnotes i;
  shared_footnotes = flag_same shared_footnotes one.shared_footnotes other.shared_footnotes
      asks.asks.shared_footnotes too.asks.shared_footnotes i;
  references = table i;
  max_bytes = most i;
  file = page i;
}
  where
    all : List Item
    all = asks.items ++ trailing asks.ending

    more : List Item
    more = too.items ++ trailing too.ending

    same_first : (name : Name) → first_of_all (values_at name all) ≡ first_of_all (values_at name more)
    same_first name =
        sym (value_found name all)
        ∙ ap (λ rows. option_and_then first_text (row_at (id_of name) rows))
        (sym (asks_passes words one asks).found ∙ (asks_passes words other too).found)
        ∙ value_found name more

    option_same : (option : Valued) → first_of_all (values_in option asks.items)
        ≡ first_of_all (values_in option too.items)
    option_same option = ap first_of_all (values_all option asks.items asks.ending) ∙ same_first (valued option)
        ∙ ap first_of_all (sym (values_all option too.items too.ending))

    columns : one.width ≡ other.width
    columns = one_width (values_in width asks.items) (values_in width too.items) one.width other.width
        (option_same width) asks.asks.width too.asks.width

    most : one.max_bytes ≡ other.max_bytes
    most = one_number (values_in max_bytes asks.items) (values_in max_bytes too.items) one.max_bytes other.max_bytes
        (option_same max_bytes) asks.asks.max_bytes too.asks.max_bytes

    table : one.references ≡ other.references
    table = one_text (values_in references asks.items) (values_in references too.items) one.references other.references
        (option_same references) asks.asks.references too.asks.references

    page : one.file ≡ other.file
    page = one_text (files_in asks.items asks.ending) (files_in too.items too.ending) one.file other.file
        (ap first_of_all (files_all asks.items asks.ending) ∙ same_first filed
        ∙ ap first_of_all (sym (files_all too.items too.ending))) asks.asks.file too.asks.file

    flag_same : (option : Flag) (b c : Bool) → IsGiven (uses_in option asks.items) b
        → IsGiven (uses_in option too.items) c → b ≡ c
    flag_same option b c is is_too = one_flag (uses_at (flagged option) all) (uses_at (flagged option) more) b c
        (same_first (flagged option))
        (subst (λ n. IsGiven n b) (uses_all option asks.items asks.ending) is)
        (subst (λ n. IsGiven n c) (uses_all option too.items too.ending) is_too)
