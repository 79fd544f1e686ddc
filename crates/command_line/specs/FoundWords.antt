-- What is read of the values that clap found.
use Rattle.std.specs.Prelude.{◌≡◌, ℕ, Bool, true, false, not, List, Option, Some, None, codes}
use Rattle.clap.specs.Words.{without_minus}
use Rattle.clap.specs.Matches.{first_value, one_text}
use Rattle.clap.specs.declared.parser.matches.Found.{Found}
use Rattle.command_line.specs.CommandWords.{Asked, Says}

-- of the text of a number's value, which clap gives without a hyphen in front
abbrev pub EmitsNumber : Option (List ℕ) → Option ℕ → Type 0
EmitsNumber text number = (text ≡ None → number ≡ None)
    × ((value : List ℕ) (n : ℕ) → text ≡ Some (without_minus value) → Says value n → number ≡ Some n)

-- the same of the width, which is 80 columns where there is none
abbrev pub EmitsWidth : Option (List ℕ) → ℕ → Type 0
EmitsWidth text columns = (text ≡ None → columns ≡ 80)
    × ((value : List ℕ) (n : ℕ) → text ≡ Some (without_minus value) → Says value n → columns ≡ n)

abbrev pub EmitsFlag : Option (List ℕ) → Bool → Type 0
EmitsFlag text given = (text ≡ Some (codes "true") → given ≡ true) × (text ≡ Some (codes "false") → given ≡ false)

pub record IsFound (found : Found) (asked : Asked) : Type 0 where
  pub width : EmitsWidth (one_text found (codes "width")) asked.width
  pub rich : EmitsFlag (one_text found (codes "rich")) asked.rich
  pub decorate : EmitsFlag (one_text found (codes "no-decorate")) (not asked.decorate)
  pub footnotes : EmitsFlag (one_text found (codes "footnotes")) asked.footnotes
  pub shared_footnotes : EmitsFlag (one_text found (codes "shared-footnotes")) asked.shared_footnotes
  pub references : asked.references ≡ first_value found (codes "references")
  pub max_bytes : EmitsNumber (one_text found (codes "max-bytes")) asked.max_bytes
  pub file : asked.file ≡ first_value found (codes "file")
