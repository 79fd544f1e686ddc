use Rattle.std.proofs.Common.{◌∙◌, sym, refl}
use Rattle.std.proofs.lemmas.List.Sorted.{IsPermutation-refl, IsPermutation-sym, IsPermutation-trans}
use Rattle.html_lexemes.proofs.laws.tags_are_equivalent.Goals as goal

pub returns-clause-itself : goal.returns-clause-itself
returns-clause-itself c = λ a. record { kind = refl; name = refl; attributes = IsPermutation-refl a.attrs }

pub returns-clause-back : goal.returns-clause-back
returns-clause-back c =
    λ a b e. record { kind = sym e.kind; name = sym e.name; attributes = IsPermutation-sym _ _ e.attributes }

pub returns-clause-onward : goal.returns-clause-onward
returns-clause-onward c =
    λ a b d e f. record {
      kind = e.kind ∙ f.kind;
      name = e.name ∙ f.name;
      attributes = IsPermutation-trans _ _ _ e.attributes f.attributes;
    }
