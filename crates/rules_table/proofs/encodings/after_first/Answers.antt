use Rattle.std.proofs.Common.{refl, ap, sym, ◌∙◌}
use Rattle.token_grammar.proofs.MarkLemmas.{shorter}
use Rattle.rules_table.specs.Encodings.{after_first}
use Rattle.rules_table.proofs.EncodingLemmas.{place_here, place_later}
use Rattle.rules_table.proofs.encodings.after_first.Goals as goal

pub places-init : goal.places-init
places-init c = record { text = c.utf8.content; same = refl }

pub places-smaller : goal.places-smaller
places-smaller c = shorter _ _ _ c.places.invariant.text c.in-Some.ensures.utf8 c.in-Some.ensures.value

pub places-preserved : goal.places-preserved
places-preserved c = record {
  text = c.in-Some.ensures.utf8;
  same = sym (place_later _ _ _ c.in-Some.ensures.value c.in_default-after_charset.ensures.rest)
      ∙ c.places.invariant.same;
}

pub returns-in-Some-after_charset-clause-rest : goal.returns-in-Some-after_charset-clause-rest
returns-in-Some-after_charset-clause-rest c =
    place_here _ _ _ _ c.in-Some.ensures.value c.in-Some-after_charset.ensures.rest ∙ c.places.invariant.same

pub returns-clause-rest : goal.returns-clause-rest
returns-clause-rest c = sym (ap after_first c.in_default.ensures.value) ∙ c.places.invariant.same
