use Rattle.std.proofs.Common.{refl, sym, ◌∙◌}
use Rattle.lex_base.specs.Known.{place_of}
use Rattle.lex_base.proofs.FindLemmas.{is_candidate, no_candidate, other_candidate, same_by_chars}
use Rattle.lex_base.proofs.find.known_of.Goals as goal

pub candidate-requires : goal.candidate-requires
unfolding place_of
candidate-requires c = refl

pub returns-then-eq : goal.returns-then-eq
returns-then-eq c = is_candidate c.args.name.now c.in-Some.known c.as_str.result.now c.as_str.ensures.bytes
    c.if-eq.ensures ∙ same_by_chars _ c.utf8.name

pub returns-else-eq : goal.returns-else-eq
returns-else-eq c = other_candidate c.args.name.now c.in-Some.known c.as_str.result.now c.as_str.ensures.bytes
    (λ known is. sym c.in-Some.is ∙ c.candidate.ensures known (c.as_bytes.ensures.value ∙ is)) c.if-eq.ensures
    ∙ same_by_chars _ c.utf8.name

pub returns-in-None : goal.returns-in-None
returns-in-None c = no_candidate c.args.name.now (λ known is. sym c.in-None.is ∙ c.candidate.ensures known
    (c.as_bytes.ensures.value ∙ is)) ∙ same_by_chars _ c.utf8.name
