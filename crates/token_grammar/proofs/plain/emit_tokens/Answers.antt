use Rattle.std.proofs.Common.{List, ap, subst, sym, ◌∙◌}
use Rattle.std.specs.Prelude.{fold}
use Rattle.std.specs.Vec.Iter.{into_iter_items}
use Rattle.html_lexemes.specs.declared.token.Token.{Token}
use Rattle.token_grammar.specs.Items.{item_of}
use Rattle.token_grammar.specs.Kinds.{AreWelcome}
use Rattle.token_grammar.specs.PlainRead.{items_of}
use Rattle.token_grammar.proofs.KindLemmas.{welcome_on}
use Rattle.token_grammar.proofs.plain.emit_tokens.Goals as goal

pub tokens-preserved : goal.tokens-preserved
tokens-preserved g c =
    let sink = g.S.TokenSink in
    let hearing = g.met.S.TokenSink.hearing in
    let s = sink.state c.tokens.sink in
    let item = item_of c.in-Some.token in
    let left = items_of (into_iter_items c.next.new.self) in
    let taken = c.in-Some.ensures.steps.0 in
    let e = sym c.in_ok-process_token.ensures.state in
    let w = subst (λ (tokens : List Token). AreWelcome sink.welcomes s (items_of tokens)) taken
    c.tokens.invariant.welcome in
    record {
      ready = subst sink.ready e (g.met.S.TokenSink.lawful.keeps s item c.tokens.invariant.ready);
      welcome =
          subst (λ x. AreWelcome sink.welcomes x left) e
          (welcome_on sink.means sink.welcomes hearing s item left w.0.0 w.0.1 w.1);
      hears = λ later h. subst (λ x. sink.welcomes x later) e
          (hearing.goes_on s item later w.0.0 w.0.1 (c.tokens.invariant.hears later h));
      emitted = ap (λ x. fold sink.means.step x left) (sym e)
          ∙ (ap (λ (tokens : List Token). fold sink.means.step s (items_of tokens)) (sym taken) ∙
          c.tokens.invariant.emitted);
    }
