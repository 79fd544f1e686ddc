use Rattle.std.proofs.Common.{refl, sym, ◌∷◌, [], ◌++◌, string_bytes, subst}
use Rattle.std.specs.Str.{chars}
use Rattle.token_grammar.specs.Items.{characters}
use Rattle.token_states.specs.Places.{place_lexeme}
use Rattle.html_tokenizer.specs.Emits.{Asks}
use Rattle.token_states.specs.Turns.{IsOver, IsUntagged}
use Rattle.html_tokenizer.proofs.PauseMarks.{pause_mark}
use Rattle.html_tokenizer.proofs.ReadsLemmas.{on_ok_map}
use Rattle.html_tokenizer.proofs.ReadyLemmas.{placed_text}
use Rattle.html_tokenizer.proofs.EmitsLemmas.{if_ok_map, emits_same, emits_then}
use Rattle.html_tokenizer.specs.Reads.{Leaves}
use Rattle.html_tokenizer.specs.Advances.{Advances, IsLeft, IsWithinKind}
use Rattle.html_tokenizer.proofs.reader.Reader.advance.Goals as goal

pub end_lexeme-requires-clause-place : goal.end_lexeme-requires-clause-place
end_lexeme-requires-clause-place g c = subst (λ a. IsLeft a c.args.self.now.pending.place) c.in-Ends.is c.requires.left

pub end_lexeme-requires-in-EndsBefore-clause-place : goal.end_lexeme-requires-in-EndsBefore-clause-place
end_lexeme-requires-in-EndsBefore-clause-place g c =
    subst (λ a. IsLeft a c.args.self.now.pending.place) c.in-EndsBefore.is c.requires.left

pub returns-in_ok-begin-in-EndsBefore-clause-reads : goal.returns-in_ok-begin-in-EndsBefore-clause-reads
returns-in_ok-begin-in-EndsBefore-clause-reads g c = λ place held a rest final l.
    let r = c.args.self.now in
    let table = c.args.table.now in
    let s = g.S.TokenSink.means.step (g.S.TokenSink.state c.args.sink.now) (characters (chars (string_bytes r.run))) in
    let f = g.S.TokenSink.means.foreign s in
    let text = chars (string_bytes c.in-EndsBefore.held) in
    let known =
    subst (λ x. Advances table f r.mode place held c.args.c x r.pending.place
    (chars (string_bytes r.pending.held))) c.in-EndsBefore.is a in
    let over : IsOver table f r.mode c.in-EndsBefore.place text (c.args.c ∷ []) =
    subst (λ x. IsOver table f r.mode x text (c.args.c ∷ [])) (sym known.0)
    (subst (λ x. IsOver table f r.mode place x (c.args.c ∷ [])) (sym known.1.0) known.1.1.0) in
    let further =
    c.in_ok-end_lexeme-in-EndsBefore.ensures.reads (c.args.c ∷ []) rest final over
    (c.in_ok-begin-in-EndsBefore.ensures.reads table rest final l) in
    subst (λ x. Leaves table g.S.TokenSink.means r.mode place (x ++ c.args.c ∷ rest) s final) known.1.0
    (subst (λ x. Leaves table g.S.TokenSink.means r.mode x (text ++ c.args.c ∷ rest) s final) known.0 further)

pub returns-in-Goes-clause-asks : goal.returns-in-Goes-clause-asks
returns-in-Goes-clause-asks g c = λ place held a.
    emits_same g.S.TokenSink.means (g.S.TokenSink.state c.args.sink.now) (g.S.TokenSink.state c.args.sink.now) refl

pub returns-in_ok-begin-in-EndsBefore-clause-asks : goal.returns-in_ok-begin-in-EndsBefore-clause-asks
returns-in_ok-begin-in-EndsBefore-clause-asks g c = λ place held a.
    let r = c.args.self.now in
    let table = c.args.table.now in
    let means = g.S.TokenSink.means in
    let s0 = g.S.TokenSink.state c.args.sink.now in
    let s1 = g.S.TokenSink.state c.end_lexeme-in-EndsBefore.new.sink in
    let s2 = g.S.TokenSink.state c.begin.new.sink in
    let f = g.S.TokenSink.means.foreign (means.step s0 (characters (chars (string_bytes r.run)))) in
    let text = chars (string_bytes c.in-EndsBefore.held) in
    let known =
    subst (λ x. Advances table f r.mode place held c.args.c x r.pending.place
    (chars (string_bytes r.pending.held))) c.in-EndsBefore.is a in
    let untagged =
    subst (λ x. IsUntagged (place_lexeme table f r.mode x text)) (sym known.0)
    (subst (λ x. IsUntagged (place_lexeme table f r.mode place x)) (sym known.1.0) known.1.1.1) in
    emits_then means s0 s1 s2
    (subst (λ x. Asks means x s0 s1) (c.in_ok-end_lexeme-in-EndsBefore.ensures.untagged untagged)
    c.in_ok-end_lexeme-in-EndsBefore.ensures.asks)
    c.in_ok-begin-in-EndsBefore.ensures.emits

pub end_lexeme-requires-clause-placed : goal.end_lexeme-requires-clause-placed
end_lexeme-requires-clause-placed g c =
    subst (λ a. IsWithinKind c.args.self.now.mode.text a c.args.self.now.pending.place) c.in-Ends.is c.requires.placed

pub end_lexeme-requires-in-EndsBefore-clause-placed : goal.end_lexeme-requires-in-EndsBefore-clause-placed
end_lexeme-requires-in-EndsBefore-clause-placed g c =
    subst (λ a. IsWithinKind c.args.self.now.mode.text a c.args.self.now.pending.place) c.in-EndsBefore.is
    c.requires.placed

pub returns-in-Goes-clause-placed : goal.returns-in-Goes-clause-placed
returns-in-Goes-clause-placed g c =
    subst (λ a. IsWithinKind c.args.self.now.mode.text a c.args.self.now.pending.place) c.in-Goes.is c.requires.placed

pub returns-in-Ends-clause-placed : goal.returns-in-Ends-clause-placed
returns-in-Ends-clause-placed g c =
    on_ok_map c.end_lexeme.result c.end_lexeme.ensures.place
    (λ e. placed_text c.end_lexeme.new.self.mode.text c.end_lexeme.new.self.pending.place e)

pub returns-in-Ends-clause-greater : goal.returns-in-Ends-clause-greater
returns-in-Ends-clause-greater g c =
    if_ok_map c.end_lexeme.result c.end_lexeme.ensures.untagged (λ pause untagged place held a.
    let r = c.args.self.now in
    let table = c.args.table.now in
    let f = g.S.TokenSink.means.foreign (g.S.TokenSink.means.step (g.S.TokenSink.state c.args.sink.now)
    (characters (chars (string_bytes r.run)))) in
    let known =
    subst (λ x. Advances table f r.mode place held c.args.c x r.pending.place
    (chars (string_bytes r.pending.held))) c.in-Ends.is a in
    pause_mark table f r.mode place c.in-Ends.place held
    (chars (string_bytes c.in-Ends.held)) c.args.c pause c.tag_ends_with_its_mark.ensures known.0 known.1.left
    untagged)
