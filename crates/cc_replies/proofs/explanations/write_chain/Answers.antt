use Rattle.std.proofs.Common.{◌++◌, ◌∷◌, map, flat_map, sym, ap, ◌∙◌, subst}
use Rattle.std.proofs.lemmas.Result.{err_from_is_err_and}
use Rattle.std.specs.String.{string_bytes}
use Rattle.cc_io.specs.Pieces.{Streams}
use Rattle.cc_io.specs.Wholes.{AppendsFront}
use Rattle.cc_io.proofs.PassedPieces.{stopped_first, streams_both}
use Rattle.cc_replies.specs.Explanations.{names_of, target_named}
use Rattle.cc_replies.specs.ReplyTexts.{target_text, chain_text}
use Rattle.cc_replies.proofs.ChainTexts.{pieces_joined}
use Rattle.cc_replies.proofs.explanations.write_chain.Goals as goal

pub returns-in_err-write_first-in-Some-clause-streams : goal.returns-in_err-write_first-in-Some-clause-streams
returns-in_err-write_first-in-Some-clause-streams g c =
    let error = err_from_is_err_and c.from_residual.result c.from_residual.ensures.1 in
    let names = c.args.names.now.names.items in
    let named = target_named (map names_of c.args.definitions.now) in
    let first = c.in-Some.first.now in
    let others = c.in-Some.others.now in
    let whole = sym (pieces_joined (target_text names) named first others) ∙ ap (λ chain. chain_text names (map named chain)) (sym c.in-Some.ensures.cases.0) in
    rw error.1
    (subst (λ t. AppendsFront (g.K.Sink.written c.args.sink.now) (g.K.Sink.written c.write_first.new.sink) (string_bytes c.args.waiting.now ++ t)) whole
    (stopped_first (g.K.Sink.written c.args.sink.now) (g.K.Sink.written c.write_first.new.sink) (string_bytes c.args.waiting.now)
    (target_text names (named first)) (flat_map (λ t. 32 ∷ target_text names (named t)) others) c.in_err-write_first-in-Some.ensures.streams))

pub returns-in_ok-write_first-in-Some-clause-streams : goal.returns-in_ok-write_first-in-Some-clause-streams
returns-in_ok-write_first-in-Some-clause-streams g c =
    let names = c.args.names.now.names.items in
    let named = target_named (map names_of c.args.definitions.now) in
    let first = c.in-Some.first.now in
    let others = c.in-Some.others.now in
    let whole = sym (pieces_joined (target_text names) named first others) ∙ ap (λ chain. chain_text names (map named chain)) (sym c.in-Some.ensures.cases.0) in
    subst (Streams (g.K.Sink.written c.args.sink.now) (g.K.Sink.written c.write_others.new.sink) (string_bytes c.args.waiting.now)
    (string_bytes c.write_others.new.waiting) c.write_others.result) whole
    (streams_both (g.K.Sink.written c.args.sink.now) (g.K.Sink.written c.write_first.new.sink) (g.K.Sink.written c.write_others.new.sink)
    (string_bytes c.args.waiting.now) (string_bytes c.write_first.new.waiting) (string_bytes c.write_others.new.waiting)
    (target_text names (named first)) (flat_map (λ t. 32 ∷ target_text names (named t)) others) c.write_others.result
    c.in_ok-write_first-in-Some.ensures.streams c.write_others.ensures.streams)
