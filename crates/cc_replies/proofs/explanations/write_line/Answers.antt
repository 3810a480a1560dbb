use Rattle.std.proofs.Common.{[], ◌∷◌, ◌++◌, map, codes, subst}
use Rattle.std.proofs.lemmas.Result.{err_from_is_err_and}
use Rattle.std.specs.String.{string_bytes}
use Rattle.cc_io.specs.Pieces.{IsPassedOn}
use Rattle.cc_io.specs.Wholes.{AppendsFront}
use Rattle.cc_replies.specs.Explanations.{names_of, target_named}
use Rattle.cc_replies.specs.ReplyTexts.{target_text, chain_text}
use Rattle.cc_replies.proofs.StreamedLines.{line_in_three, stopped_in_first, stopped_in_second, streams_three}
use Rattle.cc_replies.proofs.explanations.write_line.Goals as goal

pub returns-in_err-write_element-clause-streams : goal.returns-in_err-write_element-clause-streams
returns-in_err-write_element-clause-streams g c =
    let error = err_from_is_err_and c.from_residual.result c.from_residual.ensures.1 in
    let names = c.args.names.now.names.items in
    let named = target_named (map names_of c.args.definitions.now) in
    let found = c.args.found.now in
    rw error.1
    (stopped_in_first (codes "  " ++ target_text names (named found.target) ++ codes ": ") (chain_text names (map named found.chain.items)) (10 ∷ []) _
    (line_in_three (codes "  ") (target_text names (named found.target)) (codes ": ") (chain_text names (map named found.chain.items)) (10 ∷ []))
    (g.K.Sink.written c.args.sink.now) (g.K.Sink.written c.write_element.new.sink) (string_bytes c.args.waiting.now)
    c.in_err-write_element.ensures.streams)

pub returns-in_err-write_chain-clause-streams : goal.returns-in_err-write_chain-clause-streams
returns-in_err-write_chain-clause-streams g c =
    let error = err_from_is_err_and c.from_residual-in_err-write_chain.result c.from_residual-in_err-write_chain.ensures.1 in
    let names = c.args.names.now.names.items in
    let named = target_named (map names_of c.args.definitions.now) in
    let found = c.args.found.now in
    rw error.1
    (stopped_in_second (codes "  " ++ target_text names (named found.target) ++ codes ": ") (chain_text names (map named found.chain.items)) (10 ∷ []) _
    (line_in_three (codes "  ") (target_text names (named found.target)) (codes ": ") (chain_text names (map named found.chain.items)) (10 ∷ []))
    (g.K.Sink.written c.args.sink.now) (g.K.Sink.written c.write_element.new.sink) (string_bytes c.args.waiting.now)
    (string_bytes c.write_element.new.waiting) c.in_ok-write_element.ensures.streams (g.K.Sink.written c.write_chain.new.sink)
    (subst (λ chain. AppendsFront (g.K.Sink.written c.write_element.new.sink) (g.K.Sink.written c.write_chain.new.sink)
    (string_bytes c.write_element.new.waiting ++ chain_text names (map named chain))) c.deref.ensures.value c.in_err-write_chain.ensures.streams))

pub returns-clause-streams : goal.returns-clause-streams
returns-clause-streams g c =
    let names = c.args.names.now.names.items in
    let named = target_named (map names_of c.args.definitions.now) in
    let found = c.args.found.now in
    streams_three (codes "  " ++ target_text names (named found.target) ++ codes ": ") (chain_text names (map named found.chain.items)) (10 ∷ []) _
    (line_in_three (codes "  ") (target_text names (named found.target)) (codes ": ") (chain_text names (map named found.chain.items)) (10 ∷ []))
    (g.K.Sink.written c.args.sink.now) (g.K.Sink.written c.write_element.new.sink) (string_bytes c.args.waiting.now)
    (string_bytes c.write_element.new.waiting) c.in_ok-write_element.ensures.streams (g.K.Sink.written c.write_chain.new.sink)
    (g.K.Sink.written c.write_line_feed.new.sink) (string_bytes c.write_chain.new.waiting) (string_bytes c.write_line_feed.new.waiting)
    c.write_line_feed.result
    (subst (λ chain. IsPassedOn (g.K.Sink.written c.write_element.new.sink) (g.K.Sink.written c.write_chain.new.sink)
    (string_bytes c.write_element.new.waiting) (string_bytes c.write_chain.new.waiting) (chain_text names (map named chain))) c.deref.ensures.value
    c.in_ok-write_chain.ensures.streams)
    c.write_line_feed.ensures.streams
